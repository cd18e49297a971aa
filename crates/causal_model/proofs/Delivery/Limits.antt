-- Limits: which messages can be carried, and that no count is above one.
use Rattle.std.proofs.Common.{◌≡◌, ℕ, ◌<◌, ◌≤◌, true, ◌&&◌, nat_le, IsTrue, All, List, [], ◌∷◌, ◌++◌, length, get_or, refl, sym, ap, subst, ◌∙◌, inl, inr, arith}
use mathlib.Core.Bool.{and-true}
use Rattle.std.specs.List.{list_all}
use Rattle.std.proofs.lemmas.Bool.{and_parts, and_from, leb-true, le-leb, cases_lt, cases_eq}
use Rattle.std.proofs.lemmas.List.{get_or_past}
use Rattle.std.proofs.lemmas.List.Folds.{list_all-append}
use Rattle.std.proofs.lemmas.List.Sums.{AllPass-from_list_all, list_all-from_AllPass}
use Rattle.std.proofs.lemmas.List.Elements.{All-from_get_or, All-nil, All-push, All-weaker}
use Rattle.op_base.specs.Timestamp.{entry}
use Rattle.op_base.specs.Message.{number}
use Rattle.op_base.specs.Valid.{is_valid}
use Rattle.op_base.specs.declared.message.Message.{Message}
use Rattle.op_base.specs.declared.operation.Op.{Op}
use Rattle.causal_model.specs.Counts.{count_of, next_tag, is_carried, are_carried}
use Rattle.causal_model.specs.Chapter.{is_chapter}
use Rattle.causal_model.specs.Sending.{own_message}
use Rattle.causal_model.proofs.Delivery.Counts.{count_of-push_own, count_of-push_other, count_of_grows, length-next_tag, entry-next_tag_own, entry-next_tag_other}
use Rattle.causal_model.proofs.Delivery.Chapters.{chapter_induction}

pub are_carried-append : (limit : ℕ) (g h : List Message) → are_carried limit (g ++ h) ≡ (are_carried limit g && are_carried limit h)
are_carried-append limit g h = list_all-append (is_carried limit) g h

pub are_carried-push : (limit : ℕ) (h : List Message) (m : Message) → are_carried limit (h ++ m ∷ []) ≡ (are_carried limit h && is_carried limit m)
are_carried-push limit h m = are_carried-append limit h (m ∷ []) ∙ ap (λ b. are_carried limit h && b) (and-true (is_carried limit m))

pub entry_is_within : (limit : ℕ) (tag : List ℕ) (x : ℕ) → list_all (λ e. nat_le e limit) tag ≡ true → entry tag x ≤ limit
entry_is_within limit tag x h = elim (cases_lt x (length tag)) [ inl l ↦ leb-true (get_or tag x 0) limit (AllPass-from_list_all (λ e. nat_le e limit) tag h x 0 l) | inr past ↦ omega (arith, get_or_past tag x 0 past) ]

pub within_from_entries : (limit : ℕ) (tag : List ℕ) → ((x : ℕ) → x < length tag → entry tag x ≤ limit) → list_all (λ e. nat_le e limit) tag ≡ true
within_from_entries limit tag each = list_all-from_AllPass (λ e. nat_le e limit) tag (All-from_get_or (λ e. nat_le e limit ≡ true) tag 0 (λ x l. le-leb (get_or tag x 0) limit (each x l)))

pub numbers_are_counted : (n w me : ℕ) (h : List Message) → IsTrue (is_chapter n w me h) → All (λ m. number m ≤ count_of h m.origin) h
numbers_are_counted n w me h t = chapter_induction n w me (λ g. All (λ m. number m ≤ count_of g m.origin) g) (All-nil (λ m. number m ≤ count_of [] m.origin)) (λ g m _ next ih.
    All-push (λ y. number y ≤ count_of (g ++ m ∷ []) y.origin) g m (All-weaker (λ y. number y ≤ count_of g y.origin) (λ y. number y ≤ count_of (g ++ m ∷ []) y.origin) (λ y l. omega (arith, l, count_of_grows g m y.origin)) g ih) (omega (arith, next.counted, count_of-push_own g m m.origin refl))) h t

-- no entry of a message that can be carried is above the limit
pub carried_is_within : (limit : ℕ) (m : Message) (x : ℕ) → is_carried limit m ≡ true → entry m.tag x ≤ limit
carried_is_within limit m x t = entry_is_within limit m.tag x (and_parts (list_all (λ e. nat_le e limit) m.tag) (is_valid m.op) t).0

-- and its operation is valid
pub carried_is_valid : (limit : ℕ) (m : Message) → is_carried limit m ≡ true → is_valid m.op ≡ true
carried_is_valid limit m t = (and_parts (list_all (λ e. nat_le e limit) m.tag) (is_valid m.op) t).1

pub counts_are_within : (n w me limit x : ℕ) (h : List Message) → IsTrue (is_chapter n w me h) → IsTrue (are_carried limit h) → count_of h x ≤ limit
counts_are_within n w me limit x h t = chapter_induction n w me (λ g. IsTrue (are_carried limit g) → count_of g x ≤ limit) (λ _. omega arith) (λ g m _ next ih within.
    let parts = and_parts (are_carried limit g) (is_carried limit m) (sym (are_carried-push limit g m) ∙ within) in
    elim (cases_eq m.origin x) [ inl e ↦ omega (arith, count_of-push_own g m x e, next.counted, ap (count_of g) e, carried_is_within limit m m.origin parts.1) | inr ne ↦ omega (arith, count_of-push_other g m x ne, ih parts.0) ]) h t

pub own_message_is_carried : (n w me limit : ℕ) (h : List Message) (o : Op) → me < n → IsTrue (is_chapter n w me h) → IsTrue (are_carried limit h) → count_of h me < limit → IsTrue (is_valid o) → IsTrue (is_carried limit (own_message n me h o))
own_message_is_carried n w me limit h o l t within below valid =
    and_from (list_all (λ e. nat_le e limit) (next_tag n me h)) (is_valid o) (within_from_entries limit (next_tag n me h) (λ x short.
    let k : x < n = omega (arith, short, length-next_tag n me h) in
    elim (cases_eq x me) [ inl e ↦ subst (λ y. entry (next_tag n me h) y ≤ limit) (sym e) (omega (arith, entry-next_tag_own n me h l)) | inr ne ↦ omega (arith, entry-next_tag_other n me h x k ne, counts_are_within n w me limit x h t within) ])) valid
