-- Counts of a history, and timestamps made of them.
use Rattle.std.proofs.Common.{◌≡◌, ◌≢◌, ℕ, ◌+◌, ◌<◌, ◌≤◌, ◌==◌, cond, List, [], ◌∷◌, ◌++◌, length, get_or, set, ap, sym, subst, inl, inr, ◌∙◌, length-set, get_or-set_same, get_or-set_other, arith}
use Rattle.std.proofs.lemmas.Bool.{cond-true, cond-false, eq-eqb, ne_eqb, cases_eq}
use Rattle.std.proofs.lemmas.Grind.{same_number_lists}
use Rattle.std.proofs.lemmas.List.FromFn.{length-map-range_with_len, get_or-map-range_with_len}
use Rattle.std.proofs.lemmas.List.Sums.{sum_by_push}
use Rattle.op_base.specs.Timestamp.{entry}
use Rattle.op_base.specs.Message.{number}
use Rattle.op_base.specs.declared.message.Message.{Message}
use Rattle.op_base.specs.declared.operation.Op.{Op}
use Rattle.causal_model.specs.Counts.{count_of, counts, next_tag}
use Rattle.causal_model.specs.Sending.{own_message}

pub count_of-push : (h : List Message) (m : Message) (x : ℕ) → count_of (h ++ m ∷ []) x ≡ count_of h x + cond (m.origin == x) 1 0
count_of-push h m x = sum_by_push (λ y. cond (y.origin == x) 1 0) h m

pub count_of-push_own : (h : List Message) (m : Message) (x : ℕ) → m.origin ≡ x → count_of (h ++ m ∷ []) x ≡ count_of h x + 1
count_of-push_own h m x e = count_of-push h m x ∙ ap (λ k. count_of h x + k) (cond-true (m.origin == x) 1 0 (eq-eqb m.origin x e))

pub count_of-push_other : (h : List Message) (m : Message) (x : ℕ) → m.origin ≢ x → count_of (h ++ m ∷ []) x ≡ count_of h x
count_of-push_other h m x ne = omega (arith, count_of-push h m x, cond-false {A = ℕ} (m.origin == x) 1 0 (ne_eqb m.origin x ne))

pub count_of_grows : (h : List Message) (m : Message) (x : ℕ) → count_of h x ≤ count_of (h ++ m ∷ []) x
count_of_grows h m x = omega (arith, count_of-push h m x)

pub length-counts : (n : ℕ) (h : List Message) → length (counts n h) ≡ n
length-counts n h = length-map-range_with_len (count_of h) 0 n

pub entry-counts : (n : ℕ) (h : List Message) (x : ℕ) → x < n → entry (counts n h) x ≡ count_of h x
entry-counts n h x l = get_or-map-range_with_len (count_of h) 0 n x x 0 l (omega arith)

pub length-next_tag : (n me : ℕ) (h : List Message) → length (next_tag n me h) ≡ n
length-next_tag n me h = length-set (counts n h) me (count_of h me + 1) ∙ length-counts n h

pub entry-next_tag_own : (n me : ℕ) (h : List Message) → me < n → entry (next_tag n me h) me ≡ count_of h me + 1
entry-next_tag_own n me h l = get_or-set_same (counts n h) me (count_of h me + 1) 0 (omega (arith, length-counts n h))

pub entry-next_tag_other : (n me : ℕ) (h : List Message) (x : ℕ) → x < n → x ≢ me → entry (next_tag n me h) x ≡ count_of h x
entry-next_tag_other n me h x l ne = get_or-set_other (counts n h) me x (count_of h me + 1) 0 ne ∙ entry-counts n h x l

-- the counts after a message are the tag that its origin would have sent
pub counts-push : (n : ℕ) (h : List Message) (m : Message) → counts n (h ++ m ∷ []) ≡ set (counts n h) m.origin (count_of h m.origin + 1)
counts-push n h m = same_number_lists (counts n (h ++ m ∷ [])) (set (counts n h) m.origin (count_of h m.origin + 1)) (length-counts n (h ++ m ∷ []) ∙ sym (length-next_tag n m.origin h)) (λ x l.
    let k : x < n = omega (arith, length-counts n (h ++ m ∷ [])) in
    entry-counts n (h ++ m ∷ []) x k ∙ elim (cases_eq m.origin x) [
      | inl e ↦ count_of-push_own h m x e ∙ sym (subst (λ y. get_or (set (counts n h) m.origin (count_of h m.origin + 1)) y 0 ≡ count_of h y + 1) e (entry-next_tag_own n m.origin h (subst (λ y. y < n) (sym e) k)))
      | inr ne ↦ count_of-push_other h m x ne ∙ sym (entry-next_tag_other n m.origin h x k (λ e. ne (sym e)))
    ])

pub number-own_message : (n me : ℕ) (h : List Message) (o : Op) → me < n → number (own_message n me h o) ≡ count_of h me + 1
number-own_message n me h o l = entry-next_tag_own n me h l
