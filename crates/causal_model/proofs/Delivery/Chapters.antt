-- Chapters, message by message.
use Rattle.std.proofs.Common.{◌≡◌, ◌≢◌, ℕ, ◌+◌, ◌<◌, ◌≤◌, Bool, true, not, ◌&&◌, ◌||◌, ◌==◌, nat_lt, nat_le, nat_eq, IsTrue, List, [], ◌∷◌, ◌++◌, length, sym, ap, ◌∙◌, inl, inr, append_assoc, append-nil, arith}
use mathlib.Core.Bool.{and-true, and_assoc}
use Rattle.std.specs.Prelude.{is_none}
use Rattle.std.specs.List.{list_all}
use Rattle.std.specs.Cmp.Lexicographic.{pointwise, bytes_decides}
use Rattle.std.proofs.lemmas.Bool.{and_parts, and_from, or_cases, or_left, or_right, not-true, not_from_false, eqb-true, eqb-false, eq-eqb, ne_eqb, ltb-true, lt-ltb, leb-true, le-leb, cases_eq}
use Rattle.op_base.specs.Timestamp.{entry}
use Rattle.op_base.specs.Message.{number, fits}
use Rattle.op_base.specs.declared.message.Message.{Message}
use Rattle.causal_model.specs.Counts.{members, count_of, counts, next_tag, is_deliverable}
use Rattle.causal_model.specs.Crook.{crook_of}
use Rattle.causal_model.specs.Chapter.{is_admissible, is_next, follows, is_chapter}
use Rattle.causal_model.proofs.Delivery.Counts.{entry-counts}
use Rattle.causal_model.proofs.Theory.Lists.{induction_at_end, each_member, from_each_member}
use Rattle.causal_model.proofs.Delivery.Crooks.{IsStraight, IsStraight-from_none, none-from_IsStraight}

-- that a message of a store of n members with a window w is the next that member me delivers, in parts
pub record IsNext (n w me : ℕ) (h : List Message) (m : Message) : Type 0 where
  pub entries : length m.tag ≡ n
  pub member : m.origin < n
  pub counted : number m ≡ count_of h m.origin + 1
  pub seen : (x : ℕ) → x < n → x ≢ m.origin → entry m.tag x ≤ count_of h x
  pub straight : IsStraight n w me h m
  pub own : m.origin ≡ me → m.tag ≡ next_tag n me h

module _ (n w me : ℕ) (h : List Message) (m : Message) where
  pub IsNext-from_is_next : IsTrue (is_next n w me h m) → IsNext n w me h m
  IsNext-from_is_next t =
      let ruled = and_parts (fits n m && is_admissible n w me h m) (not (m.origin == me) || pointwise nat_eq m.tag (next_tag n me h)) t in
      let both = and_parts (fits n m) (is_admissible n w me h m) ruled.0 in
      let admitted = and_parts (is_deliverable n (counts n h) m) (is_none (crook_of n w me h m)) both.1 in
      let formed = and_parts (length m.tag == n && nat_lt m.origin n) (nat_lt 0 (number m)) both.0 in
      let long = and_parts (length m.tag == n) (nat_lt m.origin n) formed.0 in
      let causal = and_parts (number m == entry (counts n h) m.origin + 1) (list_all (λ x. (x == m.origin) || nat_le (entry m.tag x) (entry (counts n h) x)) (members n)) admitted.0 in
      let member : m.origin < n = ltb-true m.origin n long.1 in
      record {
        entries = eqb-true (length m.tag) n long.0;
        member = member;
        counted = omega (arith, eqb-true (number m) (entry (counts n h) m.origin + 1) causal.0, entry-counts n h m.origin member);
        seen = λ x l ne. elim (or_cases (x == m.origin) (nat_le (entry m.tag x) (entry (counts n h) x)) (each_member _ n causal.1 x l)) [ inl same ↦ absurd (ne (eqb-true x m.origin same)) | inr low ↦ omega (arith, leb-true (entry m.tag x) (entry (counts n h) x) low, entry-counts n h x l) ];
        straight = IsStraight-from_none n w me h m admitted.1;
        own = λ e. elim (or_cases (not (m.origin == me)) (pointwise nat_eq m.tag (next_tag n me h)) ruled.1) [ inl other ↦ absurd (eqb-false m.origin me (not-true (m.origin == me) other) e) | inr same ↦ (bytes_decides m.tag (next_tag n me h)).0 same ];
      }

  pub is_next-from_IsNext : IsNext n w me h m → IsTrue (is_next n w me h m)
  is_next-from_IsNext p =
      let Seen : ℕ → ℕ → Bool = λ x count. (x == m.origin) || nat_le (entry m.tag x) count in
      let seen : (x : ℕ) → x < n → Seen x (entry (counts n h) x) ≡ true = λ x l. rw (entry-counts n h x l) (elim (cases_eq x m.origin) [ inl e ↦ or_left (x == m.origin) (nat_le (entry m.tag x) (count_of h x)) (eq-eqb x m.origin e) | inr ne ↦ or_right (x == m.origin) (nat_le (entry m.tag x) (count_of h x)) (le-leb (entry m.tag x) (count_of h x) (p.seen x l ne)) ]) in
      let counted : number m ≡ entry (counts n h) m.origin + 1 = omega (arith, p.counted, entry-counts n h m.origin p.member) in
      let ruled : (not (m.origin == me) || pointwise nat_eq m.tag (next_tag n me h)) ≡ true = elim (cases_eq m.origin me) [ inl e ↦ or_right (not (m.origin == me)) (pointwise nat_eq m.tag (next_tag n me h)) ((bytes_decides m.tag (next_tag n me h)).1 (p.own e)) | inr ne ↦ or_left (not (m.origin == me)) (pointwise nat_eq m.tag (next_tag n me h)) (not_from_false (m.origin == me) (ne_eqb m.origin me ne)) ] in
      and_from _ _ (and_from _ _
      (and_from _ _ (and_from _ _ (eq-eqb (length m.tag) n p.entries) (lt-ltb m.origin n p.member)) (lt-ltb 0 (number m) (omega (arith, p.counted))))
      (and_from _ _ (and_from _ _ (eq-eqb (number m) (entry (counts n h) m.origin + 1) counted) (from_each_member _ n seen)) (none-from_IsStraight n w me h m p.straight))) ruled

pub follows-append : (n w me : ℕ) (g h k : List Message) → follows n w me g (h ++ k) ≡ (follows n w me g h && follows n w me (g ++ h) k)
follows-append n w me g [] k = ap (λ l. follows n w me l k) (sym (append-nil g))
follows-append n w me g (m ∷ h) k =
    ap (λ b. is_next n w me g m && b) (follows-append n w me (g ++ m ∷ []) h k)
    ∙ ap (λ l. is_next n w me g m && (follows n w me (g ++ m ∷ []) h && follows n w me l k)) (append_assoc g (m ∷ []) h)
    ∙ sym (and_assoc (is_next n w me g m) (follows n w me (g ++ m ∷ []) h) (follows n w me (g ++ m ∷ h) k))

pub is_chapter-push : (n w me : ℕ) (h : List Message) (m : Message) → is_chapter n w me (h ++ m ∷ []) ≡ (is_chapter n w me h && is_next n w me h m)
is_chapter-push n w me h m = follows-append n w me [] h (m ∷ []) ∙ ap (λ b. is_chapter n w me h && b) (and-true (is_next n w me h m))

-- what holds of no message, and of a chapter with its next message at the end, holds of every chapter
pub chapter_induction : (n w me : ℕ) (P : List Message → Type 0) → P [] → ((h : List Message) (m : Message) → IsTrue (is_chapter n w me h) → IsNext n w me h m → P h → P (h ++ m ∷ [])) → (h : List Message) → IsTrue (is_chapter n w me h) → P h
chapter_induction n w me P none more h t = induction_at_end (λ g. IsTrue (is_chapter n w me g) → P g) (λ _. none) (λ g m ih both.
    let parts = and_parts (is_chapter n w me g) (is_next n w me g m) (sym (is_chapter-push n w me g m) ∙ both) in
    more g m parts.0 (IsNext-from_is_next n w me g m parts.1) (ih parts.0)) h t
