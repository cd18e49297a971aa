-- The messages of a chapter fit the store; a member's own ones are numbered from 1, and so are found by their numbers.
use Rattle.std.proofs.Common.{◌≡◌, ◌≢◌, ℕ, ◌+◌, ◌-◌, ◌<◌, ◌≤◌, ◌&&◌, ◌==◌, nat_lt, Bool, true, false, suc, All, IsTrue, List, [], ◌∷◌, ◌++◌, length, refl, sym, ap, subst, ◌∙◌, inl, inr, None, Some, if◌then◌else◌, append-nil, arith}
use Rattle.std.specs.List.{filter, find, slice_get}
use Rattle.std.proofs.lemmas.Bool.{and_parts, and_from, cases_eq, false_from_ne_true, cond-true, cond-false, eqb-true, eq-eqb, ne_eqb, lt-ltb}
use Rattle.std.proofs.lemmas.List.Elements.{All-nil, All-push, All-head, All-tail, filter-append}
use Rattle.std.proofs.lemmas.List.Sums.{length-filter}
use Rattle.op_base.specs.Message.{number, fits}
use Rattle.op_base.specs.declared.message.Message.{Message}
use Rattle.op_base.specs.declared.tag.MessageId.{MessageId}
use Rattle.causal_model.specs.Chapter.{is_chapter}
use Rattle.causal_model.specs.Early.{has_id}
use Rattle.causal_model.proofs.Delivery.Chapters.{chapter_induction}

-- each message of a chapter is one of the store
pub chapter_fits : (n w me : ℕ) (ms : List Message) → IsTrue (is_chapter n w me ms) → All (λ m. IsTrue (fits n m)) ms
chapter_fits n w me = chapter_induction n w me (λ g. All (λ m. IsTrue (fits n m)) g) (All-nil (λ m. IsTrue (fits n m))) (λ g m _ next all.
    All-push (λ y. IsTrue (fits n y)) g m all (and_from (length m.tag == n && nat_lt m.origin n) (nat_lt 0 (number m))
    (and_from (length m.tag == n) (nat_lt m.origin n) (eq-eqb (length m.tag) n next.entries) (lt-ltb m.origin n next.member)) (lt-ltb 0 (number m) (omega (arith, next.counted)))))

-- ---- numbers

-- messages are numbered one after the other, from a number on
abbrev pub AreNumbered : ℕ → List Message → Type 0
AreNumbered first [] = Unit {0}
AreNumbered first (m ∷ ms) = (number m ≡ first) × AreNumbered (first + 1) ms

AreNumbered-push : (first : ℕ) (ms : List Message) (m : Message) → AreNumbered first ms → number m ≡ first + length ms → AreNumbered first (ms ++ m ∷ [])
AreNumbered-push first [] m are last = (omega (arith, last), tt)
AreNumbered-push first (y ∷ ms) m are last = (are.0, AreNumbered-push (first + 1) ms m are.1 (omega (arith, last)))

-- those of a member in a chapter are
pub own_are_numbered : (n w me x : ℕ) (ms : List Message) → IsTrue (is_chapter n w me ms) → AreNumbered 1 (filter (λ m. m.origin == x) ms)
own_are_numbered n w me x = chapter_induction n w me (λ g. AreNumbered 1 (filter (λ m. m.origin == x) g)) tt (λ g m _ next are.
    let own : Message → Bool = λ e. e.origin == x in
    subst (AreNumbered 1) (sym (filter-append own g (m ∷ []))) (elim (cases_eq m.origin x) [
      | inl e ↦
          subst (λ ms. AreNumbered 1 (filter own g ++ ms)) (sym (cond-true (own m) (m ∷ []) [] (eq-eqb m.origin x e)))
          (AreNumbered-push 1 (filter own g) m are (omega (arith, next.counted, length-filter own g, ap (λ y. length (filter (λ e. e.origin == y) g)) e, length-filter (λ e. e.origin == m.origin) g)))
      | inr ne ↦ subst (λ ms. AreNumbered 1 (filter own g ++ ms)) (sym (cond-false (own m) (m ∷ []) [] (ne_eqb m.origin x ne))) (subst (AreNumbered 1) (sym (append-nil (filter own g))) are)
    ]))

-- ---- finding by a number

module _ (k seq : ℕ) where
  id : MessageId
  id = record { origin = k; seq = seq }

  other_number : (m : Message) → number m ≢ seq → has_id id m ≡ false
  unfolding id
  other_number m ne = false_from_ne_true (has_id id m) (λ t. ne (sym (eqb-true seq (number m) (and_parts (k == m.origin) (seq == number m) t).1)))

  none_below : (first : ℕ) (ms : List Message) → AreNumbered first ms → seq < first → find (has_id id) ms ≡ None
  none_below first [] are low = refl
  none_below first (m ∷ ms) are low =
      cond-false (has_id id m) (Some m) (find (has_id id) ms) (other_number m (λ e. omega (arith, e, are.0, low)))
      ∙ none_below (first + 1) ms are.1 (omega (arith, low))

  found_at : (first : ℕ) (ms : List Message) → All (λ m. m.origin ≡ k) ms → AreNumbered first ms → first ≤ seq → find (has_id id) ms ≡ slice_get ms (seq - first)
  unfolding id
  found_at first [] own are high = refl
  found_at first (m ∷ ms) own are high = elim (cases_eq (number m) seq) [
    | inl e ↦
        let here : has_id id m ≡ true = and_from (k == m.origin) (seq == number m) (eq-eqb k m.origin (sym (All-head (λ y. y.origin ≡ k) m ms own))) (eq-eqb seq (number m) (sym e)) in
        let place : seq - first ≡ 0 = omega (arith, e, are.0) in
        cond-true (has_id id m) (Some m) (find (has_id id) ms) here ∙ ap (slice_get (m ∷ ms)) (sym place)
    | inr ne ↦
        let place : seq - first ≡ suc (seq - (first + 1)) = omega (arith, ne, are.0, high) in
        cond-false (has_id id m) (Some m) (find (has_id id) ms) (other_number m ne)
        ∙ found_at (first + 1) ms (All-tail (λ y. y.origin ≡ k) m ms own) are.1 (omega (arith, ne, are.0, high))
        ∙ ap (slice_get (m ∷ ms)) (sym place)
  ]

  -- messages of a member that are numbered from 1 are found by their numbers
  pub found_by_number : (ms : List Message) → All (λ m. m.origin ≡ k) ms → AreNumbered 1 ms
      → find (has_id (record { origin = k; seq = seq })) ms ≡ (if seq == 0 then None else slice_get ms (seq - 1))
  unfolding id
  found_by_number ms own are = elim (cases_eq seq 0) [
    | inl e ↦ none_below 1 ms are (omega (arith, e)) ∙ sym (cond-true (seq == 0) None (slice_get ms (seq - 1)) (eq-eqb seq 0 e))
    | inr ne ↦ found_at 1 ms own are (omega (arith, ne)) ∙ sym (cond-false (seq == 0) None (slice_get ms (seq - 1)) (ne_eqb seq 0 ne))
  ]
