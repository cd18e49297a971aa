-- How many messages of a member are unstable.
use Rattle.std.proofs.Common.{◌≡◌, ◌≢◌, ℕ, ◌+◌, ◌<◌, ◌≤◌, Bool, true, false, not, ◌&&◌, ◌==◌, cond, IsTrue, List, [], ◌∷◌, ◌++◌, length, sym, ap, subst, ◌∙◌, inl, inr, arith}
use mathlib.Core.Bool.{and_comm}
use Rattle.std.specs.List.{filter, count_by}
use Rattle.std.proofs.lemmas.Bool.{and_parts, and_from, and_left, cases_eq, cond-false, eqb-true, ne_eqb, not-true, not_from_false, false_from_ne_true, both_ways}
use Rattle.std.proofs.lemmas.List.Sums.{length-filter, sum_by_push}
use Rattle.op_base.specs.Timestamp.{entry}
use Rattle.op_base.specs.declared.message.Message.{Message}
use Rattle.causal_model.specs.Chapter.{is_chapter}
use Rattle.causal_model.specs.Stability.{last_tag, stable_vector, is_stable, carries_operation, unstable_of, unstable_operations, unstable_noops, noop_window}
use Rattle.causal_model.proofs.Delivery.Chapters.{chapter_induction}
use Rattle.causal_model.proofs.Theory.Lists.{filter-filter, cond-le-cond, count_by-le-count_by}
use Rattle.causal_model.proofs.Delivery.Stability.{stable_stays}

-- the unstable messages of a member, by one filter
pub unstable_of-filter : (n me : ℕ) (h : List Message) (x : ℕ) → unstable_of n me h x ≡ filter (λ e. (e.origin == x) && not (is_stable (stable_vector n me h) e)) h
unstable_of-filter n me h x = filter-filter (λ e. not (is_stable (stable_vector n me h) e)) (λ e. e.origin == x) h ∙ (λ i. filter (λ e. and_comm (not (is_stable (stable_vector n me h) e)) (e.origin == x) i) h)

-- the unstable messages of a member that pass a test, counted
pub unstable-count : (test : Message → Bool) (n me : ℕ) (h : List Message) (x : ℕ)
    → length (filter test (unstable_of n me h x)) ≡ count_by (λ e. ((e.origin == x) && not (is_stable (stable_vector n me h) e)) && test e) h
unstable-count test n me h x =
    ap (λ ms. length (filter test ms)) (unstable_of-filter n me h x) ∙ ap length (filter-filter (λ e. (e.origin == x) && not (is_stable (stable_vector n me h) e)) test h) ∙ length-filter (λ e. ((e.origin == x) && not (is_stable (stable_vector n me h) e)) && test e) h

-- with one message more at most that one comes
module _ (n me : ℕ) (h : List Message) (m : Message) (risen : (x : ℕ) → x < n → entry (last_tag n h m.origin) x ≤ entry m.tag x) (test : Message → Bool) (x : ℕ) (member : x < n) where
  was_unstable : (e : Message) → (((e.origin == x) && not (is_stable (stable_vector n me (h ++ m ∷ [])) e)) && test e) ≡ true → (((e.origin == x) && not (is_stable (stable_vector n me h) e)) && test e) ≡ true
  was_unstable e t =
      let both = and_parts ((e.origin == x) && not (is_stable (stable_vector n me (h ++ m ∷ [])) e)) (test e) t in
      let parts = and_parts (e.origin == x) (not (is_stable (stable_vector n me (h ++ m ∷ [])) e)) both.0 in
      let low : e.origin < n = subst (λ y. y < n) (sym (eqb-true e.origin x parts.0)) member in
      let before : is_stable (stable_vector n me h) e ≡ false = false_from_ne_true (is_stable (stable_vector n me h) e) (λ stable. both_ways (is_stable (stable_vector n me (h ++ m ∷ [])) e) (not-true _ parts.1) (stable_stays n me h m risen e low stable)) in
      and_from _ _ (and_from _ _ parts.0 (not_from_false _ before)) both.1

  pub unstable_grows : length (filter test (unstable_of n me (h ++ m ∷ []) x)) ≤ length (filter test (unstable_of n me h x)) + cond ((m.origin == x) && test m) 1 0
  unstable_grows =
      let now : Message → Bool = λ e. ((e.origin == x) && not (is_stable (stable_vector n me (h ++ m ∷ [])) e)) && test e in
      let last : cond (now m) 1 0 ≤ cond ((m.origin == x) && test m) 1 0 = cond-le-cond (now m) ((m.origin == x) && test m) (λ t. let both = and_parts ((m.origin == x) && not (is_stable (stable_vector n me (h ++ m ∷ [])) m)) (test m) t in
      and_from _ _ (and_parts (m.origin == x) (not (is_stable (stable_vector n me (h ++ m ∷ [])) m)) both.0).0 both.1) in
      let rest = count_by-le-count_by now (λ e. ((e.origin == x) && not (is_stable (stable_vector n me h) e)) && test e) h was_unstable in
      omega (arith, unstable-count test n me (h ++ m ∷ []) x, unstable-count test n me h x, sum_by_push (λ e. cond (now e) 1 0) h m, last, rest)

  pub unstable_stays : m.origin ≢ x → length (filter test (unstable_of n me (h ++ m ∷ []) x)) ≤ length (filter test (unstable_of n me h x))
  unstable_stays ne = omega (arith, unstable_grows, cond-false {A = ℕ} ((m.origin == x) && test m) 1 0 (and_left _ _ (ne_eqb m.origin x ne)))

-- each member has at most as many unstable operations as the window has, and no-ops as theirs
pub windows_hold : (n w me x : ℕ) (h : List Message) → x < n → IsTrue (is_chapter n w me h) → (unstable_operations n me h x ≤ w) × (unstable_noops n me h x ≤ noop_window n w)
windows_hold n w me x h l = chapter_induction n w me (λ g. (unstable_operations n me g x ≤ w) × (unstable_noops n me g x ≤ noop_window n w)) (omega arith, omega arith) (λ g m _ next ih.
    let P : ℕ → Type 0 = λ y. (unstable_operations n me (g ++ m ∷ []) y ≤ w) × (unstable_noops n me (g ++ m ∷ []) y ≤ noop_window n w) in
    elim (cases_eq m.origin x) [
      | inl e ↦ subst P e (next.straight.operations, next.straight.noops)
      | inr ne ↦ (
        omega (arith, ih.0, unstable_stays n me g m next.straight.risen (λ e. carries_operation e.op) x l ne),
        omega (arith, ih.1, unstable_stays n me g m next.straight.risen (λ e. not (carries_operation e.op)) x l ne),
      )
    ]) h
