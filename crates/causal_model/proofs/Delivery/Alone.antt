-- A store of one member: each message is its own, and is stable at once.
use Rattle.std.proofs.Common.{◌≡◌, ℕ, ◌≤◌, true, false, not, ◌&&◌, ◌==◌, IsTrue, List, [], ◌∷◌, length, refl, ap, ◌∙◌, inl, inr, arith}
use Rattle.std.specs.List.{filter}
use Rattle.std.proofs.lemmas.Bool.{cases_eq, and_left, and_right, not_from_true, ne_eqb, le-leb}
use Rattle.std.proofs.lemmas.List.{length_push}
use Rattle.std.proofs.lemmas.List.Elements.{All-weaker}
use Rattle.op_base.specs.Timestamp.{entry}
use Rattle.op_base.specs.Message.{number}
use Rattle.op_base.specs.declared.message.Message.{Message}
use Rattle.causal_model.specs.Counts.{count_of, counts}
use Rattle.causal_model.specs.Chapter.{is_chapter}
use Rattle.causal_model.specs.Stability.{carries_operation, stable_vector, is_stable, unstable_of, unstable_operations}
use Rattle.causal_model.proofs.Delivery.Counts.{count_of-push_own}
use Rattle.causal_model.proofs.Delivery.Chapters.{chapter_induction}
use Rattle.causal_model.proofs.Delivery.Limits.{numbers_are_counted}
use Rattle.causal_model.proofs.Theory.Lists.{filter_none}
use Rattle.causal_model.proofs.Delivery.Windows.{unstable_of-filter}

pub count_of_alone : (w : ℕ) (h : List Message) → IsTrue (is_chapter 1 w 0 h) → count_of h 0 ≡ length h
count_of_alone w = chapter_induction 1 w 0 (λ g. count_of g 0 ≡ length g) refl (λ g m _ next ih.
    let own : m.origin ≡ 0 = omega (arith, next.member) in
    omega (arith, ih, count_of-push_own g m 0 own, length_push g m))

pub counts_alone : (w : ℕ) (h : List Message) → IsTrue (is_chapter 1 w 0 h) → counts 1 h ≡ length h ∷ []
counts_alone w h t = ap (λ k. k ∷ []) (count_of_alone w h t)

-- a message that is counted is not unstable
none_at : (h : List Message) (m : Message) → number m ≤ count_of h m.origin → ((m.origin == 0) && not (is_stable (stable_vector 1 0 h) m)) ≡ false
none_at h m l = elim (cases_eq m.origin 0) [
  | inl e ↦
      let counted : entry (stable_vector 1 0 h) m.origin ≡ count_of h 0 = ap (entry (stable_vector 1 0 h)) e in
      let stable : is_stable (stable_vector 1 0 h) m ≡ true = le-leb (number m) (entry (stable_vector 1 0 h) m.origin) (omega (arith, l, counted, ap (count_of h) e)) in
      and_right _ _ (not_from_true (is_stable (stable_vector 1 0 h) m) stable)
  | inr ne ↦ and_left _ _ (ne_eqb m.origin 0 ne)
]

pub unstable_of_alone : (w : ℕ) (h : List Message) → IsTrue (is_chapter 1 w 0 h) → unstable_of 1 0 h 0 ≡ []
unstable_of_alone w h t = unstable_of-filter 1 0 h 0 ∙ filter_none (λ m. (m.origin == 0) && not (is_stable (stable_vector 1 0 h) m)) h (All-weaker (λ m. number m ≤ count_of h m.origin) (λ m. ((m.origin == 0) && not (is_stable (stable_vector 1 0 h) m)) ≡ false) (none_at h) h (numbers_are_counted 1 w 0 h t))

pub none_unstable_alone : (w : ℕ) (h : List Message) → IsTrue (is_chapter 1 w 0 h) → unstable_operations 1 0 h 0 ≡ 0
none_unstable_alone w h t = ap (λ ms. length (filter (λ m. carries_operation m.op) ms)) (unstable_of_alone w h t)
