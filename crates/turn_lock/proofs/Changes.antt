-- One view that changes: what the rule says of all views stays.
use Rattle.std.proofs.Common.{◌≡◌, ℕ, false, List, set, sym, ap, ◌∙◌, inl, inr, ⊎_elim}
use mathlib.Core.Logic.{dite}
use mathlib.Core.Option as maybe
use mathlib.Core.Option.{none, some, some-injective, some-ne-none}
use native.Mathlib.Decide.{ℕ_discrete}
use lib.ListN.{get_elem?}
use Rattle.atomic_table.proofs.Lists.{set_else}
use Rattle.turn_lock.specs.declared.view.TurnEntry.{TurnEntry}
use Rattle.turn_lock.specs.declared.view.View.{View}
use Rattle.turn_lock.specs.Rule.{IsQuiet, Whole, Seated}
use Rattle.turn_lock.proofs.Lists.{set_at}

module _ {E K : Type 0} where
  pub whole_set : (log log' : List (TurnEntry E)) (vs : List (View E K)) (me : ℕ) (v w : View E K) → get_elem? vs me ≡ some v → (v.opens ≡ w.opens) → (v.live ≡ w.live) → (v.seen ≡ log → w.seen ≡ log') → log ≡ log' → Whole log vs → Whole log' (set vs me w)
  whole_set log log' vs me v w at o l seen same t = dite (ℕ_discrete t.0 me)
      (λ is. let e : t.1 ≡ v = some-injective t.1 v (sym t.2 ∙ (ap (λ (n : ℕ). get_elem? vs n) is ∙ at)) in
      (me, w, set_at vs me v w at, ⊎_elim (λ a. inl (sym o ∙ (ap (λ (u : View E K). u.opens) (sym e) ∙ a))) (λ a. inr (sym l ∙ (ap (λ (u : View E K). u.live) (sym e) ∙ a))) t.3, seen (ap (λ (u : View E K). u.seen) (sym e) ∙ t.4)))
      (λ other. (t.0, t.1, set_else vs me t.0 w other ∙ t.2, t.3, t.4 ∙ same))

  pub seated_set : (seats : ℕ → maybe.Option ℕ) (vs : List (View E K)) (me : ℕ) (v w : View E K) → get_elem? vs me ≡ some v → (v.live ≡ w.live) → (v.number ≡ w.number) → Seated seats vs → Seated seats (set vs me w)
  seated_set seats vs me v w at l n t k j h = let old = t k j h in dite (ℕ_discrete j me)
      (λ is. let e : old.0 ≡ v = some-injective old.0 v (sym old.1 ∙ (ap (λ (i : ℕ). get_elem? vs i) is ∙ at)) in
      (w, ap (λ (i : ℕ). get_elem? (set vs me w) i) is ∙ set_at vs me v w at, sym l ∙ (ap (λ (u : View E K). u.live) (sym e) ∙ old.2), sym n ∙ (ap (λ (u : View E K). u.number) (sym e) ∙ old.3)))
      (λ other. (old.0, set_else vs me j w other ∙ old.1, old.2, old.3))

  pub quiet_back : (vs : List (View E K)) (me : ℕ) (v w : View E K) → get_elem? vs me ≡ some v → v.serves ≡ false → IsQuiet (set vs me w) → IsQuiet vs
  quiet_back vs me v w at calm quiet j u e = dite (ℕ_discrete j me)
      (λ is. ap (λ (y : View E K). y.serves) (some-injective u v (sym e ∙ (ap (λ (n : ℕ). get_elem? vs n) is ∙ at))) ∙ calm)
      (λ other. quiet j u (set_else vs me j w other ∙ e))
