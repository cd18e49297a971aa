-- Every operation is stable where no member has an unstable one.
use Rattle.std.proofs.Common.{◌≡◌, ℕ, ◌<◌, Bool, true, false, not, ◌&&◌, ◌==◌, All, List, [], ◌∷◌, length, suc, refl, sym, ap, ◌∙◌, cond, arith}
use Rattle.std.specs.List.{filter, list_all}
use Rattle.std.proofs.lemmas.Bool.{both_ways, eq-eqb}
use Rattle.std.proofs.lemmas.List.Elements.{All-head, All-tail}
use Rattle.op_base.specs.declared.message.Message.{Message}
use Rattle.causal_model.specs.Stability.{carries_operation}

abbrev carries : Message → Bool
carries m = carries_operation m.op

-- how many operations of a member there are
abbrev pub operations_of : List Message → ℕ → ℕ
operations_of ms x = length (filter carries (filter (λ m. m.origin == x) ms))

none_carries : (m : Message) (ms : List Message) (x : ℕ) (t : Bool) → carries m ≡ false → length (filter carries (cond t (m ∷ ms) ms)) ≡ length (filter carries ms)
none_carries m ms x true f = ap (λ b. length (cond b (m ∷ filter carries ms) (filter carries ms))) f
none_carries m ms x false f = refl

pub all_by_members : (n : ℕ) (ms : List Message) → All (λ m. m.origin < n) ms → ((x : ℕ) → x < n → operations_of ms x ≡ 0) → list_all (λ m. not (carries_operation m.op)) ms ≡ true
all_by_members n [] of none = refl
all_by_members n (m ∷ ms) of none = by (carries m) refl (all_by_members n ms (All-tail (λ m. m.origin < n) m ms of)) where
  by : (b : Bool) → carries m ≡ b → (((x : ℕ) → x < n → operations_of ms x ≡ 0) → list_all (λ m. not (carries_operation m.op)) ms ≡ true) → (not (carries m) && list_all (λ m. not (carries_operation m.op)) ms) ≡ true
  by true e rest =
      let here : operations_of (m ∷ ms) m.origin ≡ 0 = none m.origin (All-head (λ m. m.origin < n) m ms of) in
      let own : (m.origin == m.origin) ≡ true = eq-eqb m.origin m.origin refl in
      let some : operations_of (m ∷ ms) m.origin ≡ suc (operations_of ms m.origin) =
      ap (λ t. length (filter carries (cond t (m ∷ filter (λ z. z.origin == m.origin) ms) (filter (λ z. z.origin == m.origin) ms)))) own
      ∙ ap (λ t. length (cond t (m ∷ filter carries (filter (λ z. z.origin == m.origin) ms)) (filter carries (filter (λ z. z.origin == m.origin) ms)))) e in
      absurd (omega (arith, here, some))
  by false e rest =
      ap (λ b. not b && list_all (λ m. not (carries_operation m.op)) ms) e
      ∙ rest (λ x l. sym (none_carries m (filter (λ z. z.origin == x) ms) x (m.origin == x) e) ∙ none x l)

pub none_where_all : (ms : List Message) (x : ℕ) → list_all (λ m. not (carries_operation m.op)) ms ≡ true → operations_of ms x ≡ 0
none_where_all [] x all = refl
none_where_all (m ∷ ms) x all = by (carries m) refl all (none_where_all ms x) where
  by : (b : Bool) → carries m ≡ b → (not (carries m) && list_all (λ m. not (carries_operation m.op)) ms) ≡ true → (list_all (λ m. not (carries_operation m.op)) ms ≡ true → operations_of ms x ≡ 0) → operations_of (m ∷ ms) x ≡ 0
  by true e all rest = absurd (both_ways (not (carries m) && list_all (λ m. not (carries_operation m.op)) ms) (ap (λ b. not b && list_all (λ m. not (carries_operation m.op)) ms) e) all)
  by false e all rest = none_carries m (filter (λ z. z.origin == x) ms) x (m.origin == x) e ∙ rest (sym (ap (λ b. not b && list_all (λ m. not (carries_operation m.op)) ms) e) ∙ all)
