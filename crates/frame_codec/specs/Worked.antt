-- Worked faults: what the definition gives of some bytes, computed, beside what was meant. It is the contract of a function of
-- worked.rt.
use Rattle.std.specs.Prelude.{◌≡◌, ℕ, List, [], ◌∷◌, Some}
use Rattle.frame_codec.specs.Fault.{frame_fault}
use Rattle.frame_codec.specs.declared.fault.FrameFault.TheVariants.{Members, Origin}

-- a no-op in version 1 of an origin and a number of members, with the timestamp 1 0
abbrev pub no_op_of : ℕ → ℕ → List ℕ
no_op_of origin members = 1 ∷ origin ∷ members ∷ 0 ∷ 0 ∷ 0 ∷ 0 ∷ 1 ∷ 0 ∷ 0 ∷ 0 ∷ 0 ∷ []

-- in a store of 2 members an origin of 2 is a fault, and of a wrong number of members and a wrong origin the former is told
pub record FaultsAreInOrder : Type 0 where
  pub origin : frame_fault 2 0 9 (no_op_of 2 2) ≡ Some Origin
  pub members : frame_fault 2 0 9 (no_op_of 2 3) ≡ Some Members
