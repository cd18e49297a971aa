-- The whole table of covering, computed, beside the table that was meant: this project's own profile. It is the contract
-- of a function of worked.rt.
use Rattle.std.specs.Prelude.{◌≡◌, ℕ, false, IsTrue, List, [], ◌∷◌, map, filter, codes}
use Rattle.op_base.specs.Operation.{has_act}
use Rattle.op_base.specs.declared.name.ObjectId.{ObjectId}
use Rattle.op_base.specs.declared.name.Kind.TheVariants.{EwFlag, DwFlag}
use Rattle.op_base.specs.declared.operation.Act.{Act}
use Rattle.op_base.specs.declared.operation.Act.TheVariants.{Add, Rmv, Clear, Enable, Disable, Write, Inc, Dec}
use Rattle.op_base.specs.declared.operation.Update.{Update}
use Rattle.causal_model.specs.Covering.{store_covers}
use Rattle.causal_model.specs.Worked.{yes, awset_s, rwset_s, flag_f, mvreg_m, mvreg_q, counter_c, rcounter_c}

-- the update of an object by an act
abbrev pub doing : (o : ObjectId) (act : Act) → IsTrue (has_act o.kind act) → Update
doing o act fits = record { object = o; act = act; of_kind = fits }

abbrev pub a : List ℕ
a = codes "a"

abbrev pub b : List ℕ
b = codes "b"

-- all acts of each kind, those of a set and a register with two values each
abbrev pub awset_acts : List Update
awset_acts = doing awset_s (Add a) yes ∷ doing awset_s (Add b) yes ∷ doing awset_s (Rmv a) yes ∷ doing awset_s (Rmv b) yes ∷ doing awset_s Clear yes ∷ []

abbrev pub rwset_acts : List Update
rwset_acts = doing rwset_s (Add a) yes ∷ doing rwset_s (Add b) yes ∷ doing rwset_s (Rmv a) yes ∷ doing rwset_s (Rmv b) yes ∷ doing rwset_s Clear yes ∷ []

abbrev pub ewflag_acts : List Update
ewflag_acts = doing (flag_f EwFlag) Enable yes ∷ doing (flag_f EwFlag) Disable yes ∷ doing (flag_f EwFlag) Clear yes ∷ []

abbrev pub dwflag_acts : List Update
dwflag_acts = doing (flag_f DwFlag) Enable yes ∷ doing (flag_f DwFlag) Disable yes ∷ doing (flag_f DwFlag) Clear yes ∷ []

-- of each act those that it covers, in that order
abbrev pub covering : List Update → List (List Act)
covering updates = map (λ later. map (λ u. u.act) (filter (λ earlier. store_covers later earlier) updates)) updates

-- the whole table of covering: of each act of a kind in turn the ones that it covers
pub record CoveringTable : Type 0 where
  -- add a, add b, rmv a, rmv b, clear
  pub awset : covering awset_acts ≡ (Add a ∷ []) ∷ (Add b ∷ []) ∷ (Add a ∷ []) ∷ (Add b ∷ []) ∷ (Add a ∷ Add b ∷ []) ∷ []
  pub rwset : covering rwset_acts
      ≡ (Add a ∷ Rmv a ∷ []) ∷ (Add b ∷ Rmv b ∷ []) ∷ (Add a ∷ Rmv a ∷ []) ∷ (Add b ∷ Rmv b ∷ []) ∷ (Add a ∷ Add b ∷ Rmv a ∷ Rmv b ∷ []) ∷ []
  -- enable, disable, clear
  pub ewflag : covering ewflag_acts ≡ (Enable ∷ []) ∷ (Enable ∷ []) ∷ (Enable ∷ []) ∷ []
  pub dwflag : covering dwflag_acts ≡ (Enable ∷ Disable ∷ []) ∷ (Enable ∷ Disable ∷ []) ∷ (Enable ∷ Disable ∷ []) ∷ []
  -- write a, write b, clear
  pub mvreg : covering (doing mvreg_m (Write a) yes ∷ doing mvreg_m (Write b) yes ∷ doing mvreg_m Clear yes ∷ [])
      ≡ (Write a ∷ Write b ∷ []) ∷ (Write a ∷ Write b ∷ []) ∷ (Write a ∷ Write b ∷ []) ∷ []
  -- inc, dec, and of the counter that has it clear
  pub counter : covering (doing counter_c (Inc 1) yes ∷ doing counter_c (Dec 1) yes ∷ []) ≡ [] ∷ [] ∷ []
  pub rcounter : covering (doing rcounter_c (Inc 1) yes ∷ doing rcounter_c (Dec 1) yes ∷ doing rcounter_c Clear yes ∷ [])
      ≡ [] ∷ [] ∷ (Inc 1 ∷ Dec 1 ∷ []) ∷ []
  -- no act covers one of another object
  pub other_object : store_covers (doing mvreg_m Clear yes) (doing mvreg_q (Write a) yes) ≡ false
