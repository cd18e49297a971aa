-- Commands to a plain world as data: what one asks of the world, and the world after it.
use Rattle.std.specs.Prelude.{ℕ, ◌<◌, ◌≤◌, Bool, true, false, List, [], ◌∷◌, IsTrue, All}
use Rattle.op_base.specs.Valid.{is_valid_update}
use Rattle.op_base.specs.declared.operation.Update.{Update}
use Rattle.world_model.specs.Offering.{resend_at}
use Rattle.world_model.specs.Raw.{raw_at}
use Rattle.world_model.specs.Regrouping.{regroup_at}
use Rattle.world_model.specs.Settling.{world_settled}
use Rattle.world_model.specs.World.{PlainWorld, size_of, local_at, beat_at, give_at}

-- at a replica an update is sent, or a beat made, or the message of a member and a number given, or a member's outbox or
-- bytes offered; or the world settles, or its members change
pub data WorldCommand : Type 0 where
  sends_at : ℕ → Update → WorldCommand
  beats_at : ℕ → WorldCommand
  gives : ℕ → ℕ → ℕ → WorldCommand
  resends : ℕ → ℕ → WorldCommand
  raws : ℕ → List ℕ → WorldCommand
  settles : WorldCommand
  regroups : ℕ → WorldCommand

-- what a command asks of a world: a replica that it has, an update that frames can carry, and 1 to 16 members
abbrev pub CanRun : PlainWorld → WorldCommand → Type 0
CanRun world (sends_at r update) = (r < size_of world) × IsTrue (is_valid_update update)
CanRun world (beats_at r) = r < size_of world
CanRun world (gives r k seq) = r < size_of world
CanRun world (resends r k) = r < size_of world
CanRun world (raws r bytes) = (r < size_of world) × All (λ b. b < 256) bytes
CanRun world settles = Unit {0}
CanRun world (regroups n) = (1 ≤ n) × (n ≤ 16)

-- whether a command offers bytes, which anyone may have made
abbrev pub is_raw : WorldCommand → Bool
is_raw (raws r bytes) = true
is_raw command = false

-- the world after a command
abbrev pub after_command : PlainWorld → WorldCommand → PlainWorld
after_command world (sends_at r update) = (local_at r update world).1
after_command world (beats_at r) = (beat_at r world).1
after_command world (gives r k seq) = (give_at r k seq world).1
after_command world (resends r k) = (resend_at r k world).1
after_command world (raws r bytes) = (raw_at r bytes world).1
after_command world settles = world_settled world
after_command world (regroups n) = (regroup_at n world).1

-- each of the commands can be run where it comes
abbrev pub CanRunAll : PlainWorld → List WorldCommand → Type 0
CanRunAll world [] = Unit {0}
CanRunAll world (command ∷ commands) = CanRun world command × CanRunAll (after_command world command) commands
