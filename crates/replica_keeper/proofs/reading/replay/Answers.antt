use Rattle.std.proofs.Common.{◌-◌, false, length, take, drop, Some, sym, ap, subst, ◌∙◌, arith, length-drop}
use Rattle.replica_keeper.specs.Keeping.{groups_of}
use Rattle.world_model.specs.Records.{kept_reading, kept_fault}
use Rattle.replica_keeper.specs.Reads.{HasRead, IsReadAs}
use Rattle.replica_keeper.specs.declared.reading.Read.TheVariants.{End, Fault}
use Rattle.replica_keeper.proofs.Opened.{same_settings}
use Rattle.replica_keeper.proofs.Steps.{opened_next, read_to_end, read_to_fault, same_then, of_rest, same_place}
use Rattle.replica_keeper.proofs.reading.replay.Goals as goal

pub returns-in-End-clause-read : goal.returns-in-End-clause-read
returns-in-End-clause-read c =
    let bytes = c.args.bytes.now in let at = c.records.at in let node = c.records.node in
    let read = of_rest bytes at (λ rest. IsReadAs node c.step.new.node rest End) (subst (IsReadAs node c.step.new.node (take (length bytes - at) (drop at bytes))) c.in-End.is c.in_ok-step.ensures.read) in
    ap (λ of. kept_reading of bytes) (sym (same_settings c.args.node.now node c.records.invariant.same.settings))
    ∙ read_to_end node bytes at c.records.invariant.within c.records.invariant.opened read.0
    ∙ ap (λ notes. record { groups = groups_of notes; len = at; faulty = false }) (sym read.1)

pub returns-in-Fault-clause-damaged : goal.returns-in-Fault-clause-damaged
returns-in-Fault-clause-damaged c =
    let bytes = c.args.bytes.now in let at = c.records.at in let node = c.records.node in
    let read = of_rest bytes at (λ rest. IsReadAs node c.step.new.node rest Fault) (subst (IsReadAs node c.step.new.node (take (length bytes - at) (drop at bytes))) c.in-Fault.is c.in_ok-step.ensures.read) in
    λ there e.
    ap (λ of. kept_fault of bytes) (sym (same_settings c.args.node.now node c.records.invariant.same.settings))
    ∙ read_to_fault node bytes at c.records.invariant.within c.records.invariant.opened read
    ∙ ap Some (same_place at there e)

pub records-preserved : goal.records-preserved
records-preserved c =
    let bytes = c.args.bytes.now in let at = c.records.at in let node = c.records.node in let len = c.in-Record.len in
    let read : HasRead node c.step.new.node (drop at bytes) len = of_rest bytes at (λ rest. HasRead node c.step.new.node rest len) (subst (IsReadAs node c.step.new.node (take (length bytes - at) (drop at bytes))) c.in-Record.is c.in_ok-step.ensures.read) in
    record {
      within = omega (arith, read.within, c.records.invariant.within, length-drop at bytes);
      opened = opened_next node c.step.new.node bytes at len c.records.invariant.within c.records.invariant.opened c.in_ok-step.ensures.same read;
      same = same_then c.args.node.now node c.step.new.node c.records.invariant.same c.in_ok-step.ensures.same;
    }
