use Rattle.std.proofs.Common.{◌≡◌, length, ap, sym, arith}
use Rattle.std.proofs.lemmas.List.{nil_from_length}
use denote.Struct.Props.{props}
use Rattle.std.proofs.Math.Logic.{∥∥₁_elim, ∥∥₁_map}
use Rattle.polog.specs.Value.{Log}
use Rattle.replica_core.proofs.MovesStable.{parted_entries, stable_is_tag, origin_is_within, all_are_absorbed_already, all_are_moved_already, is_log_already, are_waiting}
use Rattle.replica_core.proofs.settling.move_stable.Goals as goal

pub covers_id-requires : goal.covers_id-requires
covers_id-requires c = ∥∥₁_elim c.requires.logged (search props) (λ x. origin_is_within x.4)

pub returns-then-not-covers_id-clause-absorbed : goal.returns-then-not-covers_id-clause-absorbed
returns-then-not-covers_id-clause-absorbed c = λ w limit h m logged. all_are_absorbed_already logged c.if-not-moved.true (sym c.if-not-covers_id.ensures)

pub returns-then-not-covers_id-clause-moved : goal.returns-then-not-covers_id-clause-moved
returns-then-not-covers_id-clause-moved c = λ w limit h m logged. all_are_moved_already logged c.if-not-moved.true (sym c.if-not-covers_id.ensures)

pub returns-then-not-covers_id-clause-log : goal.returns-then-not-covers_id-clause-log
returns-then-not-covers_id-clause-log c = λ w limit h m logged. is_log_already logged c.if-not-moved.true (sym c.if-not-covers_id.ensures)

pub strip-requires-clause-tag : goal.strip-requires-clause-tag
strip-requires-clause-tag c = ∥∥₁_elim c.requires.logged (search props) (λ x. stable_is_tag x.4)

pub strip-requires-clause-handed_out : goal.strip-requires-clause-handed_out
strip-requires-clause-handed_out c = nil_from_length _ (∥∥₁_elim c.requires.logged (search props) (λ x. ap length x.4.is_logged.handed_out))

pub absorb_stripped-requires-clause-waiting : goal.absorb_stripped-requires-clause-waiting
absorb_stripped-requires-clause-waiting c = ∥∥₁_map c.requires.logged (λ x. (x.0, x.1, x.2, x.3, are_waiting x.4 c.strip.ensures.stripped))

pub absorb_stripped-requires-clause-spare : goal.absorb_stripped-requires-clause-spare
absorb_stripped-requires-clause-spare c =
    let parted = parted_entries c.args.stable.now c.args.log.now c.strip.new.self c.strip.ensures.taken in
    let spare = c.requires.spare in
    omega arith

pub returns-clause-absorbed : goal.returns-clause-absorbed
returns-clause-absorbed c = λ w limit h m logged. c.absorb_stripped.ensures.absorbed w limit h m (are_waiting logged c.strip.ensures.stripped)

pub returns-clause-moved : goal.returns-clause-moved
returns-clause-moved c = λ w limit h m logged. c.absorb_stripped.ensures.moved w limit h m (are_waiting logged c.strip.ensures.stripped)

pub returns-clause-log : goal.returns-clause-log
returns-clause-log c = λ w limit h m logged. c.absorb_stripped.ensures.log w limit h m (are_waiting logged c.strip.ensures.stripped)

pub returns-clause-spare : goal.returns-clause-spare
returns-clause-spare c =
    let parted = parted_entries c.args.stable.now c.args.log.now c.strip.new.self c.strip.ensures.taken in
    let less = c.absorb_stripped.ensures.spare in
    let same : length c.absorb_stripped.new.log.entries ≡ length c.strip.new.self.entries = ap (λ (l : Log). length l.entries) c.absorb_stripped.ensures.others in
    omega arith
