use Rattle.std.proofs.Common.{◌≡◌, length, Some, inl, inr, refl, sym, ap, subst, ◌∙◌, arith}
use Rattle.std.specs.Option.{option_copied}
use Rattle.op_base.specs.declared.message.Message.{Message}
use Rattle.causal_model.specs.Journal.{receive_notes}
use Rattle.causal_model.specs.Receiving.{refused, receive_by, receive_rule, refusal_by_id}
use Rattle.causal_model.specs.declared.outcome.Receive.TheVariants as receive
use Rattle.world_model.specs.World.{wants_frame}
use Rattle.world_model.proofs.Commands.{frame_is_carried}
use Rattle.world.proofs.Givings.{accepted_is_read}
use Rattle.replica_keeper.specs.Called.{state_in, synced_by, HasNoted, ComesTo}
use Rattle.replica_keeper.proofs.Calling.{refused_by_id, receive_is_no_send, received_wants_none, nothing_noted}
use Rattle.replica_keeper.proofs.Showing.{state_in_is}
use Rattle.replica_keeper.proofs.steady.offer_frame.Goals as goal

pub known-requires : goal.known-requires
known-requires c =
    let is = sym c.node.ensures.node ∙ ap option_copied c.in-Some.is in
    omega (arith, c.requires.of, (c.args.replica.now.kept c.in-Some.node.now is).n)

pub returns : goal.returns
returns c = λ m is.
    let it = c.args.replica.now in
    let node = c.in-Some.node.now in
    let opened = sym c.node.ensures.node ∙ ap option_copied c.in-Some.is in
    let by_id : refusal_by_id (state_in it) m ≡ Some c.in-Some-known.refusal = ap (λ s. refusal_by_id s m) (state_in_is it node opened (it.kept node opened)) ∙ sym (c.known.ensures _ m node.stands is.id) ∙ c.in-Some-known.is in
    let told : (receive_rule it.w m (state_in it)).0 ≡ refused c.in-Some-known.refusal = ap (λ o. (receive_by it.w m (state_in it) o).0) (refused_by_id it.w (state_in it) m c.in-Some-known.refusal by_id) in
    inl (c.answer.ensures ∙ sym told, subst (λ t. HasNoted it it (receive_notes m t)) (sym told) (nothing_noted it m c.in-Some-known.refusal c.requires.open))

pub receive-requires-clause-carried : goal.receive-requires-clause-carried
receive-requires-clause-carried c = (frame_is_carried c.args.replica.now.n 0 c.args.replica.now.limit c.args.frame.now c.in-Ok.message c.in-Ok.ensures.found).1

pub returns-in-Done : goal.returns-in-Done
returns-in-Done c = λ m is.
    let it = c.args.replica.now in
    let new = c.receive.new.self in
    let read = c.in-Ok.message in
    let told = (receive_rule it.w read (state_in it)).0 in
    let Goal : Message → Type 0 = λ x. ComesTo receive.NoMemory wants_frame (receive_rule it.w x (state_in it)).0 c.in-Done.answer (HasNoted it new (receive_notes x (receive_rule it.w x (state_in it)).0)) in
    let done : Goal read = elim (c.in-Done.ensures.answer _ refl) [
      | inl made ↦
          inl (
            made.0,
            record {
              settings = c.receive.ensures.settings;
              same = c.in-Done.ensures.same;
              noted = made.1;
              groups = c.in-Done.ensures.list (λ e. received_wants_none it.w read (state_in it) (sym made.0 ∙ e));
              synced = c.in-Done.ensures.unsynced ∙ sym (ap (λ send. synced_by send (length new.keeper.held) it.keeper.synced) (receive_is_no_send read told));
            },
          )
      | inr lost ↦ inr (lost.0, accepted_is_read told lost.1)
    ] in
    subst Goal (c.in-Ok.ensures.only m is.is) done
