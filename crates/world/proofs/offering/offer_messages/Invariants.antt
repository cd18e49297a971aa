use Rattle.std.proofs.Common.{◌≡◌, take}
use Rattle.world_model.specs.Offering.{offered}
use Rattle.world.specs.Growing.{NotesOffers}
use Rattle.world.specs.Shows.{state_of}
use Rattle.world.specs.Steps.{SameNode, offered_at}
use Rattle.world.proofs.offering.offer_messages.Given as goal

abbrev pub invariant-loop-message : goal.invariant-loop-message
invariant-loop-message l = record {
  so_far : offered_at l.node l.made ≡ offered l.fn.node.inner.w (state_of l.fn.node) (take l.message-index l.messages);
  same : SameNode l.fn.node l.node;
  noted : NotesOffers l.messages l.fn.node.journal.notes l.node.journal.notes;
}
