use Rattle.std.proofs.Common.{IsTrue, List, All, sym, subst}
use Rattle.op_base.specs.Message.{fits}
use Rattle.op_base.specs.declared.message.Message.{Message}
use Rattle.peer.proofs.Sends.{outbox_fits_in}
use Rattle.peer.proofs.peer.Peer.to_send_again.Goals as goal

pub encode_all-requires : goal.encode_all-requires
encode_all-requires c =
    let r = c.self.inside.replica in
    subst (λ (messages : List Message). All (λ m. IsTrue (fits r.n m)) messages) (sym c.messages.ensures) (outbox_fits_in r)
