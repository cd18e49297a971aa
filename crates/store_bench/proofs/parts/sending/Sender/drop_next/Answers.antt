use Rattle.std.proofs.Common.{◌≡◌, ◌≤◌, List, All, ap, sym, subst}
use Rattle.op_base.specs.Message.{number}
use Rattle.op_base.specs.Timestamp.{entry}
use Rattle.op_base.specs.declared.message.Message.{Message}
use Rattle.outbox.specs.Sent.{Sent, unstable_in}
use Rattle.store_bench.proofs.Sent.{own_stay, upto_stay}
use Rattle.store_bench.proofs.parts.sending.Sender.drop_next.Goals as goal

pub invariant_of-self-clause-own : goal.invariant_of-self-clause-own
invariant_of-self-clause-own c =
    let messages_of : Sent → List Message = λ o. o.messages in
    let left : c.drop_stable.new.self.messages ≡ unstable_in c.set.new.self c.args.self.now.outbox.messages = ap messages_of c.drop_stable.ensures.dropped in
    let Own : List Message → Type 0 = λ messages. All (λ m. m.origin ≡ 0) messages in
    subst Own (sym left) (own_stay c.set.new.self c.args.self.now.outbox.messages c.args.self.now.own)

pub invariant_of-self-clause-earlier : goal.invariant_of-self-clause-earlier
invariant_of-self-clause-earlier c =
    let messages_of : Sent → List Message = λ o. o.messages in
    let left : c.drop_stable.new.self.messages ≡ unstable_in c.set.new.self c.args.self.now.outbox.messages = ap messages_of c.drop_stable.ensures.dropped in
    let Earlier : List Message → Type 0 = λ messages. All (λ m. number m ≤ entry c.args.self.now.sent 0) messages in
    subst Earlier (sym left) (upto_stay (entry c.args.self.now.sent 0) c.set.new.self c.args.self.now.outbox.messages c.args.self.now.earlier)
