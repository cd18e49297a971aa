use Rattle.std.proofs.Common.{IsTrue, ap, rules}
use Rattle.causal_model.specs.Covering.{store_keeps, store_covers}
use Rattle.causal_model.specs.State.{start}
use Rattle.causal_buffer.specs.Buffer.{Buffer}
use Rattle.polog.specs.Value.{Log}
use Rattle.replica_core.specs.Numbers.{are_numbers}
use Rattle.replica_core.proofs.Ranges.{AreNumbers-from_test}
use Rattle.replica_core.proofs.Starts.{starts}
use Rattle.replica_core.proofs.replica.Replica.create.Goals as goal

pub invariant_of-result : goal.invariant_of-result
invariant_of-result c =
    let tested : IsTrue (are_numbers c.args.me c.args.n c.args.w c.args.limit) = search rules in
    let numbers = AreNumbers-from_test c.args.me c.args.n c.args.w c.args.limit tested in
    record {
      numbers = tested;
      stands = ∣ (start c.args.n c.args.me, starts c.args.me c.args.n c.args.w c.args.limit _ _ _ _ _ _ _ _ numbers.few numbers.member c.zero.ensures c.new.ensures.known (c.in_ok-create.ensures.nothing c.args.me) (c.in_ok-create-2.ensures.stands c.args.me) (c.in_ok-create-3.ensures.nothing store_keeps store_covers c.args.me) (ap (λ (log : Log). log.room) c.in_ok-create-3.ensures.empty) (c.new-2.ensures.settled c.args.n c.args.me) (c.new-3.ensures.of c.args.n c.args.me) c.new-3.ensures.kept (ap (λ (log : Log). log.entries) c.in_ok-create-3.ensures.empty) (ap (λ (b : Buffer). b.early) c.in_ok-create-2.ensures.empty) c.in_ok-create-4.ensures.empty) ∣₁;
    }

pub returns-clause-empty : goal.returns-clause-empty
returns-clause-empty c =
    let tested : IsTrue (are_numbers c.args.me c.args.n c.args.w c.args.limit) = search rules in
    let numbers = AreNumbers-from_test c.args.me c.args.n c.args.w c.args.limit tested in
    starts c.args.me c.args.n c.args.w c.args.limit _ _ _ _ _ _ _ _ numbers.few numbers.member c.zero.ensures c.new.ensures.known (c.in_ok-create.ensures.nothing c.args.me) (c.in_ok-create-2.ensures.stands c.args.me) (c.in_ok-create-3.ensures.nothing store_keeps store_covers c.args.me) (ap (λ (log : Log). log.room) c.in_ok-create-3.ensures.empty) (c.new-2.ensures.settled c.args.n c.args.me) (c.new-3.ensures.of c.args.n c.args.me) c.new-3.ensures.kept (ap (λ (log : Log). log.entries) c.in_ok-create-3.ensures.empty) (ap (λ (b : Buffer). b.early) c.in_ok-create-2.ensures.empty) c.in_ok-create-4.ensures.empty
