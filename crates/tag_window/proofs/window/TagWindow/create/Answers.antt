use Rattle.std.proofs.Common.{◌≡◌, [], length, get_or, refl, sym, ap, subst, ◌∙◌, arith}
use Rattle.std.proofs.lemmas.List.{length-map, get_or-replicate}
use Rattle.tag_window.specs.Queue.{Line}
use Rattle.tag_window.specs.Queues.{AreFirsts}
use Rattle.tag_window.proofs.Lines.{empty_are_queues, zeros_are_firsts, held_by-empty}
use Rattle.tag_window.proofs.window.TagWindow.create.Goals as goal

pub invariant_of-result : goal.invariant_of-result
invariant_of-result c =
    let len : length c.loop-origin.queues.items ≡ c.args.n = omega (arith, c.loop-origin.invariant.len) in
    record {
      are_queues = empty_are_queues c.args.n c.args.w c.most_noops-z.result c.most_unstable-room.result c.loop-origin.queues.items c.requires.some c.requires.few c.most_noops-z.ensures.value (omega (arith, c.most_unstable-room.ensures.value, c.most_noops-z.ensures.value)) len (λ x q l. c.loop-origin.invariant.each x q (omega (arith, l)));
      are_firsts = subst (λ firsts. AreFirsts firsts c.loop-origin.queues.items) (sym c.zero.ensures) (zeros_are_firsts c.args.n c.most_unstable-room.result c.loop-origin.queues.items len (λ x q l. c.loop-origin.invariant.each x q (omega (arith, l))));
    }

pub returns-clause-empty : goal.returns-clause-empty
returns-clause-empty c =
    let len : length c.loop-origin.queues.items ≡ c.args.n = omega (arith, c.loop-origin.invariant.len) in
    let empty = held_by-empty c.args.n c.most_unstable-room.result c.loop-origin.queues.items len (λ x q l. c.loop-origin.invariant.each x q (omega (arith, l))) in
    λ i. record { w = c.args.w; held = empty i }

pub returns-clause-nothing : goal.returns-clause-nothing
returns-clause-nothing c = λ me.
    let len : length c.loop-origin.queues.items ≡ c.args.n = omega (arith, c.loop-origin.invariant.len) in
    let empty = held_by-empty c.args.n c.most_unstable-room.result c.loop-origin.queues.items len (λ x q l. c.loop-origin.invariant.each x q (omega (arith, l))) in
    record {
      entries = length-map c.loop-origin.queues.items (λ (q : Line). q.held) ∙ len;
      bound = refl;
      holds = λ x l. ap (λ hs. get_or hs x []) empty ∙ get_or-replicate c.args.n x [] [] l;
    }
