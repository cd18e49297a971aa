use Rattle.std.proofs.Common.{◌≡◌, ◌+◌, refl, sym, ap, ◌∙◌, arith}
use Rattle.std.specs.Option.{option_copied}
use Rattle.causal_model.specs.Early.{has_id}
use Rattle.causal_model.proofs.Theory.Finds.{none_found}
use Rattle.causal_buffer.specs.Queue.{messages}
use Rattle.causal_buffer.proofs.Places.{below_from, found_at, none_has_id}
use Rattle.causal_buffer.proofs.queue.Queue.get.Goals as goal

-- the number is below all places
pub returns-in_err-place : goal.returns-in_err-place
returns-in_err-place c =
    let q = c.args.self.now in
    let low = below_from c.args.id.seq q.first c.in_err-place.ensures in
    ap option_copied c.from_residual.ensures ∙ sym (none_found (has_id c.args.id) (messages q) (none_has_id c.args.id.origin q.first q.places.items c.requires.are_places c.args.id refl low))

pub returns : goal.returns
returns c =
    let q = c.args.self.now in
    let k = c.in_ok-place.place in
    let at : c.args.id.seq ≡ q.first + k = omega (arith, c.in_ok-place.ensures) in
    c.get.ensures ∙ sym (found_at c.args.id.origin q.first q.places.items c.requires.are_places c.args.id refl k at)
