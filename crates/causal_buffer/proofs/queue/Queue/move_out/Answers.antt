use Rattle.std.proofs.Common.{◌≡◌, ◌-◌, ◌≤◌, get_or, refl, sym, ap, ◌∙◌, None, arith}
use Rattle.std.specs.List.{find}
use Rattle.std.specs.Option.{is_some}
use Rattle.causal_model.specs.Early.{has_id}
use Rattle.causal_buffer.specs.Queue.{messages}
use Rattle.causal_buffer.proofs.Kept.{left_in_queue, one_fewer, taken_queue}
use Rattle.causal_buffer.proofs.Places.{place_is_above, place_is_there, found_at_place}
use Rattle.causal_buffer.proofs.queue.Queue.move_out.Goals as goal
use Rattle.causal_buffer.proofs.queue.Queue.move_out.Goals.{Start, After-move_out}

above : (c : Start) → c.args.self.now.first ≤ c.args.id.seq
above c = place_is_above c.args.id.origin c.args.self.now.first c.args.self.now.places.items c.requires.queue.are_places c.args.id refl c.requires.there

found : (c : Start) → find (has_id c.args.id) (messages c.args.self.now) ≡ get_or c.args.self.now.places.items (c.args.id.seq - c.args.self.now.first) None
found c = found_at_place c.args.id.origin c.args.self.now.first c.args.self.now.places.items c.requires.queue.are_places c.args.id refl c.requires.there

pub overflow_sub-place : goal.overflow_sub-place
overflow_sub-place c = above (goal.at.overflow_sub-place c).Start

pub move_out-requires-clause-there : goal.move_out-requires-clause-there
move_out-requires-clause-there c = place_is_there c.args.id.origin c.args.self.now.first c.args.self.now.places.items c.requires.queue.are_places c.args.id refl c.requires.there

pub move_out-requires-clause-some : goal.move_out-requires-clause-some
move_out-requires-clause-some c = ap is_some (sym (found (goal.at.move_out-requires-clause-some c).Start)) ∙ c.requires.there

pub returns-clause-moved : goal.returns-clause-moved
returns-clause-moved c = c.move_out.ensures.moved ∙ sym (found (goal.at.returns-clause-moved c).Start)

pub returns-clause-others : goal.returns-clause-others
returns-clause-others c =
    let l = above (goal.at.returns-clause-others c).Start in
    left_in_queue c.args.id c.args.self.now c.requires.queue (c.args.id.seq - c.args.self.now.first) (omega (arith, l)) c.move_out.new.self c.move_out.ensures.left

pub returns-clause-fewer : goal.returns-clause-fewer
returns-clause-fewer c =
    let l = above (goal.at.returns-clause-fewer c).Start in
    one_fewer c.args.id c.args.self.now c.requires.queue (c.args.id.seq - c.args.self.now.first) (omega (arith, l)) c.move_out.new.self c.move_out.ensures.left c.move_out.new.into (sym c.move_out.ensures.moved)

pub returns-clause-kept : goal.returns-clause-kept
returns-clause-kept c =
    let l = above (goal.at.returns-clause-kept c).Start in
    taken_queue c.args.id c.args.self.now c.requires.queue (c.args.id.seq - c.args.self.now.first) (omega (arith, l)) c.move_out.new.self c.move_out.ensures.left c.move_out.new.into (sym c.move_out.ensures.moved)
