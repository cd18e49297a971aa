use Rattle.std.proofs.Common.{◌≡◌, ◌+◌, ◌<◌, false, All, get_or, refl, sym, ◌∙◌, None, arith}
use Rattle.std.specs.List.{find}
use Rattle.causal_model.specs.Early.{has_id, without}
use Rattle.causal_model.proofs.Theory.Finds.{none_found}
use Rattle.causal_buffer.specs.Queue.{standing, messages}
use Rattle.causal_buffer.proofs.Kept.{left_in_queue, one_fewer, taken_queue}
use Rattle.causal_buffer.proofs.Parts.{all_stay}
use Rattle.causal_buffer.proofs.Places.{below_from, found_at, none_has_id, length-taken}
use Rattle.causal_buffer.proofs.queue.Queue.take.Goals as goal
use Rattle.causal_buffer.proofs.queue.Queue.take.Goals.{Start, After-take}

-- ---- the number is below all places

none_here : (c : Start) → c.args.id.seq < c.args.self.now.first → All (λ m. has_id c.args.id m ≡ false) (messages c.args.self.now)
none_here c low = none_has_id c.args.id.origin c.args.self.now.first c.args.self.now.places.items c.requires.are_places c.args.id refl low

pub returns-in_err-place-clause-taken : goal.returns-in_err-place-clause-taken
returns-in_err-place-clause-taken c =
    let none = none_here (goal.at.returns-in_err-place-clause-taken c).Start (below_from c.args.id.seq c.args.self.now.first c.in_err-place.ensures) in
    c.from_residual.ensures ∙ sym (none_found (has_id c.args.id) (messages c.args.self.now) none)

pub returns-in_err-place-clause-others : goal.returns-in_err-place-clause-others
returns-in_err-place-clause-others c =
    let none = none_here (goal.at.returns-in_err-place-clause-others c).Start (below_from c.args.id.seq c.args.self.now.first c.in_err-place.ensures) in
    sym (all_stay (has_id c.args.id) (messages c.args.self.now) none)

-- ---- it is at a place, or behind all

at : (c : After-take) → c.args.id.seq ≡ c.args.self.now.first + c.in_ok-place.place
at c = omega (arith, c.in_ok-place.ensures)

found : (c : After-take) → find (has_id c.args.id) (messages c.args.self.now) ≡ get_or c.args.self.now.places.items c.in_ok-place.place None
found c = found_at c.args.id.origin c.args.self.now.first c.args.self.now.places.items c.requires.are_places c.args.id refl c.in_ok-place.place (at c)

-- what is left
left : (c : After-take) → standing c.take.new.self.items ≡ without c.args.id (messages c.args.self.now)
left c = left_in_queue c.args.id c.args.self.now c.requires c.in_ok-place.place (at c) c.take.new.self c.take.ensures.left

pub returns-in_err-message-clause-taken : goal.returns-in_err-message-clause-taken
returns-in_err-message-clause-taken c =
    let here = goal.at.returns-in_err-message-clause-taken c in
    c.from_residual-in_err-message.ensures ∙ sym c.in_err-message.was ∙ c.take.ensures.taken ∙ sym (found here.After-take)

pub returns-in_err-message-clause-others : goal.returns-in_err-message-clause-others
returns-in_err-message-clause-others c = left (goal.at.returns-in_err-message-clause-others c).After-take

pub overflow_sub-self : goal.overflow_sub-self
overflow_sub-self c =
    omega (arith, length-taken c.args.self.now.places.items c.in_ok-place.place c.in_ok-message.message (sym c.take.ensures.taken ∙ c.in_ok-message.was), c.requires.counted)

pub returns-clause-taken : goal.returns-clause-taken
returns-clause-taken c =
    let here = goal.at.returns-clause-taken c in
    sym c.in_ok-message.was ∙ c.take.ensures.taken ∙ sym (found here.After-take)

pub returns-clause-others : goal.returns-clause-others
returns-clause-others c = left (goal.at.returns-clause-others c).After-take

pub returns-clause-fewer : goal.returns-clause-fewer
returns-clause-fewer c =
    let is = sym c.take.ensures.taken ∙ c.in_ok-message.was in
    one_fewer c.args.id c.args.self.now c.requires c.in_ok-place.place (at (goal.at.returns-clause-fewer c).After-take) c.take.new.self c.take.ensures.left c.in_ok-message.message is

pub returns-clause-kept : goal.returns-clause-kept
returns-clause-kept c =
    let is = sym c.take.ensures.taken ∙ c.in_ok-message.was in
    taken_queue c.args.id c.args.self.now c.requires c.in_ok-place.place (at (goal.at.returns-clause-kept c).After-take) c.take.new.self c.take.ensures.left c.in_ok-message.message is
