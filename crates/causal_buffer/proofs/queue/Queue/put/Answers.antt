use Rattle.std.proofs.Common.{◌≡◌, ◌+◌, ◌-◌, ◌^◌, ◌<◌, ◌≤◌, ◌++◌, ◌==◌, if◌then◌else◌, min, take, drop, None, All, length, set, refl, sym, ap, subst, ◌∙◌, Some, arith}
use Rattle.std.proofs.lemmas.List.Elements.{All-head, All-tail, All-weaker}
use Rattle.std.specs.List.{find}
use Rattle.std.proofs.lemmas.List.{length-set}
use Rattle.op_base.specs.Message.{number, id_of}
use Rattle.causal_model.specs.Early.{put_early, has_id}
use Rattle.causal_model.proofs.States.Early.{All-put_early}
use Rattle.causal_buffer.specs.Queue.{ArePlaces, AreWaiting, standing, messages}
use Rattle.causal_buffer.specs.Row.{Row}
use Rattle.causal_buffer.specs.declared.queue.TheConstants.{NO_WAIT}
use Rattle.causal_buffer.specs.declared.queue.Wait.{Wait}
use Rattle.causal_buffer.proofs.Waits.{waits_after}
use Rattle.causal_buffer.proofs.Places.{nones, begun, places_begun, standing_begun, are_put, standing_put, inside, is_empty, standing_few, length-put_early}
use Rattle.causal_buffer.proofs.queue.Queue.put.Goals as goal
use Rattle.causal_buffer.proofs.queue.Queue.put.Goals.{After-reach}

-- the places from the next number on, before there are more
made : (c : After-reach) → c.push_front.new.self.items ≡ begun c.args.self.now.first (c.args.count + 1) c.args.self.now.places.room c.args.self.now.places.items
made c =
    let q = c.args.self.now in
    let popped = c.pop_front.ensures in
    ap (λ (row : Row). row.items) c.push_front.ensures
    ∙ (λ j. nones (min (c.saturating_sub-2.ensures j) (popped j).room) ++ take ((popped j).room - c.saturating_sub-2.ensures j) (popped j).items)
    ∙ ap (λ n. nones (min (q.first - (c.args.count + 1)) q.places.room) ++ take (q.places.room - (q.first - (c.args.count + 1))) (drop n q.places.items)) c.saturating_sub.ensures

longer : (c : After-reach) → c.reach.new.self.items ≡ c.push_front.new.self.items ++ nones (c.number-seq.result - (c.args.count + 1) + 1 - length c.push_front.new.self.items)
longer c = ap (λ (row : Row). row.items) c.reach.ensures.made

are_places : (c : After-reach) → ArePlaces c.args.message.origin (c.args.count + 1) c.push_front.new.self.items
are_places c =
    let q = c.args.self.now in
    subst (ArePlaces c.args.message.origin (c.args.count + 1)) (sym (made c)) (places_begun c.args.message.origin q.first (c.args.count + 1) q.places.room q.places.items c.requires.queue.are_places)

same : (c : After-reach) → standing c.push_front.new.self.items ≡ messages c.args.self.now
same c =
    let q = c.args.self.now in
    let count = c.args.count in
    let room = q.places.room in
    ap standing (made c)
    ∙ standing_begun c.args.message.origin q.first (count + 1) room q.places.items c.requires.queue.are_places
    (All-weaker (λ m. (count < number m) × (number m ≤ count + room)) (λ m. (count + 1 ≤ number m) × (number m < count + 1 + room)) (λ m near. (omega (arith, near.0), omega (arith, near.1)))
    (messages q) (All-tail (λ m. (count < number m) × (number m ≤ count + room)) c.args.message (messages q) c.requires.near))

numbered : (c : After-reach) → number c.args.message ≡ c.args.count + 1 + (c.number-seq.result - (c.args.count + 1))
numbered c =
    let count = c.args.count in
    let near = All-head (λ m. (count < number m) × (number m ≤ count + c.args.self.now.places.room)) c.args.message (messages c.args.self.now) c.requires.near in
    omega (arith, near.0, c.number-seq.ensures)

fresh : (c : After-reach) → find (has_id (id_of c.args.message)) (standing c.push_front.new.self.items) ≡ None
fresh c = ap (find (has_id (id_of c.args.message))) (same c) ∙ c.requires.new

put : (c : After-reach) → standing (set c.reach.new.self.items (c.number-seq.result - (c.args.count + 1)) (Some c.args.message)) ≡ put_early c.args.message (messages c.args.self.now)
put c =
    let m = c.args.message in
    standing_put m.origin (c.args.count + 1) c.push_front.new.self.items c.reach.new.self.items m (c.number-seq.result - (c.args.count + 1)) (are_places c) refl (numbered c) (longer c) (fresh c)
    ∙ ap (put_early m) (same c)

-- what is still known of what its messages wait for
waiting : (c : After-reach) (wait : Wait) → wait ≡ (if c.args.self.now.wait.seq == number c.args.message then NO_WAIT else c.args.self.now.wait) → (row : Row) → standing row.items ≡ put_early c.args.message (messages c.args.self.now)
    → AreWaiting c.args.message.origin wait (standing row.items)
waiting c wait is row put =
    let m = c.args.message in
    let q = c.args.self.now in
    subst (AreWaiting m.origin wait) (sym put) (subst (λ known. AreWaiting m.origin known (put_early m (messages q))) (sym is) (waits_after m.origin c.args.count q.places.room q.wait m (messages q) c.requires.near c.requires.queue.waiting))

pub fill-requires-clause-there : goal.fill-requires-clause-there
fill-requires-clause-there c =
    let m = c.args.message in
    let here = (goal.at.fill-requires-clause-there c).After-reach in
    inside m.origin (c.args.count + 1) c.push_front.new.self.items c.reach.new.self.items m (c.number-seq.result - (c.args.count + 1)) (are_places here) refl (numbered here) (longer here) (fresh here)

pub fill-requires-clause-empty : goal.fill-requires-clause-empty
fill-requires-clause-empty c =
    let m = c.args.message in
    let here = (goal.at.fill-requires-clause-empty c).After-reach in
    is_empty m.origin (c.args.count + 1) c.push_front.new.self.items c.reach.new.self.items m (c.number-seq.result - (c.args.count + 1)) (are_places here) refl (numbered here) (longer here) (fresh here)

pub overflow_add-self : goal.overflow_add-self
overflow_add-self c =
    let m = c.args.message in
    let here = (goal.at.overflow_add-self c).After-reach in
    let items = c.reach.new.self.items in
    let place = c.number-seq.result - (c.args.count + 1) in
    omega (arith, c.requires.queue.counted, length-put_early m (messages c.args.self.now), ap length (put here), standing_few (set items place (Some m)), length-set items place (Some m), c.reach.ensures.within, c.reach.ensures.small)

pub returns-clause-put : goal.returns-clause-put
returns-clause-put c =
    ap (λ (row : Row). standing row.items) c.fill.ensures ∙ put (goal.at.returns-clause-put c).After-reach

pub returns-clause-kept : goal.returns-clause-kept
returns-clause-kept c =
    let m = c.args.message in
    let here = (goal.at.returns-clause-kept c).After-reach in
    let items = c.reach.new.self.items in
    let place = c.number-seq.result - (c.args.count + 1) in
    record {
      are_places = subst (λ (row : Row). ArePlaces m.origin (c.args.count + 1) row.items) (sym c.fill.ensures) (are_put m.origin (c.args.count + 1) c.push_front.new.self.items items m place (are_places here) refl (numbered here) (longer here));
      within = omega (arith, ap (λ (row : Row). length row.items) c.fill.ensures, length-set items place (Some m), ap (λ (row : Row). row.room) c.fill.ensures, c.reach.ensures.within);
      counted = omega (arith, c.requires.queue.counted, length-put_early m (messages c.args.self.now), ap length (returns-clause-put c));
      small = subst (All (λ z. number z < 2 ^ 32)) (sym (returns-clause-put c)) (All-put_early (λ z. number z < 2 ^ 32) m (messages c.args.self.now) (omega arith) c.requires.queue.small);
      waiting = waiting here c.forget.new.wait (c.forget.ensures ∙ ap (λ seq. if c.args.self.now.wait.seq == seq then NO_WAIT else c.args.self.now.wait) c.number-seq.ensures) c.fill.new.self (returns-clause-put c);
    }
