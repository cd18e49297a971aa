use Rattle.std.proofs.Common.{◌≡◌, ℕ, ◌<◌, List, length, slice_index_or, sym, ap, ap₂, ◌∙◌, arith}
use Rattle.std.specs.List.{between}
use Rattle.world.specs.FrameRows.{Frames, begin_of}
use Rattle.world.proofs.FrameRows.{as_many, stands, ends_within, rises}
use Rattle.world.proofs.frames.FrameRow.at.Goals as goal
use Rattle.world.proofs.frames.FrameRow.at.Goals.{After-deref, After-index}

-- there is an end of the frame
low : (c : After-deref) → c.args.place < length c.self.inside.ends.items
low c = omega (arith, c.requires, sym (ap (λ (row : Frames). length row.items) c.self.view_is) ∙ as_many 0 c.self.inside.ends.items c.self.inside.bytes.items)

pub begin_of-begin-requires : goal.begin_of-begin-requires
begin_of-begin-requires c = omega (arith, low c, ap length c.deref.ensures.value)

pub index-requires : goal.index-requires
index-requires c = omega (arith, low (goal.at.index-requires c).After-deref, c.deref.ensures.len, ap length c.deref.ensures.value)

-- where it begins, and where it ends
begins : (c : After-index) → c.begin_of-begin.result ≡ begin_of 0 c.self.inside.ends.items c.args.place
begins c = c.begin_of-begin.ensures ∙ ap (λ (ends : List ℕ). begin_of 0 ends c.args.place) c.deref.ensures.value

pub part-requires-clause-order : goal.part-requires-clause-order
part-requires-clause-order c =
    let here = (goal.at.part-requires-clause-order c).After-index in
    omega (arith, begins here, c.index.ensures, rises (length c.self.inside.bytes.items) 0 c.args.place c.index.result.now c.self.inside.ends.items c.self.invariant (low (goal.at-After-index here).After-deref))

pub part-requires-clause-places : goal.part-requires-clause-places
part-requires-clause-places c =
    let here = (goal.at.part-requires-clause-places c).After-index in
    omega (arith, c.index.ensures, ap length c.deref-2.ensures.value, ends_within (length c.self.inside.bytes.items) 0 c.args.place c.index.result.now c.self.inside.ends.items c.self.invariant (low (goal.at-After-index here).After-deref))

pub returns : goal.returns
returns c d =
    let here = (goal.at.returns c).After-index in
    let ends = c.self.inside.ends.items in
    let bytes = c.self.inside.bytes.items in
    c.part.ensures
    ∙ ap (between c.begin_of-begin.result c.index.result.now) c.deref-2.ensures.value
    ∙ ap₂ (λ (from to : ℕ). between from to bytes) (begins here) c.index.ensures
    ∙ sym (stands 0 c.args.place c.index.result.now ends bytes d (low (goal.at-After-index here).After-deref))
    ∙ ap (λ (row : Frames). slice_index_or row.items c.args.place d) c.self.view_is
