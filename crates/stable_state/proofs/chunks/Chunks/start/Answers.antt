use Rattle.std.proofs.Common.{◌≡◌, ◌+◌, [], length, take, get_or, ap, arith}
use Rattle.std.specs.List.{concat}
use Rattle.std.proofs.lemmas.List.{length-map}
use Rattle.stable_state.specs.ChunkFields.{parts_of}
use Rattle.stable_state.proofs.Ends.{end_at, part_is, in_lists, in_ends}
use Rattle.stable_state.proofs.chunks.Chunks.start.Goals as goal

pub index-requires : goal.index-requires
index-requires c =
    let s = c.self.inside in
    omega (arith, in_ends s c.args.chunk c.self.invariant (in_lists s c.args.self.now c.args.chunk c.self.view_is c.requires), s.ends.ok.0)

ends : (c : goal.After-len) → c.index.result.now ≡ length (concat (take c.args.chunk (parts_of c.self.inside.lists.items))) + c.len.result
ends c =
    let s = c.self.inside in
    let lists = s.lists.items in
    let k = c.args.chunk in
    let list = c.index-2.result.now in
    let l = in_lists s c.args.self.now k c.self.view_is c.requires in
    let old : list.items ≡ get_or (parts_of lists) k [] = part_is lists k list l c.index-2.ensures in
    omega (arith, c.index.ensures, ap (λ ends. get_or ends k c.index.result.now) c.self.invariant.ends, end_at (parts_of lists) 0 k c.index.result.now (omega (arith, l, length-map lists (λ v. v.items))), ap length old, c.len.ensures, list.ok.0)

pub overflow_sub-result : goal.overflow_sub-result
overflow_sub-result c = omega (arith, ends c)

pub returns : goal.returns
returns c = omega (arith, ends c, ap (λ v. length (concat (take c.args.chunk v.parts))) c.self.view_is)
