use Rattle.std.proofs.Common.{◌-◌, ◌<◌, length, get_or, ap, sym, ◌∙◌, arith}
use Rattle.std.specs.List.{concat}
use Rattle.std.proofs.lemmas.Option.{get_or_from_slice_get, slice_get_within}
use Rattle.stable_state.specs.Chunks.{ends_from}
use Rattle.stable_state.specs.ChunkFields.{parts_of}
use Rattle.stable_state.proofs.Ends.{length_ends, last_end}
use Rattle.stable_state.proofs.chunks.Chunks.len.Goals as goal

pub returns-in-Some : goal.returns-in-Some
returns-in-Some c =
    let s = c.self.inside in
    let parts = parts_of s.lists.items in
    let is = c.deref.ensures.value ∙ c.self.invariant.ends in
    let at = get_or_from_slice_get c.deref.result.now (length c.deref.result.now - 1) c.in-Some.end.now 0 (sym c.in-Some.ensures.value) in
    let some : 0 < length parts = omega (arith, slice_get_within c.deref.result.now (length c.deref.result.now - 1) c.in-Some.end.now (sym c.in-Some.ensures.value), ap length is, length_ends 0 parts) in
    sym at ∙ ap (λ ends. get_or ends (length ends - 1) 0) is ∙ ap (λ n. get_or (ends_from 0 parts) (n - 1) 0) (length_ends 0 parts)
    ∙ last_end parts 0 some ∙ ap (λ v. length (concat v.parts)) c.self.view_is
