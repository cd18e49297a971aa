use Rattle.std.proofs.Common.{length, ap, arith}
use Rattle.std.specs.List.{concat}
use Rattle.std.proofs.lemmas.List.{length-map}
use Rattle.stable_state.proofs.Ends.{slots_few}
use Rattle.stable_state.proofs.chunks.Chunks.count.Goals as goal

pub returns-clause-slots : goal.returns-clause-slots
returns-clause-slots c =
    let s = c.self.inside in
    omega (arith, slots_few s.lists.items c.self.invariant.lists, ap (λ v. length (concat v.parts)) c.self.view_is, ap (λ v. length v.parts) c.self.view_is, length-map s.lists.items (λ v. v.items))
