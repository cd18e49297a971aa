use Rattle.std.proofs.Common.{◌≡◌, ℕ, List, [], ◌∷◌, ◌++◌, ◌-◌, ◌+◌, length, take, slice_set, refl, sym, ap, ◌∙◌, arith}
use Rattle.std.proofs.Math.Seq.{set-append_seam}
use Rattle.op_base.specs.ValueFields.{bytes_of}
use Rattle.op_base.proofs.Names.{mark_is_utf8}
use Rattle.op_base.proofs.name.Value.push_copy.Goals as goal

pub invariant_of-push_reserved : goal.invariant_of-push_reserved
invariant_of-push_reserved c = (mark_is_utf8, (omega arith, refl, refl))

pub returns-in-Short-stored-clause-pushed : goal.returns-in-Short-stored-clause-pushed
returns-in-Short-stored-clause-pushed c =
    let items = c.args.values.now.items in
    let mark : List ℕ = 33 ∷ [] in
    let bytes = take c.in-Short.short.len c.in-Short.short.bytes in
    let last : c.len-last.result - 1 ≡ length items = omega (arith, c.len-last.ensures, c.push_reserved.ensures.len) in
    (λ i. slice_set (c.push_reserved.ensures.items i) (c.len-last.result - 1) bytes)
    ∙ ap (λ k. slice_set (items ++ mark ∷ []) k bytes) last
    ∙ set-append_seam items mark [] bytes
    ∙ ap (λ text. items ++ text ∷ []) (sym (ap bytes_of c.in-Short.is) ∙ c.self.view_is)
