use Rattle.std.proofs.Common.{◌≡◌, ℕ, ◌+◌, ◌∷◌, [], ◌++◌, List, length, sym, ap, ap₂, subst, ◌∙◌, arith}
use Rattle.std.proofs.lemmas.List.{length-append}
use Rattle.world.specs.FrameRows.{Frames, RisesTo, frames_from}
use Rattle.world.proofs.FrameRows.{one_more, rises_with_one_more}
use Rattle.world.proofs.frames.FrameRow.push_reserved.Goals as goal
use Rattle.world.proofs.frames.FrameRow.push_reserved.Goals.{After-push_reserved}

-- how many bytes there are then
count : (c : After-push_reserved) → c.len.result ≡ length c.self.inside.bytes.items + length c.args.frame.now
count c = omega (arith, c.len.ensures, c.extend_from_slice.new.self.ok, ap length c.in-Ok.ensures.items, length-append c.self.inside.bytes.items c.args.frame.now)

-- where the frames end then
ends : (c : After-push_reserved) → c.push_reserved.new.self.items ≡ c.self.inside.ends.items ++ (length c.self.inside.bytes.items + length c.args.frame.now) ∷ []
ends c = c.push_reserved.ensures.items ∙ ap (λ (end : ℕ). c.self.inside.ends.items ++ end ∷ []) (count c)

pub invariant_of-self : goal.invariant_of-self
invariant_of-self c =
    let here = (goal.at.invariant_of-self c).After-push_reserved in
    let bytes = c.self.inside.bytes.items in
    let len = ap length c.in-Ok.ensures.items ∙ length-append bytes c.args.frame.now in
    subst (λ (n : ℕ). RisesTo n 0 c.push_reserved.new.self.items) (sym len)
    (subst (RisesTo (length bytes + length c.args.frame.now) 0) (sym (ends here)) (rises_with_one_more (length bytes) (length c.args.frame.now) 0 c.self.inside.ends.items c.self.invariant))

pub returns : goal.returns
returns c =
    let frame = c.args.frame.now in
    ap₂ (λ (ends bytes : List ℕ). frames_from 0 ends bytes) (ends (goal.at.returns c).After-push_reserved) c.in-Ok.ensures.items
    ∙ one_more 0 c.self.inside.ends.items c.self.inside.bytes.items frame c.self.invariant
    ∙ ap (λ (row : Frames). row.items ++ frame ∷ []) c.self.view_is
