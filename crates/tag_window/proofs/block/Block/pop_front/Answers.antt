use Rattle.std.proofs.Common.{◌≡◌, ◌+◌, drop, sym, subst}
use Rattle.std.proofs.lemmas.List.{drop-drop}
use Rattle.tag_window.specs.Filled.{Filled}
use Rattle.tag_window.proofs.block.Block.pop_front.Goals as goal

pub returns : goal.returns
returns c =
    let places = c.self.inside.places in
    let room = c.self.inside.room in
    let start = c.self.inside.start in
    let after : Filled = record { room = room; items = drop (start + 1) places.items } in
    subst (λ (b : Filled). after ≡ record b { items = drop 1 b.items }) c.self.view_is (λ i. record { room = room; items = sym (drop-drop 1 start places.items) i })
