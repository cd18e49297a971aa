-- Where neither a no-op nor an operation is held, nothing is.
use Rattle.std.proofs.Common.{◌≡◌, ◌+◌, true, false, List, [], ◌∷◌, length, count_by, refl, arith}
use Rattle.tag_window.specs.declared.held.Held.{Held}
use Rattle.tag_window.specs.Window.{is_of_kind}
use Rattle.tag_window.proofs.Queues.{count_by-not}

pub none_held : (held : List Held) → count_by (is_of_kind true) held ≡ 0 → count_by (is_of_kind false) held ≡ 0 → held ≡ []
none_held [] noops operations = refl
none_held (h ∷ hs) noops operations =
    let all : count_by (is_of_kind true) (h ∷ hs) + count_by (is_of_kind false) (h ∷ hs) ≡ length (h ∷ hs) = count_by-not (is_of_kind true) (h ∷ hs) in
    absurd (omega (arith, noops, operations, all))
