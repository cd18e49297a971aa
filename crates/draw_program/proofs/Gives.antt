-- What a source gave in several calls.
use Rattle.std.proofs.Common.{◌∙◌, ◌++◌, ℕ, List, ap, sym, append_assoc}
use Rattle.std.specs.Prelude.{Option, Some, None}
use Rattle.std.specs.Option.{option_map}
use Rattle.store_io.specs.Bytes.{Gave}

-- what a source gave in two calls stood one behind the other
pub gave_both : (old between new : Option (List ℕ)) (first then : List ℕ) → Gave old between first → Gave between new then → Gave old new (first ++ then)
gave_both old between None first then e f = e ∙ ap (option_map (λ (rest : List ℕ). first ++ rest)) f
gave_both old between (Some rest) first then e f =
    e ∙ (ap (option_map (λ (rest : List ℕ). first ++ rest)) f ∙ ap (λ (all : List ℕ). Some all) (sym (append_assoc first then rest)))
