-- When an option is none.
use Rattle.std.proofs.Common.{◌≡◌, Bool, true, false, not, ◌&&◌, ◌||◌, List, [], ◌∷◌, Option, Some, None, if◌then◌else◌, refl}
use Rattle.std.specs.Prelude.{is_none}
use Rattle.std.specs.Option.{option_map}
use Rattle.std.specs.List.{list_all, find}
use Rattle.causal_model.specs.Crook.{first_some}

pub none-find : {X : Type 0} (p : X → Bool) (xs : List X) → is_none (find p xs) ≡ list_all (λ x. not (p x)) xs
none-find p [] = refl
none-find p (x ∷ xs) = elim (p x) as (λ b. is_none (if b then Some x else find p xs) ≡ (not b && list_all (λ y. not (p y)) xs)) [ true ↦ refl | false ↦ none-find p xs ]

pub none-first_some : {X : Type 0} (os : List (Option X)) → is_none (first_some os) ≡ list_all is_none os
none-first_some [] = refl
none-first_some (None ∷ os) = none-first_some os
none-first_some (Some x ∷ os) = refl

pub none-option_map : {X Y : Type 0} (f : X → Y) (o : Option X) → is_none (option_map f o) ≡ is_none o
none-option_map f None = refl
none-option_map f (Some x) = refl

pub none_unless : {X : Type 0} (b : Bool) (o : Option X) → is_none (if b then None else o) ≡ (b || is_none o)
none_unless true o = refl
none_unless false o = refl

pub none_where : {X : Type 0} (b : Bool) (x : X) → is_none (if b then Some x else None) ≡ not b
none_where true x = refl
none_where false x = refl
