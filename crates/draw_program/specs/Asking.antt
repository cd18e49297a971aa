-- What the program's words ask for.
use Rattle.std.specs.Prelude.{ℕ, List, [], ◌∷◌, Option, Some, None, codes, if◌then◌else◌}
use Rattle.op_base.specs.Name.{same_text}
use Rattle.draw_program.specs.declared.run.Asked.{Asked}
use Rattle.draw_program.specs.declared.run.Asked.TheVariants.{Picture, Table}

-- a picture without any word behind the program's own name, and a table by one
abbrev pub asked_for : List (List ℕ) → Option Asked
asked_for [] = None
asked_for (name ∷ []) = Some Picture
asked_for (name ∷ word ∷ []) = if same_text word (codes "--table") then Some Table else None
asked_for (name ∷ word ∷ other ∷ words) = None
