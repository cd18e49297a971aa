-- An id has three parts.
use Rattle.std.proofs.Common.{◌≡◌, ℕ, ◌<◌, List, [], ◌∷◌, length, refl, ap, ◌∙◌, arith}
use Rattle.std.specs.Prelude.{Err}
use Rattle.std.specs.List.{slice_split}
use Rattle.std.proofs.lemmas.List.Splits.{length-slice_split}
use Rattle.script_lang.specs.Names.{is_point, element_from, element_in}
use Rattle.script_lang.specs.declared.fault.Fault.TheVariants as fault

more_than_three : (a b c : List ℕ) (parts : List (List ℕ)) → 0 < length parts → element_from (a ∷ b ∷ c ∷ parts) ≡ Err fault.Number
more_than_three a b c [] some = absurd (omega arith)
more_than_three a b c (d ∷ parts) some = refl

-- where a point stands in what would be the third part, there are more
pub four_parts : (word rest last more a b c : List ℕ) → slice_split is_point word ≡ a ∷ slice_split is_point rest → slice_split is_point rest ≡ b ∷ slice_split is_point last
    → slice_split is_point last ≡ c ∷ slice_split is_point more → element_in word ≡ Err fault.Number
four_parts word rest last more a b c first second third =
    let parts : slice_split is_point word ≡ a ∷ b ∷ c ∷ slice_split is_point more = first ∙ ap (λ xs. a ∷ xs) (second ∙ ap (λ xs. b ∷ xs) third) in
    ap element_from parts ∙ more_than_three a b c (slice_split is_point more) (omega (arith, length-slice_split is_point more))
