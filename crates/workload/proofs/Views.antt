-- Lists of slices, seen as lists of texts by f.
use Rattle.std.proofs.Common.{◌≡◌, ℕ, ◌-◌, ◌<◌, ◌≤◌, List, [], length, map, take, drop, get_or, sym, ap, ◌∙◌, arith}
use Rattle.std.proofs.lemmas.List.{length-map, get_or-map, get_or-take, get_or_past, take-map, drop-map}

-- a word among the first seven
pub word_found : {X : Type 0} (f : X → List ℕ) (found : List X) (words : List (List ℕ)) (place : ℕ) (x : X) → map f found ≡ take 7 words → place < 7 → place < length found
    → x ≡ get_or found place x → f x ≡ get_or words place []
word_found f found words place x first few within here =
    ap f here ∙ sym (get_or-map f found place x [] within) ∙ ap (λ ws. get_or ws place []) first ∙ get_or-take 7 words place [] few

-- a place that the first seven don't have
pub word_past : {X : Type 0} (f : X → List ℕ) (found : List X) (words : List (List ℕ)) (place : ℕ) → map f found ≡ take 7 words → place < 7 → length found ≤ place
    → [] ≡ get_or words place []
word_past f found words place first few past =
    let short : length (take 7 words) ≤ place = omega (arith, sym (length-map found f) ∙ ap length first) in
    sym (get_or_past (take 7 words) place [] short) ∙ get_or-take 7 words place [] few

-- all but the last
pub all_but_last : {X : Type 0} (f : X → List ℕ) (xs kept : List X) (texts : List (List ℕ)) → map f xs ≡ texts → kept ≡ take (length xs - 1) xs
    → map f kept ≡ take (length texts - 1) texts
all_but_last f xs kept texts whole cut =
    ap (map f) cut ∙ sym (take-map f (length xs - 1) xs) ∙ ap (λ n. take (n - 1) (map f xs)) (sym (length-map xs f)) ∙ ap (λ ts. take (length ts - 1) ts) whole

-- the last fourteen
pub last_of : {X : Type 0} (f : X → List ℕ) (xs : List X) → map f (drop (length xs - 14) xs) ≡ drop (length (map f xs) - 14) (map f xs)
last_of f xs = sym (drop-map f (length xs - 14) xs) ∙ ap (λ n. drop (n - 14) (map f xs)) (sym (length-map xs f))
