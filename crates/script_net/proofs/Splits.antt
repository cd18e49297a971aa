-- Lemmas on the lines of a text that comes in pieces.
use Rattle.std.proofs.Common.{◌≡◌, ℕ, true, false, cond, List, [], ◌∷◌, ◌++◌, map, refl, sym, ap, subst, ◌∙◌, append_assoc}
use Rattle.std.specs.List.{slice_split, onto_first}
use Rattle.std.specs.Str.Lines.{strip_carriage_return}
use Rattle.std.proofs.lemmas.List.{append-nil, map-append}
use Rattle.script_net.specs.Lines.{is_newline, lines_of, all_but_last, ended_lines_of}
use Rattle.script_net.specs.Feeding.{IsDone, IsPart}

-- the parts of a text between newlines
abbrev parts_of : List ℕ → List (List ℕ)
parts_of = slice_split is_newline

-- ---- one text behind another

-- parts of which the last goes on with the first of others
abbrev merge : List (List ℕ) → List (List ℕ) → List (List ℕ)
merge [] ys = ys
merge (x ∷ []) [] = x ∷ []
merge (x ∷ []) (y ∷ ys) = (x ++ y) ∷ ys
merge (x ∷ z ∷ xs) ys = x ∷ merge (z ∷ xs) ys

-- a list with an element
record IsSome (xs : List (List ℕ)) : Type 0 where
  first : List ℕ
  others : List (List ℕ)
  is : xs ≡ first ∷ others

some_part : (bytes : List ℕ) → IsSome (parts_of bytes)
some_part [] = record { first = []; others = []; is = refl }
some_part (b ∷ bs) =
    let rest = some_part bs in
    elim (is_newline b) as (λ v. IsSome (cond v ([] ∷ parts_of bs) (onto_first b (parts_of bs)))) [
      | true ↦ record { first = []; others = parts_of bs; is = refl }
      | false ↦ record { first = b ∷ rest.first; others = rest.others; is = ap (onto_first b) rest.is }
    ]

some_behind : (xs ys : List (List ℕ)) → IsSome ys → IsSome (xs ++ ys)
some_behind [] ys some = some
some_behind (x ∷ xs) ys some = record { first = x; others = xs ++ ys; is = refl }

merge_cons : (x : List ℕ) (xs ys : List (List ℕ)) → IsSome xs → merge (x ∷ xs) ys ≡ x ∷ merge xs ys
merge_cons x xs ys some = subst (λ (zs : List (List ℕ)). merge (x ∷ zs) ys ≡ x ∷ merge zs ys) (sym some.is) refl

merge_behind : (front xs ys : List (List ℕ)) → IsSome xs → merge (front ++ xs) ys ≡ front ++ merge xs ys
merge_behind [] xs ys some = refl
merge_behind (x ∷ front) xs ys some = merge_cons x (front ++ xs) ys (some_behind front xs some) ∙ ap (λ (zs : List (List ℕ)). x ∷ zs) (merge_behind front xs ys some)

onto_merge : (b : ℕ) (x : List ℕ) (xs ys : List (List ℕ)) → onto_first b (merge (x ∷ xs) ys) ≡ merge ((b ∷ x) ∷ xs) ys
onto_merge b x [] [] = refl
onto_merge b x [] (y ∷ ys) = refl
onto_merge b x (z ∷ xs) ys = refl

onto_some : (b : ℕ) (xs ys : List (List ℕ)) → IsSome xs → onto_first b (merge xs ys) ≡ merge (onto_first b xs) ys
onto_some b xs ys some = subst (λ (zs : List (List ℕ)). onto_first b (merge zs ys) ≡ merge (onto_first b zs) ys) (sym some.is) (onto_merge b some.first some.others ys)

-- the parts of one text behind another
parts_both : (xs ys : List ℕ) → parts_of (xs ++ ys) ≡ merge (parts_of xs) (parts_of ys)
parts_both [] ys = subst (λ (zs : List (List ℕ)). zs ≡ merge ([] ∷ []) zs) (sym (some_part ys).is) refl
parts_both (b ∷ bs) ys =
    let rest = parts_both bs ys in
    elim (is_newline b) as (λ v. cond v ([] ∷ parts_of (bs ++ ys)) (onto_first b (parts_of (bs ++ ys))) ≡ merge (cond v ([] ∷ parts_of bs) (onto_first b (parts_of bs))) (parts_of ys)) [
      | true ↦ ap (λ (zs : List (List ℕ)). [] ∷ zs) rest ∙ sym (merge_cons [] (parts_of bs) (parts_of ys) (some_part bs))
      | false ↦ ap (onto_first b) rest ∙ onto_some b (parts_of bs) (parts_of ys) (some_part bs)
    ]

-- ---- the lines that are done

-- a part goes on with bytes without a newline
pub part_more : (part rest : List ℕ) → IsPart part → IsPart rest → IsPart (part ++ rest)
part_more part rest whole none = parts_both part rest ∙ (λ i. merge (whole i) (none i))

-- more of the text comes
pub done_more : (text : List ℕ) (done : List (List ℕ)) (left more : List ℕ) → IsDone text done left → IsDone (text ++ more) done (left ++ more)
done_more text done left more d = record {
  parts = d.parts;
  cut =
      parts_both text more
      ∙ (ap (λ (zs : List (List ℕ)). merge zs (parts_of more)) d.cut
      ∙ (merge_behind d.parts (parts_of left) (parts_of more) (some_part left)
      ∙ ap (λ (zs : List (List ℕ)). d.parts ++ zs) (sym (parts_both left more))));
  lines = d.lines;
}

-- the line that ends at the first newline is done
pub done_line : (text : List ℕ) (done : List (List ℕ)) (part rest front behind : List ℕ) → IsPart part → slice_split is_newline rest ≡ front ∷ slice_split is_newline behind
    → IsDone text done (part ++ rest) → IsDone text (done ++ strip_carriage_return (part ++ front) ∷ []) behind
done_line text done part rest front behind whole there d =
    let line : List ℕ = part ++ front in
    let cut : parts_of (part ++ rest) ≡ line ∷ parts_of behind = parts_both part rest ∙ (λ i. merge (whole i) (there i)) in
    record {
      parts = d.parts ++ line ∷ [];
      cut = d.cut ∙ (ap (λ (zs : List (List ℕ)). d.parts ++ zs) cut ∙ sym (append_assoc d.parts (line ∷ []) (parts_of behind)));
      lines = ap (λ (zs : List (List ℕ)). zs ++ strip_carriage_return line ∷ []) d.lines ∙ sym (map-append strip_carriage_return d.parts (line ∷ []));
    }

-- the lines of a text are those that are done and those of what is left
pub lines_done : (text : List ℕ) (done : List (List ℕ)) (left : List ℕ) → IsDone text done left → lines_of text ≡ done ++ lines_of left
lines_done text done left d =
    ap (map strip_carriage_return) d.cut
    ∙ (map-append strip_carriage_return d.parts (parts_of left) ∙ ap (λ (zs : List (List ℕ)). zs ++ lines_of left) (sym d.lines))

some_line : (bytes : List ℕ) → IsSome (lines_of bytes)
some_line bytes =
    let part = some_part bytes in
    record { first = strip_carriage_return part.first; others = map strip_carriage_return part.others; is = ap (map strip_carriage_return) part.is }

all_but_cons : (x : List ℕ) (xs : List (List ℕ)) → IsSome xs → all_but_last (x ∷ xs) ≡ x ∷ all_but_last xs
all_but_cons x xs some = subst (λ (zs : List (List ℕ)). all_but_last (x ∷ zs) ≡ x ∷ all_but_last zs) (sym some.is) refl

all_but_behind : (front xs : List (List ℕ)) → IsSome xs → all_but_last (front ++ xs) ≡ front ++ all_but_last xs
all_but_behind [] xs some = refl
all_but_behind (x ∷ front) xs some = all_but_cons x (front ++ xs) (some_behind front xs some) ∙ ap (λ (zs : List (List ℕ)). x ∷ zs) (all_but_behind front xs some)

pub ended_done : (text : List ℕ) (done : List (List ℕ)) (left : List ℕ) → IsDone text done left → ended_lines_of text ≡ done ++ ended_lines_of left
ended_done text done left d = ap all_but_last (lines_done text done left d) ∙ all_but_behind done (lines_of left) (some_line left)

-- where a part is left, its line is the last, and the others have ended
pub lines_part : (text : List ℕ) (done : List (List ℕ)) (part : List ℕ) → IsPart part → IsDone text done part → lines_of text ≡ done ++ strip_carriage_return part ∷ []
lines_part text done part whole d = lines_done text done part d ∙ ap (λ (zs : List (List ℕ)). done ++ map strip_carriage_return zs) whole

pub ended_part : (text : List ℕ) (done : List (List ℕ)) (part : List ℕ) → IsPart part → IsDone text done part → ended_lines_of text ≡ done
ended_part text done part whole d =
    ended_done text done part d ∙ (ap (λ (zs : List (List ℕ)). done ++ all_but_last (map strip_carriage_return zs)) whole ∙ append-nil done)

-- ---- lines of more bytes

-- a list begins with another
pub record BeginsWith (front whole : List (List ℕ)) : Type 0 where
  pub more : List (List ℕ)
  pub is : whole ≡ front ++ more

merge_begins : (xs ys : List (List ℕ)) → BeginsWith (all_but_last xs) (merge xs ys)
merge_begins [] ys = record { more = ys; is = refl }
merge_begins (x ∷ []) [] = record { more = x ∷ []; is = refl }
merge_begins (x ∷ []) (y ∷ ys) = record { more = (x ++ y) ∷ ys; is = refl }
merge_begins (x ∷ z ∷ xs) ys =
    let rest = merge_begins (z ∷ xs) ys in
    record { more = rest.more; is = ap (λ (zs : List (List ℕ)). x ∷ zs) rest.is }

all_but_map : (xs : List (List ℕ)) → map strip_carriage_return (all_but_last xs) ≡ all_but_last (map strip_carriage_return xs)
all_but_map [] = refl
all_but_map (x ∷ []) = refl
all_but_map (x ∷ y ∷ xs) = ap (λ (zs : List (List ℕ)). strip_carriage_return x ∷ zs) (all_but_map (y ∷ xs))

-- the lines of a text begin with those that ended in a front of it
pub ended_begin : (xs ys : List ℕ) → BeginsWith (ended_lines_of xs) (lines_of (xs ++ ys))
ended_begin xs ys =
    let merged = merge_begins (parts_of xs) (parts_of ys) in
    record {
      more = map strip_carriage_return merged.more;
      is =
          ap (map strip_carriage_return) (parts_both xs ys ∙ merged.is)
          ∙ (map-append strip_carriage_return (all_but_last (parts_of xs)) merged.more
          ∙ ap (λ (zs : List (List ℕ)). zs ++ map strip_carriage_return merged.more) (all_but_map (parts_of xs)));
    }
