-- The fields of a matrix: the rows that count, and the fields after a message is noted.
use Rattle.std.proofs.Common.{◌≡◌, ℕ, ◌<◌, All, List, [], ◌++◌, length, length-append, length-drop, length-take, get_or, take, drop, ap, sym, subst, ◌∙◌, arith}
use Rattle.std.proofs.lemmas.List.{take_at, get_or_default, get_or-take}
use Rattle.stability_matrix.specs.declared.matrix.Matrix.TheInside.{Inside}
use Rattle.stability_matrix.specs.Fields.{rows_of, known_of, IsKept}
use Rattle.stability_matrix.specs.Rows.{Known, row_of, stable_of, noted}
use Rattle.stability_matrix.proofs.Entries.{length-stable_of, square-noted}

module _ (m : Inside) (kept : IsKept m) where
  pub length-rows_of : length (rows_of m) ≡ m.n
  length-rows_of = omega (arith, length-take m.n m.rows, kept.room, kept.few)

  pub square-rows_of : All (λ row. length row ≡ length (rows_of m)) (rows_of m)
  square-rows_of = subst (λ n. All (λ row. length row ≡ n) (rows_of m)) (sym length-rows_of) kept.entries

  pub length-stable : length m.stable ≡ m.n
  length-stable = ap length kept.least ∙ length-stable_of (rows_of m) ∙ length-rows_of

  pub row-kept : (y : ℕ) (d : List ℕ) → y < m.n → get_or m.rows y d ≡ row_of (rows_of m) y
  row-kept y d l = get_or_default m.rows y d [] (omega (arith, l, kept.room, kept.few)) ∙ sym (get_or-take m.n m.rows y [] l)

  pub length-row : (y : ℕ) (d : List ℕ) → y < m.n → length (get_or m.rows y d) ≡ m.n
  length-row y d l = ap length (row-kept y d l) ∙ kept.entries y [] (omega (arith, l, length-rows_of))

  -- with other rows that count they show these
  pub known-after : (after : List (List ℕ)) (stable : List ℕ) → length after ≡ m.n
      → known_of record { n = m.n; me = m.me; rows = after ++ drop m.n m.rows; stable = stable } ≡ record { me = m.me; rows = after }
  known-after after stable same = ap (λ rows. record { me = m.me; rows = rows }) (take_at after (drop m.n m.rows) m.n same)

  -- and the stable counts of these
  pub stable-after : (after : List (List ℕ)) (stable : List ℕ) → length after ≡ m.n → stable ≡ stable_of after → stable ≡ stable_of (take m.n (after ++ drop m.n m.rows))
  stable-after after stable same is = is ∙ ap stable_of (sym (take_at after (drop m.n m.rows) m.n same))

  -- the kept ones are those of the rows that are shown
  pub stable-kept_of : (known : Known) → known_of m ≡ known → m.stable ≡ stable_of known.rows
  stable-kept_of known is = kept.least ∙ ap (λ (known : Known). stable_of known.rows) is

  pub kept-noted : (origin : ℕ) (tag : List ℕ) (after : List (List ℕ)) (stable : List ℕ) → length tag ≡ m.n → after ≡ noted m.me origin tag (rows_of m)
      → length after ≡ m.n → stable ≡ stable_of after → IsKept record { n = m.n; me = m.me; rows = after ++ drop m.n m.rows; stable = stable }
  kept-noted origin tag after stable entries is same least =
      let now : take m.n (after ++ drop m.n m.rows) ≡ after = take_at after (drop m.n m.rows) m.n same in
      record {
        some = kept.some;
        few = kept.few;
        member = kept.member;
        room = omega (arith, length-append after (drop m.n m.rows), length-drop m.n m.rows, same, kept.room, kept.few);
        entries = subst (All (λ row. length row ≡ m.n)) (sym (now ∙ is))
            (square-noted m.me origin tag (rows_of m) m.n kept.entries entries (omega (arith, length-rows_of, kept.member)));
        least = least ∙ ap stable_of (sym now);
      }
