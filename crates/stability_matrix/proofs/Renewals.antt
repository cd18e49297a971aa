-- A message noted: the columns whose least stays, and those whose least is computed anew.
use Rattle.std.proofs.Common.{◌≡◌, ℕ, ◌+◌, ◌<◌, ◌≤◌, ◌≢◌, All, List, [], length, get_or, set, length-set, get_or-set_same, get_or-set_other, refl, sym, ap, ◌∙◌, inl, inr, below_more, arith}
use Rattle.std.proofs.lemmas.Bool.{cases_eq}
use Rattle.std.proofs.lemmas.Grind.{get_or-set_at}
use Rattle.std.proofs.lemmas.List.{map-set}
use Rattle.std.proofs.lemmas.List.Elements.{All-set}
use Rattle.op_base.specs.Timestamp.{entry, IsBelowChange}
use Rattle.causal_model.specs.Stability.{minimum}
use Rattle.stability_matrix.specs.Rows.{row_of, column_of, stable_of, noted}
use Rattle.stability_matrix.proofs.Entries.{length-column, get_or-column, entry-stable_of, length-stable_of, is_stable_of}
use Rattle.stability_matrix.proofs.Minimums.{minimum-set}

-- what holds of numbers holds of equal ones
pub stays-is : (least was now : ℕ) (l w v : ℕ) → l ≡ least → w ≡ was → v ≡ now → IsBelowChange least was now → IsBelowChange l w v
stays-is least was now l w v at_least at_was at_now stays = elim stays [
  | inl e ↦ inl (at_was ∙ e ∙ sym at_now)
  | inr above ↦ inr (omega (arith, above.0, at_least, at_was), omega (arith, above.1, at_least, at_now))
]

module _ (me origin : ℕ) (tag : List ℕ) (rows : List (List ℕ)) where
  abbrev replaced : List (List ℕ)
  replaced = set rows origin tag

  abbrev own_row : List ℕ
  own_row = set (row_of replaced me) origin (entry tag origin)

  pub length-noted : length (noted me origin tag rows) ≡ length rows
  length-noted = length-set replaced me own_row ∙ length-set rows origin tag

  column-replaced : (x : ℕ) → column_of replaced x ≡ set (column_of rows x) origin (entry tag x)
  column-replaced x = map-set (λ row. entry row x) rows origin tag

  module _ (own : me < length rows) (there : origin < length rows) where
    -- the origin's row replaced moves no least
    least-replaced : (x : ℕ) → IsBelowChange (minimum (column_of rows x)) (entry (row_of rows origin) x) (entry tag x)
        → minimum (column_of replaced x) ≡ minimum (column_of rows x)
    least-replaced x stays =
        let column = column_of rows x in
        ap minimum (column-replaced x)
        ∙ minimum-set column origin (entry tag x) (omega (arith, there, length-column rows x))
        (stays-is (minimum column) (entry (row_of rows origin) x) (entry tag x) (minimum column) (get_or column origin 0) (entry tag x) refl (get_or-column rows x origin there) refl stays)

    -- nor does an entry of the own row set
    least-own_row : (x : ℕ) → IsBelowChange (minimum (column_of replaced x)) (entry (row_of replaced me) x) (entry own_row x)
        → minimum (column_of (noted me origin tag rows) x) ≡ minimum (column_of replaced x)
    least-own_row x stays =
        let column = column_of replaced x in
        let l : me < length replaced = omega (arith, own, length-set rows origin tag) in
        ap minimum (map-set (λ row. entry row x) replaced me own_row)
        ∙ minimum-set column me (entry own_row x) (omega (arith, l, length-column replaced x))
        (stays-is (minimum column) (entry (row_of replaced me) x) (entry own_row x) (minimum column) (get_or column me 0) (entry own_row x) refl (get_or-column replaced x me l) refl stays)

    -- each row once the message is noted
    module _ (other : origin ≢ me) where
      pub noted-origin : row_of (noted me origin tag rows) origin ≡ tag
      noted-origin = get_or-set_other replaced me origin own_row [] other ∙ get_or-set_same rows origin tag [] there

      pub noted-own : row_of (noted me origin tag rows) me ≡ set (row_of rows me) origin (entry tag origin)
      noted-own =
          get_or-set_same replaced me own_row [] (omega (arith, own, length-set rows origin tag))
          ∙ ap (λ row. set row origin (entry tag origin)) (get_or-set_other rows origin me tag [] (λ e. other (sym e)))

      pub noted-others : (y : ℕ) → y ≢ origin → y ≢ me → row_of (noted me origin tag rows) y ≡ row_of rows y
      noted-others y ne apart = get_or-set_other replaced me y own_row [] apart ∙ get_or-set_other rows origin y tag [] ne

    module _ (square : All (λ row. length row ≡ length rows) rows) (len : length tag ≡ length rows) where
      -- in the origin's column the own entry becomes the message's number, in the others it is what it was
      own_entry-stays : (x least : ℕ) → (x ≡ origin → IsBelowChange least (entry (row_of rows me) origin) (entry tag origin))
          → IsBelowChange least (entry (row_of replaced me) x) (entry own_row x)
      own_entry-stays x least stays = elim (cases_eq x origin) [
        | inr ne ↦ inl (sym (get_or-set_other (row_of replaced me) origin x (entry tag origin) 0 ne))
        | inl e ↦
            let size : length (row_of replaced me) ≡ length rows = All-set (λ row. length row ≡ length rows) rows origin tag len square me [] (omega (arith, own, length-set rows origin tag)) in
            let now : entry own_row x ≡ entry tag origin = get_or-set_at (row_of replaced me) origin x (entry tag origin) 0 e (omega (arith, there, size)) in
            elim (cases_eq me origin) [
              | inl f ↦ inl (ap (λ row. entry row x) (get_or-set_at rows origin me tag [] f there) ∙ ap (entry tag) e ∙ sym now)
              | inr apart ↦ stays-is least (entry (row_of rows me) origin) (entry tag origin) least (entry (row_of replaced me) x) (entry own_row x) refl
                  (ap (λ row. entry row x) (get_or-set_other rows origin me tag [] apart) ∙ ap (entry (row_of rows me)) e) now (stays e)
            ]
      ]

      -- so all leasts stay where each moved entry was and is above its column's
      pub stable-kept : ((x : ℕ) → x < length rows → IsBelowChange (entry (stable_of rows) x) (entry (row_of rows origin) x) (entry tag x))
          → IsBelowChange (entry (stable_of rows) origin) (entry (row_of rows me) origin) (entry tag origin) → stable_of (noted me origin tag rows) ≡ stable_of rows
      stable-kept each at_own =
          let stable = stable_of rows in
          sym (is_stable_of (noted me origin tag rows) stable (length-stable_of rows ∙ sym length-noted) (λ x within.
          let l : x < length rows = omega (arith, within, length-noted) in
          let least = entry-stable_of rows x l in
          let was = entry (row_of rows origin) x in
          let same = least-replaced x (stays-is (entry stable x) was (entry tag x) (minimum (column_of rows x)) was (entry tag x) (sym least) refl refl (each x l)) in
          let own_entry = own_entry-stays x (minimum (column_of replaced x)) (λ e.
          stays-is (entry stable origin) (entry (row_of rows me) origin) (entry tag origin) (minimum (column_of replaced x)) (entry (row_of rows me) origin) (entry tag origin)
          (same ∙ sym least ∙ ap (entry stable) e) refl refl at_own) in
          least ∙ sym same ∙ sym (least-own_row x own_entry)))

-- a row replaced moves no least of a column where its entry moves none
pub column-stays : (rows : List (List ℕ)) (y : ℕ) (tag : List ℕ) (x : ℕ) → y < length rows
    → IsBelowChange (minimum (column_of rows x)) (entry (row_of rows y) x) (entry tag x) → minimum (column_of (set rows y tag) x) ≡ minimum (column_of rows x)
column-stays rows y tag x l stays = least-replaced y y tag rows l l x stays

-- ---- columns gone through from the first: the least of each so far is that of the rows, and the others are what they were

pub record AreRenewed (rows : List (List ℕ)) (before least : List ℕ) (x : ℕ) : Type 0 where
  pub members : length least ≡ length before
  pub done : (k : ℕ) → k < x → entry least k ≡ minimum (column_of rows k)
  pub rest : (k : ℕ) → x ≤ k → entry least k ≡ entry before k

module _ (rows : List (List ℕ)) (before least : List ℕ) (x : ℕ) (renewed : AreRenewed rows before least x) where
  pub one_stays : minimum (column_of rows x) ≡ entry before x → AreRenewed rows before least (x + 1)
  one_stays same = record {
    members = renewed.members;
    done = below_more (λ k. entry least k ≡ minimum (column_of rows k)) x renewed.done (renewed.rest x (omega arith) ∙ sym same);
    rest = λ k past. renewed.rest k (omega (arith, past));
  }

  pub one_is_computed : (v : ℕ) → x < length before → v ≡ minimum (column_of rows x) → AreRenewed rows before (set least x v) (x + 1)
  one_is_computed v l is = record {
    members = length-set least x v ∙ renewed.members;
    done = below_more (λ k. entry (set least x v) k ≡ minimum (column_of rows k)) x
        (λ k less. get_or-set_other least x k v 0 (omega (arith, less)) ∙ renewed.done k less) (get_or-set_at least x x v 0 refl (omega (arith, l, renewed.members)) ∙ is);
    rest = λ k past. get_or-set_other least x k v 0 (omega (arith, past)) ∙ renewed.rest k (omega (arith, past));
  }
