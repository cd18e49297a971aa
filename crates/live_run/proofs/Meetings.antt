-- Once couriers' passes are joined, what each has seen posted was sent.
use Rattle.std.proofs.Common.{◌≡◌, ℕ, suc, ◌+◌, ◌-◌, ◌<◌, ◌≤◌, List, [], ◌∷◌, ◌++◌, length, get_or, All, refl, sym, ap, ap₂, subst, ◌∙◌, arith}
use Rattle.std.specs.List.{flat_map, Contains, range_with_len}
use Rattle.std.proofs.Math.Seq.{take-append_seam}
use Rattle.std.proofs.lemmas.List.{map-append}
use Rattle.std.proofs.lemmas.List.Elements.{All-nil, All-cons, All-head, All-append, All-take}
use Rattle.std.proofs.lemmas.List.FromFn.{length-range_with_len, get_or-range_with_len}
use Rattle.causal_model.specs.declared.note.Note.{Note}
use Rattle.causal_model.specs.declared.note.Note.TheVariants as note
use Rattle.mailboxes.specs.Passes.{seen}
use Rattle.mailboxes.specs.Seen.{line, numbers}
use Rattle.mailboxes.specs.declared.mailbox.MailPass.{MailPass}
use Rattle.mailboxes.specs.declared.seen.Line.{Line}
use Rattle.mailboxes.specs.declared.seen.Posted.{Posted}
use Rattle.live_run.specs.Mails.{SentBy, RollWasSent}
use Rattle.live_run.specs.Meeting.{WhatWasMetWasSent}
use Rattle.live_run.specs.declared.letter.Letter.{Letter}
use Rattle.live_run.proofs.Ended.{some_of}
use Rattle.live_run.proofs.Rolls.{posted_was_sent}

in_range : (a n k : ℕ) → a ≤ k → k < a + n → Contains (range_with_len a n) k
in_range a n k low high = (k - a, omega (arith, low, high, length-range_with_len a n), get_or-range_with_len a n (k - a) k (omega (arith, low, high)) ∙ omega (arith, low))

abbrev Row : Type 0
Row = List (MailPass Letter)

abbrev SentOf : List Note → List (Line Letter) → Type 0
SentOf notes roll = All (λ (l : Line Letter). All (λ (letter : Letter). Contains notes (note.Sent letter.message)) l.items) roll

module _ (journals : ℕ → List Note) (x : ℕ) (first : MailPass Letter) where
  abbrev rolls : List Row → List (Line Letter)
  rolls rows = flat_map (λ (row : Row). (seen (get_or row x first)).roll) rows

  -- the roll of a courier has its line alone
  line_was_sent : (k : ℕ) (roll : List (Line Letter)) → numbers roll ≡ (k + 1) ∷ [] → SentOf (journals k) roll → RollWasSent journals roll
  line_was_sent k [] one sent = All-nil (λ (l : Line Letter). All (SentBy journals l.by) l.items)
  line_was_sent k (l ∷ []) one sent =
      let by : suc k ≡ l.by = omega (arith, ap (λ ns. get_or ns 0 0) one) in
      All-cons (λ (y : Line Letter). All (SentBy journals y.by) y.items) l []
      (subst (λ b. All (SentBy journals b) l.items) by (All-head (λ (y : Line Letter). All (λ (letter : Letter). Contains (journals k) (note.Sent letter.message)) y.items) l [] sent))
      (All-nil (λ (y : Line Letter). All (SentBy journals y.by) y.items))
  line_was_sent k (l ∷ (m ∷ roll)) one sent = let no : suc (suc (length (numbers roll))) ≡ 1 = ap length one in absurd (omega (arith, no))

  abbrev Each : ℕ → List Row → Type 0
  Each start rows = (k : ℕ) (d : Row) → k < length rows
      → (numbers (seen (get_or (get_or rows k d) x first)).roll ≡ (start + k + 1) ∷ []) × SentOf (journals (start + k)) (seen (get_or (get_or rows k d) x first)).roll

  each_later : (start : ℕ) (row : Row) (rows : List Row) → Each start (row ∷ rows) → Each (start + 1) rows
  each_later start row rows each k d l =
      let here = each (suc k) d (omega (arith, l)) in
      let same : start + suc k ≡ start + 1 + k = omega arith in
      (here.0 ∙ ap (λ (j : ℕ). (j + 1) ∷ []) same, subst (λ j. SentOf (journals j) (seen (get_or (get_or rows k d) x first)).roll) same here.1)

  each_here : (start : ℕ) (row : Row) (rows : List Row) → Each start (row ∷ rows) → (numbers (seen (get_or row x first)).roll ≡ (start + 1) ∷ []) × SentOf (journals start) (seen (get_or row x first)).roll
  each_here start row rows each =
      let here = each 0 row (omega arith) in
      let same : start + 0 ≡ start = omega arith in
      (here.0 ∙ ap (λ (j : ℕ). (j + 1) ∷ []) same, subst (λ j. SentOf (journals j) (seen (get_or row x first)).roll) same here.1)

  numbers_of : (start : ℕ) (rows : List Row) → Each start rows → numbers (rolls rows) ≡ range_with_len (start + 1) (length rows)
  numbers_of start [] each = refl
  numbers_of start (row ∷ rows) each =
      map-append (λ (l : Line Letter). l.by) (seen (get_or row x first)).roll (rolls rows)
      ∙ ap₂ (λ (a b : List ℕ). a ++ b) (each_here start row rows each).0 (numbers_of (start + 1) rows (each_later start row rows each))

  rolls_were_sent : (start : ℕ) (rows : List Row) → Each start rows → RollWasSent journals (rolls rows)
  rolls_were_sent start [] each = All-nil (λ (l : Line Letter). All (SentBy journals l.by) l.items)
  rolls_were_sent start (row ∷ rows) each =
      let here = each_here start row rows each in
      All-append (λ (l : Line Letter). All (SentBy journals l.by) l.items) (seen (get_or row x first)).roll (rolls rows)
      (line_was_sent start (seen (get_or row x first)).roll here.0 here.1) (rolls_were_sent (start + 1) rows (each_later start row rows each))

pub what_was_met_was_sent : WhatWasMetWasSent
what_was_met_was_sent journals mailboxes x rows first inside met mails k d l =
    let box = some_of mailboxes x inside in
    let each : Each journals x first 0 rows = λ j row below.
    let mail = (mails j row below).each x box first inside in
    let same : j ≡ 0 + j = omega arith in
    (mail.one_line ∙ ap (λ (i : ℕ). (i + 1) ∷ []) same, subst (λ i. SentOf (journals i) (seen (get_or (get_or rows j row) x first)).roll) same mail.was_sent) in
    let all_numbers : numbers (seen first).roll ≡ range_with_len 0 (suc (length rows)) = ap numbers met.roll ∙ ap (λ (ns : List ℕ). 0 ∷ ns) (numbers_of journals x first 0 rows each) in
    let knows : (j : ℕ) → j ≤ (seen first).forks → Contains (numbers (seen first).roll) j = λ j few. subst (λ ns. Contains ns j) (sym all_numbers) (in_range 0 (suc (length rows)) j (omega arith) (omega (arith, few, met.forks_are))) in
    let none : All (SentBy journals 0) [] = All-nil (SentBy journals 0) in
    let sent : RollWasSent journals (seen first).roll = subst (RollWasSent journals) (sym met.roll)
    (All-cons (λ (y : Line Letter). All (SentBy journals y.by) y.items) (line 0 []) (rolls journals x first rows) none (rolls_were_sent journals x first 0 rows each)) in
    let all = posted_was_sent journals (seen first) (met.number, knows) first.exact first.numbered sent in
    let begins = met.begins k d l in
    let P : Posted Letter → Type 0 = λ p. SentBy journals p.by p.item in
    let had = (seen (get_or (get_or rows k d) x first)).posted in
    subst (All P) (take-append_seam had begins.0) (All-take P (length had) (had ++ begins.0) (subst (All P) begins.1 all))
