use Rattle.std.proofs.Common.{◌≡◌, ◌+◌, ◌-◌, ◌<◌, length, length-set, set, ℕ, subst, ap, ◌∙◌, arith}
use Rattle.std.specs.List.{insert}
use Rattle.std.proofs.lemmas.List.Edits.{length-insert}
use Rattle.op_base.specs.declared.message.Entry.{Entry}
use Rattle.polog.specs.Rows.{Table, with_rows, IsFreed, IsPutIn}
use Rattle.polog.proofs.Freed.{placed-in-freed, placed-in-one, placed-between, placed-among-more, length-freed}
use Rattle.polog.proofs.placing.place.Goals as goal
use Rattle.polog.proofs.placing.place.Goals.{then-kept-stand, else-kept-stand, then-kept-to, else-kept-to+then-to-stand-lt-FEW, else-kept-to+else-to-stand-lt-FEW}

pub returns-clause-placed : goal.returns-clause-placed
returns-clause-placed c =
    let e = c.args.entry in
    let number = c.args.stamp.number in
    let swept = c.args.swept in
    let old = c.args.rows.now in
    elim c.if-kept-stand.branch [
      | then-kept-stand v ↦ elim c.if-kept-to.branch [
        | then-kept-to w ↦ rw w.rows-is (placed-in-freed e number swept old w.set.new.self v.release.new.self v.if-kept-stand.true c.requires.end c.requires.places
            (subst (λ idle. IsFreed idle (swept.stand.end - (swept.kept + 1)) (swept.kept + 1) swept.stand.end old v.release.new.self) v.of.ensures v.release.ensures)
            (w.set.ensures ∙ ap (λ (t : Table). with_rows t (set t.rows swept.kept (number, e))) v.rows-is))
        | else-kept-to+then-to-stand-lt-FEW w ↦ absurd (omega (arith, v.if-kept-stand.true, w.if-kept-to.false, c.requires.end))
        | else-kept-to+else-to-stand-lt-FEW w ↦ absurd (omega (arith, v.if-kept-stand.true, w.if-kept-to.false, c.requires.end))
      ]
      | else-kept-stand v ↦ elim c.if-kept-to.branch [
        | then-kept-to w ↦ rw w.rows-is (placed-in-one e number swept old w.set.new.self (omega (arith, v.if-kept-stand.false)) w.if-kept-to.true c.requires.places
            (w.set.ensures ∙ ap (λ (t : Table). with_rows t (set t.rows swept.kept (number, e))) v.rows-is))
        | else-kept-to+then-to-stand-lt-FEW w ↦ rw w.rows-is (placed-between e number swept old w.insert.new.self (omega (arith, w.if-kept-to.false, c.requires.most, c.requires.end)) (omega (arith, w.if-kept-to.false, c.requires.most, c.requires.end))
            (w.insert.ensures ∙ ap (λ (t : Table). with_rows t (insert t.rows swept.kept (number, e))) v.rows-is))
        | else-kept-to+else-to-stand-lt-FEW w ↦ rw w.rows-is (placed-among-more e number swept old w.put_among_more-to.new.rows (omega (arith, w.if-kept-to.false, c.requires.most, c.requires.end)) (omega (arith, w.if-kept-to.false, c.requires.most, c.requires.end))
            (subst (λ t. IsPutIn swept.kept number e t w.put_among_more-to.new.rows) v.rows-is w.put_among_more-to.ensures.placed))
      ]
    ]

module _ (c : goal.Joined-kept-to) where
  -- what goes may be freed, which makes no row more
  same-room : c.if-kept-stand.rows.room ≡ c.args.rows.now.room
  same-room = elim c.if-kept-stand.branch [
    | then-kept-stand v ↦ ap (λ (t : Table). t.room) (v.rows-is ∙ v.release.ensures.rows)
    | else-kept-stand v ↦ ap (λ (t : Table). t.room) v.rows-is
  ]

  as-many : length c.if-kept-stand.rows.rows ≡ length c.args.rows.now.rows
  as-many = elim c.if-kept-stand.branch [
    | then-kept-stand v ↦ ap (λ (t : Table). length t.rows) v.rows-is
        ∙ length-freed v.of.result c.args.rows.now v.release.new.self (c.args.swept.kept + 1) c.args.swept.stand.end (omega (arith, v.if-kept-stand.true)) (omega (arith, c.requires.end, c.requires.places)) v.release.ensures
    | else-kept-stand v ↦ ap (λ (t : Table). length t.rows) v.rows-is
  ]

pub returns-clause-few : goal.returns-clause-few
returns-clause-few c few =
    let swept = c.args.swept in
    let old = c.args.rows.now in
    let many = as-many c in
    let room = same-room c in
    let put : ℕ × Entry = (c.args.stamp.number, c.args.entry) in
    elim c.if-kept-to.branch [
      | then-kept-to w ↦ rw w.rows-is (let same = length-set c.if-kept-stand.rows.rows swept.kept put in omega (arith, ap (λ (t : Table). length t.rows) w.set.ensures, same, many, few))
      | else-kept-to+then-to-stand-lt-FEW w ↦ rw w.rows-is (
          let one = length-insert c.if-kept-stand.rows.rows swept.kept put (omega (arith, many, c.requires.most, c.requires.end, c.requires.places)) in
          let free : length old.rows < old.room = c.requires.room (omega (arith, w.if-kept-to.false, c.requires.most, c.requires.end)) in
          omega (arith, ap (λ (t : Table). length t.rows) w.insert.ensures, one, many, free))
      | else-kept-to+else-to-stand-lt-FEW w ↦ rw w.rows-is (omega (arith, w.put_among_more-to.ensures.few, room))
    ]
