use Rattle.std.proofs.Common.{◌≡◌, ℕ, ◌+◌, ◌<◌, ◌++◌, ◌∷◌, [], List, length, set, get_or, refl, sym, ap, subst, ◌∙◌, arith}
use Rattle.std.proofs.lemmas.List.{get_or_read}
use Rattle.op_base.specs.declared.message.Entry.{Entry}
use Rattle.polog.specs.Marks.{AreMarked, mark_of}
use Rattle.polog.specs.Order.{rows}
use Rattle.polog.specs.Rows.{Table, with_rows, free_number, idle_of, IsFreed}
use Rattle.polog.specs.declared.marks.Stamp.{Stamp}
use Rattle.polog.proofs.Freed.{freed-one}
use Rattle.polog.proofs.Stamps.{as_long, mark-at, marked-set, marked-more, idle-unmarked}
use Rattle.polog.proofs.Tables.{as_many, fewer, row-seen, rows-join, rows-set}
use Rattle.polog.proofs.rows.Rows.move_out.Goals as goal
use Rattle.polog.proofs.rows.Rows.move_out.Goals.{After-push_reserved-2}

pub index-requires : goal.index-requires
index-requires c =
    let inside = c.self.inside in
    let many = as_many inside.room inside.stamps.items inside.entries.items c.args.self.now c.self.invariant.0 c.self.view_is in
    omega (arith, many, c.requires.place, inside.entries.ok.0)

pub index_mut-requires : goal.index_mut-requires
index_mut-requires c =
    let inside = c.self.inside in
    let many = as_many inside.room inside.stamps.items inside.entries.items c.args.self.now c.self.invariant.0 c.self.view_is in
    omega (arith, many, c.requires.place, inside.entries.ok.0)

pub push_reserved-requires : goal.push_reserved-requires
push_reserved-requires c =
    let inside = c.into.inside in
    let free = fewer inside.room inside.stamps.items inside.entries.items c.args.into.now c.into.invariant.0 c.into.view_is c.requires.room in
    omega (arith, free, c.into.invariant.1, inside.entries.ok.0)

pub index-requires-2 : goal.index-requires-2
index-requires-2 c =
    let inside = c.self.inside in
    let many = as_many inside.room inside.stamps.items inside.entries.items c.args.self.now c.self.invariant.0 c.self.view_is in
    omega (arith, many, c.requires.place, c.self.invariant.0, inside.stamps.ok.0)

pub push_reserved-requires-2 : goal.push_reserved-requires-2
push_reserved-requires-2 c =
    let inside = c.into.inside in
    let free = fewer inside.room inside.stamps.items inside.entries.items c.args.into.now c.into.invariant.0 c.into.view_is c.requires.room in
    omega (arith, free, c.into.invariant.2, c.into.invariant.0, inside.stamps.ok.0)

pub index_mut-requires-2 : goal.index_mut-requires-2
index_mut-requires-2 c =
    let inside = c.self.inside in
    let many = as_many inside.room inside.stamps.items inside.entries.items c.args.self.now c.self.invariant.0 c.self.view_is in
    omega (arith, many, c.requires.place, c.self.invariant.0, inside.stamps.ok.0)

module _ (c : After-push_reserved-2) where
  inside : c.args.at < length c.self.inside.entries.items
  inside =
      let own = c.self.inside in
      let many = as_many own.room own.stamps.items own.entries.items c.args.self.now c.self.invariant.0 c.self.view_is in
      omega (arith, many, c.requires.place)

  -- the entry and the stamp that are moved
  entry-is : (e : Entry) → c.replace-entry.result ≡ get_or c.self.inside.entries.items c.args.at e
  entry-is e = c.replace-entry.ensures.value ∙ get_or_read c.self.inside.entries.items c.args.at c.index_mut.result.now inside c.index_mut.ensures.value e

  stamp-is : (s : Stamp) → c.index-2.result.now ≡ get_or c.self.inside.stamps.items c.args.at s
  stamp-is s = let same = c.self.invariant.0 in let here = inside in get_or_read c.self.inside.stamps.items c.args.at c.index-2.result.now (omega (arith, here, same)) c.index-2.ensures s

  row-is : (d : ℕ × Entry) → (c.index-2.result.now.number, c.replace-entry.result) ≡ get_or c.args.self.now.rows c.args.at d
  row-is d =
      let own = c.self.inside in
      let s : Stamp = record { number = d.0; mark = 0 } in
      (λ i. ((stamp-is s i).number, entry-is d.1 i)) ∙ sym (row-seen own.room own.stamps.items own.entries.items c.args.self.now c.args.at s d.1 c.self.invariant.0 c.self.view_is)

  -- what is left in their place
  put : c.replace-entry.new.dest ≡ c.entry.result
  put = c.replace-entry.ensures.after

  unmarked : 0 ≡ mark_of c.replace-entry.new.dest.update.act
  unmarked = idle-unmarked c.of-idle.result.object.kind ∙ ap mark_of (sym c.entry.ensures.act) ∙ ap (λ (e : Entry). mark_of e.update.act) (sym put)

  left : (number : ℕ) → AreMarked (set c.self.inside.stamps.items c.args.at (record { number = number; mark = 0 })) (set c.self.inside.entries.items c.args.at c.replace-entry.new.dest)
  left number =
      let ss = c.self.inside.stamps.items in
      let es = c.self.inside.entries.items in
      let s : Stamp = record { number = number; mark = 0 } in
      let e = c.replace-entry.new.dest in
      marked-set ss (set ss c.args.at s) es (set es c.args.at e) c.self.invariant.3 c.args.at s e unmarked refl refl

  -- and what the others have
  fit : AreMarked c.push_reserved-2.new.self.items c.push_reserved.new.self.items
  fit =
      let own = c.self.inside in
      let s : Stamp = record { number = 0; mark = 0 } in
      let e = c.replace-entry.result in
      let mark = ap (λ (s : Stamp). s.mark) (stamp-is s) ∙ mark-at own.stamps.items own.entries.items c.self.invariant.3 c.args.at s e inside ∙ ap (λ (e : Entry). mark_of e.update.act) (sym (entry-is e)) in
      marked-more c.into.inside.stamps.items c.push_reserved-2.new.self.items c.into.inside.entries.items c.push_reserved.new.self.items c.into.invariant.3 c.index-2.result.now e mark
      c.push_reserved-2.ensures.items c.push_reserved.ensures.items

pub invariant_of-self : goal.invariant_of-self
invariant_of-self c =
    let marked = left (goal.at.invariant_of-self c).After-push_reserved-2 in
    (as_long _ _ (marked _), c.self.invariant.1, c.self.invariant.2, marked _)

pub invariant_of-into : goal.invariant_of-into
invariant_of-into c =
    let marked = fit (goal.at.invariant_of-into c).After-push_reserved-2 in (
      as_long c.push_reserved-2.new.self.items c.push_reserved.new.self.items marked,
      omega (arith, c.into.invariant.1, c.push_reserved.ensures.capacity),
      omega (arith, c.into.invariant.2, c.push_reserved-2.ensures.capacity),
      marked,
    )

pub returns-clause-freed : goal.returns-clause-freed
returns-clause-freed c d =
    let here = (goal.at.returns-clause-freed c).After-push_reserved-2 in
    let own = c.self.inside in
    let old = c.args.self.now in
    let e = c.replace-entry.new.dest in
    let was = ap (λ (r : ℕ × Entry). r.1) (row-is here d) in
    let idle : c.of-idle.result ≡ idle_of (get_or old.rows c.args.at d).1 =
    c.of-idle.ensures ∙ ap idle_of (get_or_read own.entries.items c.args.at c.index.result.now (inside here) c.index.ensures c.replace-entry.result ∙ sym (entry-is here c.replace-entry.result) ∙ was) in
    let made : List (ℕ × Entry) → Table = λ rs. record { room = own.room; rows = rs } in
    let now = ap made (rows-set c.args.at own.stamps.items own.entries.items (record { number = free_number; mark = 0 }) e) ∙ ap (λ t. with_rows t (set t.rows c.args.at (free_number, e))) c.self.view_is in
    let long : c.args.at < length old.rows = c.requires.place in
    subst (λ i. IsFreed i 1 c.args.at (c.args.at + 1) old (made (rows (set own.stamps.items c.args.at (record { number = free_number; mark = 0 })) (set own.entries.items c.args.at e)))) idle
    (subst (IsFreed c.of-idle.result 1 c.args.at (c.args.at + 1) old) (sym now)
    (freed-one c.of-idle.result old e (ap (λ (f : Entry). f.origin) (put here) ∙ c.entry.ensures.origin) (ap (λ (f : Entry). f.tag) (put here) ∙ c.entry.ensures.tag)
    (ap (λ (f : Entry). f.update.object) (put here) ∙ c.entry.ensures.object) (ap (λ (f : Entry). f.update.act) (put here) ∙ c.entry.ensures.act) c.args.at long))

pub returns-clause-moved : goal.returns-clause-moved
returns-clause-moved c d =
    let here = (goal.at.returns-clause-moved c).After-push_reserved-2 in
    let inside = c.into.inside in
    let grown = (λ t. rows (c.push_reserved-2.ensures.items t) (c.push_reserved.ensures.items t))
    ∙ rows-join inside.stamps.items (c.index-2.result.now ∷ []) inside.entries.items (c.replace-entry.result ∷ []) c.into.invariant.0 in
    let made : List (ℕ × Entry) → Table = λ rs. record { room = inside.room; rows = rs } in
    ap made grown ∙ (λ t. with_rows (c.into.view_is t) ((c.into.view_is t).rows ++ row-is here d t ∷ []))
