use Rattle.std.proofs.Common.{◌≡◌, ℕ, ◌+◌, ◌<◌, Bool, List, [], ◌∷◌, ◌++◌, length, reverse, filter, IsTrue, refl, sym, ap, subst, ◌∙◌, arith}
use Rattle.op_base.specs.Message.{fits}
use Rattle.op_base.specs.declared.message.Entry.{Entry}
use Rattle.op_base.specs.declared.operation.Op.{Op}
use Rattle.op_base.specs.declared.operation.Op.TheVariants as op
use Rattle.op_base.specs.declared.operation.Update.{Update}
use Rattle.causal_model.specs.Log.{message_of}
use Rattle.polog.specs.Order.{items_of}
use Rattle.polog.specs.Rows.{Table, IsLaid, IsSpread, is_live, live_rows, arrived, idle_of, free_number}
use Rattle.polog.specs.Standing.{IsLogged}
use Rattle.polog.specs.Value.{Log, with_entry, with_entries, with_update, without_covered, stays}
use Rattle.polog.proofs.Fitting.{fits-length}
use Rattle.polog.proofs.Laid.{arrived-filter, length-arrived}
use Rattle.polog.proofs.Placed.{went, placed-laid, placed-spread, placed-many, placed-arrived, roomy-live, roomy-spread, roomy-room, roomy-few}
use Rattle.polog.proofs.Prunes.{noop-leaves-all, length-filter-le}
use Rattle.polog.proofs.Standing.{pruned-is, logged-is}
use Rattle.polog.proofs.polog.Polog.take_in.Given as given
use Rattle.polog.proofs.polog.Polog.take_in.Goals as goal
use Rattle.polog.proofs.polog.Polog.take_in.Goals.{After-sweep_object-swept, After-place-stand}

pub returns-in_default-clause-put : goal.returns-in_default-clause-put
returns-in_default-clause-put g c =
    let covers = g.T.TypeRule.covers c.args.rule.now in
    let m = c.args.message.now in
    let log = c.args.self.now in
    sym (ap (λ o. with_update m.origin m.tag o (without_covered log covers m)) c.in_default.is ∙ ap (with_entries log) (noop-leaves-all covers m c.in_default.is log.entries))

pub sweep_object-swept-requires-clause-spread : goal.sweep_object-swept-requires-clause-spread
sweep_object-swept-requires-clause-spread g c =
    let members = ap (λ log. log.n) c.self.view_is ∙ sym (fits-length c.args.self.now.n c.args.message.now c.requires.fits) in
    subst (λ n. IsSpread n c.make_room.new.rows.rows) members (roomy-spread c.self.inside.n c.self.inside.rows c.make_room.new.rows c.make_room.ensures.rows c.self.invariant.3)

module _ (g : given.Over) (c : After-sweep_object-swept g) where
  abbrev p : ℕ × Entry → Bool
  p r = stays (g.T.TypeRule.covers c.args.rule.now) c.args.message.now r.1

  abbrev rs : List (ℕ × Entry)
  rs = c.make_room.new.rows.rows

  live : live_rows rs ≡ live_rows c.self.inside.rows.rows
  live = roomy-live c.self.inside.n c.self.inside.rows c.make_room.new.rows c.make_room.ensures.rows

  spread : IsSpread c.self.inside.n rs
  spread = roomy-spread c.self.inside.n c.self.inside.rows c.make_room.new.rows c.make_room.ensures.rows c.self.invariant.3

  tag_fits : (o : Op) → IsTrue (fits c.self.inside.n (record { origin = c.args.message.now.origin; tag = c.args.message.now.tag; op = o }))
  tag_fits o = subst (λ n. IsTrue (fits n (record { origin = c.args.message.now.origin; tag = c.args.message.now.tag; op = o }))) (sym (ap (λ log. log.n) c.self.view_is)) c.requires.fits

  -- how many are left of the log's entries
  left : length (filter p (live_rows rs)) ≡ length (filter (stays (g.T.TypeRule.covers c.args.rule.now) c.args.message.now) c.args.self.now.entries)
  left =
      let q = stays (g.T.TypeRule.covers c.args.rule.now) c.args.message.now in
      ap (λ xs. length (filter p xs)) live ∙ sym (length-arrived (filter p (live_rows c.self.inside.rows.rows))) ∙ ap length (arrived-filter q (live_rows c.self.inside.rows.rows))
      ∙ ap (λ (log : Log). length (filter q log.entries)) c.self.view_is

  many : length (live_rows rs) + c.sweep_object-swept.result.kept ≡ length (filter p (live_rows rs)) + c.sweep_object-swept.result.stand.end
  many =
      let swept = c.sweep_object-swept in
      let e = swept.ensures in
      let m = c.args.message.now in
      went c.in-Update.update.object p rs swept.result.stand e.stand e.others e.rest swept.new.rows.rows swept.result.kept e.kept e.behind (record { origin = m.origin; tag = m.tag; object = c.in-Update.update.object }) refl
      c.self.inside.n tag_fits spread (omega (arith, e.most, e.stand.most, e.places)) (omega (arith, e.stand.most, e.places, e.long))

pub place-stand-requires-clause-room : goal.place-stand-requires-clause-room
place-stand-requires-clause-room g c = λ full.
    let here = (goal.at.place-stand-requires-clause-room g c).After-sweep_object-swept in
    let e = c.sweep_object-swept.ensures in
    let same = roomy-room c.self.inside.n c.self.inside.rows c.make_room.new.rows c.make_room.ensures.rows in
    let room : c.self.inside.rows.room ≡ c.args.self.now.room = ap (λ log. log.room) c.self.view_is in
    let few : c.self.inside.live < c.self.inside.rows.room = omega (arith, c.self.invariant.4, ap length (live g here), many g here, left g here, c.requires.room, room, full, e.most, e.stand.most) in
    omega (arith, e.long, e.room, same, c.make_room.ensures.room few c.self.invariant.5)

-- what the log's rows are with the entry
record HasPut (g : given.Over) (c : After-place-stand g) (e : Entry) (left : List (ℕ × Entry)) : Type 0 where
  laid : IsLaid c.self.inside.n (c.self.inside.next + 1) (live_rows c.place-stand.new.rows.rows)
  spread : IsSpread c.self.inside.n c.place-stand.new.rows.rows
  count : length (live_rows c.place-stand.new.rows.rows) ≡ length left + 1
  arrived : arrived (live_rows c.place-stand.new.rows.rows) ≡ arrived left ++ e ∷ []
  room : c.place-stand.new.rows.room ≡ c.self.inside.rows.room

module _ (g : given.Over) (c : After-place-stand g) where
  abbrev entry : Entry
  entry = record { origin = c.args.message.now.origin; tag = c.args.message.now.tag; update = c.in-Update-replace.update }

  has : c.args.message.now.op ≡ op.Update c.in-Update-replace.update
  has = sym c.replace.ensures.value ∙ c.in-Update-replace.is

  same : c.in-Update-replace.update ≡ c.in-Update.update
  same = let both : op.Update c.in-Update-replace.update ≡ op.Update c.in-Update.update = sym has ∙ c.in-Update.is in cc

  of_message : message_of entry ≡ c.args.message.now
  of_message = ap (λ o. record { origin = c.args.message.now.origin; tag = c.args.message.now.tag; op = o }) (sym has)

  has-put : HasPut g c entry (filter (λ r. stays (g.T.TypeRule.covers c.args.rule.now) c.args.message.now r.1) (live_rows c.self.inside.rows.rows))
  has-put =
      let n = c.self.inside.n in
      let old = c.self.inside.rows in
      let rs = c.make_room.new.rows.rows in
      let m = c.args.message.now in
      let p : ℕ × Entry → Bool = λ r. stays (g.T.TypeRule.covers c.args.rule.now) m r.1 in
      let swept = c.sweep_object-swept in
      let e = swept.ensures in
      let stand = swept.result.stand in
      let object = c.in-Update.update.object in
      let own : c.in-Update-replace.update.object ≡ object = ap (λ (u : Update). u.object) same in
      let view : n ≡ c.args.self.now.n = ap (λ log. log.n) c.self.view_is in
      let fit : IsTrue (fits n (message_of entry)) = subst (λ n. IsTrue (fits n (message_of entry))) (sym view) (subst (λ m. IsTrue (fits c.args.self.now.n m)) (sym of_message) c.requires.fits) in
      let tag_fits : (o : Op) → IsTrue (fits n (record { origin = m.origin; tag = m.tag; op = o })) = λ o. fit in
      let few : c.self.inside.next < free_number = let pushed : c.self.inside.next ≡ c.args.self.now.pushed = ap (λ log. log.pushed) c.self.view_is in omega (arith, c.requires.numbers, pushed) in
      let spread = roomy-spread n old c.make_room.new.rows c.make_room.ensures.rows c.self.invariant.3 in
      let live = roomy-live n old c.make_room.new.rows c.make_room.ensures.rows in
      let laid = subst (IsLaid n c.self.inside.next) (sym live) c.self.invariant.2 in
      let placed = c.place-stand.ensures.placed in
      let now = c.place-stand.new.rows in
      let is = ap (λ (t : Table). t.rows) placed.rows in
      let sw = swept.new.rows.rows in
      let kept = swept.result.kept in
      record {
        laid = placed-laid object p rs stand e.stand e.others e.rest sw kept e.kept e.behind (idle_of entry) own n tag_fits spread c.self.inside.next entry own fit few placed.last placed.least placed.most placed.gap placed.free now.rows is laid;
        spread = placed-spread object p rs stand e.stand e.others e.rest sw kept e.kept e.behind (idle_of entry) own n tag_fits spread c.self.inside.next entry own fit few placed.last placed.least placed.most placed.gap placed.free now.rows is;
        count = placed-many object p rs stand e.stand e.others e.rest sw kept e.kept e.behind (idle_of entry) own n tag_fits spread c.self.inside.next entry own fit few placed.last placed.least placed.most placed.gap placed.free now.rows is
            ∙ ap (λ xs. length (filter p xs) + 1) live;
        arrived = placed-arrived object p rs stand e.stand e.others e.rest sw kept e.kept e.behind (idle_of entry) own n tag_fits spread c.self.inside.next entry own fit few placed.last placed.least placed.most placed.gap placed.free now.rows is laid
            ∙ ap (λ xs. arrived (filter p xs) ++ entry ∷ []) live;
        room = ap (λ (t : Table). t.room) placed.rows ∙ e.room ∙ roomy-room n old c.make_room.new.rows c.make_room.ensures.rows;
      }

  -- the log with the entry
  put : record { n = c.self.inside.n; room = c.place-stand.new.rows.room; pushed = c.self.inside.next + 1; entries = arrived (live_rows c.place-stand.new.rows.rows); stripped = reverse (items_of c.self.inside.leaving.rows) }
      ≡ with_entry (without_covered c.args.self.now (g.T.TypeRule.covers c.args.rule.now) c.args.message.now) entry
  put =
      let q = stays (g.T.TypeRule.covers c.args.rule.now) c.args.message.now in
      let inside = c.self.inside in
      let made = has-put in
      (λ t. record { n = inside.n; room = made.room t; pushed = inside.next + 1; entries = (made.arrived ∙ ap (λ es. es ++ entry ∷ []) (arrived-filter q (live_rows inside.rows.rows))) t; stripped = reverse (items_of inside.leaving.rows) })
      ∙ ap (λ log. with_entry (with_entries log (filter q log.entries)) entry) c.self.view_is

pub overflow_sub-self-in-Update-replace : goal.overflow_sub-self-in-Update-replace
overflow_sub-self-in-Update-replace g c =
    let here = (goal.at.overflow_sub-self-in-Update-replace g c).After-sweep_object-swept in
    omega (arith, many g here, ap length (live g here), c.self.invariant.4)

pub overflow_add-self : goal.overflow_add-self
overflow_add-self g c =
    let before = (goal.at.overflow_add-self g c).After-sweep_object-swept in
    let here = (goal.at.overflow_add-self g c).After-place-stand in
    let made = has-put g here in
    omega (arith, many g before, ap length (live g before), ap (λ xs. length (filter (p g before) xs)) (live g before), made.count, c.self.invariant.4, length-filter-le is_live c.place-stand.new.rows.rows, c.len.ensures, c.len.type_inv, c.sweep_object-swept.ensures.most)

pub invariant_of-self : goal.invariant_of-self
invariant_of-self g c =
    let before = (goal.at.invariant_of-self g c).After-sweep_object-swept in
    let made = has-put g (goal.at.invariant_of-self g c).After-place-stand in
    let few = roomy-few c.self.inside.n c.self.inside.rows c.make_room.new.rows c.make_room.ensures.rows in
    let same = roomy-room c.self.inside.n c.self.inside.rows c.make_room.new.rows c.make_room.ensures.rows in
    let e = c.sweep_object-swept.ensures in (
      c.self.invariant.0,
      c.self.invariant.1,
      made.laid,
      made.spread,
      omega (arith, many g before, ap length (live g before), ap (λ xs. length (filter (p g before) xs)) (live g before), made.count, c.self.invariant.4, e.most),
      omega (arith, made.room, c.place-stand.ensures.few (omega (arith, few, same, e.long, e.room, c.self.invariant.5)), same, e.room),
      omega (arith, made.room, c.self.invariant.6),
    )

pub returns-in-Update-replace-clause-put : goal.returns-in-Update-replace-clause-put
returns-in-Update-replace-clause-put g c =
    let here = (goal.at.returns-in-Update-replace-clause-put g c).After-place-stand in
    let m = c.args.message.now in
    put g here ∙ sym (ap (λ o. with_update m.origin m.tag o (without_covered c.args.self.now (g.T.TypeRule.covers c.args.rule.now) m)) (has g here))

pub returns-in-Update-replace-clause-taken_in : goal.returns-in-Update-replace-clause-taken_in
returns-in-Update-replace-clause-taken_in g c keeps n me ms kept stands =
    let here = (goal.at.returns-in-Update-replace-clause-taken_in g c).After-place-stand in
    let covers = g.T.TypeRule.covers c.args.rule.now in
    let m = c.args.message.now in
    subst (IsLogged keeps covers n me ms m) (sym (put g here))
    (logged-is keeps covers n me ms m (without_covered c.args.self.now covers m) (entry g here) (of_message g here) kept (pruned-is keeps covers n me ms m c.args.self.now stands))
