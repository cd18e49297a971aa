use Rattle.std.proofs.Common.{◌≡◌, ℕ, ◌+◌, ◌<◌, Bool, true, List, [], ◌∷◌, ◌++◌, length, take, drop, reverse, filter, IsTrue, refl, sym, ap, subst, ◌∙◌, arith}
use Rattle.op_base.specs.Message.{fits}
use Rattle.op_base.specs.declared.message.Entry.{Entry}
use Rattle.op_base.specs.declared.operation.Op.{Op}
use Rattle.causal_model.specs.Log.{message_of}
use Rattle.polog.specs.Order.{items_of}
use Rattle.polog.specs.Rows.{Table, IsLaid, IsSpread, is_live, live_rows, arrived, idle_of, free_number}
use Rattle.polog.specs.Standing.{IsLogged}
use Rattle.polog.specs.Value.{with_entry}
use Rattle.polog.proofs.Laid.{length-arrived, length-items}
use Rattle.polog.proofs.Orders.{filter-all}
use Rattle.polog.proofs.Placed.{placed-laid, placed-spread, placed-many, placed-arrived, roomy-live, roomy-spread, roomy-room, roomy-few}
use Rattle.polog.proofs.Prunes.{each-any, length-filter-le}
use Rattle.polog.proofs.Standing.{logged-is}
use Rattle.polog.proofs.polog.Polog.push.Goals as goal
use Rattle.polog.proofs.polog.Polog.push.Goals.{After-make_room, After-stand_of-stand, After-place-now}

module _ (c : After-make_room) where
  spread : IsSpread c.self.inside.n c.make_room.new.rows.rows
  spread = roomy-spread c.self.inside.n c.self.inside.rows c.make_room.new.rows c.make_room.ensures.rows c.self.invariant.3

pub stand_of-stand-requires-clause-ordered : goal.stand_of-stand-requires-clause-ordered
stand_of-stand-requires-clause-ordered c = (spread (goal.at.stand_of-stand-requires-clause-ordered c).After-make_room).ordered

pub stand_of-stand-requires-clause-behind : goal.stand_of-stand-requires-clause-behind
stand_of-stand-requires-clause-behind c = (spread (goal.at.stand_of-stand-requires-clause-behind c).After-make_room).behind

pub place-now-requires-clause-places : goal.place-now-requires-clause-places
place-now-requires-clause-places c = omega (arith, c.stand_of-stand.ensures.stand.span.places, length-items c.make_room.new.rows.rows)

module _ (c : After-stand_of-stand) where
  seen : length (live_rows c.self.inside.rows.rows) ≡ length c.args.self.now.entries
  seen = sym (length-arrived (live_rows c.self.inside.rows.rows)) ∙ ap (λ log. length log.entries) c.self.view_is

  room : c.self.inside.rows.room ≡ c.args.self.now.room
  room = ap (λ log. log.room) c.self.view_is

pub place-now-requires-clause-room : goal.place-now-requires-clause-room
place-now-requires-clause-room c = λ full.
    let here = (goal.at.place-now-requires-clause-room c).After-stand_of-stand in
    let same = roomy-room c.self.inside.n c.self.inside.rows c.make_room.new.rows c.make_room.ensures.rows in
    omega (arith, same, c.make_room.ensures.room (omega (arith, c.requires.room, seen here, room here, c.self.invariant.4)) c.self.invariant.5)

-- what the log's rows are with the entry
record HasPut (c : After-place-now) : Type 0 where
  laid : IsLaid c.self.inside.n (c.self.inside.next + 1) (live_rows c.place-now.new.rows.rows)
  spread : IsSpread c.self.inside.n c.place-now.new.rows.rows
  count : length (live_rows c.place-now.new.rows.rows) ≡ length (live_rows c.self.inside.rows.rows) + 1
  arrived : arrived (live_rows c.place-now.new.rows.rows) ≡ arrived (live_rows c.self.inside.rows.rows) ++ c.args.entry ∷ []
  room : c.place-now.new.rows.room ≡ c.self.inside.rows.room

has-put : (c : After-place-now) → HasPut c
has-put c =
    let n = c.self.inside.n in
    let old = c.self.inside.rows in
    let open_rows = c.make_room.new.rows in
    let rs = open_rows.rows in
    let e = c.args.entry in
    let p : ℕ × Entry → Bool = λ r. true in
    let stand = c.stand_of-stand.result in
    let stands = c.stand_of-stand.ensures.stand in
    let any = each-any (λ r. p r ≡ true) (λ r. refl) in
    let all = λ (xs : List (ℕ × Entry)). filter-all p xs (any xs) in
    let view : c.self.inside.n ≡ c.args.self.now.n = ap (λ log. log.n) c.self.view_is in
    let fit : IsTrue (fits n (message_of e)) = subst (λ n. IsTrue (fits n (message_of e))) (sym view) c.requires.fits in
    let tag_fits : (o : Op) → IsTrue (fits n (record { origin = e.origin; tag = e.tag; op = o })) = λ o. fit in
    let few : c.self.inside.next < free_number = let pushed : c.self.inside.next ≡ c.args.self.now.pushed = ap (λ log. log.pushed) c.self.view_is in omega (arith, c.requires.numbers, pushed) in
    let spread = roomy-spread n old open_rows c.make_room.ensures.rows c.self.invariant.3 in
    let live : live_rows rs ≡ live_rows old.rows = roomy-live n old open_rows c.make_room.ensures.rows in
    let laid = subst (IsLaid n c.self.inside.next) (sym live) c.self.invariant.2 in
    let placed = c.place-now.ensures.placed in
    let is = ap (λ (t : Table). t.rows) placed.rows in
    let front = sym (all (take stand.end rs)) in
    let left : filter p (live_rows rs) ≡ live_rows old.rows = all (live_rows rs) ∙ live in
    record {
      laid = placed-laid e.update.object p rs stand stands (any (take stand.from rs)) (any (drop stand.to rs)) rs stand.end front refl (idle_of e) refl n tag_fits spread c.self.inside.next e refl fit few placed.last placed.least placed.most placed.gap placed.free c.place-now.new.rows.rows is laid;
      spread = placed-spread e.update.object p rs stand stands (any (take stand.from rs)) (any (drop stand.to rs)) rs stand.end front refl (idle_of e) refl n tag_fits spread c.self.inside.next e refl fit few placed.last placed.least placed.most placed.gap placed.free c.place-now.new.rows.rows is;
      count = placed-many e.update.object p rs stand stands (any (take stand.from rs)) (any (drop stand.to rs)) rs stand.end front refl (idle_of e) refl n tag_fits spread c.self.inside.next e refl fit few placed.last placed.least placed.most placed.gap placed.free c.place-now.new.rows.rows is
          ∙ ap (λ (xs : List (ℕ × Entry)). length xs + 1) left;
      arrived = placed-arrived e.update.object p rs stand stands (any (take stand.from rs)) (any (drop stand.to rs)) rs stand.end front refl (idle_of e) refl n tag_fits spread c.self.inside.next e refl fit few placed.last placed.least placed.most placed.gap placed.free c.place-now.new.rows.rows is laid
          ∙ ap (λ xs. arrived xs ++ e ∷ []) left;
      room = ap (λ (t : Table). t.room) placed.rows ∙ roomy-room n old open_rows c.make_room.ensures.rows;
    }

pub overflow_add-self : goal.overflow_add-self
overflow_add-self c =
    let put = has-put (goal.at.overflow_add-self c).After-place-now in
    omega (arith, put.count, c.self.invariant.4, length-filter-le is_live c.place-now.new.rows.rows, c.len.ensures, c.len.type_inv)

pub invariant_of-self : goal.invariant_of-self
invariant_of-self c =
    let put = has-put (goal.at.invariant_of-self c).After-place-now in
    let many = roomy-few c.self.inside.n c.self.inside.rows c.make_room.new.rows c.make_room.ensures.rows in
    let same = roomy-room c.self.inside.n c.self.inside.rows c.make_room.new.rows c.make_room.ensures.rows in (
      c.self.invariant.0,
      c.self.invariant.1,
      put.laid,
      put.spread,
      omega (arith, put.count, c.self.invariant.4),
      omega (arith, put.room, c.place-now.ensures.few (omega (arith, many, same, c.self.invariant.5)), same),
      omega (arith, put.room, c.self.invariant.6),
    )

pub returns-clause-put : goal.returns-clause-put
returns-clause-put c =
    let put = has-put (goal.at.returns-clause-put c).After-place-now in
    let inside = c.self.inside in
    (λ t. record { n = inside.n; room = put.room t; pushed = inside.next + 1; entries = put.arrived t; stripped = reverse (items_of inside.leaving.rows) })
    ∙ ap (λ log. with_entry log c.args.entry) c.self.view_is

pub returns-clause-logged : goal.returns-clause-logged
returns-clause-logged c keeps covers n me ms m same kept stands =
    subst (IsLogged keeps covers n me ms m) (sym (returns-clause-put c)) (logged-is keeps covers n me ms m c.args.self.now c.args.entry same kept stands)
