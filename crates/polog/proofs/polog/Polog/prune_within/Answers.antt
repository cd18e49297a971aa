use Rattle.std.proofs.Common.{rules, ◌≡◌, ℕ, ◌+◌, ◌-◌, Bool, List, length, reverse, filter, IsTrue, refl, sym, ap, subst, ◌∙◌, arith}
use Rattle.op_base.specs.Message.{fits}
use Rattle.op_base.specs.declared.message.Entry.{Entry}
use Rattle.op_base.specs.declared.operation.Op.{Op}
use Rattle.polog.specs.Marks.{mark_of, Reaches}
use Rattle.polog.specs.Order.{items_of}
use Rattle.polog.specs.Rows.{Table, IsLaid, IsSpread, arrived, live_rows}
use Rattle.polog.specs.Standing.{IsPruned}
use Rattle.polog.specs.Value.{Log, with_entries, stays}
use Rattle.polog.specs.declared.idle.Idle.{Idle}
use Rattle.polog.specs.declared.reach.Reach.TheVariants as reaches
use Rattle.polog.proofs.Fitting.{fits-length}
use Rattle.polog.proofs.Laid.{laid-filter, arrived-filter}
use Rattle.polog.proofs.Freed.{length-freed}
use Rattle.polog.proofs.Placed.{went, freed-live, freed-spread}
use Rattle.polog.proofs.Prunes.{noop-leaves-all, nothing-leaves-all}
use Rattle.polog.proofs.Standing.{pruned-is}
use Rattle.polog.proofs.polog.Polog.prune_within.Given as given
use Rattle.polog.proofs.polog.Polog.prune_within.Goals as goal
use Rattle.polog.proofs.polog.Polog.prune_within.Goals.{After-free_gone}

pub sweep_object-swept-requires-clause-spread : goal.sweep_object-swept-requires-clause-spread
sweep_object-swept-requires-clause-spread g c =
    let members = ap (λ log. log.n) c.self.view_is ∙ sym (fits-length c.args.self.now.n c.args.message.now c.requires.fits) in
    subst (λ n. IsSpread n c.self.inside.rows.rows) members c.self.invariant.3

pub sweep_object-swept-requires-clause-mark : goal.sweep_object-swept-requires-clause-mark
sweep_object-swept-requires-clause-mark g c = sym (c.mark_of-mark.ensures ∙ ap mark_of c.act.ensures)

pub returns-in_default-clause-kept : goal.returns-in_default-clause-kept
returns-in_default-clause-kept g c =
    sym (ap (with_entries c.args.self.now) (noop-leaves-all (g.T.TypeRule.covers c.args.rule.now) c.args.message.now c.in_default.is c.args.self.now.entries))

pub returns-in_default-clause-pruned : goal.returns-in_default-clause-pruned
returns-in_default-clause-pruned g c keeps n me ms stands =
    let covers = g.T.TypeRule.covers c.args.rule.now in
    subst (IsPruned keeps covers n me ms c.args.message.now) (sym (returns-in_default-clause-kept g c)) (pruned-is keeps covers n me ms c.args.message.now c.args.self.now stands)

pub returns-then-eq-clause-kept : goal.returns-then-eq-clause-kept
returns-then-eq-clause-kept g c =
    let covers = g.T.TypeRule.covers c.args.rule.now in
    let m = c.args.message.now in
    let nothing : c.args.reach ≡ reaches.Nothing = search rules in
    sym (ap (with_entries c.args.self.now) (nothing-leaves-all covers m (subst (λ reach. Reaches reach covers m.op) nothing c.requires.reach) c.args.self.now.entries))

pub returns-then-eq-clause-pruned : goal.returns-then-eq-clause-pruned
returns-then-eq-clause-pruned g c keeps n me ms stands =
    let covers = g.T.TypeRule.covers c.args.rule.now in
    subst (IsPruned keeps covers n me ms c.args.message.now) (sym (returns-then-eq-clause-kept g c)) (pruned-is keeps covers n me ms c.args.message.now c.args.self.now stands)

module _ (g : given.Over) (c : After-free_gone g) where
  abbrev p : ℕ × Entry → Bool
  p r = stays (g.T.TypeRule.covers c.args.rule.now) c.args.message.now r.1

  abbrev rs : List (ℕ × Entry)
  rs = c.self.inside.rows.rows

  abbrev idle : Idle
  idle = record { origin = c.args.message.now.origin; tag = c.args.message.now.tag; object = c.in-Update.update.object }

  tag_fits : (o : Op) → IsTrue (fits c.self.inside.n (record { origin = c.args.message.now.origin; tag = c.args.message.now.tag; op = o }))
  tag_fits o = subst (λ n. IsTrue (fits n (record { origin = c.args.message.now.origin; tag = c.args.message.now.tag; op = o }))) (sym (ap (λ log. log.n) c.self.view_is)) c.requires.fits

  many : length (live_rows rs) + c.sweep_object-swept.result.kept ≡ length (filter p (live_rows rs)) + c.sweep_object-swept.result.stand.end
  many =
      let swept = c.sweep_object-swept in
      let e = swept.ensures in
      went c.in-Update.update.object p rs swept.result.stand e.stand e.others e.rest swept.new.rows.rows swept.result.kept e.kept e.behind idle refl c.self.inside.n tag_fits c.self.invariant.3
      (omega (arith, e.most, e.stand.most, e.places)) (omega (arith, e.stand.most, e.places, e.long))

pub overflow_sub-self-in-Update : goal.overflow_sub-self-in-Update
overflow_sub-self-in-Update g c =
    let all = many g (goal.at.overflow_sub-self-in-Update g c).After-free_gone in
    omega (arith, all, c.self.invariant.4)

pub free_gone-requires-clause-places : goal.free_gone-requires-clause-places
free_gone-requires-clause-places g c = let e = c.sweep_object-swept.ensures in omega (arith, e.stand.most, e.places)

-- what is left, and where it stands
record IsLeft (g : given.Over) (c : After-free_gone g) : Type 0 where
  live : live_rows c.free_gone.new.rows.rows ≡ filter (λ r. stays (g.T.TypeRule.covers c.args.rule.now) c.args.message.now r.1) (live_rows c.self.inside.rows.rows)
  spread : IsSpread c.self.inside.n c.free_gone.new.rows.rows
  room : c.free_gone.new.rows.room ≡ c.self.inside.rows.room
  long : length c.free_gone.new.rows.rows ≡ length c.self.inside.rows.rows
  count : c.self.inside.live - (c.sweep_object-swept.result.stand.end - c.sweep_object-swept.result.kept) ≡ length (live_rows c.free_gone.new.rows.rows)

is-left : (g : given.Over) (c : After-free_gone g) → IsLeft g c
is-left g c =
    let swept = c.sweep_object-swept in
    let e = swept.ensures in
    let freed = c.free_gone.ensures in
    let object = c.in-Update.update.object in
    let n = c.self.inside.n in
    let old = swept.new.rows in
    let now = c.free_gone.new.rows in
    let rows = ap (λ (t : Table). t.rows) freed.rows in
    let live = freed-live object (p g c) (rs g c) swept.result.stand e.stand e.others e.rest old.rows swept.result.kept e.kept e.behind (idle g c) refl n (tag_fits g c) c.self.invariant.3 freed.gap freed.free now.rows rows in
    record {
      live = live;
      spread = freed-spread object (p g c) (rs g c) swept.result.stand e.stand e.others e.rest old.rows swept.result.kept e.kept e.behind (idle g c) refl n (tag_fits g c) c.self.invariant.3 freed.gap freed.free now.rows rows;
      room = ap (λ (t : Table). t.room) freed.rows ∙ e.room;
      long = length-freed (idle g c) old now swept.result.kept swept.result.stand.end e.most (omega (arith, e.stand.most, e.places)) freed ∙ e.long;
      count = omega (arith, many g c, ap length live, c.self.invariant.4, e.most);
    }

pub invariant_of-self : goal.invariant_of-self
invariant_of-self g c =
    let here = (goal.at.invariant_of-self g c).After-free_gone in
    let left = is-left g here in
    let p : ℕ × Entry → Bool = λ r. stays (g.T.TypeRule.covers c.args.rule.now) c.args.message.now r.1 in (
      c.self.invariant.0,
      c.self.invariant.1,
      subst (IsLaid c.self.inside.n c.self.inside.next) (sym left.live) (laid-filter c.self.inside.n c.self.inside.next p (live_rows c.self.inside.rows.rows) c.self.invariant.2),
      left.spread,
      left.count,
      omega (arith, left.long, left.room, c.self.invariant.5),
      omega (arith, left.room, c.self.invariant.6),
    )

pub returns-in-Update-clause-kept : goal.returns-in-Update-clause-kept
returns-in-Update-clause-kept g c =
    let here = (goal.at.returns-in-Update-clause-kept g c).After-free_gone in
    let left = is-left g here in
    let p = stays (g.T.TypeRule.covers c.args.rule.now) c.args.message.now in
    let inside = c.self.inside in
    let made : ℕ → List (ℕ × Entry) → Log = λ room rs. record { n = inside.n; room = room; pushed = inside.next; entries = arrived rs; stripped = reverse (items_of inside.leaving.rows) } in
    (λ t. made (left.room t) (left.live t))
    ∙ ap (with_entries (made inside.rows.room (live_rows inside.rows.rows))) (arrived-filter p (live_rows inside.rows.rows))
    ∙ ap (λ log. with_entries log (filter p log.entries)) c.self.view_is

pub returns-in-Update-clause-pruned : goal.returns-in-Update-clause-pruned
returns-in-Update-clause-pruned g c keeps n me ms stands =
    let covers = g.T.TypeRule.covers c.args.rule.now in
    subst (IsPruned keeps covers n me ms c.args.message.now) (sym (returns-in-Update-clause-kept g c)) (pruned-is keeps covers n me ms c.args.message.now c.args.self.now stands)
