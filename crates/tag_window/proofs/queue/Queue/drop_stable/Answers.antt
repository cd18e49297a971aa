use Rattle.std.proofs.Common.{◌≡◌, ℕ, ◌-◌, refl, ◌<◌, ◌≤◌, length, drop, if◌then◌else◌, sym, ap, subst, ◌∙◌, arith, get_or}
use Rattle.std.specs.Prelude.{nat_lt}
use Rattle.std.specs.List.{filter}
use Rattle.op_base.specs.Timestamp.{entry}
use Rattle.tag_window.specs.declared.held.Held.{Held}
use Rattle.tag_window.specs.declared.queue.Queue.TheInside.{Inside}
use Rattle.tag_window.specs.Filled.{Filled}
use Rattle.tag_window.specs.Queue.{Line}
use Rattle.tag_window.proofs.Queues.{left_after, all_above, first_goes, sound-drop}
use Rattle.tag_window.proofs.queue.Queue.drop_stable.Goals as goal
use Rattle.tag_window.proofs.queue.Queue.drop_stable.Goals.{then-first, else-first}

pub returns-then-number-count-clause-left : goal.returns-then-number-count-clause-left
returns-then-number-count-clause-left c =
    let q = c.self.inside in
    let now = c.loop-first.self-inside in
    let inv = c.loop-first.invariant in
    let first = c.in-Some.first.now in
    let above : c.at-count.result < entry (get_or now.held.items 0 first).tag now.origin = omega (arith, c.if-number-count.true, c.at-number.ensures, ap (λ (h : Held). entry h.tag now.origin) c.in-Some.ensures.lookup) in
    subst (λ (o : Line). record { n = now.n; origin = now.origin; room = now.room; held = now.held.items } ≡ record o { held = filter (λ h. nat_lt (entry c.args.stable.now o.origin) (entry h.tag o.origin)) o.held }) c.self.view_is
    (left_after (record { n = q.n; origin = q.origin; room = q.room; held = q.held.items }) (record { n = now.n; origin = now.origin; room = now.room; held = now.held.items }) c.at-count.result c.args.stable.now
    inv.members inv.origin inv.room c.at-count.ensures inv.kept (all_above now.origin c.at-count.result now.held.items first inv.sound.numbered above))

pub loop-first-preserved : goal.loop-first-preserved
loop-first-preserved c =
    let now = c.loop-first.self-inside in
    let inv = c.loop-first.invariant in
    let after = c.if-first.self-inside in
    let popped = c.pop_front.new.self in
    let first = c.in-Some.first.now in
    let at_first : get_or now.held.items 0 first ≡ first = sym c.in-Some.ensures.lookup in
    let low : entry (get_or now.held.items 0 first).tag now.origin ≤ c.at-count.result = omega (arith, c.if-number-count.false, c.at-number.ensures, ap (λ (h : Held). entry h.tag now.origin) at_first) in
    let some : 0 < length now.held.items = c.in-Some.ensures.variant.0 refl in
    let changed : (noops : ℕ) × (after ≡ record now { noops = noops }) × (noops ≡ now.noops - (if first.noop then 1 else 0)) = elim c.if-first.branch [
      | then-first w ↦ (now.noops - 1, w.self-inside-is, ap (λ b. now.noops - (if b then 1 else 0)) (sym w.if-first.true))
      | else-first w ↦ (now.noops, w.self-inside-is, omega (arith, ap (λ b. now.noops - (if b then 1 else 0)) (sym w.if-first.false)))
    ] in
    let is = changed.1 in
    let items : popped.items ≡ drop 1 now.held.items = ap (λ (b : Filled). b.items) c.pop_front.ensures ∙ ap (λ (a : Inside). drop 1 a.held.items) is in
    record {
      sound = sound-drop (record { n = now.n; origin = now.origin; room = now.room; held = now.held.items }) (record { n = after.n; origin = after.origin; room = after.room; held = popped.items }) now.held.room now.noops popped.room after.noops first inv.sound some
          (λ i. record { n = (is i).n; origin = (is i).origin; room = (is i).room; held = items i })
          (ap (λ (b : Filled). b.room) c.pop_front.ensures ∙ ap (λ (a : Inside). a.held.room) is)
          (ap (λ (a : Inside). a.noops) is ∙ changed.2 ∙ ap (λ (h : Held). now.noops - (if h.noop then 1 else 0)) (sym at_first));
      members = ap (λ (a : Inside). a.n) is ∙ inv.members;
      origin = ap (λ (a : Inside). a.origin) is ∙ inv.origin;
      room = ap (λ (a : Inside). a.room) is ∙ inv.room;
      kept = subst (λ o. filter (λ h. nat_lt c.at-count.result (entry h.tag o)) popped.items ≡ filter (λ h. nat_lt c.at-count.result (entry h.tag o)) c.self.inside.held.items) (sym (ap (λ (a : Inside). a.origin) is))
          (ap (filter (λ h. nat_lt c.at-count.result (entry h.tag now.origin))) items ∙ first_goes now.origin c.at-count.result now.held.items first some low ∙ inv.kept);
    }
