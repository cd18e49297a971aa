use Rattle.std.proofs.Common.{◌≡◌, ◌<◌, [], length, get_or, refl, sym, ap, subst, ◌∙◌, arith}
use Rattle.std.specs.Prelude.{nat_lt}
use Rattle.std.specs.List.{filter}
use Rattle.std.proofs.lemmas.List.{length-map}
use Rattle.op_base.specs.Timestamp.{entry}
use Rattle.tag_window.specs.declared.held.Held.{Held}
use Rattle.tag_window.specs.Queue.{Line}
use Rattle.tag_window.specs.Window.{Window, held_of}
use Rattle.tag_window.proofs.Lines.{held_by, held_by-at, held_by-left, left_are_queues, none_goes}
use Rattle.tag_window.proofs.Kept.{without_stable}
use Rattle.tag_window.proofs.window.TagWindow.drop_stable.Goals as goal

-- ---- nothing is stable

pub returns-then-is_everywhere_below-clause-held : goal.returns-then-is_everywhere_below-clause-held
returns-then-is_everywhere_below-clause-held c = λ x l.
    let lines = c.self.inside.queues.items in
    let stable = c.args.stable.now in
    let q : Line = record { n = 0; origin = 0; room = 0; held = [] } in
    let member : x < length lines = omega (arith, l, ap (λ (v : Window). length v.held) c.self.view_is, length-map lines (λ (q : Line). q.held)) in
    let below = c.is_everywhere_below.ensures c.if-is_everywhere_below.true x (omega (arith, l, c.requires)) in
    let stays = none_goes stable c.self.inside.firsts x (get_or lines x q).held below (c.self.invariant.are_firsts.lowest x q member) in
    subst (λ (v : Window). held_of v x ≡ filter (λ h. nat_lt (entry stable x) (entry h.tag x)) (held_of v x)) c.self.view_is
    (subst (λ hs. hs ≡ filter (λ (h : Held). nat_lt (entry stable x) (entry h.tag x)) hs) (sym (held_by-at lines x q member)) (sym stays))

pub returns-then-is_everywhere_below-clause-of : goal.returns-then-is_everywhere_below-clause-of
returns-then-is_everywhere_below-clause-of c = λ n w me ms m k t is with.
    without_stable n w me ms m c.args.self.now c.args.self.now c.args.stable.now k t is refl refl (returns-then-is_everywhere_below-clause-held c) with

-- ---- something may be

pub invariant_of-self : goal.invariant_of-self
invariant_of-self c = record {
  are_queues = left_are_queues c.self.inside.w c.self.inside.z c.args.stable.now c.self.inside.queues.items c.drop_of_each.new.queues.items c.self.invariant.are_queues c.drop_of_each.ensures.same c.drop_of_each.ensures.left;
  are_firsts = c.drop_of_each.ensures.firsts;
}

pub returns-clause-held : goal.returns-clause-held
returns-clause-held c = λ x l.
    let lines = c.self.inside.queues.items in
    let stable = c.args.stable.now in
    let member : x < length (held_by lines) = omega (arith, l, ap (λ (v : Window). length v.held) c.self.view_is) in
    held_by-left c.self.inside.w c.self.inside.z stable lines c.drop_of_each.new.queues.items c.self.invariant.are_queues c.drop_of_each.ensures.same c.drop_of_each.ensures.left x member
    ∙ ap (λ (v : Window). filter (λ h. nat_lt (entry stable x) (entry h.tag x)) (held_of v x)) c.self.view_is

pub returns-clause-of : goal.returns-clause-of
returns-clause-of c = λ n w me ms m k t is with.
    let lines = c.self.inside.queues.items in
    let new = c.drop_of_each.new.queues.items in
    let entries = length-map new (λ (q : Line). q.held) ∙ c.drop_of_each.ensures.same ∙ sym (length-map lines (λ (q : Line). q.held)) ∙ ap (λ (v : Window). length v.held) c.self.view_is in
    without_stable n w me ms m c.args.self.now _ c.args.stable.now k t is (ap (λ (v : Window). v.w) c.self.view_is) entries (returns-clause-held c) with
