use Rattle.std.proofs.Common.{◌≡◌, ◌<◌, ◌++◌, ◌∷◌, [], length, min, set, sym, ap, subst, arith}
use Rattle.std.proofs.lemmas.List.{length-map}
use Rattle.tag_window.specs.declared.held.Held.{Held}
use Rattle.op_base.specs.Timestamp.{entry}
use Rattle.tag_window.specs.Queue.{Line}
use Rattle.tag_window.specs.Queues.{AreFirsts}
use Rattle.tag_window.specs.Window.{Window, held_of}
use Rattle.tag_window.proofs.Lines.{held_by, held_by-push, queues-set, firsts-push}
use Rattle.tag_window.proofs.Kept.{with_message}
use Rattle.tag_window.proofs.window.TagWindow.push.Goals as goal

pub invariant_of-self : goal.invariant_of-self
invariant_of-self c =
    let lines = c.self.inside.queues.items in
    let x = c.args.origin in
    let q = c.index_mut-queue.result.now in
    let new = c.push.new.self in
    let h : Held = record { tag = c.args.tag; noop = c.args.noop } in
    let l : x < length lines = omega (arith, c.requires.member, ap (λ (v : Window). length v.held) c.self.view_is, length-map lines (λ (q : Line). q.held)) in
    let least : min (entry c.self.inside.firsts x) c.at.result ≡ min (entry c.self.inside.firsts x) (entry h.tag x) = ap (min (entry c.self.inside.firsts x)) c.at.ensures in
    record {
      are_queues = queues-set c.self.inside.w c.self.inside.z lines x q new l c.index_mut-queue.ensures.value (ap (λ (p : Line). p.n) c.push.ensures) (ap (λ (p : Line). p.origin) c.push.ensures) (ap (λ (p : Line). p.room) c.push.ensures) c.self.invariant.are_queues;
      are_firsts = subst (λ firsts. AreFirsts firsts (set lines x new)) (sym c.lower_to.ensures) (firsts-push c.self.inside.firsts lines x (min (entry c.self.inside.firsts x) c.at.result) q new h l c.index_mut-queue.ensures.value c.push.ensures least c.self.invariant.are_firsts);
    }

pub returns-clause-held : goal.returns-clause-held
returns-clause-held c =
    let lines = c.self.inside.queues.items in
    let h : Held = record { tag = c.args.tag; noop = c.args.noop } in
    let l : c.args.origin < length lines = omega (arith, c.requires.member, ap (λ (v : Window). length v.held) c.self.view_is, length-map lines (λ (q : Line). q.held)) in
    let pushed = held_by-push lines c.args.origin c.index_mut-queue.result.now c.push.new.self h l c.index_mut-queue.ensures.value c.push.ensures in
    subst (λ (v : Window). record { w = c.self.inside.w; held = held_by (set lines c.args.origin c.push.new.self) } ≡ record v { held = set v.held c.args.origin (held_of v c.args.origin ++ h ∷ []) }) c.self.view_is (λ i. record { w = c.self.inside.w; held = pushed i })

pub returns-clause-with : goal.returns-clause-with
returns-clause-with c = λ n w me ms m origin tag noop of. with_message n w me ms m c.args.self.now _ c.args.origin (record { tag = c.args.tag; noop = c.args.noop }) c.requires.member (returns-clause-held c) origin (λ i. record { tag = tag i; noop = noop i }) of
