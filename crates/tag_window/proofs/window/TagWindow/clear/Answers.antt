use Rattle.std.proofs.Common.{◌≡◌, ◌+◌, ◌<◌, ℕ, List, [], length, get_or, replicate, refl, sym, ap, subst, ◌∙◌}
use Rattle.std.proofs.lemmas.List.{length-map, length-replicate, get_or-replicate}
use Rattle.op_base.specs.Timestamp.{zero_tag}
use Rattle.tag_window.specs.Queue.{Line}
use Rattle.tag_window.specs.Queues.{AreQueues, AreFirsts}
use Rattle.tag_window.specs.History.{IsWindowOf}
use Rattle.tag_window.specs.Window.{Window}
use Rattle.tag_window.proofs.Lines.{held_by, empty_are_queues, zeros_are_firsts, held_by-empty}
use Rattle.tag_window.proofs.window.TagWindow.clear.Goals as goal

-- emptied, the queues of a window are those that it began with
each_is_empty : (w z : ℕ) (old new : List Line) → AreQueues w z old → ((x : ℕ) (q : Line) → x < length old → get_or new x q ≡ record (get_or old x q) { held = [] })
    → (x : ℕ) (q : Line) → x < length old → get_or new x q ≡ record { n = length old; origin = x; room = w + z; held = [] }
each_is_empty w z old new are empty x q l =
    let was = are.each x q l in
    empty x q l ∙ (λ i. record { n = was.0 i; origin = was.1 i; room = was.2 i; held = [] })

pub invariant_of-self : goal.invariant_of-self
invariant_of-self c =
    let inside = c.self.inside in
    let lines = inside.queues.items in
    let are = c.self.invariant.are_queues in
    let each = each_is_empty inside.w inside.z lines c.clear_each.new.queues.items are c.clear_each.ensures.empty in
    let count : c.members.result ≡ length lines = c.members.ensures.members ∙ ap (λ (v : Window). length v.held) (sym c.self.view_is) ∙ length-map lines (λ (q : Line). q.held) in
    record {
      are_queues = empty_are_queues (length lines) inside.w inside.z (inside.w + inside.z) c.clear_each.new.queues.items are.some are.few are.noops refl c.clear_each.ensures.same each;
      are_firsts = subst (λ firsts. AreFirsts firsts c.clear_each.new.queues.items) (ap zero_tag (sym count) ∙ sym c.zero-self-inside.ensures) (zeros_are_firsts (length lines) (inside.w + inside.z) c.clear_each.new.queues.items c.clear_each.ensures.same each);
    }

pub returns-clause-empty : goal.returns-clause-empty
returns-clause-empty c =
    let inside = c.self.inside in
    let lines = inside.queues.items in
    let each = each_is_empty inside.w inside.z lines c.clear_each.new.queues.items c.self.invariant.are_queues c.clear_each.ensures.empty in
    let empty = held_by-empty (length lines) (inside.w + inside.z) c.clear_each.new.queues.items c.clear_each.ensures.same each ∙ ap (λ n. replicate n []) (sym (length-map lines (λ (q : Line). q.held))) in
    subst (λ (v : Window). record { w = inside.w; held = held_by c.clear_each.new.queues.items } ≡ record { w = v.w; held = replicate (length v.held) [] }) c.self.view_is
    (λ i. record { w = inside.w; held = empty i })

pub returns-clause-nothing : goal.returns-clause-nothing
returns-clause-nothing c = λ me.
    let n = length c.args.self.now.held in
    subst (IsWindowOf n c.args.self.now.w me []) (sym (returns-clause-empty c)) (record {
      entries = length-replicate n [];
      bound = refl;
      holds = λ x l. get_or-replicate n x [] [] l;
    })
