use Rattle.std.proofs.Common.{◌≡◌, ◌<◌, ℕ, All, not, sym, ap, ◌∙◌, inl, inr, arith}
use Rattle.std.proofs.lemmas.Bool.{false_from_ne_true, cases_eq}
use Rattle.std.proofs.lemmas.List.Elements.{All-filter, All-weaker}
use Rattle.op_base.specs.Message.{number}
use Rattle.op_base.specs.declared.message.Message.{Message}
use Rattle.causal_model.specs.State.{State}
use Rattle.causal_model.specs.Stability.{stable_vector, is_stable, unstable_messages, unstable_operations}
use Rattle.causal_model.proofs.Events.Events.{present_is_followed}
use Rattle.causal_model.proofs.Delivery.Orders.{each_fits}
use Rattle.replica_core.specs.Rules.{fields_of}
use Rattle.replica_core.specs.Standing.{Fields, Standing}
use Rattle.replica_core.proofs.AllSettled.{all_by_members, none_where_all}
use Rattle.replica_core.proofs.replica.Replica.all_settled.Goals as goal

-- the counts by the fields' numbers are those by the state's
at_state : (f : Fields) (s : State) → Standing f s → (y : ℕ) → unstable_operations s.history.present.n s.history.present.me s.history.present.messages y ≡ unstable_operations f.n f.me s.history.present.messages y
at_state f s stands y = λ i. unstable_operations (stands.of_store i) (stands.of_member i) s.history.present.messages y

origins : (f : Fields) (s : State) → Standing f s → All (λ m. m.origin < s.history.present.n) (unstable_messages s.history.present.n s.history.present.me s.history.present.messages)
origins f s stands =
    let p = s.history.present in
    All-filter (λ m. not (is_stable (stable_vector p.n p.me p.messages) m)) (λ m. m.origin < p.n) p.messages
    (All-weaker (λ (m : Message). (m.origin < p.n) × (0 < number m)) (λ m. m.origin < p.n) (λ m both. both.0) p.messages (each_fits p.n f.w p.me p.messages (present_is_followed f.w s.history stands.is_state.is_history)))

pub returns : goal.returns
returns c s stands =
    let f : Fields = fields_of c.args.self.now in
    let p = s.history.present in
    sym (all_by_members p.n (unstable_messages p.n p.me p.messages) (origins f s stands) (λ y l. at_state f s stands y ∙ c.loop-x.invariant s stands y (omega (arith, c.loop-x-test.false, c.loop-x.auto.x-end, l, stands.of_store))))

pub returns-then-own_unstable-gt0 : goal.returns-then-own_unstable-gt0
returns-then-own_unstable-gt0 c s stands =
    let f : Fields = fields_of c.args.self.now in
    let p = s.history.present in
    let held = c.own_unstable.ensures.of f.n f.w f.me p.messages stands.window in
    sym (false_from_ne_true _ (λ all.
    let none = none_where_all (unstable_messages p.n p.me p.messages) c.loop-x.x all in
    absurd (omega (arith, c.if-own_unstable-gt0.true, held, at_state f s stands c.loop-x.x, none))))

pub loop-x-preserved : goal.loop-x-preserved
loop-x-preserved c s stands y l = elim (cases_eq y c.loop-x.x) [
  | inl here ↦
      let f : Fields = fields_of c.args.self.now in
      let held = c.own_unstable.ensures.of f.n f.w f.me s.history.present.messages stands.window in
      let now : unstable_operations f.n f.me s.history.present.messages c.loop-x.x ≡ 0 = omega (arith, c.if-own_unstable-gt0.false, held) in
      ap (unstable_operations f.n f.me s.history.present.messages) here ∙ now
  | inr other ↦ c.loop-x.invariant s stands y (omega (arith, l, other))
]
