-- Answers are those of the events that nothing covers.
use Rattle.std.proofs.Common.{◌≡◌, ℕ, Bool, true, false, not, ◌&&◌, ◌||◌, cond, IsTrue, ℤ, pos, ◌+ℤ◌, List, [], ◌∷◌, map, refl, sym, ap, ◌∙◌, inl, inr, ◌⊎◌, Option, Some, None}
use Rattle.std.specs.List.{filter, fold}
use Rattle.std.proofs.Math.IntN.{+ℤ_idr}
use Rattle.std.proofs.lemmas.Bool.{cases_Bool, and_parts, both_ways}
use Rattle.std.proofs.lemmas.List.Elements.{filter_agree}
use Rattle.op_base.specs.Operation.{has_act}
use Rattle.op_base.specs.declared.name.ObjectId.{ObjectId}
use Rattle.op_base.specs.declared.name.Kind.{Kind}
use Rattle.op_base.specs.declared.name.Kind.TheVariants.{AwSet, RwSet, EwFlag, DwFlag, MvReg, Counter, RCounter}
use Rattle.op_base.specs.declared.name.Kind.TheVariants as kinds
use Rattle.op_base.specs.declared.operation.Act.{Act}
use Rattle.op_base.specs.declared.outcome.Answer.TheVariants.{Values, Flag, Sum}
use Rattle.causal_model.specs.Acts.{is_add_of, is_rmv_of, is_write_of, is_write, is_clear, is_enable, is_disable, share_of}
use Rattle.causal_model.specs.Covering.{keeps_act, covers_act, store_covers}
use Rattle.causal_model.specs.History.{History, Event, events, is_before, is_history, is_act_on}
use Rattle.causal_model.specs.Log.{is_covered_by}
use Rattle.causal_model.specs.Parts.{puts, takes, is_in, has, has_uncovered, has_by_uncovered, uncovered_answer}
use Rattle.causal_model.specs.Query.{is_live, add_wins, remove_wins, counter_sum, rcounter_sum, answer_as, answer}
use Rattle.causal_model.specs.Settled.{is_uncovered_event}
use Rattle.causal_model.proofs.Answers.Covers.{is_amount, acts_on_agree, acts_on-or, acts_on_none, covered_is, puts_as, puts_is, awset_covers, awset_keeps, rwset_covers, rwset_keeps, mvreg_covers, mvreg_keeps, ewflag_covers, ewflag_keeps, dwflag_covers, dwflag_keeps, rcounter_keeps, share_none}
use Rattle.causal_model.proofs.Theory.Elements.{list_any_agree, list_any-from_none}
use Rattle.causal_model.proofs.Theory.Maximal.{events_are_in_order, put_wins, take_wins}

-- whether a later event covers an earlier one
abbrev covers_event : Event → Event → Bool
covers_event e later = is_covered_by store_covers e.message.op later.message.op

module _ (object : ObjectId) (es : List Event) where
  -- tests that agree on the acts of an object's kind are passed by the same uncovered events
  has_uncovered_agree : (kind : Kind) → object.kind ≡ kind → (p q : Act → Bool) → ((act : Act) → has_act kind act ≡ true → p act ≡ q act) → has_uncovered object es p ≡ has_uncovered object es q
  has_uncovered_agree kind e p q same = list_any_agree _ _ (λ x. ap (λ b. b && is_uncovered_event es x) (acts_on_agree object kind e p q same x.message.op)) es

  has_uncovered_none : has_uncovered object es (λ act. false) ≡ false
  has_uncovered_none = list_any-from_none _ es (λ x _ both. both_ways _ (acts_on_none object x.message.op) (and_parts _ _ both).0)

  puts_uncovered : (kind : Kind) (value : Option (List ℕ)) → object.kind ≡ kind → has_uncovered object es (puts value) ≡ has_uncovered object es (puts_as kind value)
  puts_uncovered kind value e = has_uncovered_agree kind e (puts value) (puts_as kind value) (puts_is kind value)

module _ (w : ℕ) (h : History) (object : ObjectId) (t : IsTrue (is_history w h)) where
  -- ---- sets, flags and registers

  module _ (kind : Kind) (e : object.kind ≡ kind) (put take : Act → Bool) where
    add_wins_by_uncovered : ((act : Act) → put act ≡ true → keeps_act kind act ≡ true) → ((later act : Act) → has_act kind later ≡ true → put act ≡ true → covers_act kind later act ≡ (put later || take later))
        → add_wins object put take (events h) ≡ has_uncovered object (events h) put
    add_wins_by_uncovered kept covers = put_wins is_before (events h) (events_are_in_order w h t) (is_act_on object put) (is_act_on object take) covers_event (λ a b puts_a.
        covered_is object kind e put (λ act. put act || take act) kept covers a.message.op b.message.op puts_a ∙ acts_on-or object put take b.message.op)

    remove_wins_by_uncovered : ((act : Act) → (put act || take act) ≡ true → keeps_act kind act ≡ true) → ((later act : Act) → has_act kind later ≡ true → (put act || take act) ≡ true → covers_act kind later act ≡ (is_clear later || (put later || take later)))
        → remove_wins object put take (events h) ≡ (has_uncovered object (events h) put && not (has_uncovered object (events h) take))
    remove_wins_by_uncovered kept covers = take_wins is_before (events h) (events_are_in_order w h t) (is_act_on object put) (is_act_on object take) (is_act_on object is_clear) covers_event (λ a b either.
        covered_is object kind e (λ act. put act || take act) (λ act. is_clear act || (put act || take act)) kept covers a.message.op b.message.op (acts_on-or object put take a.message.op ∙ either)
        ∙ acts_on-or object is_clear (λ act. put act || take act) b.message.op ∙ ap (λ z. is_act_on object is_clear b || z) (acts_on-or object put take b.message.op))

  has_by : (kind : Kind) (value : Option (List ℕ)) → object.kind ≡ kind → has kind object (events h) value ≡ has_by_uncovered kind object (events h) value
  has_by AwSet (Some v) e =
      add_wins_by_uncovered AwSet e (is_add_of v) (λ act. is_rmv_of v act || is_clear act) (awset_keeps v) (awset_covers v) ∙ sym (puts_uncovered object (events h) AwSet (Some v) e)
  has_by RwSet (Some v) e =
      remove_wins_by_uncovered RwSet e (is_add_of v) (is_rmv_of v) (rwset_keeps v) (rwset_covers v) ∙ ap (λ b. b && not (has_uncovered object (events h) (is_rmv_of v))) (sym (puts_uncovered object (events h) RwSet (Some v) e))
  has_by MvReg (Some v) e =
      add_wins_by_uncovered MvReg e (is_write_of v) (λ act. is_write act || is_clear act) (mvreg_keeps v) (mvreg_covers v) ∙ sym (puts_uncovered object (events h) MvReg (Some v) e)
  has_by EwFlag None e = add_wins_by_uncovered EwFlag e is_enable (λ act. is_disable act || is_clear act) ewflag_keeps ewflag_covers
  has_by DwFlag None e = remove_wins_by_uncovered DwFlag e is_enable is_disable dwflag_keeps dwflag_covers
  has_by kind value e = sym (ap (λ b. is_in kind b (has_uncovered object (events h) (takes value))) (puts_uncovered object (events h) kind value e ∙ has_uncovered_none object (events h)))

  -- ---- counters that can be cleared

  -- a live event is uncovered and an uncovered one live, or it adds nothing
  live_is_uncovered : object.kind ≡ RCounter → (e : Event) → (is_live object (events h) e ≡ is_uncovered_event (events h) e) ⊎ (share_of object e.message.op ≡ pos 0)
  live_is_uncovered k e = elim (cases_Bool (is_act_on object is_amount e)) [
    | inr none ↦ inr (share_none object e.message.op none)
    | inl amount ↦ inl (ap not (list_any_agree _ _ (λ later. ap (λ b. b && is_before e later)
        (sym (covered_is object RCounter k is_amount is_clear rcounter_keeps (λ later act fits t. refl) e.message.op later.message.op amount))) (events h)))
  ]

-- what operations add to a sum
abbrev total_from : ObjectId → ℤ → List Event → ℤ
total_from object a es = fold (λ sum o. sum +ℤ share_of object o) a (map (λ e. e.message.op) es)

-- two sums are the same where the events that are in one of them alone add nothing
module _ (object : ObjectId) (p q : Event → Bool) (each : (e : Event) → (p e ≡ q e) ⊎ (share_of object e.message.op ≡ pos 0)) where
  adds_nothing : (a : ℤ) (b : Bool) (e : Event) (es : List Event) → share_of object e.message.op ≡ pos 0 → total_from object a (cond b (e ∷ es) es) ≡ total_from object a es
  adds_nothing a true e es none = ap (λ z. total_from object z es) (ap (λ z. a +ℤ z) none ∙ +ℤ_idr a)
  adds_nothing a false e es none = refl

  pub same_totals : (a : ℤ) (es : List Event) → total_from object a (filter p es) ≡ total_from object a (filter q es)
  same_totals a [] = refl
  same_totals a (e ∷ es) = elim (each e) [
    | inl same ↦ ap (λ b. total_from object a (cond b (e ∷ filter p es) (filter p es))) same ∙ elim (q e) as (λ b. total_from object a (cond b (e ∷ filter p es) (filter p es)) ≡ total_from object a (cond b (e ∷ filter q es) (filter q es))) [
      | true ↦ same_totals (a +ℤ share_of object e.message.op) es
      | false ↦ same_totals a es
    ]
    | inr none ↦ adds_nothing a (p e) e (filter p es) none ∙ same_totals a es ∙ sym (adds_nothing a (q e) e (filter q es) none)
  ]

pub rcounter_by_uncovered : (w : ℕ) (h : History) (object : ObjectId) → IsTrue (is_history w h) → object.kind ≡ RCounter
    → rcounter_sum object (events h) ≡ counter_sum object (filter (is_uncovered_event (events h)) (events h))
rcounter_by_uncovered w h object t k = same_totals object (is_live object (events h)) (is_uncovered_event (events h)) (live_is_uncovered w h object t k) (pos 0) (events h)

pub has_by_uncovered_events : (w : ℕ) (h : History) (object : ObjectId) (value : Option (List ℕ)) → IsTrue (is_history w h)
    → has object.kind object (events h) value ≡ has_by_uncovered object.kind object (events h) value
has_by_uncovered_events w h object value t = has_by w h object t object.kind value refl

-- ---- whole answers

answer_by : (w : ℕ) (h : History) (object : ObjectId) → IsTrue (is_history w h) → (kind : Kind) → object.kind ≡ kind → answer_as kind object (events h) ≡ uncovered_answer kind object (events h)
answer_by w h object t AwSet e = ap Values (filter_agree _ _ (λ v. has_by w h object t AwSet (Some v) e) _)
answer_by w h object t RwSet e = ap Values (filter_agree _ _ (λ v. has_by w h object t RwSet (Some v) e) _)
answer_by w h object t MvReg e = ap Values (filter_agree _ _ (λ v. has_by w h object t MvReg (Some v) e) _)
answer_by w h object t EwFlag e = ap Flag (has_by w h object t EwFlag None e)
answer_by w h object t DwFlag e = ap Flag (has_by w h object t DwFlag None e)
answer_by w h object t Counter e = refl
answer_by w h object t kinds.List e = refl
answer_by w h object t RCounter e = ap Sum (rcounter_by_uncovered w h object t e)

pub answers_are_of_uncovered : (w : ℕ) (h : History) (object : ObjectId) → IsTrue (is_history w h) → answer object (events h) ≡ uncovered_answer object.kind object (events h)
answers_are_of_uncovered w h object t = answer_by w h object t object.kind refl
