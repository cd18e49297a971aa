-- The query of each kind, by a settled cell and the log.
use Rattle.std.proofs.Common.{◌≡◌, ℕ, Bool, true, false, not, ◌&&◌, ◌||◌, IsTrue, List, refl, sym, ap, ◌∙◌}
use Rattle.std.specs.Prelude.{Option, Some, None}
use Rattle.std.specs.List.{slice_index_or}
use Rattle.std.proofs.lemmas.Bool.{or_left, or_right, false≢true}
use Rattle.std.proofs.lemmas.List.Folds.{list_any_none}
use Rattle.op_base.specs.declared.message.Message.{Message}
use Rattle.op_base.specs.declared.name.Kind.{Kind}
use Rattle.op_base.specs.declared.name.Kind.TheVariants.{AwSet, RwSet, EwFlag, DwFlag, MvReg}
use Rattle.op_base.specs.declared.name.ObjectId.{ObjectId}
use Rattle.op_base.specs.declared.operation.Act.{Act}
use Rattle.op_base.specs.declared.outcome.Cell.{Cell}
use Rattle.causal_model.specs.Acts.{acts_on, is_rmv_of, is_disable}
use Rattle.causal_model.specs.Covering.{keeps_act}
use Rattle.causal_model.specs.History.{History, events, is_history}
use Rattle.causal_model.specs.Parts.{puts, has, has_uncovered, is_in, has_by_uncovered, has_logged, has_by_parts}
use Rattle.causal_model.specs.Settled.{is_uncovered_event, has_settled, has_pending, value_cell, object_cell, settled_cell}
use Rattle.causal_model.specs.Log.{log_of}
use Rattle.causal_model.proofs.Answers.Covers.{acts_on_agree, acts_on_none, puts_as, puts_is, awset_keeps, rwset_keeps, mvreg_keeps, ewflag_keeps, dwflag_keeps}
use Rattle.causal_model.proofs.Theory.Elements.{list_any_agree}
use Rattle.causal_model.proofs.Answers.Parts.{uncovered_is_settled_or_pending, kept_is_logged, pending_is_logged}
use Rattle.causal_model.proofs.Answers.Uncovered.{has_by_uncovered_events}

-- what puts in is logged
puts_as_keeps : (kind : Kind) (value : Option (List ℕ)) (act : Act) → puts_as kind value act ≡ true → keeps_act kind act ≡ true
puts_as_keeps AwSet (Some v) act t = awset_keeps v act t
puts_as_keeps RwSet (Some v) act t = rwset_keeps v act (or_left _ _ t)
puts_as_keeps MvReg (Some v) act t = mvreg_keeps v act t
puts_as_keeps EwFlag None act t = ewflag_keeps act t
puts_as_keeps DwFlag None act t = dwflag_keeps act (or_left _ _ t)
puts_as_keeps kind value act t = absurd (false≢true t)

rwset_keeps_rmv : (v : List ℕ) (act : Act) → is_rmv_of v act ≡ true → keeps_act RwSet act ≡ true
rwset_keeps_rmv v act t = rwset_keeps v act (or_right _ _ t)

dwflag_keeps_disable : (act : Act) → is_disable act ≡ true → keeps_act DwFlag act ≡ true
dwflag_keeps_disable act t = dwflag_keeps act (or_right _ _ t)

-- what is settled and what is logged, by the marks of a cell where what takes out wins
remove_parts : (s g l k : Bool) → ((s || l) && not (g || k)) ≡ (((s && (not g || l)) || l) && not ((g && l) || k))
remove_parts true true true k = refl
remove_parts true true false k = refl
remove_parts true false true k = refl
remove_parts true false false k = refl
remove_parts false true true k = refl
remove_parts false true false k = refl
remove_parts false false true k = refl
remove_parts false false false k = refl

-- the cell of an object as of a kind, and of a value or of none
abbrev cell_of : History → Kind → ObjectId → Option (List ℕ) → Cell
cell_of h kind object None = object_cell h kind object
cell_of h kind object (Some value) = value_cell h kind object value

module _ (h : History) (object : ObjectId) (kind : Kind) (is : object.kind ≡ kind) where
  -- a test of acts that the kind logs
  module _ (q : Act → Bool) (kept : (act : Act) → q act ≡ true → keeps_act kind act ≡ true) where
    pending_of : has_pending h object q ≡ has_logged object (log_of h) q
    pending_of = pending_is_logged h object q (kept_is_logged object kind is q kept)

    uncovered_of : has_uncovered object (events h) q ≡ (has_settled h object q || has_logged object (log_of h) q)
    uncovered_of = uncovered_is_settled_or_pending h object q ∙ ap (λ b. has_settled h object q || b) pending_of

  module _ (value : Option (List ℕ)) where
    logged_puts : has_logged object (log_of h) (puts value) ≡ has_logged object (log_of h) (puts_as kind value)
    logged_puts = list_any_agree _ _ (λ m. acts_on_agree object kind is (puts value) (puts_as kind value) (puts_is kind value) m.op) (log_of h)

    uncovered_puts : has_uncovered object (events h) (puts value) ≡ (has_settled h object (puts_as kind value) || has_logged object (log_of h) (puts value))
    uncovered_puts =
        list_any_agree _ _ (λ e. ap (λ b. b && is_uncovered_event (events h) e) (acts_on_agree object kind is (puts value) (puts_as kind value) (puts_is kind value) e.message.op)) (events h)
        ∙ uncovered_of (puts_as kind value) (puts_as_keeps kind value) ∙ ap (λ b. has_settled h object (puts_as kind value) || b) (sym logged_puts)

    not_taken_out : (t : Act → Bool) → ((act : Act) → t act ≡ true → keeps_act kind act ≡ true)
        → (has_uncovered object (events h) (puts value) && not (has_uncovered object (events h) t))
        ≡ (((has_settled h object (puts_as kind value) && (not (has_settled h object t) || has_pending h object (puts_as kind value))) || has_logged object (log_of h) (puts value))
        && not ((has_settled h object t && has_pending h object (puts_as kind value)) || has_logged object (log_of h) t))
    not_taken_out t kept =
        let put = has_settled h object (puts_as kind value) in
        let taken = has_settled h object t in
        let logged = has_logged object (log_of h) (puts value) in
        let same : logged ≡ has_pending h object (puts_as kind value) = logged_puts ∙ sym (pending_of (puts_as kind value) (puts_as_keeps kind value)) in
        (λ i. uncovered_puts i && not (uncovered_of t kept i)) ∙ remove_parts put taken logged (has_logged object (log_of h) t)
        ∙ ap (λ b. ((put && (not taken || b)) || logged) && not ((taken && b) || has_logged object (log_of h) t)) same

none_is_logged : (object : ObjectId) (log : List Message) → has_logged object log (λ act. false) ≡ false
none_is_logged object log = list_any_none (λ m. acts_on object (λ act. false) m.op) log (λ k d l. acts_on_none object (slice_index_or log k d).op)

-- a kind with no value, or with values alone, has nothing put in otherwise
by_parts : (h : History) (object : ObjectId) (kind : Kind) (value : Option (List ℕ)) → object.kind ≡ kind → has kind object (events h) value ≡ has_by_uncovered kind object (events h) value
    → has kind object (events h) value ≡ has_by_parts kind object (cell_of h kind object value) (log_of h) value
by_parts h object AwSet (Some v) is uncovered = uncovered ∙ uncovered_puts h object AwSet is (Some v)
by_parts h object RwSet (Some v) is uncovered = uncovered ∙ not_taken_out h object RwSet is (Some v) (is_rmv_of v) (rwset_keeps_rmv v)
by_parts h object MvReg (Some v) is uncovered = uncovered ∙ uncovered_puts h object MvReg is (Some v)
by_parts h object EwFlag None is uncovered = uncovered ∙ uncovered_puts h object EwFlag is None
by_parts h object DwFlag None is uncovered = uncovered ∙ not_taken_out h object DwFlag is None is_disable dwflag_keeps_disable
by_parts h object kind None is uncovered = sym (ap (λ b. is_in kind b ((object_cell h kind object).off || has_logged object (log_of h) is_disable)) (logged_puts h object kind is None ∙ none_is_logged object (log_of h)))
by_parts h object kind (Some v) is uncovered = sym (ap (λ b. is_in kind b ((value_cell h kind object v).off || has_logged object (log_of h) (is_rmv_of v))) (logged_puts h object kind is (Some v) ∙ none_is_logged object (log_of h)))

pub has_by_settled_and_logged : (w : ℕ) (h : History) (object : ObjectId) (value : Option (List ℕ)) → IsTrue (is_history w h)
    → has object.kind object (events h) value ≡ has_by_parts object.kind object (settled_cell h object value) (log_of h) value
has_by_settled_and_logged w h object None t = by_parts h object object.kind None refl (has_by_uncovered_events w h object None t)
has_by_settled_and_logged w h object (Some value) t = by_parts h object object.kind (Some value) refl (has_by_uncovered_events w h object (Some value) t)
