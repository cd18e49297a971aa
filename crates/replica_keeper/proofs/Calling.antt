-- What a call at a durable replica notes, where it is refused, and of a message that comes.
use Rattle.std.proofs.Common.{◌≡◌, ℕ, ◌==◌, Bool, true, false, not, if◌then◌else◌, List, [], ◌∷◌, map, Option, Some, None, refl, sym, subst, append-nil}
use Rattle.std.specs.Option.{is_some}
use Rattle.std.proofs.lemmas.Bool.{false≢true}
use Rattle.op_base.specs.declared.message.Message.{Message}
use Rattle.causal_model.specs.Journal.{step_note, receive_notes}
use Rattle.causal_model.specs.Receiving.{is_accepted, steps_of, accepted, refused, receive_by, receive_rule, refusal_of, refusal_by_id, is_old, is_far, steps, with_early}
use Rattle.causal_model.specs.Early.{is_again}
use Rattle.op_base.specs.declared.operation.Op.TheVariants as op
use Rattle.op_base.specs.declared.operation.Update.{Update}
use Rattle.causal_model.specs.Counts.{count_of}
use Rattle.causal_model.specs.Sending.{own_message, is_noop_due, local_rule, beat_rule}
use Rattle.causal_model.specs.Stability.{unstable_operations, unstable_noops, noop_window}
use Rattle.causal_model.specs.State.{State, counted}
use Rattle.causal_model.specs.declared.outcome.Beat.TheVariants as beat
use Rattle.causal_model.specs.declared.outcome.Local.TheVariants as local
use Rattle.causal_model.specs.declared.note.Note.TheVariants.{Kept}
use Rattle.causal_model.specs.declared.outcome.Receive.{Receive}
use Rattle.causal_model.specs.declared.outcome.Receive.TheVariants as receive
use Rattle.causal_model.specs.declared.outcome.Refusal.{Refusal}
use Rattle.causal_model.specs.declared.outcome.Refusal.TheVariants as refusal
use Rattle.causal_model.proofs.States.Outcomes.{notes_of_refused}
use Rattle.op_base.specs.declared.outcome.Step.{Step}
use Rattle.world_model.specs.Stops.{is_send}
use Rattle.replica_keeper.specs.Called.{HasNoted}
use Rattle.replica_keeper.specs.Open.{NotedNode, GoesOn}
use Rattle.replica_keeper.specs.ShowsKeep.{SteadyDurable}

-- what the id refuses is refused
pub refused_by_id : (w : ℕ) (s : State) (m : Message) (r : Refusal) → refusal_by_id s m ≡ Some r → refusal_of w s m ≡ Some r
refused_by_id w s m r is = by (is_old s.history.present.me (counted s.history) m) (is_again s.early m) is where
  by : (old again : Bool) → (if old then Some refusal.Old else if again then Some refusal.Again else None) ≡ Some r
      → (if old then Some refusal.Old else if again then Some refusal.Again else if is_far s.history.present.n w s.history.present.me (counted s.history) m then Some refusal.Far else None) ≡ Some r
  by true again e = e
  by false true e = e
  by false false e = cc

-- what receiving notes sends nothing
pub receive_is_no_send : (m : Message) (answer : Receive) → is_send (receive_notes m answer) ≡ false
receive_is_no_send m answer = by (is_accepted answer) where
  by : (b : Bool) → is_send (if b then Kept m ∷ map step_note (steps_of answer) else []) ≡ false
  by true = refl
  by false = refl

-- the rule of receiving knows no want of memory
accepted_wants_none : (made : List Step) → accepted made ≡ receive.NoMemory → ⊥
accepted_wants_none [] e = cc
accepted_wants_none (step ∷ made) e = cc

refused_wants_none : (r : Refusal) → refused r ≡ receive.NoMemory → ⊥
refused_wants_none refusal.Old e = cc
refused_wants_none refusal.Again e = cc
refused_wants_none refusal.Far e = cc

pub received_wants_none : (w : ℕ) (m : Message) (s : State) → (receive_rule w m s).0 ≡ receive.NoMemory → ⊥
received_wants_none w m s e = by (refusal_of w s m) e where
  by : (o : Option Refusal) → (receive_by w m s o).0 ≡ receive.NoMemory → ⊥
  by None e = accepted_wants_none (steps w (with_early s m)).0 e
  by (Some r) e = refused_wants_none r e

-- an open replica goes on as it is
goes_on_still : (o : Option NotedNode) → is_some o ≡ true → GoesOn o o
goes_on_still None e = absurd (false≢true e)
goes_on_still (Some node) e = record { settings = record { me = refl; n = refl; w = refl; limit = refl; epoch = refl }; first = refl }

-- where a message is refused nothing is noted
pub nothing_noted : (it : SteadyDurable) (m : Message) (r : Refusal) → is_some it.node ≡ true → HasNoted it it (receive_notes m (refused r))
nothing_noted it m r opened = subst (HasNoted it it) (sym (notes_of_refused m r)) (record {
  settings = refl;
  same = goes_on_still it.node opened;
  noted = sym (append-nil _);
  groups = refl;
  synced = refl;
})

-- nor do the rules of sending
pub sent_wants_none : (w limit : ℕ) (update : Update) (s : State) → (local_rule w limit update s).0 ≡ local.NoMemory → ⊥
sent_wants_none w limit update s e = let p = s.history.present in by (own_message p.n p.me p.messages (op.Update update)) (unstable_operations p.n p.me p.messages p.me == w) (count_of p.messages p.me == limit) e where
  by : (m : Message) (full all : Bool) → (if full then local.Busy else if all then local.End else local.Sent m) ≡ local.NoMemory → ⊥
  by m true all e = cc
  by m false true e = cc
  by m false false e = cc

pub beaten_wants_none : (w limit : ℕ) (s : State) → (beat_rule w limit s).0 ≡ beat.NoMemory → ⊥
beaten_wants_none w limit s e = let p = s.history.present in by (own_message p.n p.me p.messages op.NoOp) (is_noop_due p.me p.messages) (unstable_noops p.n p.me p.messages p.me == noop_window p.n w) (count_of p.messages p.me == limit) e where
  by : (m : Message) (due held all : Bool) → (if not due then beat.Quiet else if held then beat.Held else if all then beat.End else beat.Sent m) ≡ beat.NoMemory → ⊥
  by m false held all e = cc
  by m true true all e = cc
  by m true false true e = cc
  by m true false false e = cc

-- what isn't true is false
pub not_ended : (b : Bool) → (b ≡ true → ⊥) → b ≡ false
not_ended true isnt = absurd (isnt refl)
not_ended false isnt = refl
