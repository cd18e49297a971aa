-- Which state a replica's fields stand for, what stays of them, and what can be sent next.
use Rattle.std.specs.Prelude.{◌≡◌, ◌≤◌, ◌+◌, ◌*◌, IsTrue, length, sum, map, Result, Ok, Err}
use Rattle.op_base.specs.Valid.{is_valid}
use Rattle.op_base.specs.declared.message.Message.{Message}
use Rattle.causal_model.specs.Sending.{RuleGives}
use Rattle.causal_model.specs.Stability.{noop_window}
use Rattle.causal_model.specs.State.{State}
use Rattle.causal_model.specs.declared.outcome.Local.{Local}
use Rattle.causal_model.specs.declared.outcome.Local.TheVariants as local
use Rattle.causal_model.specs.declared.outcome.Beat.{Beat}
use Rattle.causal_model.specs.declared.outcome.Beat.TheVariants as beat
use Rattle.list_type.specs.Shown.{shown as lists_shown}
use Rattle.stable_state.specs.Shown.{shown}
use Rattle.replica_core.specs.Standing.{Fields, Standing}
use Rattle.replica_core.specs.declared.replica.Replica.{Replica}

-- the fields of a replica
abbrev pub fields_of : Replica → Fields
fields_of r =
    record { me = r.me; n = r.n; w = r.w; limit = r.limit; epoch = r.epoch; counts = r.counts; matrix = r.matrix; window = r.window; buffer = r.buffer; log = r.log; items = shown r.items; lists = lists_shown r.lists; outbox = r.outbox; due = r.due }

-- the fields of a replica stand for a state
abbrev pub StandsFor : Replica → State → Type 0
StandsFor r s = Standing (fields_of r) s

-- two replicas are the same member of the same store, in the same epoch
pub record SameSettings (before new : Replica) : Type 0 where
  pub me : new.me ≡ before.me
  pub n : new.n ≡ before.n
  pub w : new.w ≡ before.w
  pub limit : new.limit ≡ before.limit
  pub epoch : new.epoch ≡ before.epoch

-- nothing changed: at most more room was taken for items and elements
pub record Unchanged (before new : Replica) : Type 0 where
  pub settings : SameSettings before new
  pub counts : new.counts ≡ before.counts
  pub matrix : new.matrix ≡ before.matrix
  pub window : new.window ≡ before.window
  pub buffer : new.buffer ≡ before.buffer
  pub log : new.log ≡ before.log
  pub items : (shown new.items).items ≡ (shown before.items).items
  pub spare : (shown before.items).spare ≤ (shown new.items).spare
  pub lists : (lists_shown new.lists).kept ≡ (lists_shown before.lists).kept
  pub lists_spare : (lists_shown before.lists).spare ≤ (lists_shown new.lists).spare
  pub outbox : new.outbox ≡ before.outbox
  pub due : new.due ≡ before.due

-- what a replica keeps is bounded by the numbers of its store
pub record IsBounded (r : Replica) : Type 0 where
  pub log : length r.log.entries ≤ r.n * r.w
  pub early : length r.buffer.early ≤ r.n * (r.w + noop_window r.n r.w)
  pub timestamps : sum (map length r.window.held) ≤ r.n * (r.w + noop_window r.n r.w)
  pub outbox : length r.outbox.messages ≤ r.w + noop_window r.n r.w

-- a message can be sent next by a replica in a state: the rule of sending gives it, and its operation is valid
pub record IsDraft (r : Replica) (m : Message) (s : State) : Type 0 where
  pub given : RuleGives r.n r.w r.limit r.me s.history.present.messages m m.op
  pub valid : IsTrue (is_valid m.op)

-- what sending would answer, by its draft: that the message is sent, or what is answered in its place
abbrev pub local_of : Result Message Local → Local
local_of (Ok m) = local.Sent m
local_of (Err answer) = answer

-- the same of a no-op
abbrev pub beat_of : Result Message Beat → Beat
beat_of (Ok m) = beat.Sent m
beat_of (Err answer) = answer
