-- The rules by which a replica sends in an epoch. The windows, the limit, the no-ops and the order of the tests are this
-- project's own profile.
use Rattle.std.specs.Prelude.{◌≡◌, ℕ, ◌<◌, Bool, true, false, not, ◌||◌, ◌&&◌, ◌==◌, List, [], ◌∷◌, ◌++◌, fold, if◌then◌else◌}
use Rattle.op_base.specs.declared.message.Message.{Message}
use Rattle.op_base.specs.declared.operation.Update.{Update}
use Rattle.op_base.specs.declared.operation.Op.{Op}
use Rattle.op_base.specs.declared.operation.Op.TheVariants as op
use Rattle.causal_model.specs.Counts.{count_of, next_tag}
use Rattle.causal_model.specs.Stability.{carries_operation, unstable_of, unstable_operations, unstable_noops, noop_window}
use Rattle.causal_model.specs.State.{State, with_own}
use Rattle.causal_model.specs.declared.outcome.Local.{Local}
use Rattle.causal_model.specs.declared.outcome.Local.TheVariants as local
use Rattle.causal_model.specs.declared.outcome.Beat.{Beat}
use Rattle.causal_model.specs.declared.outcome.Beat.TheVariants as beat

-- the message by which member me sends after messages
abbrev pub own_message : ℕ → ℕ → List Message → Op → Message
own_message n me messages operation = record { origin = me; tag = next_tag n me messages; op = operation }

-- what comes of sending an update after messages, with a window w and a limit of messages a member: the tests in their order
abbrev pub sending : ℕ → ℕ → ℕ → ℕ → List Message → Update → Local
sending n w limit me messages update =
    if unstable_operations n me messages me == w then local.Busy
    else if count_of messages me == limit then local.End
    else local.Sent (own_message n me messages (op.Update update))

-- Whether a no-op is due: an operation of another member came after the last own message, or came at all where there is
-- no own message.
abbrev pub is_noop_due : ℕ → List Message → Bool
is_noop_due me messages = fold (λ due m. not (m.origin == me) && (due || carries_operation m.op)) false messages

-- what comes of sending a no-op after messages: the tests in their order
abbrev pub beating : ℕ → ℕ → ℕ → ℕ → List Message → Beat
beating n w limit me messages =
    if not (is_noop_due me messages) then beat.Quiet
    else if unstable_noops n me messages me == noop_window n w then beat.Held
    else if count_of messages me == limit then beat.End
    else beat.Sent (own_message n me messages op.NoOp)

-- the window has room for an own operation, or the no-op window for a no-op
abbrev pub HasRoom : ℕ → ℕ → ℕ → List Message → Op → Type 0
HasRoom n w me messages op.NoOp = unstable_noops n me messages me < noop_window n w
HasRoom n w me messages (op.Update u) = unstable_operations n me messages me < w

-- the message that was sent, where one was
abbrev pub local_messages : Local → List Message
local_messages (local.Sent m) = m ∷ []
local_messages local.Busy = []
local_messages local.End = []
local_messages local.NoMemory = []

abbrev pub beat_messages : Beat → List Message
beat_messages (beat.Sent m) = m ∷ []
beat_messages beat.Quiet = []
beat_messages beat.Held = []
beat_messages beat.End = []
beat_messages beat.NoMemory = []

-- whether one was: memory is taken for that alone
abbrev pub is_sent : Local → Bool
is_sent (local.Sent m) = true
is_sent answer = false

abbrev pub is_beat : Beat → Bool
is_beat (beat.Sent m) = true
is_beat answer = false

-- the rules: what comes of sending at a state, and the state after it
abbrev pub local_rule : ℕ → ℕ → Update → State → Local × State
local_rule w limit update s =
    let p = s.history.present in
    let answer = sending p.n w limit p.me p.messages update in
    (answer, fold with_own s (local_messages answer))

abbrev pub beat_rule : ℕ → ℕ → State → Beat × State
beat_rule w limit s =
    let p = s.history.present in
    let answer = beating p.n w limit p.me p.messages in
    (answer, fold with_own s (beat_messages answer))

-- the rule of sending gives this message at messages: a beat gives it where it is a no-op, else its update does
abbrev pub RuleGives : ℕ → ℕ → ℕ → ℕ → List Message → Message → Op → Type 0
RuleGives n w limit me before m op.NoOp = beating n w limit me before ≡ beat.Sent m
RuleGives n w limit me before m (op.Update u) = sending n w limit me before u ≡ local.Sent m

-- each own message among those that member me delivered is what the rule gives at those before it
abbrev pub KeepsRule : ℕ → ℕ → ℕ → ℕ → List Message → Type 0
KeepsRule n w limit me messages =
    (before later : List Message) (m : Message) → messages ≡ before ++ m ∷ later → m.origin ≡ me → RuleGives n w limit me before m m.op

-- the own messages that are not stable, oldest first: what a replica sends again
abbrev pub outbox_of : ℕ → ℕ → List Message → List Message
outbox_of n me messages = unstable_of n me messages me
