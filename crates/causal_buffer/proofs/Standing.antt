-- What the calls make of a state's buffer, and what is asked of them.
use Rattle.std.proofs.Common.{◌≡◌, ℕ, ◌+◌, ◌<◌, ◌≤◌, false, IsTrue, List, length, refl, sym, ap, ap₂, subst, ◌∙◌, inl, inr, Option, Some, None, arith}
use Rattle.std.specs.List.{find}
use Rattle.std.specs.Option.{option_map}
use Rattle.std.proofs.lemmas.List.Elements.{All-contains, All-weaker}
use Rattle.op_base.specs.Timestamp.{entry}
use Rattle.op_base.specs.Message.{number, id_of, fits}
use Rattle.op_base.specs.declared.message.Message.{Message}
use Rattle.op_base.specs.declared.tag.MessageId.{MessageId}
use Rattle.causal_model.specs.Counts.{is_deliverable}
use Rattle.causal_model.specs.Stability.{noop_window}
use Rattle.causal_model.specs.Receiving.{is_old, is_far, next_early, next_of}
use Rattle.causal_model.specs.State.{State, counted, with_own}
use Rattle.causal_model.specs.Early.{is_again, put_early, has_id, without}
use Rattle.causal_model.specs.States.{IsState}
use Rattle.causal_model.proofs.Delivery.Counts.{length-counts}
use Rattle.causal_model.proofs.States.Early.{StandsBefore, standing, IsNew-from_test, IsNear-from_test, fits_member}
use Rattle.causal_model.proofs.Theory.Finds.{found}
use Rattle.causal_model.proofs.Events.Histories.{IsHistory-from_test}
use Rattle.causal_model.proofs.Theory.Risings.{found_alike}
use Rattle.causal_model.proofs.States.States.{accept_keeps_state, step_keeps_state, own_keeps_state, own_makes_none_deliverable}
use Rattle.causal_model.proofs.States.Steps.{has_own_id}
use Rattle.causal_buffer.specs.Buffer.{Buffer, with_messages, AreAhead, AreNear}
use Rattle.causal_buffer.specs.Standing.{IsBufferOf, KeepsEarly, KeepKeepsState, IsNextInState, TakesNext, IsTakenInState, KeepsStep, OwnKeepsBuffer, MemberIsInStore, CountsAreOfStore, EarlyAreAhead, EarlyAreNear, NextIdIsOfMessage, NextIsOfMember}
use Rattle.causal_buffer.proofs.Kept.{not_of_member}
use Rattle.causal_buffer.proofs.Places.{has_not}

-- the buffer of a state
abbrev buffer_in : ℕ → State → Buffer
buffer_in w s = record { n = s.history.present.n; w = w; early = s.early }

is_buffer_in : (w : ℕ) (s : State) (b : Buffer) → IsBufferOf w s b → b ≡ buffer_in w s
is_buffer_in w s b of =
    ap (λ early. record { n = b.n; w = b.w; early = early }) of.early ∙ ap₂ (λ k v. record { n = k; w = v; early = s.early }) of.members of.window

-- ---- a message that is kept

-- a message that is kept is one of the early messages of the buffer
pub keeps_early : (m : Message) (old new : Buffer) → new ≡ with_messages old (put_early m old.early) → KeepsEarly m old new
keeps_early m old new e w s of = record { members = ap (λ (b : Buffer). b.n) e ∙ of.members; window = ap (λ (b : Buffer). b.w) e ∙ of.window; early = ap (λ (b : Buffer). b.early) e ∙ ap (put_early m) of.early }

-- and one that is neither old, nor early already, nor far leaves a state that a replica can be in
pub keep_keeps_state : (me : ℕ) (counts : List ℕ) (m : Message) (b : Buffer) → IsTrue (fits b.n m) → is_old me counts m ≡ false → is_again b.early m ≡ false → is_far b.n b.w me counts m ≡ false
    → KeepKeepsState me counts m b
keep_keeps_state me counts m b fit new apart near w limit s is of member carried =
    let by_state : (b : Buffer) → is_far b.n b.w me counts m ≡ is_far b.n b.w s.history.present.me (counted s.history) m = λ b. ap₂ (λ x c. is_far b.n b.w x c m) member.member member.delivered in
    accept_keeps_state w limit s m is (subst (λ n. IsTrue (fits n m)) of.members fit) carried (sym (ap₂ (λ x c. is_old x c m) member.member member.delivered) ∙ new) (sym (ap (λ early. is_again early m) of.early) ∙ apart)
    (sym (by_state (buffer_in w s)) ∙ sym (ap (λ (b : Buffer). is_far b.n b.w me counts m) (is_buffer_in w s b of)) ∙ near)

-- ---- what is next, and its removal

pub is_next_in_state : (counts : List ℕ) (b : Buffer) (id : Option MessageId) → id ≡ option_map id_of (next_early b.n counts b.early) → IsNextInState counts b id
is_next_in_state counts b id e w s of are =
    e ∙ ap (λ (b : Buffer). option_map id_of (next_early b.n counts b.early)) (is_buffer_in w s b of) ∙ ap (λ c. option_map id_of (next_early s.history.present.n c s.early)) are

pub is_taken_in_state : (counts : List ℕ) (b : Buffer) (taken : Option Message) → taken ≡ next_early b.n counts b.early → IsTakenInState counts b taken
is_taken_in_state counts b taken e w s of are =
    e ∙ ap (λ (b : Buffer). next_early b.n counts b.early) (is_buffer_in w s b of) ∙ ap (λ c. next_early s.history.present.n c s.early) are

-- what stands before a message is of another id
before_has_not : (m y : Message) → StandsBefore y m → has_id (id_of m) y ≡ false
before_has_not m y before = elim (standing y m before) [
  | inl low ↦ not_of_member (id_of m) y (λ e. omega (arith, e, low))
  | inr same ↦ has_not (id_of m) y (λ e. omega (arith, e, same.1))
]

pub takes_next : (id : MessageId) (old : Buffer) (taken : Option Message) → taken ≡ find (has_id id) old.early → TakesNext id old taken
takes_next id old taken e w limit s m is of next same =
    e ∙ ap₂ (λ i early. find (has_id i) early) same of.early
    ∙ found_alike StandsBefore (is_deliverable s.history.present.n (counted s.history)) (has_id (id_of m)) s.early m is.are_early.rise next (has_own_id m) (before_has_not m)

pub keeps_step : (id : MessageId) (old new : Buffer) → new ≡ with_messages old (without id old.early) → KeepsStep id old new
keeps_step id old new e w limit s m is of next same = (
  step_keeps_state w limit s m is next,
  record { members = ap (λ (b : Buffer). b.n) e ∙ of.members; window = ap (λ (b : Buffer). b.w) e ∙ of.window; early = ap (λ (b : Buffer). b.early) e ∙ ap₂ without same of.early },
)

-- ---- laws

pub own_keeps_buffer : OwnKeepsBuffer
own_keeps_buffer w limit s o m b is of e room valid below = (
  subst (λ own. IsState w limit (with_own s own)) (sym e) (own_keeps_state w limit s o is room valid below),
  record { members = of.members; window = of.window; early = of.early },
  own_makes_none_deliverable w limit s o is m (ap (λ (own : Message). own.origin) e),
)

pub member_is_in_store : MemberIsInStore
member_is_in_store w limit me s b is of e = omega (arith, (IsHistory-from_test w s.history is.is_history).member, of.members, e)

pub counts_are_of_store : CountsAreOfStore
counts_are_of_store w counts s b of e = ap length e ∙ length-counts s.history.present.n s.history.present.messages ∙ sym of.members

pub early_are_ahead : EarlyAreAhead
early_are_ahead w limit counts s b is of e =
    let was = counted s.history in
    subst (λ c. AreAhead c b.early) (sym e) (subst (AreAhead was) (sym of.early)
    (All-weaker (λ m. is_old s.history.present.me was m ≡ false) (λ m. entry was m.origin < number m) (λ m new. (IsNew-from_test s.history.present.me was m new).ahead) s.early is.are_early.new))

pub early_are_near : EarlyAreNear
early_are_near w limit counts s b is of e =
    let n = s.history.present.n in
    let was = counted s.history in
    subst (λ c. AreNear b.n b.w c b.early) (sym e) (subst (λ (b : Buffer). AreNear b.n b.w was b.early) (sym (is_buffer_in w s b of))
    (All-weaker (λ m. is_far n w s.history.present.me was m ≡ false) (λ m. number m ≤ entry was m.origin + (w + noop_window n w)) (λ m near. (IsNear-from_test n w s.history.present.me was m near).within) s.early is.are_early.near))

pub next_id_is_of_message : NextIdIsOfMessage
next_id_is_of_message s id e = by (next_of s) refl e where
  by : (next : Option Message) → next_of s ≡ next → option_map id_of next ≡ Some id → (m : Message) × (next_of s ≡ Some m) × (id ≡ id_of m)
  by None is same = cc
  by (Some m) is same = (m, is, cc)

pub next_is_of_member : NextIsOfMember
next_is_of_member w limit s m b is of next =
    let there = found (is_deliverable s.history.present.n (counted s.history)) s.early m next in
    omega (arith, fits_member s.history.present.n m (All-contains (λ y. IsTrue (fits s.history.present.n y)) s.early m is.are_early.fit there.0), of.members)
