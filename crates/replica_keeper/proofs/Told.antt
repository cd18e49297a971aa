-- That the record of what a call noted tells that call.
use Rattle.std.proofs.Common.{◌≡◌, ℕ, ◌+◌, ◌<◌, ◌≤◌, ◌^◌, true, ◌&&◌, ◌==◌, nat_le, nat_lt, IsTrue, List, [], ◌∷◌, map, length, Option, Some, None, Ok, refl, sym, ap, ◌∙◌, arith, lit<, length-append, if◌then◌else◌}
use Rattle.std.specs.List.{flat_map, list_all}
use Rattle.std.proofs.lemmas.Bool.{and_parts, eqb-true, leb-true}
use Rattle.std.specs.Cmp.Lexicographic.{bytes_decides}
use Rattle.op_base.specs.Message.{fits, number}
use Rattle.op_base.specs.Name.{same_text, is_key, is_value, is_short, is_value_byte}
use Rattle.op_base.specs.Valid.{is_valid_act, is_valid_place, is_valid}
use Rattle.op_base.specs.declared.message.Message.{Message}
use Rattle.op_base.specs.declared.operation.Act.{Act}
use Rattle.op_base.specs.declared.operation.Act.TheVariants as acts
use Rattle.op_base.specs.declared.operation.Op.{Op}
use Rattle.op_base.specs.declared.operation.Op.TheVariants as op
use Rattle.op_base.specs.declared.tag.ElementId.{ElementId}
use Rattle.causal_model.specs.Counts.{is_carried}
use Rattle.causal_model.specs.Journal.{step_note, receive_notes}
use Rattle.causal_model.specs.Receiving.{steps, with_early, refusal_of, receive_by}
use Rattle.causal_model.specs.Sending.{RuleGives}
use Rattle.causal_model.specs.State.{State}
use Rattle.causal_model.specs.declared.note.Note.{Note}
use Rattle.causal_model.specs.declared.note.Note.TheVariants.{Sent, Kept}
use Rattle.causal_model.proofs.States.Outcomes.{notes_of_accepted}
use Rattle.frame_codec.specs.Grammar.{frame_of, number_field, text_field, place_field, argument_field, operation_fields}
use Rattle.frame_codec.specs.Message.{frame_read}
use Rattle.frame_codec.specs.declared.version.Version.TheVariants.{Two}
use Rattle.frame_codec.proofs.Read.{frames_are_read}
use Rattle.frame_codec.proofs.Spelled.{length-number_fields}
use Rattle.stable_state.proofs.Ranks.{key_fits}
use Rattle.world_model.specs.Records.{content_of, group_if, notes_sent, notes_by}
use Rattle.world.proofs.Givings.{frame_is_sent}
use Rattle.replica_keeper.proofs.Readings.{IsTold}

-- ---- a frame

-- the frame of a message that fits a store and can be carried there is read as the message
pub frame_told : (n limit : ℕ) (m : Message) → limit < 2 ^ 32 → IsTrue (fits n m) → IsTrue (is_carried limit m) → frame_read n 0 limit (frame_of Two n 0 m) ≡ Ok m
frame_told n limit m few fit carried = frames_are_read n 0 limit (lit< tt) few (frame_of Two n 0 m) m (frame_is_sent n 0 limit m fit carried)

-- ---- its length

short_text : (most : ℕ) (bytes : List ℕ) → IsTrue (is_short most bytes) → length bytes ≤ most
short_text most bytes h = leb-true (length bytes) most (and_parts (nat_lt 0 (length bytes)) (nat_le (length bytes) most) h).1

short_value : (bytes : List ℕ) → IsTrue (is_value bytes) → length bytes ≤ 4096
short_value bytes h = short_text 4096 bytes (and_parts (is_short 4096 bytes) (list_all is_value_byte bytes) (and_parts (is_short 4096 bytes && list_all is_value_byte bytes) _ h).0).0

length-text : (bytes : List ℕ) → length (text_field Two bytes) ≡ length bytes + 2
length-text bytes = omega (arith)

short_place : (place : Option ElementId) → length (place_field place) ≤ 10
short_place None = omega arith
short_place (Some id) = omega arith

short_argument : (act : Act) → IsTrue (is_valid_act act) → length (argument_field Two act) ≤ 4108
short_argument (acts.Add v) h = omega (arith, short_value v h, length-text v)
short_argument (acts.Rmv v) h = omega (arith, short_value v h, length-text v)
short_argument acts.Clear h = omega arith
short_argument acts.Enable h = omega arith
short_argument acts.Disable h = omega arith
short_argument (acts.Write v) h = omega (arith, short_value v h, length-text v)
short_argument (acts.Inc a) h = omega arith
short_argument (acts.Dec a) h = omega arith
short_argument (acts.Ins v place) h =
    omega (arith, short_value v (and_parts (is_value v) (is_valid_place place) h).0, length-text v, short_place place, length-append (text_field Two v) (place_field place))
short_argument (acts.Del id) h = omega arith

short_operation : (o : Op) → IsTrue (is_valid o) → length (operation_fields Two o) ≤ 4142
short_operation op.NoOp h = omega arith
short_operation (op.Update u) h =
    let parts = and_parts (is_key u.object.key) (is_valid_act u.act) h in
    omega (arith, key_fits u.object.key parts.0, length-text u.object.key, short_argument u.act parts.1, length-append (text_field Two u.object.key) (argument_field Two u.act))

-- a frame in a store of at most 16 members
pub frame_short : (n : ℕ) (m : Message) → n ≤ 16 → IsTrue (fits n m) → IsTrue (is_valid m.op) → length (frame_of Two n 0 m) ≤ 4214
frame_short n m few fit valid =
    let parts = and_parts (length m.tag == n) (nat_lt m.origin n) (and_parts ((length m.tag == n) && nat_lt m.origin n) (nat_lt 0 (number m)) fit).0 in
    let members : length m.tag ≡ n = eqb-true (length m.tag) n parts.0 in
    omega (arith, few, members, length-number_fields m.tag, short_operation m.op valid, length-append (flat_map number_field m.tag) (operation_fields Two m.op))

-- ---- a group

is_same : (text : List ℕ) → same_text text text ≡ true
is_same text = (bytes_decides text text).1 refl

group_is : (n : ℕ) (content : List ℕ) (notes group : List Note) → notes ≡ group → content_of n group ≡ content → group_if n content notes ≡ Some group
group_is n content notes group same is =
    let same_content : same_text (content_of n group) content ≡ true = ap (λ c. same_text (content_of n group) c) (sym is) ∙ is_same (content_of n group) in
    ap (group_if n content) same ∙ ap (λ b. if b then Some group else None) same_content

module _ (n w limit me : ℕ) (s : State) (m : Message) (few : n ≤ 16) (small : limit < 2 ^ 32) (fit : IsTrue (fits n m)) (carried : IsTrue (is_carried limit m)) where
  read : frame_read n 0 limit (frame_of Two n 0 m) ≡ Ok m
  read = frame_told n limit m small fit carried

  short : length (frame_of Two n 0 m) ≤ 4214
  short = frame_short n m few fit (and_parts (list_all (λ e. nat_le e limit) m.tag) (is_valid m.op) carried).1

  by_rule : (o : Op) → s.history.present.n ≡ n → s.history.present.me ≡ me → RuleGives n w limit me s.history.present.messages m o → notes_sent w limit s o ≡ Sent m ∷ []
  by_rule op.NoOp of_n of_me given = rw (of_n, of_me, given) refl
  by_rule (op.Update u) of_n of_me given = rw (of_n, of_me, given) refl

  -- a message that the rule of sending gives
  pub sent_told : s.history.present.n ≡ n → s.history.present.me ≡ me → RuleGives n w limit me s.history.present.messages m m.op → IsTold n w limit s (Sent m ∷ [])
  sent_told of_n of_me given = record {
    told = group_is n (1 ∷ frame_of Two n 0 m) (notes_by w limit s 1 (frame_read n 0 limit (frame_of Two n 0 m))) (Sent m ∷ []) (ap (notes_by w limit s 1) read ∙ by_rule m.op of_n of_me given) refl;
    some = omega arith;
    few = omega (arith, short);
  }

  -- a message that is accepted, with its steps
  pub kept_told : refusal_of w s m ≡ None → IsTold n w limit s (Kept m ∷ map step_note (steps w (with_early s m)).0)
  kept_told unrefused = record {
    told = group_is n (2 ∷ frame_of Two n 0 m) (notes_by w limit s 2 (frame_read n 0 limit (frame_of Two n 0 m))) (Kept m ∷ map step_note (steps w (with_early s m)).0)
        (ap (notes_by w limit s 2) read ∙ ap (λ o. receive_notes m (receive_by w m s o).0) unrefused ∙ notes_of_accepted m (steps w (with_early s m)).0) refl;
    some = omega arith;
    few = omega (arith, short);
  }
