-- Worlds along a script: each line keeps one, its logs are bounded, and what its replies say.
use Rattle.std.proofs.Common.{◌≡◌, ℕ, ◌*◌, ◌≤◌, ◌==◌, ◌↔◌, Bool, true, false, cond, List, [], ◌∷◌, Some, refl, sym, ap, subst, ◌∙◌}
use Rattle.std.proofs.lemmas.Bool.{and_parts, eqb-true, eq-eqb, false≢true}
use Rattle.op_base.specs.declared.message.Message.{Message}
use Rattle.op_base.specs.declared.operation.Op.TheVariants as op
use Rattle.causal_model.specs.Sending.{own_message}
use Rattle.causal_model.specs.declared.outcome.Local.TheVariants as local
use Rattle.causal_model.specs.Stability.{unstable_operations}
use Rattle.causal_model.specs.Counts.{count_of}
use Rattle.causal_model.specs.Covering.{store_keeps, store_covers}
use Rattle.causal_model.proofs.Events.Histories.{present_is_chapter}
use Rattle.causal_model.proofs.Delivery.Logs.{log_is_bounded}
use Rattle.script_lang.specs.Commands.{line_of}
use Rattle.script_lang.specs.declared.command.Command.{Command}
use Rattle.script_lang.specs.declared.command.Command.TheVariants as command
use Rattle.script_lang.specs.declared.line.LineOf.{LineOf}
use Rattle.script_lang.specs.declared.line.LineOf.TheVariants as line
use Rattle.script_lang.specs.declared.header.Mode.TheVariants as mode
use Rattle.script_lang.specs.declared.reply.Reply.TheVariants as reply
use Rattle.world_model.specs.World.{PlainWorld, size_of, epoch_in, opening, replica_of}
use Rattle.world_model.specs.Showing.{entries_at}
use Rattle.world_model.specs.Regrouping.{regroup_at}
use Rattle.world_model.specs.Worlds.{IsWorld, KeepsStore, KeepsWorld}
use Rattle.world_model.specs.declared.outcome.Regroup.{Regroup}
use Rattle.world_model.specs.declared.outcome.Regroup.TheVariants as regroup
use Rattle.world_model.proofs.Commands.{sending_keeps_world, beating_keeps_world, giving_keeps_world, resending_keeps_world, rawing_keeps_world}
use Rattle.world_model.proofs.Regrouping.{regrouping_keeps_store, next_epoch_begins}
use Rattle.world_model.proofs.Rounds.{settling_keeps_world}
use Rattle.world_model.proofs.Shown.{same_events_are_answered_alike}
use Rattle.world_model.proofs.Worlds.{opening_is_world, world_keeps_itself}
use Rattle.script_net.specs.Commands.{local_reply, regroup_reply, command_at}
use Rattle.script_net.specs.Laws.{line_world, line_reply, store_of_line, store_after, world_by, ScriptsKeepWorlds, MembersAreAsked, MembersStay, LogsAreBounded, BusyIsExact, EqualEventsAnswerAlike}
use Rattle.script_net.specs.Transcript.{reply_text, changes_members}
use Rattle.script_net.proofs.Opened.{header_in_range}
use Rattle.script_net.proofs.Ranges.{CanRun, line_can_run}

-- a command that can be run keeps a world, unless it changes the members
command_keeps : (world : PlainWorld) (c : Command) → IsWorld world → CanRun (size_of world) c → changes_members (line.Run c) ≡ false → KeepsWorld world (command_at c world).1
command_keeps world (command.Do r update) is can stay = sending_keeps_world world r update is can.0 can.1
command_keeps world (command.Ask r object) is can stay = world_keeps_itself world is
command_keeps world (command.Beat r) is can stay = beating_keeps_world world r is can
command_keeps world (command.Give r k s) is can stay = giving_keeps_world world r k s is can.0
command_keeps world (command.Resend r k) is can stay = resending_keeps_world world r k is can
command_keeps world (command.Raw r bytes) is can stay = rawing_keeps_world world r bytes is can.0 can.1
command_keeps world command.Settle is can stay = settling_keeps_world world is
command_keeps world (command.Members n) is can stay = absurd (false≢true (sym stay))
command_keeps world (command.Ids r object) is can stay = world_keeps_itself world is
command_keeps world (command.Tombs r object) is can stay = world_keeps_itself world is
command_keeps world (command.Log r) is can stay = world_keeps_itself world is
command_keeps world (command.Size r) is can stay = world_keeps_itself world is
command_keeps world (command.Stable r) is can stay = world_keeps_itself world is
command_keeps world (command.Seen r) is can stay = world_keeps_itself world is
command_keeps world (command.Noops r) is can stay = world_keeps_itself world is
command_keeps world (command.Lags r) is can stay = world_keeps_itself world is
command_keeps world (command.Stop r b) is can stay = world_keeps_itself world is

line_keeps : (world : PlainWorld) (l : LineOf Command) → IsWorld world → ((c : Command) → l ≡ line.Run c → CanRun (size_of world) c) → changes_members l ≡ false → KeepsWorld world (line_world world l)
line_keeps world line.Skip is can stay = world_keeps_itself world is
line_keeps world (line.Run c) is can stay = command_keeps world c is (can c refl) stay
line_keeps world (line.Bad code) is can stay = world_keeps_itself world is
line_keeps world line.NoMemory is can stay = world_keeps_itself world is

-- every line keeps a world of the store
line_keeps_store : (world : PlainWorld) (l : LineOf Command) → IsWorld world → ((c : Command) → l ≡ line.Run c → CanRun (size_of world) c) → KeepsStore world (line_world world l)
line_keeps_store world (line.Run (command.Members n)) is can = let within = can (command.Members n) refl in regrouping_keeps_store world n is within.0 within.1
line_keeps_store world l is can = let kept = line_keeps world l is can refl in record { is_world = kept.is_world; w = kept.w; limit = kept.limit }

-- so does every list of lines
lines_keep_store : (world : PlainWorld) (lines : List (List ℕ)) → IsWorld world → KeepsStore world (store_after world lines)
lines_keep_store world [] is = record { is_world = is; w = refl; limit = refl }
lines_keep_store world (bytes ∷ lines) is =
    let first = line_keeps_store world (line_of (size_of world) bytes) is (line_can_run (size_of world) mode.Store bytes) in
    let rest = lines_keep_store (store_of_line world bytes) lines first.is_world in
    record { is_world = rest.is_world; w = rest.w ∙ first.w; limit = rest.limit ∙ first.limit }

pub scripts_keep_worlds : ScriptsKeepWorlds
scripts_keep_worlds header lines n w limit e =
    let of = header_in_range header n w limit e in
    let kept = lines_keep_store (opening n w limit) lines (opening_is_world n w limit of.some of.few of.wide of.most) in
    (kept.is_world, kept.w, kept.limit)

pub members_are_asked : MembersAreAsked
members_are_asked header lines bytes n w limit m epoch e one told =
    let world = world_by n w limit lines in
    let within = line_can_run (size_of world) mode.Store bytes (command.Members m) one in
    let is = (scripts_keep_worlds header lines n w limit e).0 in
    let began = next_epoch_begins world m epoch is within.0 within.1 (by_epoch (regroup_at m world).0 (sym (ap (line_reply world) one) ∙ told)) in
    let after = ap (line_world world) one in
    (ap size_of after ∙ began.1, ap epoch_in after ∙ began.2) where
      by_epoch : (answer : Regroup) → regroup_reply answer ≡ Some (reply.Epoch epoch) → answer ≡ regroup.Regrouped epoch
      by_epoch (regroup.Regrouped began) f = ap regroup.Regrouped cc
      by_epoch regroup.Unsettled f = cc
      by_epoch regroup.Last f = cc
      by_epoch regroup.NoMemory f = cc

pub members_stay : MembersStay
members_stay header lines bytes n w limit e stay =
    let world = world_by n w limit lines in
    let kept = line_keeps world (line_of (size_of world) bytes) (scripts_keep_worlds header lines n w limit e).0 (line_can_run (size_of world) mode.Store bytes) stay in
    (kept.size, kept.epoch)

pub logs_are_bounded : LogsAreBounded
logs_are_bounded header lines n w limit r e l =
    let kept = scripts_keep_worlds header lines n w limit e in
    let world = world_by n w limit lines in
    let is = kept.0.replicas r l in
    let p = (replica_of world r).history.present in
    let chapter = present_is_chapter world.w (replica_of world r).history is.is_state.is_history in
    let bound : entries_at world r ≤ p.n * world.w = log_is_bounded store_keeps store_covers p.n world.w p.me p.messages (and_parts _ _ chapter).1 in
    subst (λ k. entries_at world r ≤ k * w) is.of_store (subst (λ v. entries_at world r ≤ p.n * v) kept.1 bound)

-- what is replied to a rule's answer is busy where the test of the window passes
busy_is_told : (a b : Bool) (own : Message) → (local_reply (cond a local.Busy (cond b local.End (local.Sent own))) ≡ Some reply.Busy) ↔ (a ≡ true)
busy_is_told true b own = (λ e. refl, λ e. refl)
busy_is_told false true own = (λ e. cc, λ e. absurd (false≢true e))
busy_is_told false false own = (λ e. cc, λ e. absurd (false≢true e))

pub busy_is_exact : BusyIsExact
busy_is_exact header lines bytes n w limit r update e one =
    let kept = scripts_keep_worlds header lines n w limit e in
    let world = world_by n w limit lines in
    let is = kept.0.replicas r (line_can_run (size_of world) mode.Store bytes (command.Do r update) one).0 in
    let p = (replica_of world r).history.present in
    let read = ap (line_reply world) one in
    let told = busy_is_told (unstable_operations p.n p.me p.messages p.me == world.w) (count_of p.messages p.me == world.limit) (own_message p.n p.me p.messages (op.Update update)) in
    let here : unstable_operations p.n p.me p.messages p.me ≡ unstable_operations (size_of world) r p.messages r =
    ap (λ k. unstable_operations k p.me p.messages p.me) is.of_store ∙ ap (λ m. unstable_operations (size_of world) m p.messages m) is.of_member in (
      λ busy. sym here ∙ eqb-true _ _ (told.0 (sym read ∙ busy)) ∙ kept.1,
      λ full. read ∙ told.1 (eq-eqb _ _ (here ∙ full ∙ sym kept.1)),
    )

pub equal_events_answer_alike : EqualEventsAnswerAlike
equal_events_answer_alike header lines others first second n w limit r k object e one two same =
    let kept = scripts_keep_worlds header lines n w limit e in
    let also = scripts_keep_worlds header others n w limit e in
    let world = world_by n w limit lines in
    let other = world_by n w limit others in
    let within_r = line_can_run (size_of world) mode.Store first (command.Ask r object) one in
    let within_k = line_can_run (size_of other) mode.Store second (command.Ask k object) two in
    let answers = same_events_are_answered_alike world other r k object kept.0 also.0 (kept.1 ∙ sym also.1) within_r within_k same in
    ap (λ l. reply_text (line_reply world l)) one ∙ ap (λ answer. reply_text (Some (reply.Is answer))) answers ∙ sym (ap (λ l. reply_text (line_reply other l)) two)
