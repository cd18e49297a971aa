-- Scripts without a line of bytes: their worlds are honest, and their replies fair.
use Rattle.std.proofs.Common.{not, ◌++◌, ◌≡◌, ℕ, ◌<◌, Bool, true, false, IsTrue, All, List, [], ◌∷◌, Option, Some, None, refl, sym, ap, subst, if◌then◌else◌}
use Rattle.std.specs.Prelude.{fold}
use Rattle.std.specs.List.{flat_map}
use Rattle.std.proofs.lemmas.Bool.{false≢true, and_parts, not-true}
use Rattle.std.proofs.lemmas.List.Elements.{All-nil, All-cons}
use Rattle.std.proofs.lemmas.List.Sums.{list_all-from_AllPass}
use Rattle.op_base.specs.declared.message.Message.{Message}
use Rattle.op_base.specs.declared.outcome.Step.{Step}
use Rattle.causal_model.specs.Receiving.{steps_of}
use Rattle.causal_model.specs.declared.outcome.Local.{Local}
use Rattle.causal_model.specs.declared.outcome.Local.TheVariants as local
use Rattle.causal_model.specs.declared.outcome.Beat.{Beat}
use Rattle.causal_model.specs.declared.outcome.Beat.TheVariants as beat
use Rattle.causal_model.specs.declared.outcome.Receive.{Receive}
use Rattle.causal_model.specs.declared.outcome.Receive.TheVariants as receive
use Rattle.script_lang.specs.Commands.{line_of, keep_line_of}
use Rattle.script_lang.specs.declared.command.Command.{Command}
use Rattle.script_lang.specs.declared.command.Command.TheVariants as command
use Rattle.script_lang.specs.declared.line.LineOf.{LineOf}
use Rattle.script_lang.specs.declared.line.LineOf.TheVariants as line
use Rattle.world_model.specs.Commands as world_command
use Rattle.world_model.specs.Honest.{IsHonest, IsSentMessage}
use Rattle.world_model.specs.Offering.{offered_between, resent_of}
use Rattle.world_model.specs.Regrouping.{regroup_at}
use Rattle.world_model.specs.Settling.{is_delivery}
use Rattle.world_model.specs.Stops.{PlainKeep, keep_opening, keep_give_of}
use Rattle.world_model.specs.World.{PlainWorld, size_of, opening, local_at, beat_at, offer_at, sent_message, give_of}
use Rattle.world_model.specs.declared.outcome.Regroup.{Regroup}
use Rattle.world_model.specs.declared.outcome.Regroup.TheVariants as regroup
use Rattle.world_model.specs.declared.outcome.Settle.TheVariants as settle
use Rattle.honest_worlds.specs.Stops.{IsKeep}
use Rattle.honest_worlds.proofs.Beats.{no_beat_is_held}
use Rattle.honest_worlds.proofs.Commands.{commands_keep_honest, opening_is_honest, steps_deliver, resent_steps_deliver, sent_message_was_sent}
use Rattle.honest_worlds.proofs.SentMessages.{sent_messages_are_near}
use Rattle.honest_worlds.proofs.Settling.{settling_settles}
use Rattle.honest_worlds.proofs.Stops.{kept_is_honest, opening_is_kept, local_is_kept, beat_is_kept, give_is_kept, stop_is_kept}
use Rattle.script_net.specs.Commands.{local_reply, beat_reply, receive_reply, given_reply, resent_reply, settle_reply, regroup_reply, command_at, keep_command_at}
use Rattle.script_net.specs.Honest.{Exchange, exchanges, exchanges_behind, exchanges_from, offers_bytes, are_unforged, is_fair_to}
use Rattle.script_net.specs.HonestLaws.{ScriptsAreHonest, KeepScriptsAreHonest, TranscriptsAreFair}
use Rattle.script_net.specs.Lines.{lines_of, from_command}
use Rattle.script_lang.specs.Headers.{header_of}
use Rattle.script_lang.specs.declared.header.Header.{Header}
use Rattle.script_lang.specs.declared.header.Header.TheVariants.{Store, Keep, Live}
use Rattle.script_lang.specs.declared.header.Mode.TheVariants as mode
use Rattle.script_net.specs.Laws.{line_reply, line_world, store_of_line, store_after, keep_of_line, keep_by}
use Rattle.script_net.specs.Transcript.{AnyPlain, OfStore, OfKeep, line_at, opened, replies_behind, transcript_from, text_of_line, replies_to, reply_text, world_of_line}
use Rattle.script_net.proofs.Opened.{header_in_range, keep_in_range}
use Rattle.script_net.proofs.Ranges.{CanRun, line_can_run}

-- ---- worlds

command_keeps : (world : PlainWorld) (c : Command) → IsHonest world → CanRun (size_of world) c → offers_bytes (line.Run c) ≡ false → IsHonest (command_at c world).1
command_keeps world (command.Do r update) honest can plain = (commands_keep_honest world (world_command.sends_at r update) honest can refl).0
command_keeps world (command.Ask r object) honest can plain = honest
command_keeps world (command.Beat r) honest can plain = (commands_keep_honest world (world_command.beats_at r) honest can refl).0
command_keeps world (command.Give r k s) honest can plain = (commands_keep_honest world (world_command.gives r k s) honest can.0 refl).0
command_keeps world (command.Resend r k) honest can plain = (commands_keep_honest world (world_command.resends r k) honest can refl).0
command_keeps world (command.Raw r bytes) honest can plain = absurd (false≢true (sym plain))
command_keeps world command.Settle honest can plain = (commands_keep_honest world world_command.settles honest tt refl).0
command_keeps world (command.Members n) honest can plain = (commands_keep_honest world (world_command.regroups n) honest can refl).0
command_keeps world (command.Ids r object) honest can plain = honest
command_keeps world (command.Tombs r object) honest can plain = honest
command_keeps world (command.Log r) honest can plain = honest
command_keeps world (command.Size r) honest can plain = honest
command_keeps world (command.Stable r) honest can plain = honest
command_keeps world (command.Seen r) honest can plain = honest
command_keeps world (command.Noops r) honest can plain = honest
command_keeps world (command.Lags r) honest can plain = honest
command_keeps world (command.Stop r b) honest can plain = honest

line_keeps : (world : PlainWorld) (l : LineOf Command) → IsHonest world → ((c : Command) → l ≡ line.Run c → CanRun (size_of world) c) → offers_bytes l ≡ false → IsHonest (line_world world l)
line_keeps world line.Skip honest can plain = honest
line_keeps world (line.Run c) honest can plain = command_keeps world c honest (can c refl) plain
line_keeps world (line.Bad code) honest can plain = honest
line_keeps world line.NoMemory honest can plain = honest

module _ (world : PlainWorld) (bytes : List ℕ) (lines : List (List ℕ)) (honest : IsHonest world) (plain : are_unforged (exchanges (OfStore world) (bytes ∷ lines)) ≡ true) where
  abbrev first : LineOf Command
  first = line_of (size_of world) bytes

  parts : (not (offers_bytes first) ≡ true) × (are_unforged (exchanges (OfStore (store_of_line world bytes)) lines) ≡ true)
  parts = and_parts (not (offers_bytes first)) (are_unforged (exchanges (OfStore (store_of_line world bytes)) lines)) plain

  first_is_plain : offers_bytes first ≡ false
  first_is_plain = not-true (offers_bytes first) parts.0

  first_keeps : IsHonest (store_of_line world bytes)
  first_keeps = line_keeps world first honest (line_can_run (size_of world) mode.Store bytes) first_is_plain

lines_keep : (world : PlainWorld) (lines : List (List ℕ)) → IsHonest world → are_unforged (exchanges (OfStore world) lines) ≡ true → IsHonest (store_after world lines)
lines_keep world [] honest plain = honest
lines_keep world (bytes ∷ lines) honest plain = lines_keep (store_of_line world bytes) lines (first_keeps world bytes lines honest plain) (parts world bytes lines honest plain).1

-- a header opens an honest world
opens_honest : (header : List ℕ) (n w limit : ℕ) → header_of header ≡ Some (Store n w limit) → IsHonest (opening n w limit)
opens_honest header n w limit e = let of = header_in_range header n w limit e in opening_is_honest n w limit of.some of.few of.wide of.most

pub scripts_are_honest : ScriptsAreHonest
scripts_are_honest header lines n w limit e plain =
    lines_keep (opening n w limit) lines (opens_honest header n w limit e) plain

-- ---- worlds that are stopped

keep_command_keeps : (keep : PlainKeep) (c : Command) → IsKeep keep → CanRun (size_of keep.world) c → IsKeep (keep_command_at c keep).1
keep_command_keeps keep (command.Do r update) is can = (local_is_kept keep r update is can.0 can.1).is_keep
keep_command_keeps keep (command.Ask r object) is can = is
keep_command_keeps keep (command.Beat r) is can = (beat_is_kept keep r is can).is_keep
keep_command_keeps keep (command.Give r k s) is can = (give_is_kept keep r k s is can.0 can.1).is_keep
keep_command_keeps keep (command.Resend r k) is can = is
keep_command_keeps keep (command.Raw r bytes) is can = is
keep_command_keeps keep command.Settle is can = is
keep_command_keeps keep (command.Members n) is can = is
keep_command_keeps keep (command.Ids r object) is can = is
keep_command_keeps keep (command.Tombs r object) is can = is
keep_command_keeps keep (command.Log r) is can = is
keep_command_keeps keep (command.Size r) is can = is
keep_command_keeps keep (command.Stable r) is can = is
keep_command_keeps keep (command.Seen r) is can = is
keep_command_keeps keep (command.Noops r) is can = is
keep_command_keeps keep (command.Lags r) is can = is
keep_command_keeps keep (command.Stop r b) is can = (stop_is_kept keep r b is can).is_keep

keep_line_keeps : (keep : PlainKeep) (l : LineOf Command) → IsKeep keep → ((c : Command) → l ≡ line.Run c → CanRun (size_of keep.world) c) → IsKeep (line_at keep_command_at l keep).1
keep_line_keeps keep line.Skip is can = is
keep_line_keeps keep (line.Run c) is can = keep_command_keeps keep c is (can c refl)
keep_line_keeps keep (line.Bad code) is can = is
keep_line_keeps keep line.NoMemory is can = is

-- a line of bytes leaves a keep world
keep_bytes_keep : (keep : PlainKeep) (bytes : List ℕ) → IsKeep keep → IsKeep (keep_of_line keep bytes)
keep_bytes_keep keep bytes is = keep_line_keeps keep (keep_line_of (size_of keep.world) bytes) is (line_can_run (size_of keep.world) mode.Keep bytes)

keep_lines_keep : (keep : PlainKeep) (lines : List (List ℕ)) → IsKeep keep → IsKeep (fold keep_of_line keep lines)
keep_lines_keep keep [] is = is
keep_lines_keep keep (bytes ∷ lines) is = keep_lines_keep (keep_of_line keep bytes) lines (keep_bytes_keep keep bytes is)

opens_keep : (header : List ℕ) (n w limit : ℕ) → header_of header ≡ Some (Keep n w limit) → IsKeep (keep_opening n w limit)
opens_keep header n w limit e = let of = keep_in_range header n w limit e in opening_is_kept n w limit of.some of.few of.wide of.most

pub keep_scripts_are_honest : KeepScriptsAreHonest
keep_scripts_are_honest header lines n w limit e =
    let is = keep_lines_keep (keep_opening n w limit) lines (opens_keep header n w limit e) in
    (is, kept_is_honest (keep_by n w limit lines) is)

-- ---- replies

received_is_fair : (l : LineOf Command) (world : PlainWorld) (r : ℕ) (m : Message) → IsHonest world → r < size_of world → IsSentMessage world m → is_fair_to l (receive_reply (offer_at r m world).0) ≡ true
received_is_fair line world r m honest l sent = by (offer_at r m world).0 refl where
  by : (got : Receive) → (offer_at r m world).0 ≡ got → is_fair_to line (receive_reply got) ≡ true
  by receive.Old e = refl
  by receive.Again e = refl
  by receive.Far e = absurd (sent_messages_are_near world r m honest l sent e)
  by receive.Kept e = refl
  by (receive.Took made) e = list_all-from_AllPass is_delivery made (subst (λ got. All (λ step. is_delivery step ≡ true) (steps_of got)) e (steps_deliver world r m honest l sent))
  by receive.NoMemory e = refl

command_is_fair : (world : PlainWorld) (c : Command) → IsHonest world → CanRun (size_of world) c → offers_bytes (line.Run c) ≡ false → is_fair_to (line.Run c) (command_at c world).0 ≡ true
command_is_fair world (command.Do r update) honest can plain = by (local_at r update world).0 where
  by : (made : Local) → is_fair_to (line.Run (command.Do r update)) (local_reply made) ≡ true
  by (local.Sent m) = refl
  by local.Busy = refl
  by local.End = refl
  by local.NoMemory = refl
command_is_fair world (command.Ask r object) honest can plain = refl
command_is_fair world (command.Beat r) honest can plain = by (beat_at r world).0 refl where
  by : (made : Beat) → (beat_at r world).0 ≡ made → is_fair_to (line.Run (command.Beat r)) (beat_reply made) ≡ true
  by (beat.Sent m) e = refl
  by beat.Quiet e = refl
  by beat.Held e = absurd (no_beat_is_held world r honest can e)
  by beat.End e = refl
  by beat.NoMemory e = refl
command_is_fair world (command.Give r k s) honest can plain = by (sent_message world k s) refl where
  by : (found : Option Message) → sent_message world k s ≡ found → is_fair_to (line.Run (command.Give r k s)) (given_reply (give_of r world found).0) ≡ true
  by None e = refl
  by (Some m) e = received_is_fair (line.Run (command.Give r k s)) world r m honest can.0 (sent_message_was_sent world k s m honest e)
command_is_fair world (command.Resend r k) honest can plain = by (offered_between world r k).steps (offered_between world r k).kept (resent_steps_deliver world r k honest can) where
  by : (made : List Step) (kept : Bool) → All (λ step. is_delivery step ≡ true) made → is_fair_to (line.Run (command.Resend r k)) (resent_reply (resent_of made kept)) ≡ true
  by [] true all = refl
  by [] false all = refl
  by (step ∷ made) kept all = list_all-from_AllPass is_delivery (step ∷ made) all
command_is_fair world (command.Raw r bytes) honest can plain = absurd (false≢true (sym plain))
command_is_fair world command.Settle honest can plain = ap (λ settled. is_fair_to (line.Run command.Settle) (settle_reply (if settled then settle.Settled else settle.Unsettled))) (settling_settles world honest).1
command_is_fair world (command.Members n) honest can plain = by (regroup_at n world).0 where
  by : (answer : Regroup) → is_fair_to (line.Run (command.Members n)) (regroup_reply answer) ≡ true
  by (regroup.Regrouped epoch) = refl
  by regroup.Unsettled = refl
  by regroup.Last = refl
  by regroup.NoMemory = refl
command_is_fair world (command.Ids r object) honest can plain = refl
command_is_fair world (command.Tombs r object) honest can plain = refl
command_is_fair world (command.Log r) honest can plain = refl
command_is_fair world (command.Size r) honest can plain = refl
command_is_fair world (command.Stable r) honest can plain = refl
command_is_fair world (command.Seen r) honest can plain = refl
command_is_fair world (command.Noops r) honest can plain = refl
command_is_fair world (command.Lags r) honest can plain = refl
command_is_fair world (command.Stop r b) honest can plain = refl

line_is_fair : (world : PlainWorld) (l : LineOf Command) → IsHonest world → ((c : Command) → l ≡ line.Run c → CanRun (size_of world) c) → offers_bytes l ≡ false → is_fair_to l (line_reply world l) ≡ true
line_is_fair world line.Skip honest can plain = refl
line_is_fair world (line.Run c) honest can plain = command_is_fair world c honest (can c refl) plain
line_is_fair world (line.Bad code) honest can plain = refl
line_is_fair world line.NoMemory honest can plain = refl

-- ---- replies where replicas are stopped

keep_give_is_fair : (keep : PlainKeep) (r k s : ℕ) (l : LineOf Command) → IsKeep keep → r < size_of keep.world → (found : Option Message) → sent_message keep.world k s ≡ found → is_fair_to l (given_reply (keep_give_of r keep found).0) ≡ true
keep_give_is_fair keep r k s l is low None e = refl
keep_give_is_fair keep r k s l is low (Some m) e = let honest = kept_is_honest keep is in received_is_fair l keep.world r m honest low (sent_message_was_sent keep.world k s m honest e)

keep_command_is_fair : (keep : PlainKeep) (c : Command) → IsKeep keep → CanRun (size_of keep.world) c → is_fair_to (line.Run c) (keep_command_at c keep).0 ≡ true
keep_command_is_fair keep (command.Do r update) is can = command_is_fair keep.world (command.Do r update) (kept_is_honest keep is) can refl
keep_command_is_fair keep (command.Ask r object) is can = refl
keep_command_is_fair keep (command.Beat r) is can = command_is_fair keep.world (command.Beat r) (kept_is_honest keep is) can refl
keep_command_is_fair keep (command.Give r k s) is can = keep_give_is_fair keep r k s (line.Run (command.Give r k s)) is can.0 (sent_message keep.world k s) refl
keep_command_is_fair keep (command.Resend r k) is can = refl
keep_command_is_fair keep (command.Raw r bytes) is can = refl
keep_command_is_fair keep command.Settle is can = refl
keep_command_is_fair keep (command.Members n) is can = refl
keep_command_is_fair keep (command.Ids r object) is can = refl
keep_command_is_fair keep (command.Tombs r object) is can = refl
keep_command_is_fair keep (command.Log r) is can = refl
keep_command_is_fair keep (command.Size r) is can = refl
keep_command_is_fair keep (command.Stable r) is can = refl
keep_command_is_fair keep (command.Seen r) is can = refl
keep_command_is_fair keep (command.Noops r) is can = refl
keep_command_is_fair keep (command.Lags r) is can = refl
keep_command_is_fair keep (command.Stop r b) is can = refl

keep_line_is_fair : (keep : PlainKeep) (l : LineOf Command) → IsKeep keep → ((c : Command) → l ≡ line.Run c → CanRun (size_of keep.world) c) → is_fair_to l (line_at keep_command_at l keep).0 ≡ true
keep_line_is_fair keep line.Skip is can = refl
keep_line_is_fair keep (line.Run c) is can = keep_command_is_fair keep c is (can c refl)
keep_line_is_fair keep (line.Bad code) is can = refl
keep_line_is_fair keep line.NoMemory is can = refl

-- ---- texts

-- exchanges are fair
abbrev AreFair : List Exchange → Type 0
AreFair made = All (λ (e : Exchange). IsTrue (is_fair_to e.line e.reply)) made

lines_are_fair : (world : PlainWorld) (lines : List (List ℕ)) → IsHonest world → are_unforged (exchanges (OfStore world) lines) ≡ true → AreFair (exchanges (OfStore world) lines)
lines_are_fair world [] honest plain = All-nil (λ (e : Exchange). IsTrue (is_fair_to e.line e.reply))
lines_are_fair world (bytes ∷ lines) honest plain =
    let l = line_of (size_of world) bytes in
    All-cons (λ (e : Exchange). IsTrue (is_fair_to e.line e.reply)) (record { line = l; reply = line_reply world l }) (exchanges (OfStore (store_of_line world bytes)) lines)
    (line_is_fair world l honest (line_can_run (size_of world) mode.Store bytes) (first_is_plain world bytes lines honest plain))
    (lines_are_fair (store_of_line world bytes) lines (first_keeps world bytes lines honest plain) (parts world bytes lines honest plain).1)

keep_lines_are_fair : (keep : PlainKeep) (lines : List (List ℕ)) → IsKeep keep → AreFair (exchanges (OfKeep keep) lines)
keep_lines_are_fair keep [] is = All-nil (λ (e : Exchange). IsTrue (is_fair_to e.line e.reply))
keep_lines_are_fair keep (bytes ∷ lines) is =
    let l = keep_line_of (size_of keep.world) bytes in
    All-cons (λ (e : Exchange). IsTrue (is_fair_to e.line e.reply)) (record { line = l; reply = (line_at keep_command_at l keep).0 }) (exchanges (OfKeep (keep_of_line keep bytes)) lines)
    (keep_line_is_fair keep l is (line_can_run (size_of keep.world) mode.Keep bytes))
    (keep_lines_are_fair (keep_of_line keep bytes) lines (keep_bytes_keep keep bytes is))

behind_is_fair : (header : List ℕ) (lines : List (List ℕ)) (h : Option Header) → header_of header ≡ h → are_unforged (exchanges_behind (opened h) lines) ≡ true → AreFair (exchanges_behind (opened h) lines)
behind_is_fair header lines None e plain = All-nil (λ (e : Exchange). IsTrue (is_fair_to e.line e.reply))
behind_is_fair header lines (Some (Live n w clients turns loss)) e plain = All-nil (λ (e : Exchange). IsTrue (is_fair_to e.line e.reply))
behind_is_fair header lines (Some (Keep n w limit)) e plain = keep_lines_are_fair (keep_opening n w limit) lines (opens_keep header n w limit e)
behind_is_fair header lines (Some (Store n w limit)) e plain = lines_are_fair (opening n w limit) lines (opens_honest header n w limit e) plain

from_is_fair : (lines : List (List ℕ)) → are_unforged (exchanges_from lines) ≡ true → AreFair (exchanges_from lines)
from_is_fair [] plain = All-nil (λ (e : Exchange). IsTrue (is_fair_to e.line e.reply))
from_is_fair (first ∷ lines) plain = behind_is_fair first lines (header_of first) refl plain

-- the replies to lines are the texts of what is replied to each
abbrev texts : List Exchange → List ℕ
texts made = flat_map (λ (e : Exchange). reply_text e.reply) made

replies_are_texts : (world : AnyPlain) (lines : List (List ℕ)) → replies_to world lines ≡ texts (exchanges world lines)
replies_are_texts world [] = refl
replies_are_texts world (bytes ∷ lines) = ap (λ text. text_of_line world bytes ++ text) (replies_are_texts (world_of_line world bytes) lines)

behind_are_texts : (o : Option AnyPlain) (lines : List (List ℕ)) → replies_behind o lines ≡ texts (exchanges_behind o lines)
behind_are_texts None lines = refl
behind_are_texts (Some world) lines = replies_are_texts world lines

from_are_texts : (lines : List (List ℕ)) → transcript_from lines ≡ texts (exchanges_from lines)
from_are_texts [] = refl
from_are_texts (first ∷ lines) = behind_are_texts (opened (header_of first)) lines

pub transcripts_are_fair : TranscriptsAreFair
transcripts_are_fair script plain =
    let lines = from_command (lines_of script) in
    record { fair = from_is_fair lines plain; lines = from_are_texts lines }
