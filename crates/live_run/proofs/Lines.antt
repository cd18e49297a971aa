-- What is printed of a run has a text: what clients are told, and the notes of journals.
use Rattle.std.proofs.Common.{◌≡◌, ℕ, ◌<◌, ◌≤◌, ◌==◌, false, List, [], ◌∷◌, length, get_or, All, IsTrue, inl, inr, sym, ap, subst, arith}
use Rattle.std.specs.List.{Contains}
use Rattle.std.proofs.Math.ListN.{get_or-eq_default}
use Rattle.std.proofs.Math.Logic.{∥∥₁_elim}
use Rattle.std.proofs.Props.{props}
use Rattle.std.proofs.lemmas.Bool.{cases_lt, true≢false}
use Rattle.std.proofs.lemmas.List.{get_or_default, get_or-map, length-map}
use Rattle.std.specs.Prelude.{map, OnOk, Result, Ok, Err}
use Rattle.std.proofs.lemmas.List.Elements.{All-nil, All-cons, All-contains, All-filter}
use Rattle.op_base.specs.Message.{fits}
use Rattle.op_base.specs.declared.message.Message.{Message}
use Rattle.causal_model.specs.Journal.{replay}
use Rattle.causal_model.specs.declared.note.Note.{Note}
use Rattle.causal_model.specs.declared.note.Note.TheVariants as note
use Rattle.honest_worlds.proofs.ClosedJournals.{legal_is_replayed}
use Rattle.script_lang.specs.Notes.{HasLine}
use Rattle.script_lang.specs.declared.live.LiveCommand.{LiveCommand}
use Rattle.script_lang.specs.declared.live.LiveCommand.TheVariants.{Client, Do, Ask}
use Rattle.script_lang.specs.declared.reply.Reply.{Reply}
use Rattle.script_lang.specs.declared.reply.Reply.TheVariants as reply
use Rattle.world_model.specs.Journals.{journal_of, ends_epoch, sent_in, AreJournals}
use Rattle.world_model.proofs.Sent.{messages_fit}
use Rattle.live_run.specs.Inputs.{commands_of, replica_of_client}
use Rattle.live_run.specs.Limits.{live_limit}
use Rattle.live_run.specs.Runs.{IsRun, told_to}
use Rattle.live_run.specs.Texts.{IsClientReply}
use Rattle.live_run.specs.Told.{AreTold, IsReplyAfter}
use Rattle.live_run.specs.declared.told.Told.{Told}
use Rattle.live_run.proofs.Ended.{sent_has, none_in}

-- ---- replies

module _ (n w r : ℕ) where
  do_reply : (notes : List Note) (c : ℕ) (update : _) (x : Reply) → IsReplyAfter n w r notes (Do c update) x → IsClientReply x
  do_reply notes c update (reply.Sent seq) is = tt
  do_reply notes c update reply.Busy is = tt
  do_reply notes c update reply.End is = tt
  do_reply notes c update other is = absurd is

  ask_reply : (notes : List Note) (c : ℕ) (object : _) (x : Reply) → IsReplyAfter n w r notes (Ask c object) x → IsClientReply x
  ask_reply notes c object (reply.Is a) is = tt
  ask_reply notes c object other is = absurd is

  client_reply : (notes : List Note) (command : LiveCommand) (x : Reply) → IsReplyAfter n w r notes command x → IsClientReply x
  client_reply notes (Do c update) x is = do_reply notes c update x is
  client_reply notes (Ask c object) x is = ask_reply notes c object x is
  client_reply notes (Client c q) x is = absurd is

  pub client_replies : (notes : List Note) (commands : List LiveCommand) (told : List Told) → AreTold n w r notes commands told → All (λ t. IsClientReply t.reply) told
  client_replies notes [] [] are = All-nil (λ (t : Told). IsClientReply t.reply)
  client_replies notes [] (t ∷ ts) are = absurd are
  client_replies notes (c ∷ cs) [] are = absurd are
  client_replies notes (c ∷ cs) (t ∷ ts) are = All-cons (λ (t : Told). IsClientReply t.reply) t ts (client_reply _ c t.reply are.0.is) (client_replies notes cs ts are.1)

-- ---- notes

module _ (n w : ℕ) (journals : List (List Note)) (few : n ≤ 16) (of_each : length journals ≡ n) (are : AreJournals n w live_limit journals) where
  sent_fit : (r : ℕ) → r < n → All (λ m. IsTrue (fits n m)) (sent_in (journal_of journals r))
  sent_fit r l =
      let is = legal_is_replayed n w live_limit r (journal_of journals r) few l (are.legal r l) (are.one_epoch r l) in
      let present = (replay n r (journal_of journals r)).history.present in
      subst (All (λ m. IsTrue (fits n m))) is.own
      (All-filter (λ m. m.origin == present.me) (λ m. IsTrue (fits n m)) present.messages (messages_fit n w live_limit r (replay n r (journal_of journals r)) is.replica))

  fits_where_sent : (r : ℕ) (m : Message) → Contains (journal_of journals r) (note.Sent m) → IsTrue (fits n m)
  fits_where_sent r m has = elim (cases_lt r n) [
    | inl l ↦ sent_has (λ m. IsTrue (fits n m)) (journal_of journals r) m (sent_fit r l) has
    | inr past ↦ absurd (none_in (journal_of journals r) (note.Sent m) (ap length (get_or-eq_default journals [] (omega (arith, past, of_each)))) has)
  ]

  has_line : (r : ℕ) → r < n → (x : Note) → Contains (journal_of journals r) x → HasLine n x
  has_line r l (note.Sent m) has = fits_where_sent r m has
  has_line r l (note.Kept m) has = fits_where_sent m.origin m (are.kept r m l has)
  has_line r l (note.Took id) has = tt
  has_line r l (note.Crook id) has = tt
  has_line r l (note.Regroup epoch k me) has = absurd (true≢false (All-contains (λ x. ends_epoch x ≡ false) (journal_of journals r) (note.Regroup epoch k me) (are.one_epoch r l) has))

  pub have_lines : (r : ℕ) → r < n → All (HasLine n) (journal_of journals r)
  have_lines r l i d inside = has_line r l (get_or (journal_of journals r) i d) (i, inside, get_or_default (journal_of journals r) i (get_or (journal_of journals r) i d) d inside)

has_line_prop : (n : ℕ) (x : Note) → IsProp (HasLine n x)
has_line_prop n (note.Sent m) = search props
has_line_prop n (note.Kept m) = search props
has_line_prop n (note.Took id) = search props
has_line_prop n (note.Crook id) = search props
has_line_prop n (note.Regroup epoch k me) = λ x y. absurd x

-- so the notes of journals that are legal have lines, though it isn't told how they are
pub lines_of : (n w : ℕ) (journals : List (List Note)) → n ≤ 16 → length journals ≡ n → ∥ AreJournals n w live_limit journals ∥₁ → (r : ℕ) → r < n → All (HasLine n) (journal_of journals r)
lines_of n w journals few of_each some r l i d inside = ∥∥₁_elim some (has_line_prop n (get_or (journal_of journals r) i d)) (λ are. have_lines n w journals few of_each are r l i d inside)

-- ---- of a run

pub on_ok : {X E P Q : Type 0} (r : Result X E) → (P → Q) → OnOk r P → OnOk r Q
on_ok (Ok x) then is = then is
on_ok (Err e) then is = tt

all_mapped : {X Y : Type 0} (P : Y → Type 0) (f : X → Y) (xs : List X) → All P (map f xs) → All (λ x. P (f x)) xs
all_mapped P f xs all k d l = subst P (get_or-map f xs k d (f d) l) (all k (f d) (subst (λ j. k < j) (sym (length-map xs f)) l))

-- what was told has texts
pub run_replies : {X : Type 0} (f : X → List Told) (n w clients : ℕ) (commands : List LiveCommand) (told : List X) (journals : List (List Note)) → IsRun n w clients commands (map f told) journals
    → All (λ ts. All (λ t. IsClientReply t.reply) (f ts)) told
run_replies f n w clients commands told journals run = all_mapped (All (λ t. IsClientReply t.reply)) f told (λ c d l.
    let inside : c < clients = subst (λ k. c < k) run.to_each l in
    subst (All (λ t. IsClientReply t.reply)) (get_or_default (map f told) c [] d l)
    (client_replies n w (replica_of_client n commands c) (journal_of journals (replica_of_client n commands c)) (commands_of c commands) (told_to (map f told) c) (run.are_told c inside)))

-- so have its journals
pub run_lines : {X : Type 0} (f : X → List Note) (n w clients : ℕ) (commands : List LiveCommand) (told : List (List Told)) (journals : List (List Note)) (xs : List X) → n ≤ 16 → IsRun n w clients commands told journals → map f xs ≡ journals
    → All (λ x. All (HasLine n) (f x)) xs
run_lines f n w clients commands told journals xs few run are = all_mapped (All (HasLine n)) f xs (subst (All (All (HasLine n))) (sym are) (λ r d l.
    let inside : r < n = subst (λ k. r < k) run.of_each l in
    subst (All (HasLine n)) (get_or_default journals r [] d l) (lines_of n w journals few run.of_each run.journals_are r inside)))
