-- A client's commands, one behind the other.
use Rattle.std.proofs.Common.{◌≡◌, ℕ, zero, suc, ◌+◌, ◌<◌, ◌≤◌, List, [], ◌∷◌, ◌++◌, length, get_or, All, Result, Ok, Err, sym, ap, subst, ◌∙◌, arith}
use Rattle.std.specs.Prelude.{IfOk}
use Rattle.std.specs.List.{AllPairs}
use Rattle.std.proofs.lemmas.List.{append-nil, append_assoc, length-append}
use Rattle.std.proofs.lemmas.Grind.{flat_map-append}
use Rattle.std.proofs.lemmas.List.Quantifiers.{all_pairs_push}
use Rattle.op_base.specs.declared.memory.NoMemory.{NoMemory}
use Rattle.op_base.specs.declared.operation.Update.{Update}
use Rattle.causal_model.specs.declared.note.Note.{Note}
use Rattle.replica_lock.specs.Held.{Held}
use Rattle.replica_lock.specs.Shows.{notes_append}
use Rattle.replica_lock.specs.Turns.{NotedTurn, notes_in}
use Rattle.replica_lock.specs.declared.pass.Settings.{Settings}
use Rattle.script_lang.specs.declared.live.LiveCommand.{LiveCommand}
use Rattle.script_lang.specs.declared.live.LiveCommand.TheVariants.{Do}
use Rattle.turn_lock.specs.Turns.{LockState, StartsWith}
use Rattle.live_run.specs.Made.{Made}
use Rattle.live_run.specs.Told.{IsTold, AreTold, ComesAfter, ok_number, ok_numbers, sent_numbers}
use Rattle.live_run.specs.Workers.{IsSentNote, IsClientDone}
use Rattle.live_run.specs.declared.told.ClientDone.{ClientDone}
use Rattle.live_run.specs.declared.told.Told.{Told}
use Rattle.live_run.proofs.Fronts.{are_told_longer}

starts_again : (a b c : List NotedTurn) → StartsWith b a → StartsWith c b → StartsWith c a
starts_again a b c (first, is) (later, becomes) = (first ++ later, becomes ∙ ap (λ l. l ++ later) is ∙ append_assoc a first later)

-- the notes of a longer list of turns
more_notes : (a b : List NotedTurn) → StartsWith b a → (more : List Note) × (notes_in b ≡ notes_in a ++ more)
more_notes a b (later, is) = (notes_in later, ap notes_in is ∙ notes_append a later)

no_fewer : (a b : List NotedTurn) → StartsWith b a → length (notes_in a) ≤ length (notes_in b)
no_fewer a b starts = let more = more_notes a b starts in omega (arith, ap length more.1, length-append (notes_in a) more.0)

-- ---- a command that is made again

-- calls were made that sent nothing
pub record HasWaited (old new : Held) : Type 0 where
  pub lock : new.lock ≡ old.lock
  pub front : StartsWith new.seen old.seen
  pub sent : sent_numbers (notes_in new.own) ≡ sent_numbers (notes_in old.own)
  pub only_sent : All IsSentNote (notes_in old.own) → All IsSentNote (notes_in new.own)

module _ (old mid new : Held) (command : LiveCommand) (told : Told) (waited : HasWaited old mid) (made : Made mid new command told) where
  front : StartsWith new.seen old.seen
  front = starts_again old.seen mid.seen new.seen waited.front made.front

  pub made_after : Made old new command told
  made_after = record {
    lock = made.lock ∙ waited.lock;
    front = front;
    is_told = subst (λ (l : LockState Settings). IsTold l.key.n l.key.w l.key.me (notes_in new.seen) command told) waited.lock made.is_told;
    place = made.place;
    rises = λ ok. let more = made.rises ok in omega (arith, more, no_fewer old.seen mid.seen waited.front);
    sent = made.sent ∙ ap (λ l. l ++ ok_number told.reply) waited.sent;
    only_sent = λ all. made.only_sent (waited.only_sent all);
  }

  pub waited_on : ok_number told.reply ≡ [] → HasWaited old new
  waited_on none = record {
    lock = made.lock ∙ waited.lock;
    front = front;
    sent = made_after.sent ∙ ap (λ l. sent_numbers (notes_in old.own) ++ l) none ∙ append-nil (sent_numbers (notes_in old.own));
    only_sent = made_after.only_sent;
  }

pub made_in_the_end : (old mid new : Held) (update : Update) → HasWaited old mid → (r : Result Told NoMemory)
    → IfOk r (λ told. (c : ℕ) → Made mid new (Do c update) told) → IfOk r (λ told. (c : ℕ) → Made old new (Do c update) told)
made_in_the_end old mid new update waited (Ok told) made = λ c. made_after old mid new (Do c update) told waited (made c)
made_in_the_end old mid new update waited (Err none) made = made

-- ---- one command more

module _ (n w r : ℕ) (notes : List Note) where
  are_told_push : (commands : List LiveCommand) (ts : List Told) (command : LiveCommand) (told : Told) → AreTold n w r notes commands ts → IsTold n w r notes command told → AreTold n w r notes (commands ++ command ∷ []) (ts ++ told ∷ [])
  are_told_push [] [] command told are is = (is, tt)
  are_told_push [] (t ∷ ts) command told are is = absurd are
  are_told_push (c ∷ cs) [] command told are is = absurd are
  are_told_push (c ∷ cs) (t ∷ ts) command told are is = (are.0, are_told_push cs ts command told are.1 is)

  told_within : (commands : List LiveCommand) (ts : List Told) → AreTold n w r notes commands ts → (k : ℕ) (d : Told) → k < length ts → (get_or ts k d).place ≤ length notes
  told_within [] [] are k d l = let no : ⊥ = omega (arith, l) in absurd no
  told_within [] (t ∷ ts) are k d l = absurd are
  told_within (c ∷ cs) [] are k d l = absurd are
  told_within (c ∷ cs) (t ∷ ts) are zero d l = are.0.within
  told_within (c ∷ cs) (t ∷ ts) are (suc k) d l = told_within cs ts are.1 k d (omega (arith, l))

module _ (lock : LockState Settings) (commands : List LiveCommand) (done : ClientDone) (is : IsClientDone lock commands done) (new : Held) (command : LiveCommand) (told : Told) (made : Made done.pass new command told) where
  abbrev All_of : List Note → List LiveCommand → List Told → Type 0
  All_of notes cs ts = AreTold lock.key.n lock.key.w lock.key.me notes cs ts

  told_then : All_of (notes_in new.seen) (commands ++ command ∷ []) (done.told.items ++ told ∷ [])
  told_then =
      let more = more_notes done.pass.seen new.seen made.front in
      are_told_push lock.key.n lock.key.w lock.key.me (notes_in new.seen) commands done.told.items command told
      (subst (λ notes. All_of notes commands done.told.items) (sym more.1) (are_told_longer lock.key.n lock.key.w lock.key.me (notes_in done.pass.seen) more.0 commands done.told.items is.are_told))
      (subst (λ (l : LockState Settings). IsTold l.key.n l.key.w l.key.me (notes_in new.seen) command told) is.of_lock made.is_told)

  places_rise : AllPairs ComesAfter (done.told.items ++ told ∷ [])
  places_rise = all_pairs_push ComesAfter done.told.items told is.places_rise (λ k d l.
      let within = told_within lock.key.n lock.key.w lock.key.me (notes_in done.pass.seen) commands done.told.items is.are_told k d l in
      record {
        stays = omega (arith, within, no_fewer done.pass.seen new.seen made.front, made.place);
        rises = λ ok. let more = made.rises ok in omega (arith, within, more);
      })

  pub done_more : (after : ClientDone) → after.pass ≡ new → after.told.items ≡ done.told.items ++ told ∷ [] → IsClientDone lock (commands ++ command ∷ []) after
  done_more after pass_is told_is = record {
    of_lock = ap (λ (h : Held). h.lock) pass_is ∙ made.lock ∙ is.of_lock;
    are_told = subst (λ (x : Held × List Told). All_of (notes_in x.0.seen) (commands ++ command ∷ []) x.1) (λ i. (sym pass_is i, sym told_is i)) told_then;
    places_rise = subst (AllPairs ComesAfter) (sym told_is) places_rise;
    sent =
        ap (λ (h : Held). sent_numbers (notes_in h.own)) pass_is ∙ made.sent ∙ ap (λ l. l ++ ok_number told.reply) is.sent
        ∙ ap (λ l. ok_numbers done.told.items ++ l) (sym (append-nil (ok_number told.reply)))
        ∙ sym (ap ok_numbers told_is ∙ flat_map-append (λ (t : Told). ok_number t.reply) done.told.items (told ∷ []));
    only_sent = subst (λ (h : Held). All IsSentNote (notes_in h.own)) (sym pass_is) (made.only_sent is.only_sent);
  }

-- ---- one line more
