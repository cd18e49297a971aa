-- When a log is that of the messages which a member delivered, and what it is while one message more is noted in it.
use Rattle.std.specs.Prelude.{◌≡◌, ℕ, ◌+◌, ◌≤◌, Bool, false, not, ◌&&◌, List, [], ◌∷◌, ◌++◌, map, filter, length, drop, slice_get, Option, Some, None, IsTrue}
use Rattle.std.specs.List.{list_any}
use Rattle.op_base.specs.declared.message.Entry.{Entry}
use Rattle.op_base.specs.declared.message.Message.{Message}
use Rattle.op_base.specs.declared.name.ObjectId.{ObjectId}
use Rattle.op_base.specs.declared.operation.Update.{Update}
use Rattle.causal_model.specs.Log.{pruned_log, stripped_log, is_kept, is_covered_by, message_of, kept_log}
use Rattle.causal_model.specs.Chapter.{is_chapter}
use Rattle.causal_model.specs.Order.{happened_before}
use Rattle.causal_model.specs.Parts.{is_on}
use Rattle.causal_model.specs.Stability.{stable_vector, is_stable}
use Rattle.polog.specs.Rows.{idle_act}
use Rattle.polog.specs.Value.{Log}

module _ (keeps : Update → Bool) (covers : Update → Update → Bool) (n me : ℕ) (messages : List Message) where
  -- a log is that of messages that member me of n delivered
  pub record IsLogOf (log : Log) : Type 0 where
    pub of_store : log.n ≡ n
    pub holds : map message_of log.entries ≡ kept_log keeps covers n me messages
    pub few : log.pushed ≤ length messages
    pub handed_out : log.stripped ≡ []

  -- the same without what a message covers
  pub record IsPruned (m : Message) (log : Log) : Type 0 where
    pub of_store : log.n ≡ n
    pub holds : map message_of log.entries ≡ filter (λ e. not (is_covered_by covers e.op m.op && happened_before e m)) (kept_log keeps covers n me messages)
    pub few : log.pushed ≤ length messages
    pub handed_out : log.stripped ≡ []

  -- and with the message, where it is kept
  pub record IsLogged (m : Message) (log : Log) : Type 0 where
    pub of_store : log.n ≡ n
    pub holds : map message_of log.entries ≡ pruned_log keeps covers n me messages m
    pub few : log.pushed ≤ length messages + 1
    pub handed_out : log.stripped ≡ []

  -- and then stripped of what is stable: the first k of that were handed out, and the others wait
  pub record IsStripped (m : Message) (k : ℕ) (log : Log) : Type 0 where
    pub of_store : log.n ≡ n
    pub holds : map message_of log.entries ≡ kept_log keeps covers n me (messages ++ m ∷ [])
    pub few : log.pushed ≤ length messages + 1
    pub within : k ≤ length (stripped_log keeps covers n me messages m)
    pub waiting : map message_of log.stripped ≡ drop k (stripped_log keeps covers n me messages m)

  -- or while what is stable by these counts is taken out entry by entry: what isn't is what is kept
  pub record IsStripping (m : Message) (stable : List ℕ) (log : Log) : Type 0 where
    pub of_store : log.n ≡ n
    pub holds :
        filter (λ e. not (is_stable stable e)) (map message_of log.entries)
        ≡ kept_log keeps covers n me (messages ++ m ∷ [])
    pub few : log.pushed ≤ length messages + 1
    pub handed_out : log.stripped ≡ []

module _ (keeps : Update → Bool) (covers : Update → Update → Bool) (n me : ℕ) (messages : List Message) (m : Message) where
  -- what is handed out when k of what is stripped were, and the log then: the next of that, and one less waits; or
  -- nothing, where all were handed out, and the log is that of the messages with the one more
  abbrev pub HandsOut : ℕ → Option Entry → Log → Type 0
  HandsOut k (Some e) log =
      (slice_get (stripped_log keeps covers n me messages m) k ≡ Some (message_of e))
      × IsStripped keeps covers n me messages m (k + 1) log
  HandsOut k None log =
      (k ≡ length (stripped_log keeps covers n me messages m)) × IsLogOf keeps covers n me (messages ++ m ∷ []) log

-- where the log was that of messages, it is the same without what a message covers
abbrev pub KeepsPruned : (Update → Update → Bool) → Message → Log → Log → Type 0
KeepsPruned covers m old new = (keeps : Update → Bool) (n me : ℕ) (messages : List Message)
    → IsLogOf keeps covers n me messages old → IsPruned keeps covers n me messages m new

-- where the log was pruned for an entry's message, which is kept, the message is in it
abbrev pub KeepsLogged : Entry → Log → Log → Type 0
KeepsLogged entry old new =
    (keeps : Update → Bool) (covers : Update → Update → Bool) (n me : ℕ) (messages : List Message) (m : Message)
    → message_of entry ≡ m → IsTrue (is_kept keeps m.op)
    → IsPruned keeps covers n me messages m old → IsLogged keeps covers n me messages m new

-- where the log was that of messages, and one that is kept was taken in, it is in the log
abbrev pub KeepsTakenIn : (Update → Update → Bool) → Message → Log → Log → Type 0
KeepsTakenIn covers m old new = (keeps : Update → Bool) (n me : ℕ) (messages : List Message) → IsTrue (is_kept keeps m.op)
    → IsLogOf keeps covers n me messages old → IsLogged keeps covers n me messages m new

-- where the log had the last message of a chapter, and these are the stable counts with it, it is stripped of what is
-- stable, and none of that was handed out yet
abbrev pub KeepsStripped : List ℕ → Log → Log → Type 0
KeepsStripped stable old new =
    (keeps : Update → Bool) (covers : Update → Update → Bool) (n w me : ℕ) (messages : List Message) (m : Message)
    → IsTrue (is_chapter n w me (messages ++ m ∷ [])) → stable ≡ stable_vector n me (messages ++ m ∷ [])
    → IsLogged keeps covers n me messages m old → IsStripped keeps covers n me messages m 0 new

-- where k of what was stripped were handed out, the one after these is, or nothing where these were all
abbrev pub KeepsHandingOut : Option Entry → Log → Log → Type 0
KeepsHandingOut next old new =
    (keeps : Update → Bool) (covers : Update → Update → Bool) (n me : ℕ) (messages : List Message) (m : Message) (k : ℕ)
    → IsStripped keeps covers n me messages m k old → HandsOut keeps covers n me messages m k next new

-- where what is stable is taken out entry by entry, it still is; where nothing came out, the log is that of the
-- messages with the one more
abbrev pub KeepsStripping : List ℕ → Option Entry → Log → Log → Type 0
KeepsStripping stable next old new =
    (keeps : Update → Bool) (covers : Update → Update → Bool) (n me : ℕ) (messages : List Message) (m : Message)
    → IsStripping keeps covers n me messages m stable old
    → IsStripping keeps covers n me messages m stable new
    × (next ≡ None → IsLogOf keeps covers n me (messages ++ m ∷ []) new)

-- where the log is that of messages, entries are those of an object in it
abbrev pub AreLoggedOf : ObjectId → Log → List Entry → Type 0
AreLoggedOf object log entries =
    (keeps : Update → Bool) (covers : Update → Update → Bool) (n me : ℕ) (messages : List Message)
    → IsLogOf keeps covers n me messages log
    → map message_of entries ≡ filter (is_on object) (kept_log keeps covers n me messages)

-- a test of entries fails on those that say that an object was cleared, or that nothing was added to it
abbrev pub FailsOnIdle : (Entry → Bool) → Type 0
FailsOnIdle passes = (e : Entry) → e.update.act ≡ idle_act e.update.object.kind → passes e ≡ false

-- where the log is that of messages, such a test finds something among entries exactly where it finds something in it
abbrev pub TellWhatIsLogged : Log → List Entry → Type 0
TellWhatIsLogged log entries =
    (keeps : Update → Bool) (covers : Update → Update → Bool) (n me : ℕ) (messages : List Message)
    (passes : Message → Bool)
    → FailsOnIdle (λ e. passes (message_of e))
    → IsLogOf keeps covers n me messages log
    → list_any passes (map message_of entries) ≡ list_any passes (kept_log keeps covers n me messages)
