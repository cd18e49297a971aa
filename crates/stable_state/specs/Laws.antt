-- What holds of items while a message is moved into them. Each statement is the contract of a function of laws.rt.
use Rattle.std.specs.Prelude.{◌≡◌, ◌≢◌, ℕ, ◌≤◌, ◌^◌, length, IsTrue, Some, slice_get, ◌+ℤ◌}
use Rattle.op_base.specs.declared.message.Entry.{Entry}
use Rattle.op_base.specs.declared.message.Message.{Message}
use Rattle.op_base.specs.declared.name.Kind.TheVariants.{Counter}
use Rattle.op_base.specs.declared.operation.Op.TheVariants as op
use Rattle.op_base.specs.declared.operation.Update.{Update}
use Rattle.causal_model.specs.Acts.{value_of, amount_of}
use Rattle.causal_model.specs.Log.{stripped_of, message_of}
use Rattle.causal_model.specs.History.{History, with_message, is_history, is_limited}
use Rattle.causal_model.specs.Items.{cell_in}
use Rattle.causal_model.specs.Query.{IsWithin}
use Rattle.stable_state.specs.Shelf.{Shelved}
use Rattle.stable_state.specs.Standing.{AreSettledOf, AreAbsorbed, AreMoved}

-- a no-op covers nothing
abbrev pub NoOpCoversNothing : Type 0
NoOpCoversNothing = (h : History) (m : Message) (s : Shelved) → m.op ≡ op.NoOp → AreSettledOf h s → AreAbsorbed h m 0 s

-- where a message is of another kind than counter, nothing is applied at once
abbrev pub OthersAreNotApplied : Type 0
OthersAreNotApplied = (h : History) (m : Message) (s : Shelved) → ((u : Update) → m.op ≡ op.Update u → u.object.kind ≢ Counter)
    → AreAbsorbed h m (length (stripped_of h m)) s → AreMoved h m s

-- an update can be put into items: the sum of its cell fits its number
abbrev pub HasRange : Shelved → Update → Type 0
HasRange s u = IsWithin (2 ^ 127) ((cell_in s.items u.object (value_of u.act)).sum +ℤ amount_of u.act)

-- in a store with a limit of at most a million each sum on the way fits
abbrev pub AbsorbedSumsFit : Type 0
AbsorbedSumsFit = (w limit : ℕ) (h : History) (m : Message) (k : ℕ) (entry : Entry) (s : Shelved)
    → IsTrue (is_history w (with_message h m)) → IsTrue (is_limited limit (with_message h m)) → limit ≤ 1000000
    → slice_get (stripped_of h m) k ≡ Some (message_of entry) → AreAbsorbed h m k s → HasRange s entry.update

-- and so does that of what is applied at once
abbrev pub AppliedSumsFit : Type 0
AppliedSumsFit = (w limit : ℕ) (h : History) (m : Message) (u : Update) (s : Shelved)
    → IsTrue (is_history w (with_message h m)) → IsTrue (is_limited limit (with_message h m)) → limit ≤ 1000000
    → m.op ≡ op.Update u → u.object.kind ≡ Counter → AreAbsorbed h m (length (stripped_of h m)) s → HasRange s u
