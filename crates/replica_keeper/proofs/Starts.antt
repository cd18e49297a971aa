-- What stops leave of a start.
use Rattle.std.proofs.Common.{◌≡◌, ⊎_elim, ℕ, ◌+◌, ◌-◌, ◌≤◌, min, Bool, true, false, nat_le, List, [], ◌∷◌, ◌++◌, length, take, drop, None, refl, sym, ap, subst, ◌∙◌, arith, length-append, length-drop}
use Rattle.std.proofs.lemmas.Bool.{le-leb}
use Rattle.std.proofs.lemmas.List.{length-take-le}
use Rattle.std.proofs.lemmas.Option.{none-some}
use Rattle.causal_model.specs.declared.note.Note.{Note}
use Rattle.store_io.specs.Keeping.{Leaves, LeavesEither}
use Rattle.world_model.specs.Records.{record_of, records_of, Reading, Settings, kept_reading, kept_prefix, kept_fault, fault_by}
use Rattle.world_model.specs.Stops.{within_bytes}
use Rattle.replica_keeper.specs.Keeping.{groups_of, IsFrontOf, Keeps}
use Rattle.replica_keeper.specs.Open.{NotedNode, settings_by, IsOpen}
use Rattle.replica_keeper.specs.Starting.{MayLeave}
use Rattle.std.proofs.Math.Seq.{take-add}
use Rattle.replica_keeper.proofs.Fronts.{le_or_lt}
use Rattle.replica_keeper.proofs.Kept.{left_front}

within_all : (n b : ℕ) (groups : List (List Note)) → length (records_of n groups) ≤ b → within_bytes n b groups ≡ groups
within_all n b [] le = refl
within_all n b (group ∷ groups) le =
    let both = length-append (record_of n group) (records_of n groups) in
    let e : nat_le (length (record_of n group)) b ≡ true = le-leb (length (record_of n group)) b (omega (arith, le, both)) in
    rw e (ap (λ gs. group ∷ gs) (within_all n (b - length (record_of n group)) groups (omega (arith, le, both))))

-- where bytes have no fault, that is read of them
no_fault : (reading : Reading) → fault_by reading ≡ None → reading.faulty ≡ false
no_fault reading none = by reading.faulty refl where
  by : (b : Bool) → reading.faulty ≡ b → reading.faulty ≡ false
  by false e = e
  by true e = absurd (none-some reading.len (sym none ∙ rw e refl))

pub held_left : (of : Settings) (held : List ℕ) (synced : ℕ) (left : List ℕ) → Leaves held synced left → kept_fault of held ≡ None → IsFrontOf of (kept_prefix of held) synced left
held_left of held synced left l none = left_front of held (kept_prefix of held) synced left (no_fault (kept_reading of held) none) refl l

-- a stop while a torn end is cut off, or after it
pub settled_left : (of : Settings) (notes : List Note) (held : List ℕ) (len synced other : ℕ) (left : List ℕ) → len ≤ length held → Keeps of notes (take len held) other → groups_of notes ≡ kept_prefix of held → (kept_reading of held).faulty ≡ false
    → LeavesEither held synced (take len held) (min len synced) left → IsFrontOf of (kept_prefix of held) synced left
settled_left of notes held len synced other left within k same f either = ⊎_elim before after either where
  before : Leaves held synced left → IsFrontOf of (kept_prefix of held) synced left
  before l = left_front of held (kept_prefix of held) synced left f refl l

  total : length (records_of of.n (kept_prefix of held)) ≡ len
  total = ap (λ gs. length (records_of of.n gs)) (sym same) ∙ ap length (sym k.records) ∙ length-take-le len held within

  more : (IsFrontOf of (kept_prefix of held) (min len synced) left) → within_bytes of.n synced (kept_prefix of held) ≡ within_bytes of.n (min len synced) (kept_prefix of held) → IsFrontOf of (kept_prefix of held) synced left
  more is e = record { front = is.front; has = subst (λ gs. length gs ≤ length (kept_prefix of left)) (sym e) is.has; faultless = is.faultless }

  after : Leaves (take len held) (min len synced) left → IsFrontOf of (kept_prefix of held) synced left
  after l =
      let is : IsFrontOf of (kept_prefix of held) (min len synced) left = left_front of (take len held) (kept_prefix of held) (min len synced) left k.faultless (k.groups ∙ same) l in
      ⊎_elim
      (λ le. more is (ap (λ b. within_bytes of.n b (kept_prefix of held)) (let e : synced ≡ min len synced = omega (arith, le) in e)))
      (λ less. more is (within_all of.n synced (kept_prefix of held) (omega (arith, total, less)) ∙ sym (within_all of.n (min len synced) (kept_prefix of held) (omega (arith, total, less)))))
      (le_or_lt synced len)

-- what is left before anything is cut
pub may_leave : (of : Settings) (held : List ℕ) (synced : ℕ) (left : List ℕ) → Leaves held synced left → MayLeave of held synced left
may_leave of held synced left l = record { faultless = held_left of held synced left l; faulty = λ some. l }

-- more bytes were read
pub record IsMore (held new : List ℕ) : Type 0 where
  pub within : length new ≤ length held
  pub read : new ≡ take (length new) held

pub read_more : (held there bytes piece new : List ℕ) (count at : ℕ) → there ≡ held → at ≡ length bytes → length bytes ≤ length held → bytes ≡ take (length bytes) held → count ≤ length (drop at there) → piece ≡ take count (drop at there) → new ≡ bytes ++ piece → IsMore held new
read_more held there bytes piece new count at same is within read most moved put =
    let behind : drop at there ≡ drop (length bytes) held = ap (λ h. drop at h) same ∙ ap (λ k. drop k held) is in
    let most' : count ≤ length (drop (length bytes) held) = subst (λ r. count ≤ length r) behind most in
    let e : new ≡ take (length bytes + count) held = put ∙ ap (λ b. b ++ piece) read ∙ ap (λ p. take (length bytes) held ++ p) (moved ∙ ap (take count) behind) ∙ sym (take-add (length bytes) count held) in
    let fits : length bytes + count ≤ length held = omega (arith, most', within, length-drop (length bytes) held) in
    let size : length new ≡ length bytes + count = ap length e ∙ length-take-le (length bytes + count) held fits in
    record { within = omega (arith, size, fits); read = e ∙ ap (λ k. take k held) (sym size) }

-- what is left while the whole records that were replayed are settled
pub settle_leaves : (of : Settings) (new : NotedNode) (bytes held : List ℕ) (len synced : ℕ) (left : List ℕ) → bytes ≡ held → settings_by new ≡ of → len ≤ length bytes → IsOpen new (take len bytes) len
    → kept_reading of bytes ≡ record { groups = groups_of new.journal.notes; len = len; faulty = false } → LeavesEither held synced (take len held) (min len synced) left → MayLeave of held synced left
settle_leaves of new bytes held len synced left same numbers within opened read either =
    let k : Keeps of new.journal.notes (take len held) len = subst (λ b. Keeps of new.journal.notes (take len b) len) same (subst (λ o. Keeps o new.journal.notes (take len bytes) len) numbers opened.keeps) in
    let read' : kept_reading of held ≡ record { groups = groups_of new.journal.notes; len = len; faulty = false } = subst (λ b. kept_reading of b ≡ record { groups = groups_of new.journal.notes; len = len; faulty = false }) same read in
    let f : (kept_reading of held).faulty ≡ false = ap (λ (r : Reading). r.faulty) read' in
    let groups : groups_of new.journal.notes ≡ kept_prefix of held = sym (ap (λ (r : Reading). r.groups) read') in
    record {
      faultless = λ _. settled_left of new.journal.notes held len synced len left (subst (λ b. len ≤ length b) same within) k groups f either;
      faulty = λ some. absurd (some (rw f refl));
    }
