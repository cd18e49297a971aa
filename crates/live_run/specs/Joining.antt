-- Passes of many nodes, which are joined.
use Rattle.std.specs.Prelude.{◌≡◌, ℕ, ◌+◌, ◌<◌, ◌≤◌, ◌==◌, false, List, [], ◌∷◌, length, drop, All, IsPermutation, if◌then◌else◌}
use Rattle.std.specs.List.{flat_map, slice_index_or}
use Rattle.turn_lock.specs.Turns.{LockState, OpenerState, StartsWith, after_join, turns_of}
use Rattle.replica_lock.specs.Turns.{NotedNode, NotedTurn, IsNodeOf, notes_in}
use Rattle.causal_model.specs.declared.note.Note.{Note}
use Rattle.replica_lock.specs.declared.pass.Settings.{Settings}
use Rattle.live_run.specs.Told.{sent_numbers}
use Rattle.live_run.specs.declared.joining.Back.{Back}

-- an opener of a shared node
abbrev pub NodeOpener : Type 0
NodeOpener = OpenerState (List Note) Settings

-- how many of passes are of the node at place r
abbrev pub left_at : ℕ → List Back → ℕ
left_at r [] = 0
left_at r (b ∷ bs) = (if b.at == r then 1 else 0) + left_at r bs

-- openers are of the nodes at their places, and of each as many passes are out as are left
pub record AreOut (nodes : List (LockState Settings)) (openers : List NodeOpener) (backs : List Back) : Type 0 where
  pub of_each : length openers ≡ length nodes
  pub of : (r : ℕ) (d : LockState Settings) (e : NodeOpener) → r < length nodes → (slice_index_or openers r e).lock ≡ slice_index_or nodes r d
  pub out : (r : ℕ) (e : NodeOpener) → r < length nodes → (slice_index_or openers r e).out ≡ left_at r backs

-- a pass is of the node at its place
pub record IsBack (nodes : List (LockState Settings)) (b : Back) : Type 0 where
  pub inside : b.at < length nodes
  pub of : (d : LockState Settings) → b.pass.lock ≡ slice_index_or nodes b.at d

-- the opener at place r, once a pass came back; once these did, in their order
abbrev pub take_back : ℕ → Back → NodeOpener → NodeOpener
take_back r b opener =
    if b.at == r then after_join opener (record { lock = b.pass.lock; number = b.pass.number; in_turn = false; seen = b.pass.seen; own = b.pass.own }) else opener

abbrev pub taken_back : ℕ → List Back → NodeOpener → NodeOpener
taken_back r [] opener = opener
taken_back r (b ∷ bs) opener = taken_back r bs (take_back r b opener)

-- the own turns of passes at place r
abbrev pub own_at : ℕ → List Back → List NotedTurn
own_at r backs = flat_map (λ b. if b.at == r then b.pass.own else []) backs

-- A node was closed by its opener: its notes are those of the turns that the opener has seen, which are the opener's own. All
-- that a joined pass had seen is a front of them.
pub record IsClosed (lock : LockState Settings) (opener : NodeOpener) (node : NotedNode) : Type 0 where
  pub is_node : IsNodeOf lock.key node
  pub notes : node.journal.notes ≡ notes_in opener.seen
  pub order : (number : ℕ) → turns_of number opener.own ≡ turns_of number opener.seen
  pub fronts : All (StartsWith opener.seen) opener.fronts

-- Nodes on the way of being closed: so many are, and these are left, with their openers.
pub record AreClosing (locks : List (LockState Settings)) (openers : List NodeOpener) (nodes_left : List (LockState Settings)) (openers_left : List NodeOpener) (closed : List NotedNode) : Type 0 where
  pub few : length closed ≤ length locks
  pub left : nodes_left ≡ drop (length closed) locks
  pub with_openers : openers_left ≡ drop (length closed) openers
  pub each : (r : ℕ) (d : LockState Settings) (e : NodeOpener) (f : NotedNode) → r < length closed → IsClosed (slice_index_or locks r d) (slice_index_or openers r e) (slice_index_or closed r f)

-- A member's node, once its passes came back and its lock was closed: it noted what they did in their turns, and all that one had
-- seen of its notes is a front of them.
pub record HasNoted (r : ℕ) (lock : LockState Settings) (backs : List Back) (node : NotedNode) : Type 0 where
  pub is_node : IsNodeOf lock.key node
  pub noted : IsPermutation (notes_in (own_at r backs)) node.journal.notes
  pub sent : IsPermutation (sent_numbers (notes_in (own_at r backs))) (sent_numbers node.journal.notes)
  pub fronts : (i : ℕ) (d : Back) → i < length backs → (slice_index_or backs i d).at ≡ r → StartsWith node.journal.notes (notes_in (slice_index_or backs i d).pass.seen)

-- so have all
pub record HaveNoted (locks : List (LockState Settings)) (backs : List Back) (nodes : List NotedNode) : Type 0 where
  pub of_each : length nodes ≡ length locks
  pub each : (r : ℕ) (d : LockState Settings) (f : NotedNode) → r < length locks → HasNoted r (slice_index_or locks r d) backs (slice_index_or nodes r f)
