-- What holds of a node with the numbers of a durable replica, said of the replica.
use Rattle.std.proofs.Common.{◌≡◌, ℕ, Bool, List, Option, Some, unwrap_or, refl, sym, ap, subst, ◌∙◌}
use Rattle.causal_model.specs.Follows.{Follows}
use Rattle.causal_model.specs.State.{State}
use Rattle.causal_model.specs.declared.note.Note.{Note}
use Rattle.replica_core.specs.Rules.{SameSettings}
use Rattle.replica_node.specs.Rules.{noting}
use Rattle.store_io.specs.Keeping.{LeavesOnly}
use Rattle.world_model.specs.Records.{records_of, Settings}
use Rattle.replica_keeper.specs.Keeping.{groups_of, IsFrontOf}
use Rattle.replica_keeper.specs.Open.{NotedNode, settings_by, IsOpen, IsKept, GoesOn, notes_in}

-- another node that is open keeps the numbers
pub kept_on : (of : Settings) (node new : NotedNode) (held held' : List ℕ) (synced synced' : ℕ) → IsKept of node held synced → SameSettings node.inner new.inner → IsOpen new held' synced' → IsKept of new held' synced'
kept_on of node new held held' synced synced' k s opened = record { me = s.me ∙ k.me; n = s.n ∙ k.n; w = s.w ∙ k.w; limit = s.limit ∙ k.limit; opened = opened }

-- and it is the one node of the replica
pub kept_alone : (of : Settings) (new : NotedNode) (held : List ℕ) (synced : ℕ) → IsKept of new held synced → (is : NotedNode) → Some new ≡ Some is → IsKept of is held synced
kept_alone of new held synced k is e = let same : new ≡ is = ap (λ o. unwrap_or o new) e in subst (λ node. IsKept of node held synced) same k

-- an open node goes on, where it keeps its numbers
pub goes_on : (of : Settings) (some : Option NotedNode) (node new : NotedNode) (held held' : List ℕ) (synced synced' : ℕ) → some ≡ Some node → IsKept of node held synced → SameSettings node.inner new.inner → IsOpen new held' synced' → GoesOn some (Some new)
goes_on of some node new held held' synced synced' is k s opened =
    let first : new.first ≡ node.first = opened.first ∙ ap (λ me. (me, new.inner.n)) s.me ∙ ap (λ n. (node.inner.me, n)) s.n ∙ sym k.opened.first in
    subst (λ o. GoesOn o (Some new)) (sym is) (record { settings = s; first = first })

pub records_are : (of : Settings) (node : NotedNode) (held : List ℕ) (synced : ℕ) → IsKept of node held synced → held ≡ records_of of.n (groups_of node.journal.notes)
records_are of node held synced k = k.opened.keeps.records ∙ ap (λ n. records_of n (groups_of node.journal.notes)) k.n

module _ (of : Settings) (some : Option NotedNode) (node : NotedNode) (held : List ℕ) (synced : ℕ) (is : some ≡ Some node) (k : IsKept of node held synced) where
  of_is : settings_by node ≡ of
  of_is = let named : settings_by node ≡ record { me = of.me; n = of.n; w = of.w; limit = of.limit } = rw (k.me, k.n, k.w, k.limit) refl in named

  notes_are : node.journal.notes ≡ notes_in some
  notes_are = sym (ap notes_in is)

  pub moments : {D : Type 0} (moment : D → ℕ) (left_since : D → ℕ → List ℕ → Type 0) (old new : D) (list : Settings → List Note → List (List Note))
      → LeavesOnly moment left_since old new (IsFrontOf (settings_by node) (list (settings_by node) node.journal.notes) synced) → LeavesOnly moment left_since old new (IsFrontOf of (list of (notes_in some)) synced)
  moments moment left_since old new list so =
      subst (λ o. LeavesOnly moment left_since old new (IsFrontOf o (list o (notes_in some)) synced)) of_is
      (subst (λ ns. LeavesOnly moment left_since old new (IsFrontOf (settings_by node) (list (settings_by node) ns) synced)) notes_are so)

  pub listed : (groups : List (List Note)) (list : Settings → List Note → List (List Note)) → groups ≡ list (settings_by node) node.journal.notes → groups ≡ list of (notes_in some)
  listed groups list so = so ∙ ap (λ o. list o node.journal.notes) of_is ∙ ap (list of) notes_are

  pub answered : {A : Type 0} (no_memory : A) (takes_memory : A → Bool) (notes_of : A → List Note) (rule : Settings → State → A × State) (answer : A) (after : List Note)
      → Follows (λ (there ns : List Note). there ≡ ns) no_memory takes_memory (noting node.first notes_of (rule (settings_by node))) node.journal.notes answer after
      → Follows (λ (there ns : List Note). there ≡ ns) no_memory takes_memory (noting (of.me, of.n) notes_of (rule of)) (notes_in some) answer after
  answered {A} no_memory takes_memory notes_of rule answer after so =
      let F : ℕ × ℕ → Settings → List Note → Type 0 = λ first o ns. Follows (λ (there ns : List Note). there ≡ ns) no_memory takes_memory (noting first notes_of (rule o)) ns answer after in
      let first : node.first ≡ (of.me, of.n) = k.opened.first ∙ ap (λ (o : Settings). (o.me, o.n)) of_is in
      subst (λ ns. F (of.me, of.n) of ns) notes_are (subst (λ o. F (of.me, of.n) o node.journal.notes) of_is (subst (λ f. F f (settings_by node) node.journal.notes) first so))
