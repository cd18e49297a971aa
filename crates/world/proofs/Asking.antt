-- What a change of one node leaves of the journals of all.
use Rattle.std.proofs.Common.{◌≡◌, ◌≢◌, ℕ, zero, suc, false, List, [], ◌∷◌, slice_set, refl, ap, subst, ◌∙◌, arith}
use Rattle.std.proofs.Math.Seq.{map-set_same}
use Rattle.causal_model.specs.Receiving.{is_accepted}
use Rattle.causal_model.specs.declared.outcome.Receive.{Receive}
use Rattle.causal_model.specs.declared.outcome.Receive.TheVariants as receive
use Rattle.replica_node.specs.Notes.{Notes}
use Rattle.replica_node.specs.Rules.{AsksOnceAtMost}
use Rattle.world_model.specs.declared.outcome.RawGot.{RawGot}
use Rattle.world_model.specs.declared.outcome.RawGot.TheVariants as raw
use Rattle.world.specs.Asking.{recorders_of, asked_of, is_taken_raw}
use Rattle.world.specs.Shows.{NotedNode}
use Rattle.world.specs.Steps.{raw_got}
use Rattle.world.proofs.Nodes.{StandsAt}

-- where its journal is as before, all are
pub recorders_stay : (nodes : List NotedNode) (r : ℕ) (node left : NotedNode) → StandsAt nodes r node → left.journal ≡ node.journal → recorders_of (slice_set nodes r left) ≡ recorders_of nodes
recorders_stay nodes r node left stands same =
    let journal : NotedNode → Notes = λ x. x.journal in
    map-set_same journal nodes r left node (same ∙ ap journal stands.at)

-- where its journal was asked for room once or not at all, they were so all together
pub asked_once : (nodes : List NotedNode) (r : ℕ) (node left : NotedNode) → StandsAt nodes r node → AsksOnceAtMost node.journal.asked left.journal.asked
    → AsksOnceAtMost (asked_of nodes) (asked_of (slice_set nodes r left))
asked_once [] r node left stands once = absurd (omega (arith, stands.low))
asked_once (x ∷ nodes) zero node left stands once =
    let asked : NotedNode → ℕ = λ y. y.journal.asked in
    let same : asked node ≡ asked x = ap asked stands.at in
    (omega (arith, same, once.0), omega (arith, same, once.1))
asked_once (x ∷ nodes) (suc r) node left stands once =
    let rest = asked_once nodes r node left (record { low = omega (arith, stands.low); at = stands.at }) once in
    (omega (arith, rest.0), omega (arith, rest.1))

-- what is not taken of bytes, and is no want of memory, is a message that is refused for no want of memory
refused_raw : {X : Type 0} (answer : Receive) → (is_accepted answer ≡ false → answer ≢ receive.NoMemory → X) → is_taken_raw (raw_got answer) ≡ false → raw_got answer ≢ raw.NoMemory → X
refused_raw receive.Old left untaken other = left untaken (λ e. absurd cc)
refused_raw receive.Again left untaken other = left untaken (λ e. absurd cc)
refused_raw receive.Far left untaken other = left untaken (λ e. absurd cc)
refused_raw receive.Kept left untaken other = left untaken (λ e. absurd cc)
refused_raw (receive.Took steps) left untaken other = left untaken (λ e. absurd cc)
refused_raw receive.NoMemory left untaken other = absurd (other refl)

pub raw_is_refused : {X : Type 0} (answer : Receive) (told : RawGot) → told ≡ raw_got answer → (is_accepted answer ≡ false → answer ≢ receive.NoMemory → X) → is_taken_raw told ≡ false → told ≢ raw.NoMemory → X
raw_is_refused answer told is left untaken other = refused_raw answer left (subst (λ (t : RawGot). is_taken_raw t ≡ false) is untaken) (λ e. other (is ∙ e))
