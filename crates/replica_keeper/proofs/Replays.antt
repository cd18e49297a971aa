-- That a record is replayed where it is what one call gives.
use Rattle.std.proofs.Common.{◌≡◌, ◌≢◌, ℕ, ◌-◌, ◌≤◌, Bool, true, false, ◌==◌, List, [], ◌∷◌, ◌++◌, map, length, take, drop, get_or, Option, Some, None, Ok, refl, sym, ap, subst, ◌∙◌, arith, if◌then◌else◌}
use Rattle.std.proofs.lemmas.Bool.{ne_eqb}
use Rattle.std.proofs.Math.Seq.{take-length}
use Rattle.op_base.specs.Name.{same_text}
use Rattle.op_base.specs.declared.message.Message.{Message}
use Rattle.causal_model.specs.Journal.{step_note, receive_notes}
use Rattle.causal_model.specs.Receiving.{steps, with_early, refusal_of, receive_by}
use Rattle.causal_model.specs.State.{State}
use Rattle.causal_model.specs.declared.note.Note.{Note}
use Rattle.causal_model.specs.declared.note.Note.TheVariants.{Kept}
use Rattle.causal_model.proofs.States.Outcomes.{notes_of_accepted}
use Rattle.frame_codec.specs.Grammar.{frame_of}
use Rattle.frame_codec.specs.Message.{frame_read}
use Rattle.frame_codec.specs.declared.version.Version.TheVariants.{Two}
use Rattle.replica_node.specs.Nodes.{state_by}
use Rattle.world_model.specs.Records.{group_if, notes_by}
use Rattle.replica_keeper.specs.Open.{NotedNode}
use Rattle.replica_keeper.specs.Replaying.{told_to, Replays}
use Rattle.replica_keeper.proofs.Kept.{Opens, kept_opens}

-- ---- a group by its bytes

abbrev by_test : List Note → Bool → Option (List Note)
by_test group b = if b then Some group else None

-- where a record's notes are one group, its bytes decide
tells : (node after : NotedNode) (content : List ℕ) (group : List Note) (told : Bool) → told_to node content ≡ by_test group told → (told ≡ true → after.journal.notes ≡ node.journal.notes ++ group)
    → Opens group → Replays node after content told
tells node after content group true e noted one = record { group = group; told = e; noted = noted refl; one = one }
tells node after content group false e noted one = e

module _ (node after : NotedNode) (frame : List ℕ) (m : Message) (read : frame_read node.inner.n 0 node.inner.limit frame ≡ Ok m) where
  abbrev s : State
  s = state_by node.first node.journal.notes

  told_by : (way : ℕ) (group : List Note) → notes_by node.inner.w node.inner.limit s way (Ok m) ≡ group → told_to node (way ∷ frame) ≡ group_if node.inner.n (way ∷ frame) group
  told_by way group e = ap (λ r. group_if node.inner.n (way ∷ frame) (notes_by node.inner.w node.inner.limit s way r)) read ∙ ap (group_if node.inner.n (way ∷ frame)) e

  -- a record of a message that is accepted, and of one that isn't
  pub replays_accepted : (told : Bool) → refusal_of node.inner.w s m ≡ None → told ≡ same_text (frame_of Two node.inner.n 0 m) frame
      → (told ≡ true → after.journal.notes ≡ node.journal.notes ++ Kept m ∷ map step_note (steps node.inner.w (with_early s m)).0) → Replays node after (2 ∷ frame) told
  replays_accepted told unrefused same noted =
      let group = Kept m ∷ map step_note (steps node.inner.w (with_early s m)).0 in
      let e : notes_by node.inner.w node.inner.limit s 2 (Ok m) ≡ group = ap (λ o. receive_notes m (receive_by node.inner.w m s o).0) unrefused ∙ notes_of_accepted m (steps node.inner.w (with_early s m)).0 in
      tells node after (2 ∷ frame) group told (told_by 2 group e ∙ ap (by_test group) (sym same)) noted (kept_opens m (steps node.inner.w (with_early s m)).0)

  -- a record that came in no way
  pub untold_way : (way : ℕ) → (way == 1) ≡ false → (way == 2) ≡ false → told_to node (way ∷ frame) ≡ None
  untold_way way a b = let e : notes_by node.inner.w node.inner.limit s way (Ok m) ≡ [] = rw (a, b) refl in told_by way [] e

-- ---- a content: the byte of its way, and its frame

whole_frame : (way : ℕ) (frame : List ℕ) → take (length (way ∷ frame) - 1) frame ≡ frame
whole_frame way frame = ap (λ k. take k frame) (let e : length (way ∷ frame) - 1 ≡ length frame = omega arith in e) ∙ take-length frame

pub whole_content : (content : List ℕ) (way : ℕ) → 1 ≤ length content → get_or content 0 0 ≡ way → way ∷ take (length content - 1) (drop 1 content) ≡ content
whole_content [] way some is = absurd (omega (arith, some))
whole_content (first ∷ frame) way some is = ap (λ f. way ∷ f) (whole_frame first frame) ∙ ap (λ b. b ∷ frame) (sym is)

-- a content whose first byte is in no way
pub untold_content : (node : NotedNode) (content : List ℕ) (m : Message) → 1 ≤ length content → frame_read node.inner.n 0 node.inner.limit (take (length content - 1) (drop 1 content)) ≡ Ok m
    → (get_or content 0 0 ≢ 1) → (get_or content 0 0 ≢ 2) → told_to node content ≡ None
untold_content node [] m some read a b = absurd (omega (arith, some))
untold_content node (way ∷ frame) m some read a b =
    untold_way node node frame m (subst (λ f. frame_read node.inner.n 0 node.inner.limit f ≡ Ok m) (whole_frame way frame) read) way (ne_eqb way 1 a) (ne_eqb way 2 b)
