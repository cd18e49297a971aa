-- What bytes answer at a plain world, by what they answer at a node.
use Rattle.std.proofs.Common.{◌≡◌, ℕ, ◌<◌, List, [], ◌∷◌, All, slice_index_or, slice_set, refl, sym, ap, subst, ◌∙◌, inl, inr, Option, Some, None, Result, Ok, Err, Fits, w8, arith}
use Rattle.std.proofs.Math.Facts.{Fits-lt-pow}
use Rattle.std.proofs.lemmas.List.{get_or_default}
use Rattle.op_base.specs.declared.message.Message.{Message}
use Rattle.op_base.specs.declared.outcome.Step.{Step}
use Rattle.causal_model.specs.History.{epoch_of}
use Rattle.causal_model.specs.Journal.{receive_notes}
use Rattle.causal_model.specs.Receiving.{steps, with_early, refusal_of, accepted, is_accepted, receive_by, receive_rule}
use Rattle.causal_model.specs.State.{State}
use Rattle.causal_model.specs.declared.note.Note.{Note}
use Rattle.causal_model.specs.declared.outcome.Receive.{Receive}
use Rattle.causal_model.specs.declared.outcome.Receive.TheVariants as receive
use Rattle.causal_model.specs.declared.outcome.Refusal.{Refusal}
use Rattle.causal_model.specs.declared.outcome.Refusal.TheVariants as refusal
use Rattle.frame_codec.specs.Message.{frame_read}
use Rattle.frame_codec.specs.declared.fault.FrameFault.{FrameFault}
use Rattle.frame_codec.proofs.Read.{read_is_a_frame}
use Rattle.replica_node.specs.Nodes.{state_by}
use Rattle.replica_node.specs.Rules.{noting}
use Rattle.world_model.specs.World.{PlainWorld, size_of, replica_of}
use Rattle.world_model.specs.Raw.{read_at, raw_of, is_frame, raw_at}
use Rattle.world_model.specs.declared.outcome.RawGot.{RawGot}
use Rattle.world_model.specs.declared.outcome.RawGot.TheVariants as raw
use Rattle.world.specs.Shows.{NotedNode, Shows}
use Rattle.world.specs.Steps.{SameNode, raw_noting_of, raw_noting, raw_got}
use Rattle.world.proofs.Follow.{Comes}
use Rattle.world_model.proofs.Commands.{frame_is_carried}
use Rattle.world.proofs.Nodes.{StandsAt, state_shown, n_shown, limit_shown}
use Rattle.world.proofs.Replies.{Notes, replies_nothing, replies_offer}

-- ---- at a node

-- the rule of receiving knows no want of memory, so its answer is told as it is
accepted_is_told : (made : List Step) → raw_got (accepted made) ≡ raw.Got (accepted made)
accepted_is_told [] = refl
accepted_is_told (step ∷ steps) = refl

rule_is_told : (w : ℕ) (m : Message) (s : State) → raw_got (receive_rule w m s).0 ≡ raw.Got (receive_rule w m s).0
rule_is_told w m s = by (refusal_of w s m) where
  by : (o : Option Refusal) → raw_got (receive_by w m s o).0 ≡ raw.Got (receive_by w m s o).0
  by (Some refusal.Old) = refl
  by (Some refusal.Again) = refl
  by (Some refusal.Far) = refl
  by None = accepted_is_told (steps w (with_early s m)).0

-- what bytes answer at a node, by what their message does
pub read_is_told : (first : ℕ × ℕ) (n epoch w limit : ℕ) (bytes : List ℕ) (m : Message) (old new : List Note) (answer : Receive) → frame_read n epoch limit bytes ≡ Ok m
    → Notes receive.NoMemory is_accepted (noting first (receive_notes m) (receive_rule w m)) old answer new → Notes raw.NoMemory is_frame (raw_noting first n epoch w limit bytes) old (raw_got answer) new
read_is_told first n epoch w limit bytes m old new answer read follows ns is =
    subst (λ made. Comes raw.NoMemory is_frame made ns (raw_got answer) (λ left. new ≡ left)) (ap (raw_noting_of first w ns) (sym read)) (elim (follows ns is) [
      | inl told ↦ inl (ap raw_got told.0 ∙ rule_is_told w m (state_by first ns), told.1)
      | inr none ↦ inr (ap raw_got none.0, refl, none.2)
    ])

-- ---- at a plain world

bytes_are_small : (bytes : List ℕ) → ((i : ℕ) → Fits w8 (slice_index_or bytes i 0)) → All (λ b. b < 256) bytes
bytes_are_small bytes fit i d l = omega (arith, get_or_default bytes i d 0 l, Fits-lt-pow (fit i))

module _ (nodes : List NotedNode) (rows : List (List (List ℕ))) (plain : PlainWorld) (shows : Shows nodes rows plain) (r : ℕ) (node : NotedNode) (stands : StandsAt nodes r node) (left : NotedNode) (same : SameNode node left) where
  -- the bytes are read in the replica's epoch, as at the node
  epoch_there : epoch_of (replica_of plain r).history ≡ node.inner.epoch
  epoch_there = ap (λ s. epoch_of s.history) (state_shown nodes rows plain shows r node stands) ∙ node.stands.in_epoch

  read_shown : (bytes : List ℕ) → read_at plain r bytes ≡ frame_read node.inner.n node.inner.epoch node.inner.limit bytes
  read_shown bytes =
      ap (λ epoch. frame_read (size_of plain) epoch plain.limit bytes) epoch_there
      ∙ ap (λ k. frame_read k node.inner.epoch plain.limit bytes) (sym (n_shown nodes rows plain shows r node stands))
      ∙ ap (λ limit. frame_read node.inner.n node.inner.epoch limit bytes) (sym (limit_shown nodes rows plain shows r node stands))

  pub replies_raw : (bytes : List ℕ) (answer : RawGot) → ((i : ℕ) → Fits w8 (slice_index_or bytes i 0)) → Notes raw.NoMemory is_frame (raw_noting node.first node.inner.n node.inner.epoch node.inner.w node.inner.limit bytes) node.journal.notes answer left.journal.notes
      → Comes raw.NoMemory is_frame (raw_at r bytes plain) plain answer (Shows (slice_set nodes r left) rows)
  replies_raw bytes answer fit follows = by (read_at plain r bytes) refl where
    by : (read : Result Message FrameFault) → read_at plain r bytes ≡ read → Comes raw.NoMemory is_frame (raw_of r plain read) plain answer (Shows (slice_set nodes r left) rows)
    by (Err fault) e =
        replies_nothing nodes rows plain shows r node stands left same raw.NoMemory is_frame (raw_noting node.first node.inner.n node.inner.epoch node.inner.w node.inner.limit bytes) (raw.Bad fault) answer
        (ap (raw_noting_of node.first node.inner.w node.journal.notes) (sym (read_shown bytes) ∙ e)) follows
    by (Ok m) e =
        let epoch = epoch_of (replica_of plain r).history in
        let frame = read_is_a_frame (size_of plain) epoch plain.limit bytes m (bytes_are_small bytes fit) e in
        replies_offer nodes rows plain shows r node stands left same raw.NoMemory is_frame (λ (got : Receive). raw.Got got) (raw_noting node.first node.inner.n node.inner.epoch node.inner.w node.inner.limit bytes) m answer frame.1.fits (frame_is_carried (size_of plain) epoch plain.limit bytes m frame).1
        (ap (raw_noting_of node.first node.inner.w node.journal.notes) (sym (read_shown bytes) ∙ e)) follows
