-- A message that becomes early in the buffer of fields that stand for a state.
use Rattle.std.proofs.Common.{◌≡◌, ◌+◌, ◌≤◌, true, false, IsTrue, List, [], ◌∷◌, length, sym, ap, if◌then◌else◌, arith}
use Rattle.op_base.specs.declared.message.Message.{Message}
use Rattle.causal_model.specs.Counts.{is_carried}
use Rattle.causal_model.specs.Receiving.{with_early}
use Rattle.causal_model.specs.State.{State}
use Rattle.causal_model.specs.Early.{stands_before, put_early}
use Rattle.causal_buffer.specs.Buffer.{Buffer, with_messages}
use Rattle.causal_buffer.specs.Standing.{KeepsEarly, KeepKeepsState}
use Rattle.replica_core.specs.Insertions.{insertions, element_room}
use Rattle.replica_core.specs.Standing.{Fields, Standing}
use Rattle.replica_core.proofs.Insertions.{insertions-put_early}
use Rattle.replica_core.proofs.Stands.{with_buffer}

-- it is one more
pub length-put_early : (m : Message) (early : List Message) → length (put_early m early) ≡ length early + 1
length-put_early m [] = omega arith
length-put_early m (e ∷ early) =
    let rest = length-put_early m early in
    elim (stands_before m e) as (λ before. length (if before then m ∷ e ∷ early else e ∷ put_early m early) ≡ length (e ∷ early) + 1) [ true ↦ omega arith | false ↦ omega (arith, rest) ]

-- with it in their buffer the fields stand for the state with it among the early messages, where items and lists have room for it
pub kept_stands : (f : Fields) (s : State) (stands : Standing f s) (m : Message) (buffer : Buffer) → buffer ≡ with_messages f.buffer (put_early m f.buffer.early) → KeepsEarly m f.buffer buffer → KeepKeepsState f.me f.counts m f.buffer
    → IsTrue (is_carried f.limit m) → length f.log.entries + length f.buffer.early + 1 ≤ f.items.spare → insertions f.buffer.early + element_room m.op ≤ f.lists.spare → Standing (record f { buffer = buffer }) (with_early s m)
kept_stands f s stands m buffer put keeps is carried room elements =
    with_buffer f s stands (put_early m s.early) buffer (is f.w f.limit s stands.is_state stands.buffer (record { member = sym stands.of_member; delivered = stands.counts }) carried) (keeps f.w s stands.buffer)
    (omega (arith, room, length-put_early m f.buffer.early, ap (λ (b : Buffer). length b.early) put))
    (omega (arith, elements, insertions-put_early m f.buffer.early, ap (λ (b : Buffer). insertions b.early) put))
