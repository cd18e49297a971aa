-- Replies to lines that are put together of others, and to bytes that are refused.
use Rattle.std.proofs.Common.{◌≡◌, ℕ, true, List, [], ◌∷◌, ◌++◌, Option, Some, None, Result, Ok, Err, refl, sym, ap, ◌∙◌}
use Rattle.std.proofs.lemmas.Bool.{false≢true}
use Rattle.std.proofs.lemmas.List.{append_assoc, append-nil}
use Rattle.op_base.specs.declared.message.Message.{Message}
use Rattle.op_base.specs.declared.outcome.Step.{Step}
use Rattle.causal_model.specs.Receiving.{accepted, steps, with_early, refusal_of, receive_by}
use Rattle.causal_model.specs.declared.outcome.Refusal.{Refusal}
use Rattle.frame_codec.specs.declared.fault.FrameFault.{FrameFault}
use Rattle.world_model.specs.Raw.{read_at, raw_of}
use Rattle.world_model.specs.World.{PlainWorld, replica_of, with_state}
use Rattle.script_net.specs.Commands.{receive_reply, raw_reply}
use Rattle.script_net.specs.Laws.{line_world, store_of_line, store_after, OneLineMoreReplies, OneLineMoreLeaves, is_refusal, RefusedBytesChangeNothing, RefusedBytesGo}
use Rattle.script_net.specs.Transcript.{AnyPlain, OfStore, text_of_line, world_of_line, replies_to, world_after}
use Rattle.script_net.proofs.Shown.{same_state}

-- the replies to two runs of lines, one behind the other
pub replies-append : (world : AnyPlain) (lines more : List (List ℕ)) → replies_to world (lines ++ more) ≡ replies_to world lines ++ replies_to (world_after world lines) more
replies-append world [] more = refl
replies-append world (line ∷ lines) more =
    ap (λ text. text_of_line world line ++ text) (replies-append (world_of_line world line) lines more)
    ∙ sym (append_assoc (text_of_line world line) (replies_to (world_of_line world line) lines) (replies_to (world_after (world_of_line world line) lines) more))

pub one_line_more_replies : OneLineMoreReplies
one_line_more_replies world lines line =
    replies-append world lines (line ∷ []) ∙ ap (λ text. replies_to world lines ++ text) (append-nil (text_of_line (world_after world lines) line))

pub one_line_more_leaves : OneLineMoreLeaves
one_line_more_leaves world [] line = refl
one_line_more_leaves world (first ∷ lines) line = one_line_more_leaves (world_of_line world first) lines line

-- an accepted message is replied to by no refusal
no_refusal : (made : List Step) → is_refusal (receive_reply (accepted made)) ≡ true → ⊥
no_refusal [] t = false≢true t
no_refusal (step ∷ steps) t = false≢true t

-- a message that is refused leaves the plain world as it is
refused_offer : (world : PlainWorld) (r : ℕ) (m : Message) (o : Option Refusal) → is_refusal (receive_reply (receive_by world.w m (replica_of world r) o).0) ≡ true
    → with_state world r (receive_by world.w m (replica_of world r) o).1 ≡ world
refused_offer world r m (Some refusal) t = same_state world r
refused_offer world r m None t = absurd (no_refusal (steps world.w (with_early (replica_of world r) m)).0 t)

refused_bytes : (world : PlainWorld) (r : ℕ) (o : Result Message FrameFault) → is_refusal (raw_reply (raw_of r world o).0) ≡ true → (raw_of r world o).1 ≡ world
refused_bytes world r (Err fault) t = refl
refused_bytes world r (Ok m) t = refused_offer world r m (refusal_of world.w (replica_of world r) m) t

pub refused_bytes_change_nothing : RefusedBytesChangeNothing
refused_bytes_change_nothing world line r bytes e t = ap (line_world world) e ∙ refused_bytes world r (read_at world r bytes) t

-- lines in a store lead to the plain world of that store
after_store : (world : PlainWorld) (lines : List (List ℕ)) → world_after (OfStore world) lines ≡ OfStore (store_after world lines)
after_store world [] = refl
after_store world (line ∷ lines) = after_store (store_of_line world line) lines

pub refused_bytes_go : RefusedBytesGo
refused_bytes_go world before after line r bytes e t =
    let here = store_after world before in
    let behind : ((lines : List (List ℕ)) → replies_to (OfStore world) (before ++ lines) ≡ replies_to (OfStore world) before ++ replies_to (OfStore here) lines) =
    λ lines. replies-append (OfStore world) before lines ∙ ap (λ there. replies_to (OfStore world) before ++ replies_to there lines) (after_store world before) in (
      behind (line ∷ after)
          ∙ ap (λ then. replies_to (OfStore world) before ++ (text_of_line (OfStore here) line ++ replies_to (OfStore then) after)) (refused_bytes_change_nothing here line r bytes e t),
      behind after,
    )
