-- An empty handle owns nothing.
use Rattle.std.proofs.Common.{[], ◌∷◌, refl}
use mathlib.Core.Bool.{false}
use mir.Val.{Val}
use base.Logic.{SProp}
use contract.Running.{tables}
use types.Kit.{‵, raw, ◌⊛◌, ◌$◌, ◌∵◌, !, qed, by, keep, use0, split, fjoin}
use types.Part.{agg}
use types.Run.{lit, false_lit, no_more, and_then, returns, enter}
use types.ByLocal.{alloc_all, pass_all, free_all, look_at, sets}
use denote.RattleType.{owns}
use denote.RawPtr.{null_ptr}
use denote.Signature.{types_at}
use denote.Steps.{nothing}
use denote.Triple.Entry.{alive}
use denote.Triple.Walked.{Stays, walk_of}
use Rattle.std.proofs.raw_atomic.Walks.{proved_at, leaves}
use Rattle.peer_c.proofs.HandleValues.{handle_val, fields_own, fields_made, handle_typed}
use Rattle.peer_c.specs.contracts.handle.Handle.empty.{ended, clauses}
use Rattle.peer_c.specs.contracts.handle.Handle.empty.Key.{name as #self}
use Rattle.peer_c.proofs.handle.Handle.empty.Statement.{statement}
use Rattle.peer_c.proofs.handle.Handle.empty.Code as code

pub empty_spec : {M : Type 1} → statement M
empty_spec 𝓤 𝓛 𝓜 𝓡 wired =
    let H = 𝓛.H in let 𝓣 = tables 𝓤 H 𝓜 𝓡 𝓡.env in let c = clauses 𝓛 𝓜.mem 𝓡.returns in let fn = code.function in let hs : Stays ended.signature.params ended.kept = tt in
    proved_at 𝓛 ended hs c 𝓜 𝓡 tt #self fn (code.unfolded 𝓤 H 𝓜 𝓡 wired) (λ z are.
    let Post : Val → SProp 𝓤 = (walk_of 𝓛 ended hs c).post z in
    qed 𝓛 ((raw (alive 𝓛 ended.signature z.0.0 z.0.1) ⊛ ‵ (owns (types_at ended.signature.params z.0.0) z.0.3 z.0.4)) ∷ raw ((c z.0.0 z.0.3).requires z.1) ∷ []) ∵ split ! $ keep ! (0 ∷ []) $
    enter ! 𝓣.C 𝓣.Λ fn [] Post $ alloc_all ! (λ l. pass_all ! refl tt $
    sets ! (agg ! (and_then ! (lit ! tt) (and_then ! (false_lit !) (no_more !)))) refl (handle_typed null_ptr false) $
    returns ! (look_at ! 0 refl) $ free_all ! refl $ nothing ! $ use0 𝓛 (‵ (fields_own null_ptr false (handle_val null_ptr false ∷ []))) (fields_made 𝓛 null_ptr false) $ fjoin ! $
    nothing ! $ nothing ! $ keep ! (3 ∷ 0 ∷ 2 ∷ 1 ∷ []) $ by ! (leaves 𝓛 ended hs c z (handle_val null_ptr false) (record { at = null_ptr; full = false }) tt tt)))
