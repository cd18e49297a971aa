-- `into_loose` gives the box back where the handle is full.
use Rattle.std.proofs.Common.{List, [], ◌∷◌, ◌++◌, refl, sym, ◌∙◌, subst, lit<}
use mathlib.Core.Bool.{true, false}
use mir.Syntax.{impl, tnil, dnil}
use mir.Raw.{raw as bare}
use mir.Val.{Val, vptr, vcons, vnil}
use base.Logic.{SProp, ent, id⊢, fst∗, never}
use prog.Wp.{WpFn}
use contract.Running.{tables}
use types.Logic.{sem}
use types.Kit.{‵, raw, ◌⊛◌, at_ret, ◌$◌, ◌∵◌, !, qed, by, move, keep, drop, use0, use1, split, suffices, fsplit, fjoin, fpick}
use types.Part.{agg, sub, whole}
use types.Run.{stop, fld, of_opd, lit, no_more, and_then, first, branches, exec, returns, enter}
use types.ByLocal.{alloc_all, pass_all, free_all, look_at, get, get_in, sets, sets_last, env}
use types.Match.{live}
use denote.RattleType.{RattleType, owns}
use denote.Memory.{lone}
use denote.RawPtr.{block_ptr, null_ptr, in_a_block}
use denote.Param.{layout}
use denote.Signature.{types_at, type_at, plain}
use denote.Steps.{nothing}
use denote.Triple.Entry.{alive}
use denote.Triple.Walked.{Stays, stay_dropped, walk_of}
use Rattle.core.specs.declared.option.Option.TheVariants.{None, Some}
use Rattle.core.proofs.alloc.Calls.{Al, Goes-blank, handle_tells}
use Rattle.core.proofs.alloc.Shapes.{after}
use Rattle.core.proofs.cell.Inside.{Good}
use Rattle.core.proofs.option.Made.{Some-of, none_of}
use Rattle.std.specs.contracts.alloc.Global as heap
use Rattle.std.proofs.alloc.Global.TheLaws as heap_laws
use Rattle.std.specs.contracts.impls.GlobalAllocator.TheImpl.{ghosts}
use Rattle.std.proofs.raw_atomic.Walks.{proved_at, leaves}
use Rattle.std_alloc.proofs.ResultValues.{and_tt}
use Rattle.std_alloc.specs.Box.Ownership.{box_owns}
use Rattle.peer.specs.contracts.peer.Peer.{the_row as P}
use Rattle.peer_c.proofs.HandleValues.{handle_val, fields_told, handle_typed, pointer_typed, full_or_empty}
use Rattle.peer_c.proofs.Values.{both, Loose, loose_good, loose_in}
use Rattle.peer_c.specs.contracts.handle.Handle as H'
use Rattle.peer_c.specs.contracts.handle.Handle.into_loose.{ended, clauses}
use Rattle.peer_c.specs.contracts.handle.Handle.into_loose.Key.{name as #self}
use Rattle.peer_c.proofs.handle.Handle.into_loose.Statement.{statement}
use Rattle.peer_c.proofs.handle.Handle.into_loose.Code as code

pub into_loose_spec : {M : Type 1} → statement M
into_loose_spec 𝓤 𝓛 𝓜 𝓡 wired =
    let H = 𝓛.H in let 𝓣 = tables 𝓤 H 𝓜 𝓡 𝓡.env in let c = clauses 𝓛 𝓜.mem 𝓡.returns in let fn = code.function in let Z : RattleType = heap.the_row in let LZ = heap_laws.the_row_laws in
    let al : Al = record { row = Z; laws = LZ; g = ghosts; d = impl [] tnil dnil; drops = impl [] tnil dnil } in
    let L : RattleType = Loose P Z LZ ghosts in let hs : Stays ended.signature.params ended.kept = (stay_dropped (plain (λ _. H'.the_row)) ended.kept.0, (stay_dropped (plain (λ _. Z)) ended.kept.1.0, tt)) in
    proved_at 𝓛 ended hs c 𝓜 𝓡 (Goes-blank 𝓛 0 (plain (λ _. H'.the_row)) ended.kept.0 (λ κs x f. tt), (Goes-blank 𝓛 0 (plain (λ _. Z)) ended.kept.1.0 (λ κs x f. tt), tt)) #self fn (code.unfolded 𝓤 H 𝓜 𝓡 wired) (λ z are.
    let κs = z.0.0 in let Post : Val → SProp 𝓤 = (walk_of 𝓛 ended hs c).post z in let Run : List Val → SProp 𝓤 = λ ws. WpFn 𝓤 H 𝓣.C 𝓣.Λ fn ws Post in let Out : RattleType = type_at ended.signature.result κs in
    let v = z.0.3.0 in let a = z.0.3.1.0 in let told = fields_told v.at v.full z.0.4.0 are.0.0 in
    qed 𝓛 ((raw (alive 𝓛 ended.signature z.0.0 z.0.1) ⊛ ‵ (owns (types_at ended.signature.params z.0.0) z.0.3 z.0.4)) ∷ raw ((c z.0.0 z.0.3).requires z.1) ∷ []) ∵ split ! $ move ! (1 ∷ []) $ fsplit ! $ fsplit ! $ drop ! $ move ! (1 ∷ []) $ fsplit ! $
    handle_tells al ! a z.0.4.1.0 (λ h eh fits. move ! (2 ∷ 0 ∷ 3 ∷ []) $ full_or_empty ! v.full v.at
    (λ is. keep ! (0 ∷ 1 ∷ 2 ∷ []) $ fpick ! (λ a'. fpick ! (λ x. in_a_block ! v.at (λ q. box_owns (ghosts.dealloc_token a) P q x) (fst∗ 𝓤 (never 𝓤) (sem 𝓛 (ghosts.dealloc_token a (bare (lone P.mir)) null_ptr))) (λ b o e.
    let us : List Val = handle_val (block_ptr b o) true ∷ h ∷ [] in let made : Val = both (vptr b o) h in let typed = loose_good P Z LZ ghosts b o h fits in let v₁ : Val = live 1 (vcons made vnil) in let d : L.Denot = record { at = block_ptr b o; alloc = a; value = x } in
    let good : Good (layout Out) v₁ = (and_tt _ typed.0, (record { fits = lit< tt }, (typed.1, tt))) in
    suffices ! (Run us) (subst (λ (ws : List Val). ent 𝓤 (Run us) (Run ws)) (sym (λ i. (told ∙ (λ j. handle_val (e j) (is j) ∷ [])) i ++ (eh i ++ []))) (id⊢ 𝓤 (Run us))) $
    enter ! 𝓣.C 𝓣.Λ fn us Post $ alloc_all ! (λ l. pass_all ! refl (handle_typed (block_ptr b o) true, (fits, tt)) $ let Ev = env fn.locals l in
    sets ! (of_opd ! (get_in ! (fld ! refl (stop !)) (sub ! 0 refl (whole !)))) refl (tt, tt) $ sets ! (of_opd ! (get_in ! (fld ! refl (stop !)) (sub ! 1 refl (whole !)))) refl (tt, tt) $ sets ! (of_opd ! (get ! refl)) refl (tt, tt) $
    first ! $ branches ! (get ! refl) (λ _. sets ! (agg ! (and_then ! (get ! refl) (and_then ! (get ! refl) (no_more !)))) refl typed $ sets_last ! (agg ! (and_then ! (lit ! tt) (and_then ! (get ! refl) (no_more !)))) refl good $
    exec ! 𝓣.C 𝓣.Λ Ev (after 4 fn.body) (at_ret Ev Post) $ sets ! (of_opd ! (get ! refl)) refl good $ loose_in P Z LZ ghosts ! b o h a x $
    use1 𝓛 (‵ (Out.own_val (Some d) (v₁ ∷ []))) (Some-of 𝓛 L d made) $ nothing ! $ nothing ! $ nothing ! $ fjoin ! $ nothing ! $ fjoin ! $
    returns ! (look_at ! 0 refl) $ free_all ! refl $ keep ! (3 ∷ 0 ∷ 2 ∷ 1 ∷ []) $ by ! (leaves 𝓛 ended hs c z v₁ (Some d) (tt, (tt, tt)) (tt, (tt, tt)))) (λ wrong. absurd wrong))))))
    (λ is. keep ! (2 ∷ []) $ let us : List Val = handle_val v.at false ∷ h ∷ [] in
    suffices ! (Run us) (subst (λ (ws : List Val). ent 𝓤 (Run us) (Run ws)) (sym (λ i. (told ∙ (λ j. handle_val v.at (is j) ∷ [])) i ++ (eh i ++ []))) (id⊢ 𝓤 (Run us))) $
    enter ! 𝓣.C 𝓣.Λ fn us Post $ alloc_all ! (λ l. pass_all ! refl (handle_typed v.at false, (fits, tt)) $ let Ev = env fn.locals l in
    sets ! (of_opd ! (get_in ! (fld ! refl (stop !)) (sub ! 0 refl (whole !)))) refl (pointer_typed v.at) $ sets ! (of_opd ! (get_in ! (fld ! refl (stop !)) (sub ! 1 refl (whole !)))) refl (tt, tt) $ sets ! (of_opd ! (get ! refl)) refl (tt, tt) $
    first ! $ branches ! (get ! refl) (λ wrong. absurd wrong) (λ _. sets_last ! (agg ! (and_then ! (lit ! tt) (no_more !))) refl (tt, (record { fits = lit< tt }, tt)) $
    exec ! 𝓣.C 𝓣.Λ Ev (after 4 fn.body) (at_ret Ev Post) $ sets ! (of_opd ! (get ! refl)) refl (tt, (record { fits = lit< tt }, tt)) $
    use0 𝓛 (‵ (Out.own_val None (live 0 vnil ∷ []))) (none_of 𝓛 L) $ nothing ! $ nothing ! $ nothing ! $ fjoin ! $ nothing ! $ fjoin ! $
    returns ! (look_at ! 0 refl) $ free_all ! refl $ keep ! (3 ∷ 0 ∷ 2 ∷ 1 ∷ []) $ by ! (leaves 𝓛 ended hs c z (live 0 vnil) None (tt, (tt, tt)) (tt, (tt, tt))))))))
