-- `none` makes a value of no bytes, whose count is 0.
use Rattle.std.proofs.Common.{◌≡◌, [], ◌∷◌, refl}
use Rattle.std.proofs.raw_atomic.Walks.{proved, leaves}
use mir.Val.{Val, vstruct, vcons, vunit, vnil}
use base.Logic.{SProp, emp}
use base.Fml.{Fml}
use types.Kit.{‵, raw, ◌⊛◌, ◌$◌, ◌∵◌, !, qed, by, keep, use0, split}
use types.Run.{unit_lit, no_more, and_then, enter, returns}
use types.ByLocal.{alloc_all, pass_all, free_all, look_at, sets}
use types.Part.{agg}
use contract.Running.{tables}
use contract.Monad.{fact, fact_i}
use denote.RattleType.{RattleType, owns}
use denote.Signature.{types_at}
use denote.Steps.{nothing}
use denote.Shadow.{makes_shadow}
use denote.Triple.Entry.{alive}
use denote.Triple.Walked.{Stays, walk_of}
use Rattle.replica_node.specs.contracts.count.AskCount as made
use Rattle.replica_node.specs.contracts.count.AskCount.none.{ended, clauses}
use Rattle.replica_node.specs.contracts.count.AskCount.none.Key.{name as key}
use Rattle.replica_node.proofs.count.AskCount.none.Statement.{statement}
use Rattle.replica_node.proofs.count.AskCount.none.Code as code

abbrev R : RattleType
R = made.the_row

abbrev sealed : Val
sealed = vstruct (vcons vunit vnil)

pub none_spec : {M : Type 1} → statement M
none_spec 𝓤 𝓛 𝓜 𝓡 wired =
    let H = 𝓛.H in let 𝓣 = tables 𝓤 H 𝓜 𝓡 𝓡.env in let c = clauses 𝓛 𝓜.mem 𝓡.returns in
    let hs : Stays ended.signature.params ended.kept = tt in
    proved 𝓛 ended hs c 𝓜 𝓡 tt key code.function (code.unfolded 𝓤 H 𝓜 𝓡 wired) (λ κs. tt) (λ κs. tt) (λ κs qs bounds a gh are.
    let r : R.Denot = record { seal = tt; asked = 0 } in let F : Fml = R.own_val r (sealed ∷ []) in
    let y : (walk_of 𝓛 ended hs c).Ghost = ((κs, qs, bounds, a, tt), gh) in let Post : Val → SProp 𝓤 = (walk_of 𝓛 ended hs c).post y in
    qed 𝓛 ((raw (alive 𝓛 ended.signature κs qs) ⊛ ‵ (owns (types_at ended.signature.params κs) a y.0.4)) ∷ raw ((c κs a).requires gh) ∷ []) ∵ split ! $ keep ! (0 ∷ []) $
    enter ! 𝓣.C 𝓣.Λ code.function [] Post $ alloc_all ! (λ l. pass_all ! refl tt $
    sets ! (agg ! (and_then ! (unit_lit !) (no_more !))) refl (tt, (tt, tt)) $
    use0 𝓛 (raw (fact 𝓤 (r.asked ≡ 0))) (fact_i 𝓤 (r.asked ≡ 0) (emp 𝓤) refl) $
    use0 𝓛 (‵ F) (makes_shadow 𝓛 F ((λ vss. (tt, (tt, tt))), tt) (((vunit ∷ [], tt), (refl, (refl, tt))), tt)) $ nothing ! $
    returns ! (look_at ! 0 refl) $ free_all ! refl $ keep ! (3 ∷ 0 ∷ 1 ∷ 2 ∷ []) $ by ! (leaves 𝓛 ended hs c y sealed r tt tt)))
