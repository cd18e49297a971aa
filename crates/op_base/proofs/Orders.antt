-- Items that are tied are one item.
use Rattle.std.proofs.Common.{◌≡◌, ℕ, ◌<◌, List, get_or, refl, sym, ap, subst, ◌∙◌}
use Rattle.std.specs.Prelude.{Option, Some, None}
use Rattle.std.specs.declared.cmp.Ordering.{Ordering}
use Rattle.std.specs.declared.cmp.Ordering.TheVariants.{Less, Equal, Greater}
use Rattle.std.specs.Ordering.{MatchOrdering, nat_cmp, ordering_then, is_eq}
use Rattle.std.specs.Option.{option_cmp}
use Rattle.std.specs.Cmp.Lexicographic.{texts_ties, bytes_decides}
use Rattle.std.proofs.lemmas.Cmp.{ranked}
use Rattle.op_base.specs.declared.name.Kind.{Kind}
use Rattle.op_base.specs.declared.name.Kind.TheVariants.{AwSet, RwSet, EwFlag, DwFlag, MvReg, Counter, RCounter}
use Rattle.op_base.specs.declared.name.Kind.TheVariants as kind
use Rattle.op_base.specs.Name.{kinds}
use Rattle.op_base.specs.Object.{kind_place}
use Rattle.op_base.specs.Order.{text_cmp, object_cmp}
use Rattle.op_base.specs.Laws.{ItemsAreTiedToThemselvesAlone}

kind_at_place : (k : Kind) → get_or kinds (kind_place k) AwSet ≡ k
kind_at_place AwSet = refl
kind_at_place RwSet = refl
kind_at_place EwFlag = refl
kind_at_place DwFlag = refl
kind_at_place MvReg = refl
kind_at_place Counter = refl
kind_at_place RCounter = refl
kind_at_place kind.List = refl

kinds_tied : (kind other : Kind) → nat_cmp (kind_place kind) (kind_place other) ≡ Equal → kind ≡ other
kinds_tied kind other h =
    let m = kind_place kind in
    let n = kind_place other in
    let P : Ordering → Type 0 = λ o. MatchOrdering o (m < n) (m ≡ n) (n < m) in
    let same : m ≡ n = subst P h (ranked m n (nat_cmp m n) refl) in
    sym (kind_at_place kind) ∙ ap (λ place. get_or kinds place AwSet) same ∙ kind_at_place other

texts_tied : (xs ys : List ℕ) → text_cmp xs ys ≡ Equal → xs ≡ ys
texts_tied xs ys h = (bytes_decides xs ys).0 (texts_ties xs ys ∙ ap is_eq h)

values_tied : (value other : Option (List ℕ)) → option_cmp text_cmp value other ≡ Equal → value ≡ other
values_tied None None h = refl
values_tied None (Some y) h = cc
values_tied (Some x) None h = cc
values_tied (Some x) (Some y) h = ap Some (texts_tied x y h)

both_tied : (first second : Ordering) → ordering_then first second ≡ Equal → (first ≡ Equal) × (second ≡ Equal)
both_tied Less second h = cc
both_tied Equal second h = (refl, h)
both_tied Greater second h = cc

pub items_tied : ItemsAreTiedToThemselvesAlone
items_tied object other value other_value h =
    let item = both_tied (object_cmp object other) (option_cmp text_cmp value other_value) h in
    let named = both_tied (nat_cmp (kind_place object.kind) (kind_place other.kind)) (text_cmp object.key other.key) item.0 in
    let kind = kinds_tied object.kind other.kind named.0 in
    let key = texts_tied object.key other.key named.1 in
    (λ i. record { kind = kind i; key = key i }, values_tied value other_value item.1)
