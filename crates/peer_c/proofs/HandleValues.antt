-- The machine values of a `Handle`, and what it owns by whether it is full. Assumes `Logic`.
use Rattle.std.proofs.Common.{◌≡◌, List, [], ◌∷◌, ◌++◌, refl, ◌∙◌, lit<}
use mathlib.Core.Bool.{Bool, true, false}
use seplogic.Ra.Ura.{Ura}
use mir.Syntax.{ty_ptr, ty_bool, ty_struct, tcons, tnil}
use mir.Val.{Val, vbool, vstruct, vcons, vnil, of_list}
use base.Logic.{ent, emp}
use base.Fml.{Fml, ftrue}
use types.Logic.{Logic, sem}
use types.Kit.{Item, Goal, Seq, ‵}
use denote.Builtin.{bool}
use denote.RawPtr.{Ptr, RawPtr, block_ptr, null_ptr, ptr_val}
use denote.Shadow.{shadow, makes_shadow}
use denote.Struct.Struct.{Struct}
use Rattle.core.proofs.cell.Inside.{Good}
use Rattle.peer_c.specs.Handle.{peer_at, handle_owns}

abbrev pub handle_val : Ptr → Bool → Val
handle_val p f = vstruct (vcons (ptr_val p) (vcons (vbool f) vnil))

-- what the fields own, which does not read the struct's name
abbrev pub fields_own : Ptr → Bool → List Val → Fml
fields_own p f = (Struct (record { name = []; args = []; types = []; fields = RawPtr ∷ bool ∷ [] })).own_val (p, (f, tt))

pub fields_told : (p : Ptr) (f : Bool) (vs : List Val) → shadow (fields_own p f vs) → vs ≡ handle_val p f ∷ []
fields_told p f vs s = s.1.0 ∙ (λ i. vstruct (of_list (s.1.1.0 i ++ (s.1.1.1.0 i ++ []))) ∷ [])

pub fields_made : {M : Type 1} {𝓤 : Ura M} (𝓛 : Logic 𝓤) (p : Ptr) (f : Bool) → ent 𝓤 (emp 𝓤) (sem 𝓛 (fields_own p f (handle_val p f ∷ [])))
fields_made 𝓛 p f = makes_shadow 𝓛 (fields_own p f (handle_val p f ∷ [])) (λ _. (tt, (tt, (tt, tt)))) ((ptr_val p ∷ [], (vbool f ∷ [], tt)), (refl, (refl, (refl, tt))))

pub handle_typed : (p : Ptr) (f : Bool) → Good (ty_struct [] (tcons ty_ptr (tcons ty_bool tnil))) (handle_val p f)
handle_typed (block_ptr b o) f = (tt, (tt, (tt, tt)))
handle_typed null_ptr f = (tt, (record { fits = lit< tt }, (tt, tt)))

pub pointer_typed : (p : Ptr) → Good ty_ptr (ptr_val p)
pointer_typed (block_ptr b o) = (tt, tt)
pointer_typed null_ptr = (tt, record { fits = lit< tt })

module _ {M : Type 1} {𝓤 : Ura M} {𝓛 : Logic 𝓤} {K : Type 0} {Γ : List (Item 𝓤)} {G : Goal 𝓤 𝓛.H} where
  pub full_or_empty : K → (f : Bool) (p : Ptr) → (f ≡ true → Seq K 𝓛 (‵ (peer_at p) ∷ Γ) G) → (f ≡ false → Seq K 𝓛 (‵ ftrue ∷ Γ) G) → Seq K 𝓛 (‵ (handle_owns f p) ∷ Γ) G
  full_or_empty t true p full empty = full refl
  full_or_empty t false p full empty = empty refl
