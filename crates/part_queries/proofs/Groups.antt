-- What becomes of finds in order as each value's are joined.
use Rattle.std.proofs.Common.{◌≡◌, ℕ, Bool, true, false, ◌&&◌, ◌||◌, All, List, [], ◌∷◌, ◌++◌, length, refl, sym, ap, subst, ◌∙◌, arith}
use Rattle.std.specs.List.{list_any}
use Rattle.std.specs.Cmp.Lexicographic.{texts_ties, bytes_decides, pointwise}
use Rattle.std.specs.Ordering.{is_eq}
use Rattle.std.specs.Prelude.{nat_eq}
use Rattle.std.specs.declared.cmp.Ordering.TheVariants.{Less}
use Rattle.std.proofs.Math.Bool.{or_assoc}
use Rattle.std.proofs.lemmas.List.Elements.{All-push, All-weaker, All-contains, Contains-push}
use Rattle.std.proofs.lemmas.List.Quantifiers.{all_pairs_push}
use Rattle.op_base.specs.Name.{same_text}
use Rattle.op_base.specs.Order.{text_cmp}
use Rattle.part_queries.specs.Finds.{puts_in, takes_out, IsNotBefore, AreRising}
use Rattle.part_queries.specs.declared.found.Found.{Found}
use Rattle.part_queries.proofs.Finds.{list_any_push, pairs_last, pairs_front, all_front, texts_total, after_from}

-- ---- a find more

both : (s a b : Bool) → (s && (a || b)) ≡ ((s && a) || (s && b))
both true a b = refl
both false a b = refl

abbrev Rises : Found → Found → Type 0
Rises a b = text_cmp a.value.now b.value.now ≡ Less

-- the last find with a further one's marks
abbrev pub joined : Found → Found → Found
joined last found = record { value = last.value; marks = record { put = last.marks.put || found.marks.put; taken = last.marks.taken || found.marks.taken } }

module _ (front : List Found) (last found : Found) where
  pub rise_joined : AreRising (front ++ last ∷ []) → AreRising (front ++ joined last found ∷ [])
  rise_joined rising = all_pairs_push Rises front (joined last found) (pairs_front Rises front (last ∷ []) rising) (pairs_last Rises front last rising)

  pub rise_pushed : is_eq (text_cmp last.value.now found.value.now) ≡ false → All (IsNotBefore found) (front ++ last ∷ []) → AreRising (front ++ last ∷ []) → AreRising ((front ++ last ∷ []) ++ found ∷ [])
  rise_pushed apart behind rising =
      let less : Rises last found = after_from last.value.now found.value.now (All-contains (IsNotBefore found) (front ++ last ∷ []) last behind (Contains-push front last)) apart in
      all_pairs_push Rises (front ++ last ∷ []) found rising (All-push (λ f. Rises f found) front last (All-weaker (λ f. Rises f last) (λ f. Rises f found) (λ f l. texts_total.trans f.value.now last.value.now found.value.now l less) front (pairs_last Rises front last rising)) less)

  any_joined : (p : Found → Bool) → p (joined last found) ≡ (p last || p found) → list_any p (front ++ joined last found ∷ []) ≡ (list_any p (front ++ last ∷ []) || p found)
  any_joined p both =
      list_any_push p front (joined last found) ∙ ap (λ b. list_any p front || b) both ∙ sym (or_assoc (list_any p front) (p last) (p found))
      ∙ ap (λ b. b || p found) (sym (list_any_push p front last))

  module _ (same : last.value.now ≡ found.value.now) (v : List ℕ) where
    pub puts_joined : list_any (puts_in v) (front ++ joined last found ∷ []) ≡ (list_any (puts_in v) (front ++ last ∷ []) || puts_in v found)
    puts_joined = any_joined (puts_in v) (both (same_text last.value.now v) last.marks.put found.marks.put ∙ ap (λ x. puts_in v last || (same_text x v && found.marks.put)) same)

    pub takes_joined : list_any (takes_out v) (front ++ joined last found ∷ []) ≡ (list_any (takes_out v) (front ++ last ∷ []) || takes_out v found)
    takes_joined = any_joined (takes_out v) (both (same_text last.value.now v) last.marks.taken found.marks.taken ∙ ap (λ x. takes_out v last || (same_text x v && found.marks.taken)) same)

-- what a find more makes of finds that rise
pub record IsPut (old : List Found) (found : Found) (new : List Found) : Type 0 where
  pub rise : AreRising new
  pub put : (v : List ℕ) → list_any (puts_in v) new ≡ (list_any (puts_in v) old || puts_in v found)
  pub taken : (v : List ℕ) → list_any (takes_out v) new ≡ (list_any (takes_out v) old || takes_out v found)
  pub before : (f : Found) → IsNotBefore f found → All (IsNotBefore f) old → All (IsNotBefore f) new

module _ (old front : List Found) (last found : Found) (split : old ≡ front ++ last ∷ []) (rising : AreRising old) where
  pub put_joined : (new : List Found) → new ≡ front ++ joined last found ∷ [] → last.value.now ≡ found.value.now → IsPut old found new
  put_joined new made same = record {
    rise = subst AreRising (sym made) (rise_joined front last found (subst AreRising split rising));
    put = λ v. ap (list_any (puts_in v)) made ∙ puts_joined front last found same v ∙ ap (λ fs. list_any (puts_in v) fs || puts_in v found) (sym split);
    taken = λ v. ap (list_any (takes_out v)) made ∙ takes_joined front last found same v ∙ ap (λ fs. list_any (takes_out v) fs || takes_out v found) (sym split);
    before = λ f after each.
        let all = subst (All (IsNotBefore f)) split each in
        subst (All (IsNotBefore f)) (sym made) (All-push (IsNotBefore f) front (joined last found) (all_front (IsNotBefore f) front (last ∷ []) all) (All-contains (IsNotBefore f) (front ++ last ∷ []) last all (Contains-push front last)));
  }

  pub put_behind : (new : List Found) → new ≡ (front ++ last ∷ []) ++ found ∷ [] → is_eq (text_cmp last.value.now found.value.now) ≡ false → All (IsNotBefore found) old → IsPut old found new
  put_behind new made apart behind =
      let pushed : new ≡ old ++ found ∷ [] = made ∙ ap (λ fs. fs ++ found ∷ []) (sym split) in
      record {
        rise = subst AreRising (sym made) (rise_pushed front last found apart (subst (All (IsNotBefore found)) split behind) (subst AreRising split rising));
        put = λ v. ap (list_any (puts_in v)) pushed ∙ list_any_push (puts_in v) old found;
        taken = λ v. ap (list_any (takes_out v)) pushed ∙ list_any_push (takes_out v) old found;
        before = λ f after each. subst (All (IsNotBefore f)) (sym pushed) (All-push (IsNotBefore f) old found each after);
      }

pub no_items : {X : Type 0} (xs : List X) → length xs ≡ 0 → xs ≡ []
no_items [] none = refl
no_items (x ∷ xs) none = absurd (omega (arith, none))

pub put_first : (found : Found) (old new : List Found) → old ≡ [] → new ≡ found ∷ [] → IsPut old found new
put_first found old new none made =
    let pushed : new ≡ old ++ found ∷ [] = made ∙ ap (λ fs. fs ++ found ∷ []) (sym none) in
    record {
      rise = subst AreRising (sym made) (all_pairs_push Rises [] found (λ i j d lt within. absurd (omega (arith, within))) (λ k d l. absurd (omega (arith, l))));
      put = λ v. ap (list_any (puts_in v)) pushed ∙ list_any_push (puts_in v) old found;
      taken = λ v. ap (list_any (takes_out v)) pushed ∙ list_any_push (takes_out v) old found;
      before = λ f after each. subst (All (IsNotBefore f)) (sym pushed) (All-push (IsNotBefore f) old found each after);
    }

-- values by their test for equality
pub tested_same : (a b : List ℕ) → pointwise nat_eq a b ≡ true → a ≡ b
tested_same a b t = (bytes_decides a b).0 t

pub tested_apart : (a b : List ℕ) → pointwise nat_eq a b ≡ false → is_eq (text_cmp a b) ≡ false
tested_apart a b t = sym (texts_ties a b) ∙ t
