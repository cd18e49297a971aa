-- The entries of an object among entries that are side by side by object.
use Rattle.std.proofs.Common.{◌≡◌, ℕ, ◌+◌, ◌-◌, ◌<◌, ◌≤◌, zero, suc, Bool, true, false, List, [], ◌∷◌, ◌++◌, length, take, drop, drop-drop, get_or, inl, inr, refl, sym, ap, subst, ◌∙◌, append-nil, arith}
use Rattle.std.proofs.Math.Seq.{take-add}
use Rattle.std.proofs.lemmas.Bool.{cases_lt}
use Rattle.std.specs.List.{filter}
use Rattle.std.specs.Ordering.{is_lt, is_le}
use Rattle.op_base.specs.Order.{object_cmp}
use Rattle.op_base.specs.declared.message.Entry.{Entry}
use Rattle.op_base.specs.declared.name.ObjectId.{ObjectId}
use Rattle.polog.specs.Value.{is_of}
use Rattle.polog.specs.Order.{Each, Pairwise}
use Rattle.polog.specs.Rows.{IsSpan}
use Rattle.polog.proofs.Orders.{each-parts, each-join, each-weaker, pairwise-weaker, filter-all, filter-none, filter-join}
use Rattle.polog.proofs.Laid.{joined, each-both}
use Rattle.polog.proofs.Places.{below-from, through-from, lower-is-le, other-below, other-above, same-between, same-tied, other-is-below, other-is-above, each-take, pairwise-at, passes-before, fails-from}

all-taken : {A : Type 0} (n : ℕ) (xs : List A) → length xs ≤ n → take n xs ≡ xs
all-taken zero [] l = refl
all-taken (suc n) [] l = refl
all-taken zero (x ∷ xs) l = absurd (omega (arith, l))
all-taken (suc n) (x ∷ xs) l = ap (λ ys. x ∷ ys) (all-taken n xs (omega (arith, l)))

length-rest : {A : Type 0} (i : ℕ) (xs : List A) → i ≤ length xs → length (drop i xs) + i ≡ length xs
length-rest zero [] l = refl
length-rest zero (x ∷ xs) l = omega arith
length-rest (suc i) [] l = absurd (omega (arith, l))
length-rest (suc i) (x ∷ xs) l = let rest = length-rest i xs (omega (arith, l)) in omega (arith, rest)

pub rest-taken : {A : Type 0} (i : ℕ) (xs : List A) → i ≤ length xs → take (length xs - i) (drop i xs) ≡ drop i xs
rest-taken i xs l = let many = length-rest i xs l in all-taken (length xs - i) (drop i xs) (omega (arith, many, l))

spanned : (object : ObjectId) (es : List Entry) (i k : ℕ)
    → Each (λ e. is_lt (object_cmp e.update.object object) ≡ true) (take i es) → Each (λ e. is_lt (object_cmp e.update.object object) ≡ false) (drop i es)
    → Each (λ e. is_le (object_cmp e.update.object object) ≡ true) (take k (drop i es)) → Each (λ e. is_le (object_cmp e.update.object object) ≡ false) (drop k (drop i es))
    → take k (drop i es) ≡ filter (is_of object) es
spanned object es i k before from through after =
    let p : Entry → Bool = is_of object in
    let rest = drop i es in
    let not_below = (each-parts (λ e. is_lt (object_cmp e.update.object object) ≡ false) (take k rest) (drop k rest) (subst (Each (λ e. is_lt (object_cmp e.update.object object) ≡ false)) (sym (joined k rest)) from)).0 in
    let inside = each-weaker _ (λ e. p e ≡ true) (λ e h. same-between e.update.object object h.0 h.1) (take k rest)
    (each-both (λ e. is_lt (object_cmp e.update.object object) ≡ false) (λ e. is_le (object_cmp e.update.object object) ≡ true) (take k rest) not_below through) in
    let none_before = filter-none p (take i es) (each-weaker _ (λ e. p e ≡ false) (λ e h. other-below e.update.object object h) (take i es) before) in
    let none_after = filter-none p (drop k rest) (each-weaker _ (λ e. p e ≡ false) (λ e h. other-above e.update.object object h) (drop k rest) after) in
    sym (ap (filter p) (sym (joined i es)) ∙ filter-join p (take i es) rest ∙ ap (λ xs. xs ++ filter p rest) none_before
    ∙ ap (filter p) (sym (joined k rest)) ∙ filter-join p (take k rest) (drop k rest) ∙ (λ j. filter-all p (take k rest) inside j ++ none_after j) ∙ append-nil (take k rest))

module _ (object : ObjectId) (es : List Entry) (from to : ℕ) (span : IsSpan object es from to) where
  -- the entries of the object
  pub span-inside : take (to - from) (drop from es) ≡ filter (is_of object) es
  span-inside =
      let k : ℕ = to - from in
      let whole : from + k ≡ to = omega (arith, span.order) in
      let parts = take-add from k es in
      let through = subst (λ j. Each (λ e. is_le (object_cmp e.update.object object) ≡ true) (take j es)) (sym whole) span.through in
      let above = subst (λ j. Each (λ e. is_le (object_cmp e.update.object object) ≡ false) (drop j es)) (sym whole) span.above in
      spanned object es from k span.below span.not_below
      (each-parts (λ e. is_le (object_cmp e.update.object object) ≡ true) (take from es) (take k (drop from es)) (subst (Each (λ e. is_le (object_cmp e.update.object object) ≡ true)) parts through)).1
      (subst (Each (λ e. is_le (object_cmp e.update.object object) ≡ false)) (sym (drop-drop k from es)) above)

  -- others stand before and behind them
  pub others-before : Each (λ e. is_of object e ≡ false) (take from es)
  others-before = each-weaker (λ e. is_lt (object_cmp e.update.object object) ≡ true) (λ e. is_of object e ≡ false) (λ e h. other-below e.update.object object h) (take from es) span.below

  pub others-behind : Each (λ e. is_of object e ≡ false) (drop to es)
  others-behind = each-weaker (λ e. is_le (object_cmp e.update.object object) ≡ false) (λ e. is_of object e ≡ false) (λ e h. other-above e.update.object object h) (drop to es) span.above

-- where so many stand before the object's, and of the rest so many more aren't above it
pub span-counted : (object : ObjectId) (es : List Entry) (i k : ℕ) → i ≤ length es → k ≤ length (drop i es)
    → Each (λ e. is_lt (object_cmp e.update.object object) ≡ true) (take i es) → Each (λ e. is_lt (object_cmp e.update.object object) ≡ false) (drop i es)
    → Each (λ e. is_le (object_cmp e.update.object object) ≡ true) (take k (drop i es)) → Each (λ e. is_le (object_cmp e.update.object object) ≡ false) (drop k (drop i es))
    → IsSpan object es i (i + k)
span-counted object es i k inside few below not_below through above =
    let P : Entry → Type 0 = λ e. is_le (object_cmp e.update.object object) ≡ true in
    let lower = each-weaker (λ e. is_lt (object_cmp e.update.object object) ≡ true) P (λ e h. lower-is-le (object_cmp e.update.object object) h) (take i es) below in
    record {
      order = omega arith;
      places = omega (arith, length-rest i es inside, few);
      below = below;
      not_below = not_below;
      through = subst (Each P) (sym (take-add i k es)) (each-join P (take i es) (take k (drop i es)) lower through);
      above = subst (Each (λ e. is_le (object_cmp e.update.object object) ≡ false)) (drop-drop k i es) above;
    }

-- where entries rise by object, and those at two places are of one, but not what stands before the first and behind the second
pub span-told : (object : ObjectId) (es : List Entry) (from to : ℕ) (d : Entry)
    → Pairwise (λ a b. is_le (object_cmp a.update.object b.update.object) ≡ true) es → from < to → to ≤ length es
    → is_of object (get_or es from d) ≡ true → is_of object (get_or es (to - 1) d) ≡ true
    → (0 < from → is_of object (get_or es (from - 1) d) ≡ false) → (to < length es → is_of object (get_or es to d) ≡ false)
    → IsSpan object es from to
span-told object es from to d rise some inside first last before behind =
    let lt : Entry → Bool = λ e. is_lt (object_cmp e.update.object object) in
    let le : Entry → Bool = λ e. is_le (object_cmp e.update.object object) in
    let below : Pairwise (λ a b. lt b ≡ true → lt a ≡ true) es = pairwise-weaker _ (λ a b. lt b ≡ true → lt a ≡ true) (λ a b h. below-from a.update.object b.update.object object h) es rise in
    let through : Pairwise (λ a b. le b ≡ true → le a ≡ true) es = pairwise-weaker _ (λ a b. le b ≡ true → le a ≡ true) (λ a b h. through-from a.update.object b.update.object object h) es rise in
    let tied_first = same-tied (get_or es from d).update.object object first in
    let tied_last = same-tied (get_or es (to - 1) d).update.object object last in
    record {
      order = omega (arith, some);
      places = inside;
      below = elim (cases_lt 0 from) [
        | inl l ↦ passes-before lt es below from (from - 1) d (omega arith) (omega (arith, l, some, inside))
            (other-is-below (get_or es (from - 1) d).update.object (get_or es from d).update.object object tied_first (pairwise-at _ es rise (from - 1) from d (omega (arith, l)) (omega (arith, some, inside))) (before l))
        | inr h ↦ each-take (λ e. lt e ≡ true) es from (λ k e l m. absurd (omega (arith, l, h)))
      ];
      not_below = fails-from lt es below from d (λ l. ap is_lt tied_first);
      through = passes-before le es through to (to - 1) d (omega (arith, some)) (omega (arith, some, inside)) (ap is_le tied_last);
      above = fails-from le es through to d (λ l. other-is-above (get_or es (to - 1) d).update.object (get_or es to d).update.object object tied_last (pairwise-at _ es rise (to - 1) to d (omega (arith, some)) l) (behind l));
    }
