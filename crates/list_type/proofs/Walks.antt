-- A walk over a row, past those whose values pass.
use Rattle.std.proofs.Common.{◌≡◌, ℕ, ◌+◌, ◌≤◌, Bool, true, false, cond, List, [], ◌∷◌, ◌++◌, length, Option, Some, None, refl, sym, ap, subst, ◌∙◌, append_assoc, append-nil, length-append, arith}
use Rattle.list_type.specs.Chained.{first_slot, row_at, passed, from_unpassed, Stands, IsParted}
use Rattle.list_type.proofs.Places.{further}

module _ {T : Type 0} (p : T → Bool) (rows : List (List (ℕ × T))) (row : ℕ) where
  -- of those behind a place some were passed, and the others are still ahead
  pub record IsWalked (before after : List (ℕ × T)) (at : Option ℕ) (count : ℕ) : Type 0 where
    pub done : List (ℕ × T)
    pub rest : List (ℕ × T)
    pub parted : IsParted rows row (before ++ done) at rest
    pub passed_is : passed p after ≡ done ++ passed p rest
    pub rest_is : from_unpassed p after ≡ from_unpassed p rest
    pub counted : count ≤ length done

  pub walk_starts : (before after : List (ℕ × T)) (at : Option ℕ) → IsParted rows row before at after → IsWalked before after at 0
  walk_starts before after at parted = record {
    done = [];
    rest = after;
    parted = subst (λ xs. IsParted rows row xs at after) (sym (append-nil before)) parted;
    passed_is = refl;
    rest_is = refl;
    counted = omega arith;
  }

  pub walk_goes_on : (before after : List (ℕ × T)) (at next : Option ℕ) (count slot : ℕ) (now : T) → next ≡ Some slot
      → ((before after : List (ℕ × T)) → IsParted rows row before at after → next ≡ first_slot after)
      → ((r : ℕ) (before : List (ℕ × T)) (value : T) (after : List (ℕ × T)) → Stands rows r before slot value after → now ≡ value)
      → p now ≡ true → IsWalked before after at count → IsWalked before after (Some slot) (count + 1)
  walk_goes_on before after at next count slot now is next_is got pass walked = by walked.rest walked.parted walked.passed_is walked.rest_is where
    done : List (ℕ × T)
    done = walked.done

    by : (rest : List (ℕ × T)) → IsParted rows row (before ++ done) at rest → passed p after ≡ done ++ passed p rest → from_unpassed p after ≡ from_unpassed p rest → IsWalked before after (Some slot) (count + 1)
    by [] parted passed_is rest_is =
        let first : Some slot ≡ None = sym is ∙ next_is (before ++ done) [] parted in
        absurd (cc)
    by (x ∷ rest) parted passed_is rest_is =
        let first : Some slot ≡ Some x.0 = sym is ∙ next_is (before ++ done) (x ∷ rest) parted in
        let here : x.0 ≡ slot = cc in
        let stands : Stands rows row (before ++ done) slot x.1 rest = subst (λ k. Stands rows row (before ++ done) k x.1 rest) here (record { within = parted.within; here = parted.here }) in
        let passes : p x.1 ≡ true = ap p (sym (got row (before ++ done) x.1 rest stands)) ∙ pass in
        let behind = subst (λ xs. IsParted rows row xs (Some x.0) rest) (append_assoc before done (x ∷ [])) (further rows row (before ++ done) rest at x parted) in
        record {
          done = done ++ x ∷ [];
          rest = rest;
          parted = subst (λ k. IsParted rows row (before ++ (done ++ x ∷ [])) (Some k) rest) here behind;
          passed_is = passed_is ∙ ap (λ b. done ++ cond b (x ∷ passed p rest) []) passes ∙ sym (append_assoc done (x ∷ []) (passed p rest));
          rest_is = rest_is ∙ ap (λ b. cond b (from_unpassed p rest) (x ∷ rest)) passes;
          counted = omega (arith, walked.counted, length-append done (x ∷ []));
        }

  -- it ends where none more passes
  walk_ends : (before after : List (ℕ × T)) (at : Option ℕ) (count : ℕ) (walked : IsWalked before after at count) → passed p walked.rest ≡ [] → from_unpassed p walked.rest ≡ walked.rest → IsParted rows row (before ++ passed p after) at (from_unpassed p after)
  walk_ends before after at count walked none stays =
      let all : walked.done ≡ passed p after = sym (walked.passed_is ∙ ap (λ xs. walked.done ++ xs) none ∙ append-nil walked.done) in
      let rest : walked.rest ≡ from_unpassed p after = sym (walked.rest_is ∙ stays) in
      subst (λ xs. IsParted rows row (before ++ xs) at (from_unpassed p after)) all (subst (λ xs. IsParted rows row (before ++ walked.done) at xs) rest walked.parted)

  -- at the row's end
  pub walk_ends_last : (before after : List (ℕ × T)) (at next : Option ℕ) (count : ℕ) → next ≡ None
      → ((before after : List (ℕ × T)) → IsParted rows row before at after → next ≡ first_slot after) → IsWalked before after at count → IsParted rows row (before ++ passed p after) at (from_unpassed p after)
  walk_ends_last before after at next count is next_is walked =
      let none = by walked.rest (sym (next_is (before ++ walked.done) walked.rest walked.parted) ∙ is) in
      walk_ends before after at count walked (ap (passed p) none) (ap (from_unpassed p) none ∙ sym none) where
        by : (rest : List (ℕ × T)) → first_slot rest ≡ None → rest ≡ []
        by [] first = refl
        by (x ∷ rest) first = cc

  -- at the first that doesn't pass
  pub walk_ends_before : (before after : List (ℕ × T)) (at next : Option ℕ) (count slot : ℕ) (now : T) → next ≡ Some slot
      → ((before after : List (ℕ × T)) → IsParted rows row before at after → next ≡ first_slot after)
      → ((r : ℕ) (before : List (ℕ × T)) (value : T) (after : List (ℕ × T)) → Stands rows r before slot value after → now ≡ value)
      → p now ≡ false → IsWalked before after at count → IsParted rows row (before ++ passed p after) at (from_unpassed p after)
  walk_ends_before before after at next count slot now is next_is got fail walked =
      let both = by walked.rest walked.parted in
      walk_ends before after at count walked both.0 both.1 where
        by : (rest : List (ℕ × T)) → IsParted rows row (before ++ walked.done) at rest → (passed p rest ≡ []) × (from_unpassed p rest ≡ rest)
        by [] parted = (refl, refl)
        by (x ∷ rest) parted =
            let first : Some slot ≡ Some x.0 = sym is ∙ next_is (before ++ walked.done) (x ∷ rest) parted in
            let here : x.0 ≡ slot = cc in
            let stands : Stands rows row (before ++ walked.done) slot x.1 rest = subst (λ k. Stands rows row (before ++ walked.done) k x.1 rest) here (record { within = parted.within; here = parted.here }) in
            let fails : p x.1 ≡ false = ap p (sym (got row (before ++ walked.done) x.1 rest stands)) ∙ fail in
            (ap (λ b. cond b (x ∷ passed p rest) []) fails, ap (λ b. cond b (from_unpassed p rest) (x ∷ rest)) fails)

  -- after as many steps as the row has slots
  pub walk_ends_full : (before after : List (ℕ × T)) (at : Option ℕ) (count : ℕ) → length (row_at rows row) ≤ count → IsWalked before after at count → IsParted rows row (before ++ passed p after) at (from_unpassed p after)
  walk_ends_full before after at count full walked =
      let none = by walked.rest (omega (arith, full, walked.counted, ap length walked.parted.here, length-append (before ++ walked.done) walked.rest, length-append before walked.done)) in
      walk_ends before after at count walked (ap (passed p) none) (ap (from_unpassed p) none ∙ sym none) where
        by : (rest : List (ℕ × T)) → length rest ≤ 0 → rest ≡ []
        by [] short = refl
        by (x ∷ rest) short = absurd (omega arith)
