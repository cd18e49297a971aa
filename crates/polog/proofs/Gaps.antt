-- Free rows between those of a log: what a sweep over an object's rows leaves, and what rows put in between make of them.
use Rattle.std.proofs.Common.{◌≡◌, ℕ, ◌+◌, ◌-◌, ◌<◌, ◌≤◌, Bool, true, false, cond, ◌&&◌, ◌||◌, IsTrue, List, [], ◌∷◌, ◌++◌, length, take, drop, get_or, take_at, drop_at, take-add, take-take, drop-drop, get_or-take, get_or-drop, length-append, length-take, length-take-le, length-drop, take-suc, drop-cons, drop_of_length-le, append-nil, reverse, suc, inl, inr, refl, sym, ap, subst, ◌∙◌, arith}
use Rattle.std.specs.List.{filter, remove, list_any}
use Rattle.std.specs.Ordering.{is_lt, is_le}
use Rattle.std.specs.declared.cmp.Ordering.TheVariants.{Equal}
use Rattle.std.proofs.lemmas.List.{reverse-append}
use Rattle.std.proofs.lemmas.Bool.{cond-true, cond-false, cases_lt, false≢true}
use Rattle.std.proofs.lemmas.Cmp.{tied_itself}
use Rattle.op_base.specs.Message.{fits}
use Rattle.op_base.specs.Order.{object_cmp}
use Rattle.op_base.specs.declared.message.Entry.{Entry}
use Rattle.op_base.specs.declared.name.ObjectId.{ObjectId}
use Rattle.causal_model.specs.Log.{message_of}
use Rattle.polog.specs.Value.{is_of}
use Rattle.polog.specs.Order.{Each, Pairwise, items_of}
use Rattle.causal_model.proofs.Answers.Rules.{object_from_same}
use Rattle.polog.specs.Rows.{is_live, live_rows, idle_act, IsSpan, IsSpread, IsStand}
use Rattle.polog.specs.declared.guesses.Stand.{Stand}
use Rattle.polog.proofs.Laid.{joined, items-take, items-drop, each-of-items, pairwise-filter, each-left, each-taken, each-cut}
use Rattle.polog.proofs.Orders.{each-join, each-parts, each-weaker, each-filter, pairwise-parts, filter-all, filter-none, filter-join, told, each-passes, pairwise-less}
use Rattle.polog.proofs.Spans.{others-before, others-behind}
use Rattle.polog.proofs.Places.{each-at, each-take, each-drop, objects_total, above-from, same-between, same-from-one}

module _ {A : Type 0} where
  -- ---- filters

  pub filter-turns : (p q : A → Bool) (xs : List A) → filter p (filter q xs) ≡ filter q (filter p xs)
  filter-turns p q [] = refl
  filter-turns p q (x ∷ xs) = elim (told (p x)) [
    | inl t ↦ elim (told (q x)) [
      | inl u ↦ ap (filter p) (cond-true (q x) _ _ u) ∙ cond-true (p x) _ _ t ∙ ap (λ ys. x ∷ ys) (filter-turns p q xs)
          ∙ sym (ap (filter q) (cond-true (p x) _ _ t) ∙ cond-true (q x) _ _ u)
      | inr u ↦ ap (filter p) (cond-false (q x) _ _ u) ∙ filter-turns p q xs
          ∙ sym (ap (filter q) (cond-true (p x) _ _ t) ∙ cond-false (q x) _ _ u)
    ]
    | inr t ↦ elim (told (q x)) [
      | inl u ↦ ap (filter p) (cond-true (q x) _ _ u) ∙ cond-false (p x) _ _ t ∙ filter-turns p q xs ∙ sym (ap (filter q) (cond-false (p x) _ _ t))
      | inr u ↦ ap (filter p) (cond-false (q x) _ _ u) ∙ filter-turns p q xs ∙ sym (ap (filter q) (cond-false (p x) _ _ t))
    ]
  ]

  -- what a filter takes out passes another: it takes out as many of those that pass
  pub as-many-go : (p q : A → Bool) (xs : List A) → Each (λ x. p x ≡ false → q x ≡ true) xs
      → length xs + length (filter q (filter p xs)) ≡ length (filter q xs) + length (filter p xs)
  as-many-go p q [] each = refl
  as-many-go p q (x ∷ xs) each =
      let rest = as-many-go p q xs each.1 in
      elim (told (p x)) [
        | inl t ↦
            let kept = cond-true (p x) (x ∷ filter p xs) (filter p xs) t in
            elim (told (q x)) [
              | inl u ↦
                  let both = ap (λ ys. length (filter q ys)) kept ∙ ap length (cond-true (q x) (x ∷ filter q (filter p xs)) (filter q (filter p xs)) u) in
                  let one = ap length (cond-true (q x) (x ∷ filter q xs) (filter q xs) u) in
                  omega (arith, rest, both, one, ap length kept)
              | inr u ↦
                  let both = ap (λ ys. length (filter q ys)) kept ∙ ap length (cond-false (q x) (x ∷ filter q (filter p xs)) (filter q (filter p xs)) u) in
                  let one = ap length (cond-false (q x) (x ∷ filter q xs) (filter q xs) u) in
                  omega (arith, rest, both, one, ap length kept)
            ]
        | inr t ↦
            let gone = cond-false (p x) (x ∷ filter p xs) (filter p xs) t in
            let one = ap length (cond-true (q x) (x ∷ filter q xs) (filter q xs) (each.0 t)) in
            omega (arith, rest, ap (λ ys. length (filter q ys)) gone, one, ap length gone)
      ]

  -- where none passes from one place up to another, it makes no difference from which of them on a list is filtered
  pub none-between : (p : A → Bool) (xs : List A) (i j : ℕ) → i ≤ j → ((k : ℕ) (d : A) → i ≤ k → k < j → p (get_or xs k d) ≡ false) → filter p (drop i xs) ≡ filter p (drop j xs)
  none-between p xs i j l none =
      let rest : drop (j - i) (drop i xs) ≡ drop j xs = drop-drop (j - i) i xs ∙ ap (λ k. drop k xs) (omega (arith, l)) in
      let gone = each-take (λ x. p x ≡ false) (drop i xs) (j - i) (λ k d m inside. ap p (get_or-drop i xs k d) ∙ none (i + k) d (omega arith) (omega (arith, m))) in
      ap (filter p) (sym (joined (j - i) (drop i xs))) ∙ filter-join p (take (j - i) (drop i xs)) (drop (j - i) (drop i xs))
      ∙ ap (λ ys. ys ++ filter p (drop (j - i) (drop i xs))) (filter-none p (take (j - i) (drop i xs)) gone) ∙ ap (filter p) rest

  -- ---- relations

  pub pairwise-across : (R : A → A → Type 0) (xs ys : List A) → Pairwise R (xs ++ ys) → Each (λ x. Each (R x) ys) xs
  pairwise-across R [] ys pairs = tt
  pairwise-across R (x ∷ xs) ys pairs = ((each-parts (R x) xs ys pairs.0).1, pairwise-across R xs ys pairs.1)

  pub pairwise-join : (R : A → A → Type 0) (xs ys : List A) → Pairwise R xs → Pairwise R ys → Each (λ x. Each (R x) ys) xs → Pairwise R (xs ++ ys)
  pairwise-join R [] ys first second across = second
  pairwise-join R (x ∷ xs) ys first second across = (each-join (R x) xs ys first.0 across.0, pairwise-join R xs ys first.1 second across.1)

  each-both-join : (R : A → A → Type 0) (xs ys zs : List A) → Each (λ x. Each (R x) ys) xs → Each (λ x. Each (R x) zs) xs → Each (λ x. Each (R x) (ys ++ zs)) xs
  each-both-join R [] ys zs first second = tt
  each-both-join R (x ∷ xs) ys zs first second = (each-join (R x) ys zs first.0 second.0, each-both-join R xs ys zs first.1 second.1)

  pub each-each : {B : Type 0} (P : A → Type 0) (Q : B → Type 0) (R : A → B → Type 0) → ((x : A) (y : B) → P x → Q y → R x y) → (xs : List A) (ys : List B) → Each P xs → Each Q ys
      → Each (λ x. Each (R x) ys) xs
  each-each P Q R made xs ys first second = each-weaker P (λ x. Each (R x) ys) (λ x h. each-weaker Q (R x) (λ y k. made x y h k) ys second) xs first

  pub pairwise-each : (P : A → Type 0) (R : A → A → Type 0) → ((x y : A) → P x → P y → R x y) → (xs : List A) → Each P xs → Pairwise R xs
  pairwise-each P R made [] each = tt
  pairwise-each P R made (x ∷ xs) each = (each-weaker P (R x) (λ y h. made x y each.0 h) xs each.1, pairwise-each P R made xs each.1)

-- ---- objects

one-is-tied : (a b : ObjectId) → a ≡ b → object_cmp a b ≡ Equal
one-is-tied a b one = ap (object_cmp a) (sym one) ∙ tied_itself objects_total a

below-is-other : (a b : ObjectId) → is_lt (object_cmp a b) ≡ true → a ≡ b → ⊥
below-is-other a b below one = false≢true (sym (ap is_lt (one-is-tied a b one)) ∙ below)

above-is-other : (a b : ObjectId) → is_le (object_cmp a b) ≡ false → a ≡ b → ⊥
above-is-other a b above one = false≢true (sym above ∙ ap is_le (one-is-tied a b one))

not-below-is-le : (a b : ObjectId) (t : Bool) → is_le (object_cmp b a) ≡ t → is_lt (object_cmp a b) ≡ false → is_le (object_cmp b a) ≡ true
not-below-is-le a b true le down = le
not-below-is-le a b false above down = absurd (false≢true (sym down ∙ ap is_lt (above-from b a above)))

-- ---- rows of an object that was swept: a test of other rows passes, and what of the object's passes was put first

abbrev Row : Type 0
Row = ℕ × Entry

-- rows that are put behind those that are left of an object
pub record IsMiddle (object : ObjectId) (n : ℕ) (mid : List Row) : Type 0 where
  pub of : Each (λ r. r.1.update.object ≡ object) mid
  pub behind : Pairwise (λ (a b : Row). a.1.update.object ≡ b.1.update.object → is_live b ≡ true → is_live a ≡ true) mid
  pub fit : Each (λ r. IsTrue (fits n (message_of r.1))) mid
  pub idle : Each (λ r. is_live r ≡ false → r.1.update.act ≡ idle_act r.1.update.object.kind) mid

module _ (object : ObjectId) (p : Row → Bool) (rs : List Row) (stand : Stand) (stands : IsStand object rs stand) (last : ℕ)
    (least : stand.end ≤ last) (most : last ≤ stand.to) (before : Each (λ r. p r ≡ true) (take stand.from rs)) (after : Each (λ r. p r ≡ true) (drop stand.to rs)) where
  abbrev front : List Row
  front = filter p (take stand.end rs)

  -- what stands as far as the end of the entries
  low : Each (λ r. is_le (object_cmp r.1.update.object object) ≡ true) (take stand.end rs)
  low =
      let P : Entry → Type 0 = λ e. is_le (object_cmp e.update.object object) ≡ true in
      let through = each-of-items P (take stand.to rs) (subst (Each P) (items-take stand.to rs) stands.span.through) in
      subst (Each (λ r. P r.1)) (take-take stand.end stand.to rs stands.most) (each-taken (λ r. P r.1) stand.end (take stand.to rs) through)

  pub front-low : Each (λ r. is_le (object_cmp r.1.update.object object) ≡ true) front
  front-low = each-filter (λ r. is_le (object_cmp r.1.update.object object) ≡ true) p (take stand.end rs) low

  pub back-high : Each (λ r. is_le (object_cmp r.1.update.object object) ≡ false) (drop stand.to rs)
  back-high =
      let P : Entry → Type 0 = λ e. is_le (object_cmp e.update.object object) ≡ false in
      each-of-items P (drop stand.to rs) (subst (Each P) (items-drop stand.to rs) stands.span.above)

  -- free rows of the object behind them make no difference
  pub back-live : live_rows (drop last rs) ≡ live_rows (drop stand.to rs)
  back-live = none-between is_live rs last stand.to most (λ k d l m. stands.free k d (omega (arith, l, least)) m)

  end-live : live_rows (drop stand.end rs) ≡ live_rows (drop stand.to rs)
  end-live = none-between is_live rs stand.end stand.to stands.most stands.free

  gone-live : Each (λ r. p r ≡ false → is_live r ≡ true) (take stand.end rs)
  gone-live = each-take (λ r. p r ≡ false → is_live r ≡ true) rs stand.end (λ k d l inside. elim (cases_lt k stand.from) [
    | inl m ↦ λ goes. absurd (false≢true (sym goes ∙ ap p (sym (get_or-take stand.from rs k d m)) ∙ each-at (λ r. p r ≡ true) (take stand.from rs) before k d (long k m inside)))
    | inr m ↦ λ goes. stands.live k d m l
  ]) where
    long : (k : ℕ) → k < stand.from → k < length rs → k < length (take stand.from rs)
    long k m inside = let many = length-take stand.from rs in omega (arith, many, m, inside)

  -- what is left of the entries
  pub left : live_rows front ++ live_rows (drop stand.to rs) ≡ filter p (live_rows rs)
  left =
      let ahead = take stand.end rs in
      let back = drop stand.to rs in
      let whole : live_rows rs ≡ live_rows ahead ++ live_rows back = ap live_rows (sym (joined stand.end rs)) ∙ filter-join is_live ahead (drop stand.end rs) ∙ ap (λ xs. live_rows ahead ++ xs) end-live in
      let rest : filter p (live_rows back) ≡ live_rows back = filter-all p (live_rows back) (each-filter (λ r. p r ≡ true) is_live back after) in
      sym (ap (filter p) whole ∙ filter-join p (live_rows ahead) (live_rows back) ∙ (λ i. filter-turns p is_live ahead i ++ rest i))

  -- as many are as were, but for what went
  pub count : stand.end ≤ length rs → length (live_rows rs) + length front ≡ length (filter p (live_rows rs)) + stand.end
  count inside =
      let ahead = take stand.end rs in
      let back = drop stand.to rs in
      let whole : live_rows rs ≡ live_rows ahead ++ live_rows back = ap live_rows (sym (joined stand.end rs)) ∙ filter-join is_live ahead (drop stand.end rs) ∙ ap (λ xs. live_rows ahead ++ xs) end-live in
      let went = as-many-go p is_live ahead gone-live in
      omega (arith, ap length whole, length-append (live_rows ahead) (live_rows back), ap length left, length-append (live_rows front) (live_rows back), went, length-take-le stand.end rs inside)

  -- those of the object that are left are its entries
  own-live : Each (λ r. r.1.update.object ≡ object → is_live r ≡ true) (take stand.end rs)
  own-live =
      let P : Entry → Type 0 = λ e. is_lt (object_cmp e.update.object object) ≡ true in
      let below = each-of-items P (take stand.from rs) (subst (Each P) (items-take stand.from rs) stands.span.below) in
      each-take (λ r. r.1.update.object ≡ object → is_live r ≡ true) rs stand.end (λ k d l inside. elim (cases_lt k stand.from) [
        | inl m ↦ λ one. absurd (below-is-other (get_or rs k d).1.update.object object
            (subst (λ (r : Row). P r.1) (get_or-take stand.from rs k d m) (each-at (λ r. P r.1) (take stand.from rs) below k d (let many = length-take stand.from rs in omega (arith, many, m, inside)))) one)
        | inr m ↦ λ one. stands.live k d m l
      ])

  -- and behind them its free rows
  own-free : Each (λ r. r.1.update.object ≡ object → is_live r ≡ false) (drop last rs)
  own-free =
      let above = back-high in
      each-drop (λ r. r.1.update.object ≡ object → is_live r ≡ false) rs last (λ k d l inside. elim (cases_lt k stand.to) [
        | inl m ↦ λ one. stands.free k d (omega (arith, l, least)) m
        | inr m ↦ λ one. absurd (above-is-other (get_or rs k d).1.update.object object (at-rest stand.to k d m inside above) one)
      ]) where
        at-rest : (i k : ℕ) (d : Row) → i ≤ k → k < length rs → Each (λ r. is_le (object_cmp r.1.update.object object) ≡ false) (drop i rs) → is_le (object_cmp (get_or rs k d).1.update.object object) ≡ false
        at-rest i k d l inside each =
            let there : get_or (drop i rs) (k - i) d ≡ get_or rs k d = get_or-drop i rs (k - i) d ∙ ap (λ j. get_or rs j d) (omega (arith, l)) in
            subst (λ (r : Row). is_le (object_cmp r.1.update.object object) ≡ false) there
            (each-at (λ r. is_le (object_cmp r.1.update.object object) ≡ false) (drop i rs) each (k - i) d (let many = length-drop i rs in omega (arith, many, l, inside)))

  high : Each (λ r. is_le (object_cmp object r.1.update.object) ≡ true) (drop last rs)
  high =
      let P : Entry → Type 0 = λ e. is_lt (object_cmp e.update.object object) ≡ false in
      let rest = each-of-items P (drop stand.from rs) (subst (Each P) (items-drop stand.from rs) stands.span.not_below) in
      let apart : drop (last - stand.from) (drop stand.from rs) ≡ drop last rs = drop-drop (last - stand.from) stand.from rs ∙ ap (λ k. drop k rs) (omega (arith, stands.least, least)) in
      each-weaker (λ r. P r.1) (λ r. is_le (object_cmp object r.1.update.object) ≡ true) (λ r h. not-below-is-le r.1.update.object object (is_le (object_cmp object r.1.update.object)) refl h) (drop last rs)
      (subst (Each (λ r. P r.1)) apart (each-left (λ r. P r.1) (last - stand.from) (drop stand.from rs) rest))

  -- rows put in behind them
  pub spread-between : (n : ℕ) (mid : List Row) → IsSpread n rs → IsMiddle object n mid → IsSpread n (front ++ (mid ++ drop last rs))
  spread-between n mid spread middle =
      let ahead = take stand.end rs in
      let back = drop last rs in
      let Q : Row → Type 0 = λ r. IsTrue (fits n (message_of r.1)) in
      let I : Row → Type 0 = λ r. is_live r ≡ false → r.1.update.act ≡ idle_act r.1.update.object.kind in
      let R : Row → Row → Type 0 = λ a b. is_le (object_cmp a.1.update.object b.1.update.object) ≡ true in
      let S : Row → Row → Type 0 = λ a b. a.1.update.object ≡ b.1.update.object → is_live b ≡ true → is_live a ≡ true in
      record {
        ordered = between R spread.ordered
            (each-each (λ r. is_le (object_cmp r.1.update.object object) ≡ true) (λ r. r.1.update.object ≡ object) R (λ x y h one. subst (λ o. is_le (object_cmp x.1.update.object o) ≡ true) (sym one) h) front mid front-low middle.of)
            (pairwise-each (λ r. r.1.update.object ≡ object) R (λ x y h one. ap is_le (one-is-tied x.1.update.object y.1.update.object (h ∙ sym one))) mid middle.of)
            (each-each (λ r. r.1.update.object ≡ object) (λ r. is_le (object_cmp object r.1.update.object) ≡ true) R (λ x y one h. subst (λ o. is_le (object_cmp o y.1.update.object) ≡ true) (sym one) h) mid back middle.of high);
        behind = between S spread.behind
            (each-each (λ r. r.1.update.object ≡ object → is_live r ≡ true) (λ r. r.1.update.object ≡ object) S (λ x y h one same live. h (same ∙ one)) front mid (each-filter (λ r. r.1.update.object ≡ object → is_live r ≡ true) p ahead own-live) middle.of)
            middle.behind
            (each-each (λ r. r.1.update.object ≡ object) (λ r. r.1.update.object ≡ object → is_live r ≡ false) S (λ x y one h same live. absurd (false≢true (sym (h (sym same ∙ one)) ∙ live))) mid back middle.of own-free);
        fit = each-join Q front (mid ++ back) (each-filter Q p ahead (each-taken Q stand.end rs spread.fit)) (each-join Q mid back middle.fit (each-left Q last rs spread.fit));
        idle = each-join I front (mid ++ back) (each-filter I p ahead (each-taken I stand.end rs spread.idle)) (each-join I mid back middle.idle (each-left I last rs spread.idle));
      } where
        between : (R : Row → Row → Type 0) → Pairwise R rs → Each (λ x. Each (R x) mid) front → Pairwise R mid → Each (λ x. Each (R x) (drop last rs)) mid → Pairwise R (front ++ (mid ++ drop last rs))
        between R pairs first own second =
            let ahead = take stand.end rs in
            let rest : drop (last - stand.end) (drop stand.end rs) ≡ drop last rs = drop-drop (last - stand.end) stand.end rs ∙ ap (λ k. drop k rs) (omega (arith, least)) in
            let parts = pairwise-parts R ahead (drop stand.end rs) (subst (Pairwise R) (sym (joined stand.end rs)) pairs) in
            let fronts = pairwise-filter p R R (λ x y s t h. h) ahead parts.0 in
            let backs = subst (Pairwise R) rest (pairwise-parts R (take (last - stand.end) (drop stand.end rs)) (drop (last - stand.end) (drop stand.end rs)) (subst (Pairwise R) (sym (joined (last - stand.end) (drop stand.end rs))) parts.1)).1 in
            let across = each-filter (λ x. Each (R x) (drop last rs)) p ahead
            (each-weaker (λ x. Each (R x) (drop stand.end rs)) (λ x. Each (R x) (drop last rs)) (λ x h. subst (Each (R x)) rest (each-left (R x) (last - stand.end) (drop stand.end rs) h)) ahead
            (pairwise-across R ahead (drop stand.end rs) (subst (Pairwise R) (sym (joined stand.end rs)) pairs))) in
            pairwise-join R front (mid ++ drop last rs) fronts (pairwise-join R mid (drop last rs) own backs second)
            (each-both-join R front mid (drop last rs) first across)

-- ---- one row more

take-more : (rs : List Row) (at : ℕ) (d : Row) → at < length rs → take (at + 1) rs ≡ take at rs ++ get_or rs at d ∷ []
take-more rs at d inside = let next : at + 1 ≡ suc at = omega arith in ap (λ k. take k rs) next ∙ take-suc rs at d inside

-- what is live of the rows as far as a place, with the one there
pub live-more : (rs : List Row) (at : ℕ) (d : Row) → at < length rs → is_live (get_or rs at d) ≡ true → live_rows (take (at + 1) rs) ≡ live_rows (take at rs) ++ get_or rs at d ∷ []
live-more rs at d inside live =
    ap live_rows (take-more rs at d inside) ∙ filter-join is_live (take at rs) (get_or rs at d ∷ []) ∙ ap (λ xs. live_rows (take at rs) ++ xs) (cond-true (is_live (get_or rs at d)) (get_or rs at d ∷ []) [] live)

pub live-no-more : (rs : List Row) (at : ℕ) (d : Row) → at < length rs → is_live (get_or rs at d) ≡ false → live_rows (take (at + 1) rs) ≡ live_rows (take at rs)
live-no-more rs at d inside free =
    ap live_rows (take-more rs at d inside) ∙ filter-join is_live (take at rs) (get_or rs at d ∷ []) ∙ ap (λ xs. live_rows (take at rs) ++ xs) (cond-false (is_live (get_or rs at d)) (get_or rs at d ∷ []) [] free)
    ∙ append-nil (live_rows (take at rs))

-- ---- rows that are moved elsewhere, the last first, but for free ones

-- of rows those in front are left, and of the others those that aren't free are in another list, the last first
pub record AreMovedOut (old rows into : List Row) : Type 0 where
  pub left : rows ≡ take (length rows) old
  pub moved : into ≡ reverse (live_rows (drop (length rows) old))

module _ (old rows into : List Row) (out : AreMovedOut old rows into) (some : 0 < length rows) (d : Row) where
  abbrev last : ℕ
  last = length rows - 1

  inside : last < length old
  inside = omega (arith, ap length out.left, length-take (length rows) old, some)

  pub last-is : get_or rows last d ≡ get_or old last d
  last-is = ap (λ xs. get_or xs last d) out.left ∙ get_or-take (length rows) old last d (omega (arith, some))

  fewer : take last rows ≡ take (length (take last rows)) old
  fewer =
      let many : length (take last rows) ≡ last = omega (arith, length-take last rows) in
      ap (take last) out.left ∙ take-take last (length rows) old (omega arith) ∙ ap (λ k. take k old) (sym many)

  behind : drop last old ≡ get_or old last d ∷ drop (length rows) old
  behind = let next : suc last ≡ length rows = omega (arith, some) in drop-cons old last d inside ∙ ap (λ k. get_or old last d ∷ drop k old) next

  pub one-goes : is_live (get_or old last d) ≡ false → AreMovedOut old (take last rows) into
  one-goes free = record {
    left = fewer;
    moved = let many : last ≡ length (take last rows) = omega (arith, length-take last rows) in
        out.moved ∙ ap reverse (sym (cond-false (is_live (get_or old last d)) (get_or old last d ∷ live_rows (drop (length rows) old)) (live_rows (drop (length rows) old)) free) ∙ ap live_rows (sym behind))
        ∙ ap (λ k. reverse (live_rows (drop k old))) many;
  }

  pub one-moves : is_live (get_or old last d) ≡ true → AreMovedOut old (take last rows) (into ++ drop last rows)
  one-moves live = record {
    left = fewer;
    moved =
        let many : last ≡ length (take last rows) = omega (arith, length-take last rows) in
        let next : suc last ≡ length rows = omega (arith, some) in
        let rest = live_rows (drop (length rows) old) in
        let it = get_or old last d in
        let tail : drop last rows ≡ it ∷ [] = drop-cons rows last d (omega (arith, some)) ∙ (λ t. last-is t ∷ (ap (λ k. drop k rows) next ∙ drop_of_length-le rows {i = length rows} (omega arith)) t) in
        (λ t. out.moved t ++ tail t) ∙ sym (reverse-append (it ∷ []) rest)
        ∙ ap reverse (sym (cond-true (is_live it) (it ∷ rest) rest live) ∙ ap live_rows (sym behind))
        ∙ ap (λ k. reverse (live_rows (drop k old))) many;
  }

-- ---- where an object's rows stand

pub pairwise-items : (R : Entry → Entry → Type 0) (rs : List Row) → Pairwise (λ a b. R a.1 b.1) rs → Pairwise R (items_of rs)
pairwise-items R [] pairs = tt
pairwise-items R (r ∷ rs) pairs = (first rs pairs.0, pairwise-items R rs pairs.1) where
  first : (ss : List Row) → Each (λ b. R r.1 b.1) ss → Each (R r.1) (items_of ss)
  first [] each = tt
  first (s ∷ ss) each = (each.0, first ss each.1)

pub own-object : (object : ObjectId) (rs : List Row) (from to : ℕ) → IsSpan object (items_of rs) from to → (k : ℕ) (d : Row) → from ≤ k → k < to → k < length rs → (get_or rs k d).1.update.object ≡ object
own-object object rs from to span k d l m inside =
    let P : Entry → Type 0 = λ e. is_lt (object_cmp e.update.object object) ≡ false in
    let Q : Entry → Type 0 = λ e. is_le (object_cmp e.update.object object) ≡ true in
    let above = each-of-items P (drop from rs) (subst (Each P) (items-drop from rs) span.not_below) in
    let below = each-of-items Q (take to rs) (subst (Each Q) (items-take to rs) span.through) in
    let there : get_or (drop from rs) (k - from) d ≡ get_or rs k d = get_or-drop from rs (k - from) d ∙ ap (λ j. get_or rs j d) (omega (arith, l)) in
    let first = subst (λ (r : Row). P r.1) there (each-at (λ r. P r.1) (drop from rs) above (k - from) d (let many = length-drop from rs in omega (arith, many, l, inside))) in
    let second = subst (λ (r : Row). Q r.1) (get_or-take to rs k d m) (each-at (λ r. Q r.1) (take to rs) below k d (let many = length-take to rs in omega (arith, many, m, inside))) in
    object_from_same (get_or rs k d).1.update.object object (same-between (get_or rs k d).1.update.object object first second)

-- the rows of an object
module _ (object : ObjectId) (rs : List Row) (stand : Stand) (stands : IsStand object rs stand) where
  abbrev own : Row → Bool
  own r = is_of object r.1

  -- where it stands, they are side by side
  pub own-rows : filter own rs ≡ take (stand.to - stand.from) (drop stand.from rs)
  own-rows =
      let m : ℕ = stand.to - stand.from in
      let part = take m (drop stand.from rs) in
      let P : Entry → Type 0 = λ e. is_of object e ≡ false in
      let es = items_of rs in
      let before = each-of-items P (take stand.from rs) (subst (Each P) (items-take stand.from rs) (others-before object es stand.from stand.to stands.span)) in
      let after = each-of-items P (drop stand.to rs) (subst (Each P) (items-drop stand.to rs) (others-behind object es stand.from stand.to stands.span)) in
      let rest : drop m (drop stand.from rs) ≡ drop stand.to rs = drop-drop m stand.from rs ∙ ap (λ k. drop k rs) (omega (arith, stands.span.order)) in
      let inside = each-take (λ r. own r ≡ true) (drop stand.from rs) m (λ k d l long.
      let at = get_or-drop stand.from rs k d in
      let there : stand.from + k < length rs = omega (arith, length-drop stand.from rs, long) in
      ap own at ∙ same-from-one (get_or rs (stand.from + k) d).1.update.object object (own-object object rs stand.from stand.to stands.span (stand.from + k) d (omega arith) (omega (arith, l, stands.span.order)) there)) in
      ap (filter own) (sym (joined stand.from rs)) ∙ filter-join own (take stand.from rs) (drop stand.from rs) ∙ ap (λ xs. xs ++ filter own (drop stand.from rs)) (filter-none own (take stand.from rs) before)
      ∙ ap (filter own) (sym (joined m (drop stand.from rs))) ∙ filter-join own part (drop m (drop stand.from rs))
      ∙ (λ i. filter-all own part inside i ++ (ap (filter own) rest ∙ filter-none own (drop stand.to rs) after) i) ∙ append-nil part

  -- and its entries are those in front
  pub own-entries : filter own (live_rows rs) ≡ take (stand.end - stand.from) (drop stand.from rs)
  own-entries =
      let m : ℕ = stand.end - stand.from in
      let k : ℕ = stand.to - stand.end in
      let tail = drop stand.from rs in
      let split : take (stand.to - stand.from) tail ≡ take m tail ++ take k (drop m tail) = ap (λ j. take j tail) (omega (arith, stands.least, stands.most)) ∙ take-add m k tail in
      let live = each-take (λ r. is_live r ≡ true) tail m (λ i d l long. ap is_live (get_or-drop stand.from rs i d) ∙ stands.live (stand.from + i) d (omega arith) (omega (arith, l))) in
      let free = each-take (λ r. is_live r ≡ false) (drop m tail) k (λ i d l long.
      ap is_live (get_or-drop m tail i d ∙ get_or-drop stand.from rs (m + i) d) ∙ stands.free (stand.from + (m + i)) d (omega (arith, stands.least)) (omega (arith, l, stands.least, stands.most))) in
      filter-turns own is_live rs ∙ ap live_rows (own-rows ∙ split) ∙ filter-join is_live (take m tail) (take k (drop m tail))
      ∙ (λ i. filter-all is_live (take m tail) live i ++ filter-none is_live (take k (drop m tail)) free i) ∙ append-nil (take m tail)

-- ---- what no free row tells

-- what passes only where another test passes is found among what passes that
pub filter-within : {A : Type 0} (p q : A → Bool) (xs : List A) → Each (λ x. q x ≡ false → p x ≡ false) xs → filter p xs ≡ filter p (filter q xs)
filter-within p q [] each = refl
filter-within p q (x ∷ xs) each = elim (told (q x)) [
  | inl t ↦ (λ i. cond (p x) (x ∷ filter-within p q xs each.1 i) (filter-within p q xs each.1 i)) ∙ sym (ap (filter p) (cond-true (q x) (x ∷ filter q xs) (filter q xs) t))
  | inr t ↦ cond-false (p x) (x ∷ filter p xs) (filter p xs) (each.0 t) ∙ filter-within p q xs each.1 ∙ sym (ap (filter p) (cond-false (q x) (x ∷ filter q xs) (filter q xs) t))
]

pub any-within : (p : Entry → Bool) (rs : List Row) → Each (λ r. is_live r ≡ false → p r.1 ≡ false) rs → list_any p (items_of rs) ≡ list_any p (items_of (live_rows rs))
any-within p [] each = refl
any-within p (r ∷ rs) each = elim (told (is_live r)) [
  | inl t ↦ ap (λ b. p r.1 || b) (any-within p rs each.1) ∙ sym (ap (λ xs. list_any p (items_of xs)) (cond-true (is_live r) (r ∷ live_rows rs) (live_rows rs) t))
  | inr t ↦ ap (λ b. b || list_any p (items_of rs)) (each.0 t) ∙ any-within p rs each.1 ∙ sym (ap (λ xs. list_any p (items_of xs)) (cond-false (is_live r) (r ∷ live_rows rs) (live_rows rs) t))
]

-- what passes two tests
pub filter-both : {A : Type 0} (p q : A → Bool) (xs : List A) → filter (λ x. p x && q x) xs ≡ filter q (filter p xs)
filter-both p q [] = refl
filter-both p q (x ∷ xs) = elim (told (p x)) [
  | inl t ↦ (λ i. cond (t i && q x) (x ∷ filter-both p q xs i) (filter-both p q xs i)) ∙ sym (ap (filter q) (cond-true (p x) (x ∷ filter p xs) (filter p xs) t))
  | inr t ↦ (λ i. cond (t i && q x) (x ∷ filter-both p q xs i) (filter-both p q xs i)) ∙ sym (ap (filter q) (cond-false (p x) (x ∷ filter p xs) (filter p xs) t))
]

-- ---- a filter

pub spread-filter : (n : ℕ) (p : Row → Bool) (rs : List Row) → IsSpread n rs → IsSpread n (filter p rs)
spread-filter n p rs spread = record {
  ordered = pairwise-filter p (λ (a b : Row). is_le (object_cmp a.1.update.object b.1.update.object) ≡ true) (λ (a b : Row). is_le (object_cmp a.1.update.object b.1.update.object) ≡ true) (λ x y s t h. h) rs spread.ordered;
  behind = pairwise-filter p (λ (a b : Row). a.1.update.object ≡ b.1.update.object → is_live b ≡ true → is_live a ≡ true) (λ (a b : Row). a.1.update.object ≡ b.1.update.object → is_live b ≡ true → is_live a ≡ true)
      (λ x y s t h. h) rs spread.behind;
  fit = each-filter (λ r. IsTrue (fits n (message_of r.1))) p rs spread.fit;
  idle = each-filter (λ r. is_live r ≡ false → r.1.update.act ≡ idle_act r.1.update.object.kind) p rs spread.idle;
}

-- free rows among those that were put first go, and what stays isn't free
module _ (q : Row → Bool) (rs ss : List Row) (k : ℕ) (kept : take k ss ≡ filter (λ r. is_live r && q r) rs) (inside : k ≤ length ss) where
  kept-both : take k ss ≡ filter q (live_rows rs)
  kept-both = kept ∙ filter-both is_live q rs

  all-live : Each (λ r. is_live r ≡ true) (take k ss)
  all-live = subst (Each (λ r. is_live r ≡ true)) (sym kept-both) (each-filter (λ r. is_live r ≡ true) q (live_rows rs) (each-passes is_live rs))

  pub kept-live : live_rows (take k ss) ≡ filter q (live_rows rs)
  kept-live = filter-all is_live (take k ss) all-live ∙ kept-both

  pub kept-many : length (live_rows (take k ss)) ≡ k
  kept-many = omega (arith, ap length (filter-all is_live (take k ss) all-live), length-take-le k ss inside)

  parts : live_rows ss ≡ take k ss ++ live_rows (drop k ss)
  parts = ap live_rows (sym (joined k ss)) ∙ filter-join is_live (take k ss) (drop k ss) ∙ ap (λ xs. xs ++ live_rows (drop k ss)) (filter-all is_live (take k ss) all-live)

  pub live-front : take k (live_rows ss) ≡ filter q (live_rows rs)
  live-front = ap (take k) parts ∙ take_at (take k ss) (live_rows (drop k ss)) k (length-take-le k ss inside) ∙ kept-both

  pub live-rest : drop k (live_rows ss) ≡ live_rows (drop k ss)
  live-rest = ap (drop k) parts ∙ drop_at (take k ss) (live_rows (drop k ss)) k (length-take-le k ss inside)

-- ---- no free rows

pub live-again : (rs : List Row) → live_rows (live_rows rs) ≡ live_rows rs
live-again rs = filter-all is_live (live_rows rs) (each-passes is_live rs)

pub live-removed : (rs : List Row) (k : ℕ) → live_rows (remove (live_rows rs) k) ≡ remove (live_rows rs) k
live-removed rs k = filter-all is_live (remove (live_rows rs) k) (each-cut (λ r. is_live r ≡ true) (live_rows rs) k (suc k) (each-passes is_live rs))

pub spread-remove : (n k : ℕ) (rs : List Row) (d : Row) → k < length rs → IsSpread n rs → IsSpread n (remove rs k)
spread-remove n k rs d inside spread =
    let whole : take k rs ++ get_or rs k d ∷ drop (suc k) rs ≡ rs = ap (λ xs. take k rs ++ xs) (sym (drop-cons rs k d inside)) ∙ joined k rs in
    let R : Row → Row → Type 0 = λ a b. is_le (object_cmp a.1.update.object b.1.update.object) ≡ true in
    let S : Row → Row → Type 0 = λ a b. a.1.update.object ≡ b.1.update.object → is_live b ≡ true → is_live a ≡ true in
    record {
      ordered = pairwise-less R (take k rs) (drop (suc k) rs) (get_or rs k d) (subst (Pairwise R) (sym whole) spread.ordered);
      behind = pairwise-less S (take k rs) (drop (suc k) rs) (get_or rs k d) (subst (Pairwise S) (sym whole) spread.behind);
      fit = each-cut (λ r. IsTrue (fits n (message_of r.1))) rs k (suc k) spread.fit;
      idle = each-cut (λ r. is_live r ≡ false → r.1.update.act ≡ idle_act r.1.update.object.kind) rs k (suc k) spread.idle;
    }
