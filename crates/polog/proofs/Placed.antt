-- What a log's rows are when those of an object were swept, and when an entry was put in.
use Rattle.std.proofs.Common.{◌≡◌, ℕ, ◌+◌, ◌-◌, ◌<◌, ◌≤◌, Bool, true, false, not, IsTrue, List, [], ◌∷◌, ◌++◌, length, take, drop, drop-drop, length-append, length-take-le, ◌⊎◌, inl, inr, sym, ap, subst, ◌∙◌, arith}
use Rattle.std.specs.List.{filter}
use Rattle.std.specs.Ordering.{is_le}
use Rattle.std.proofs.lemmas.Bool.{cond-true, eq-eqb, ne_eqb, false≢true}
use Rattle.op_base.specs.Message.{fits}
use Rattle.op_base.specs.Order.{object_cmp}
use Rattle.op_base.specs.declared.message.Entry.{Entry}
use Rattle.op_base.specs.declared.name.ObjectId.{ObjectId}
use Rattle.op_base.specs.declared.operation.Op.TheVariants as op
use Rattle.causal_model.specs.Log.{message_of}
use Rattle.polog.specs.Order.{Each}
use Rattle.polog.specs.Rows.{Table, with_rows, free_number, is_live, live_rows, idle_act, IsFreeFor, IsLaid, IsSpread, IsStand, arrived}
use Rattle.polog.specs.declared.guesses.Stand.{Stand}
use Rattle.polog.specs.declared.idle.Idle.{Idle}
use Rattle.polog.proofs.Gaps.{IsMiddle, front-low, back-high, back-live, left, count, spread-between, pairwise-each, spread-filter, live-again}
use Rattle.polog.proofs.Laid.{laid-between, laid-filter, arrived-between}
use Rattle.polog.proofs.Prunes.{length-filter-le}
use Rattle.polog.proofs.Orders.{each-filter, each-weaker, filter-join, filter-none}

-- ---- free rows

pub free-is-not-live : (idle : Idle) (r : ℕ × Entry) → IsFreeFor idle r → is_live r ≡ false
free-is-not-live idle r free = ap not (eq-eqb r.0 free_number free.number)

-- a number below a log's next one isn't that of a free row
pub number-is-live : (number : ℕ) (e : Entry) → number < free_number → is_live (number, e) ≡ true
number-is-live number e few = ap not (ne_eqb number free_number (λ same. omega (arith, few, same)))

module _ (idle : Idle) (n : ℕ) (tag_fits : (o : _) → IsTrue (fits n (record { origin = idle.origin; tag = idle.tag; op = o }))) where
  free-fits : (r : ℕ × Entry) → IsFreeFor idle r → IsTrue (fits n (message_of r.1))
  free-fits r free = subst IsTrue (λ i. fits n (record { origin = sym free.origin i; tag = sym free.tag i; op = op.Update r.1.update })) (tag_fits (op.Update r.1.update))

  pub free-are-middle : (gap : List (ℕ × Entry)) → Each (IsFreeFor idle) gap → IsMiddle idle.object n gap
  free-are-middle gap free = record {
    of = each-weaker (IsFreeFor idle) (λ r. r.1.update.object ≡ idle.object) (λ r f. f.object) gap free;
    behind = pairwise-each (IsFreeFor idle) (λ (a b : ℕ × Entry). a.1.update.object ≡ b.1.update.object → is_live b ≡ true → is_live a ≡ true)
        (λ x y f g same live. absurd (false≢true (sym (free-is-not-live idle y g) ∙ live))) gap free;
    fit = each-weaker (IsFreeFor idle) (λ r. IsTrue (fits n (message_of r.1))) free-fits gap free;
    idle = each-weaker (IsFreeFor idle) (λ r. is_live r ≡ false → r.1.update.act ≡ idle_act r.1.update.object.kind) (λ r f none. f.act ∙ ap (λ (o : ObjectId). idle_act o.kind) (sym f.object)) gap free;
  }

none-live : (idle : Idle) (gap : List (ℕ × Entry)) → Each (IsFreeFor idle) gap → live_rows gap ≡ []
none-live idle gap free = filter-none is_live gap (each-weaker (IsFreeFor idle) (λ r. is_live r ≡ false) (free-is-not-live idle) gap free)

-- ---- rows that were swept

module _ (object : ObjectId) (p : ℕ × Entry → Bool) (rs : List (ℕ × Entry)) (stand : Stand) (stands : IsStand object rs stand)
    (before : Each (λ r. p r ≡ true) (take stand.from rs)) (after : Each (λ r. p r ≡ true) (drop stand.to rs))
    (swept : List (ℕ × Entry)) (kept : ℕ) (front : take kept swept ≡ filter p (take stand.end rs)) (behind : drop stand.end swept ≡ drop stand.end rs)
    (idle : Idle) (of : idle.object ≡ object) (n : ℕ) (tag_fits : (o : _) → IsTrue (fits n (record { origin = idle.origin; tag = idle.tag; op = o }))) (spread : IsSpread n rs) where
  ends : stand.end ≤ stand.end
  ends = omega arith

  -- how many went
  pub went : kept ≤ length swept → stand.end ≤ length rs → length (live_rows rs) + kept ≡ length (filter p (live_rows rs)) + stand.end
  went inside few =
      let many = count object p rs stand stands stand.end ends stands.most before after few in
      omega (arith, many, ap length front, length-take-le kept swept inside)

  -- where what goes was freed
  module _ (gap : List (ℕ × Entry)) (free : Each (IsFreeFor idle) gap) (now : List (ℕ × Entry)) (is : now ≡ take kept swept ++ (gap ++ drop stand.end swept)) where
    whole : now ≡ filter p (take stand.end rs) ++ (gap ++ drop stand.end rs)
    whole = is ∙ (λ i. front i ++ (gap ++ behind i))

    pub freed-live : live_rows now ≡ filter p (live_rows rs)
    freed-live =
        ap live_rows whole ∙ filter-join is_live (filter p (take stand.end rs)) (gap ++ drop stand.end rs)
        ∙ ap (λ xs. live_rows (filter p (take stand.end rs)) ++ xs) (filter-join is_live gap (drop stand.end rs) ∙ (λ i. none-live idle gap free i ++ back-live object p rs stand stands stand.end ends stands.most before after i))
        ∙ left object p rs stand stands stand.end ends stands.most before after

    pub freed-spread : IsSpread n now
    freed-spread = subst (IsSpread n) (sym whole)
        (spread-between object p rs stand stands stand.end ends stands.most before after n gap spread (subst (λ o. IsMiddle o n gap) of (free-are-middle idle n tag_fits gap free)))

  -- where an entry was put in
  module _ (next : ℕ) (e : Entry) (own : e.update.object ≡ object) (fit : IsTrue (fits n (message_of e))) (few : next < free_number)
      (last : ℕ) (least : stand.end ≤ last) (most : last ≤ stand.to) (gap : List (ℕ × Entry)) (free : Each (IsFreeFor idle) gap)
      (now : List (ℕ × Entry)) (is : now ≡ take kept swept ++ (next, e) ∷ (gap ++ drop last swept)) where
    abbrev ahead : List (ℕ × Entry)
    ahead = filter p (take stand.end rs)

    abbrev back : List (ℕ × Entry)
    back = drop stand.to rs

    rest : drop last swept ≡ drop last rs
    rest =
        let apart : (xs : List (ℕ × Entry)) → drop (last - stand.end) (drop stand.end xs) ≡ drop last xs = λ xs. drop-drop (last - stand.end) stand.end xs ∙ ap (λ k. drop k xs) (omega (arith, least)) in
        sym (apart swept) ∙ ap (drop (last - stand.end)) behind ∙ apart rs

    put-whole : now ≡ ahead ++ ((next, e) ∷ gap ++ drop last rs)
    put-whole = is ∙ (λ i. front i ++ ((next, e) ∷ (gap ++ rest i)))

    placed-live : live_rows now ≡ live_rows ahead ++ (next, e) ∷ live_rows back
    placed-live =
        let r : ℕ × Entry = (next, e) in
        let behind_gap : live_rows (gap ++ drop last rs) ≡ live_rows back = filter-join is_live gap (drop last rs) ∙ (λ i. none-live idle gap free i ++ back-live object p rs stand stands last least most before after i) in
        ap live_rows put-whole ∙ filter-join is_live ahead (r ∷ (gap ++ drop last rs))
        ∙ ap (λ xs. live_rows ahead ++ xs) (cond-true (is_live r) (r ∷ live_rows (gap ++ drop last rs)) (live_rows (gap ++ drop last rs)) (number-is-live next e few) ∙ ap (λ xs. r ∷ xs) behind_gap)

    parts : live_rows ahead ++ live_rows back ≡ filter p (live_rows rs)
    parts = left object p rs stand stands last least most before after

    module _ (laid : IsLaid n next (live_rows rs)) where
      whole-laid : IsLaid n next (live_rows ahead ++ live_rows back)
      whole-laid = subst (IsLaid n next) (sym parts) (laid-filter n next p (live_rows rs) laid)

      pub placed-laid : IsLaid n (next + 1) (live_rows now)
      placed-laid =
          let low : ℕ × Entry → Type 0 = λ r. is_le (object_cmp r.1.update.object e.update.object) ≡ true in
          let high : ℕ × Entry → Type 0 = λ r. is_le (object_cmp r.1.update.object e.update.object) ≡ false in
          subst (IsLaid n (next + 1)) (sym placed-live)
          (laid-between n next (live_rows ahead) (live_rows back) e whole-laid
          (each-filter low is_live ahead (subst (λ (o : ObjectId). Each (λ r. is_le (object_cmp r.1.update.object o) ≡ true) ahead) (sym own) (front-low object p rs stand stands last least most before after)))
          (each-filter high is_live back (subst (λ (o : ObjectId). Each (λ r. is_le (object_cmp r.1.update.object o) ≡ false) back) (sym own) (back-high object p rs stand stands last least most before after)))
          fit)

      -- the entry is the last of the log
      pub placed-arrived : arrived (live_rows now) ≡ arrived (filter p (live_rows rs)) ++ e ∷ []
      placed-arrived =
          ap arrived placed-live ∙ arrived-between n next (live_rows ahead) (live_rows back) e whole-laid ∙ ap (λ xs. arrived xs ++ e ∷ []) parts

    pub placed-many : length (live_rows now) ≡ length (filter p (live_rows rs)) + 1
    placed-many =
        omega (arith, ap length placed-live, length-append (live_rows ahead) ((next, e) ∷ live_rows back), ap length parts, length-append (live_rows ahead) (live_rows back))

    pub placed-spread : IsSpread n now
    placed-spread =
        let r : ℕ × Entry = (next, e) in
        let middle = subst (λ o. IsMiddle o n gap) of (free-are-middle idle n tag_fits gap free) in
        let live = number-is-live next e few in
        subst (IsSpread n) (sym put-whole)
        (spread-between object p rs stand stands last least most before after n (r ∷ gap) spread (record {
          of = (own, middle.of);
          behind = (each-weaker (λ x. x.1.update.object ≡ object) (λ x. e.update.object ≡ x.1.update.object → is_live x ≡ true → is_live r ≡ true) (λ x h same up. live) gap middle.of, middle.behind);
          fit = (fit, middle.fit);
          idle = (λ none. absurd (false≢true (sym none ∙ live)), middle.idle);
        }))

-- ---- rows of which free ones may have gone, so that there is room

module _ (n : ℕ) (old new : Table) (is : (new ≡ old) ⊎ (new ≡ with_rows old (live_rows old.rows))) where
  pub roomy-live : live_rows new.rows ≡ live_rows old.rows
  roomy-live = elim is [ inl same ↦ ap (λ (t : Table). live_rows t.rows) same | inr less ↦ ap (λ (t : Table). live_rows t.rows) less ∙ live-again old.rows ]

  pub roomy-spread : IsSpread n old.rows → IsSpread n new.rows
  roomy-spread spread = elim is [
    | inl same ↦ subst (λ (t : Table). IsSpread n t.rows) (sym same) spread
    | inr less ↦ subst (λ (t : Table). IsSpread n t.rows) (sym less) (spread-filter n is_live old.rows spread)
  ]

  pub roomy-room : new.room ≡ old.room
  roomy-room = elim is [ inl same ↦ ap (λ (t : Table). t.room) same | inr less ↦ ap (λ (t : Table). t.room) less ]

  pub roomy-few : length new.rows ≤ length old.rows
  roomy-few = elim is [ inl same ↦ omega (arith, ap (λ (t : Table). length t.rows) same) | inr less ↦ omega (arith, ap (λ (t : Table). length t.rows) less, length-filter-le is_live old.rows) ]
