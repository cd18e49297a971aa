-- Stamps beside entries keep the marks of these, whatever is done to both lists.
use Rattle.std.proofs.Common.{◌≡◌, ℕ, ◌-◌, ◌<◌, List, [], ◌∷◌, ◌++◌, length, map, take, drop, get_or, set, refl, sym, ap, ◌∙◌, arith}
use Rattle.std.specs.List.{insert, swap}
use Rattle.std.specs.Prelude.{slice_range}
use Rattle.std.proofs.Math.ListN.{get_or-map as get_or-map_same}
use Rattle.std.proofs.lemmas.List.{take-map, drop-map, get_or-map, length-map, map-append, map-set}
use Rattle.op_base.specs.declared.message.Entry.{Entry}
use Rattle.op_base.specs.declared.name.Kind.{Kind}
use Rattle.op_base.specs.declared.name.Kind.TheVariants as kinds
use Rattle.polog.specs.Marks.{AreMarked, mark_of}
use Rattle.polog.specs.Rows.{turned, idle_act}
use Rattle.polog.specs.declared.marks.Stamp.{Stamp}

module _ {A C : Type 0} (f : A → C) where
  map-cut : (i j : ℕ) (xs : List A) → map f (take i xs ++ drop j xs) ≡ take i (map f xs) ++ drop j (map f xs)
  map-cut i j xs = map-append f (take i xs) (drop j xs) ∙ sym (λ t. take-map f i xs t ++ drop-map f j xs t)

  map-insert : (i : ℕ) (x : A) (xs : List A) → map f (insert xs i x) ≡ insert (map f xs) i (f x)
  map-insert i x xs = map-append f (take i xs) (x ∷ drop i xs) ∙ sym (λ t. take-map f i xs t ++ f x ∷ drop-map f i xs t)

  map-swap : (i j : ℕ) (xs : List A) → map f (swap xs i j) ≡ swap (map f xs) i j
  map-swap i j [] = refl
  map-swap i j (x ∷ xs) =
      let all : List A = x ∷ xs in
      map-set f (set all i (get_or all j x)) j (get_or all i x)
      ∙ ap (λ ys. set ys j (f (get_or all i x))) (map-set f all i (get_or all j x))
      ∙ sym (λ t. set (set (map f all) i (get_or-map_same f all j x t)) j (get_or-map_same f all i x t))

  map-turned : (to from end : ℕ) (xs : List A) → map f (turned to from end xs) ≡ turned to from end (map f xs)
  map-turned to from end xs =
      let part : List A = slice_range xs to end in
      let there : slice_range (map f xs) to end ≡ map f part = ap (take (end - to)) (drop-map f to xs) ∙ take-map f (end - to) (drop to xs) in
      let m : ℕ = from - to in
      map-append f (take to xs) ((drop m part ++ take m part) ++ drop end xs)
      ∙ ap (λ ys. map f (take to xs) ++ ys) (map-append f (drop m part ++ take m part) (drop end xs) ∙ ap (λ ys. ys ++ map f (drop end xs)) (map-append f (drop m part) (take m part)))
      ∙ sym ((λ t. take-map f to xs t ++ ((drop m (there t) ++ take m (there t)) ++ drop-map f end xs t)) ∙ (λ t. map f (take to xs) ++ ((drop-map f m part t ++ take-map f m part t) ++ map f (drop end xs))))

-- there are as many
pub as_long : (ss : List Stamp) (es : List Entry) → AreMarked ss es → length ss ≡ length es
as_long ss es marked = sym (length-map ss (λ s. s.mark)) ∙ ap length marked ∙ length-map es (λ e. mark_of e.update.act)

-- the mark of a stamp is that of the entry at its place
pub mark-at : (ss : List Stamp) (es : List Entry) → AreMarked ss es → (k : ℕ) (s : Stamp) (e : Entry) → k < length es → (get_or ss k s).mark ≡ mark_of (get_or es k e).update.act
mark-at ss es marked k s e inside =
    sym (get_or-map (λ (t : Stamp). t.mark) ss k s 0 (omega (arith, inside, as_long ss es marked)))
    ∙ ap (λ ms. get_or ms k 0) marked
    ∙ get_or-map (λ (f : Entry). mark_of f.update.act) es k e 0 inside

module _ (ss more : List Stamp) (es others : List Entry) (marked : AreMarked ss es) where
  pub marked-cut : (i j : ℕ) → more ≡ take i ss ++ drop j ss → others ≡ take i es ++ drop j es → AreMarked more others
  marked-cut i j stamps entries =
      ap (map (λ s. s.mark)) stamps ∙ map-cut (λ (s : Stamp). s.mark) i j ss ∙ ap (λ ms. take i ms ++ drop j ms) marked
      ∙ sym (ap (map (λ e. mark_of e.update.act)) entries ∙ map-cut (λ (e : Entry). mark_of e.update.act) i j es)

  pub marked-insert : (i : ℕ) (s : Stamp) (e : Entry) → s.mark ≡ mark_of e.update.act → more ≡ insert ss i s → others ≡ insert es i e → AreMarked more others
  marked-insert i s e is stamps entries =
      ap (map (λ s. s.mark)) stamps ∙ map-insert (λ (s : Stamp). s.mark) i s ss ∙ (λ t. insert (marked t) i (is t))
      ∙ sym (ap (map (λ e. mark_of e.update.act)) entries ∙ map-insert (λ (e : Entry). mark_of e.update.act) i e es)

  pub marked-more : (s : Stamp) (e : Entry) → s.mark ≡ mark_of e.update.act → more ≡ ss ++ s ∷ [] → others ≡ es ++ e ∷ [] → AreMarked more others
  marked-more s e is stamps entries =
      ap (map (λ s. s.mark)) stamps ∙ map-append (λ (s : Stamp). s.mark) ss (s ∷ []) ∙ (λ t. marked t ++ is t ∷ [])
      ∙ sym (ap (map (λ e. mark_of e.update.act)) entries ∙ map-append (λ (e : Entry). mark_of e.update.act) es (e ∷ []))

  pub marked-set : (i : ℕ) (s : Stamp) (e : Entry) → s.mark ≡ mark_of e.update.act → more ≡ set ss i s → others ≡ set es i e → AreMarked more others
  marked-set i s e is stamps entries =
      ap (map (λ s. s.mark)) stamps ∙ map-set (λ (s : Stamp). s.mark) ss i s ∙ (λ t. set (marked t) i (is t))
      ∙ sym (ap (map (λ e. mark_of e.update.act)) entries ∙ map-set (λ (e : Entry). mark_of e.update.act) es i e)

  pub marked-swap : (i j : ℕ) → more ≡ swap ss i j → others ≡ swap es i j → AreMarked more others
  marked-swap i j stamps entries =
      ap (map (λ s. s.mark)) stamps ∙ map-swap (λ (s : Stamp). s.mark) i j ss ∙ ap (λ ms. swap ms i j) marked
      ∙ sym (ap (map (λ e. mark_of e.update.act)) entries ∙ map-swap (λ (e : Entry). mark_of e.update.act) i j es)

  pub marked-turned : (to from end : ℕ) → more ≡ turned to from end ss → others ≡ turned to from end es → AreMarked more others
  marked-turned to from end stamps entries =
      ap (map (λ s. s.mark)) stamps ∙ map-turned (λ (s : Stamp). s.mark) to from end ss ∙ ap (turned to from end) marked
      ∙ sym (ap (map (λ e. mark_of e.update.act)) entries ∙ map-turned (λ (e : Entry). mark_of e.update.act) to from end es)

-- that of an act which free rows carry is none
pub idle-unmarked : (kind : Kind) → 0 ≡ mark_of (idle_act kind)
idle-unmarked kind = elim kind as (λ k. 0 ≡ mark_of (idle_act k)) [ kinds.Counter ↦ refl | _ ↦ refl ]
