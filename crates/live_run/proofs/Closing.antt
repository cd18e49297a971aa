-- What closed nodes noted, by the passes that came back.
use Rattle.std.proofs.Common.{Vec, ◌≡◌, ℕ, zero, suc, ◌<◌, ◌==◌, List, [], ◌∷◌, ◌++◌, length, get_or, All, inl, inr, refl, sym, ap, ap₂, subst, ◌∙◌, if◌then◌else◌, arith}
use Rattle.std.specs.Prelude.{map, IfOk, Result, Ok, Err}
use Rattle.op_base.specs.declared.memory.NoMemory.{NoMemory}
use Rattle.std.specs.List.{flat_map}
use Rattle.std.specs.List.Sorted.{IsPermutation}
use Rattle.std.proofs.lemmas.Bool.{cases_eq, cond-true, cond-false, eq-eqb, ne_eqb}
use Rattle.std.proofs.lemmas.Grind.{flat_map-append}
use Rattle.std.proofs.lemmas.List.{append-nil, append_assoc, map-append}
use Rattle.std.proofs.lemmas.List.Elements.{All-head, All-tail}
use Rattle.std.proofs.lemmas.List.Sorted.{IsPermutation-map}
use Rattle.causal_model.specs.declared.note.Note.{Note}
use Rattle.turn_lock.specs.declared.view.TurnEntry.{TurnEntry}
use Rattle.turn_lock.specs.Turns.{LockState, StartsWith, turn, turns_of, after_join}
use Rattle.turn_lock.proofs.TurnLists.{turns_of-append, rearranged}
use Rattle.replica_lock.specs.Shows.{notes_append}
use Rattle.replica_lock.specs.Turns.{NotedNode, NotedTurn, notes_in}
use Rattle.replica_lock.specs.declared.pass.Settings.{Settings}
use Rattle.live_run.specs.Joining.{NodeOpener, take_back, taken_back, own_at, AreOut, IsClosed, HasNoted, HaveNoted}
use Rattle.live_run.specs.Told.{sent_number, sent_numbers}
use Rattle.live_run.specs.declared.joining.Back.{Back}
use Rattle.live_run.proofs.Joins.{pass_of}

-- ---- the same turns of each number give the same elements

module _ {E A : Type 0} (f : TurnEntry E → List A) where
  -- a turn, as one for each of its elements
  abbrev split_up : TurnEntry E → List (TurnEntry A)
  split_up t = map (turn t.by) (f t)

  none_of : (k n : ℕ) (xs : List A) → (n ≡ k → ⊥) → turns_of k (map (turn n) xs) ≡ []
  none_of k n [] other = refl
  none_of k n (a ∷ xs) other = cond-false (n == k) (turn n a ∷ turns_of k (map (turn n) xs)) (turns_of k (map (turn n) xs)) (ne_eqb n k other) ∙ none_of k n xs other

  all_of : (k n : ℕ) (xs : List A) → n ≡ k → turns_of k (map (turn n) xs) ≡ map (turn n) xs
  all_of k n [] same = refl
  all_of k n (a ∷ xs) same = cond-true (n == k) (turn n a ∷ turns_of k (map (turn n) xs)) (turns_of k (map (turn n) xs)) (eq-eqb n k same) ∙ ap (λ l. turn n a ∷ l) (all_of k n xs same)

  of_split : (k : ℕ) (ts : List (TurnEntry E)) → turns_of k (flat_map split_up ts) ≡ flat_map split_up (turns_of k ts)
  of_split k [] = refl
  of_split k (t ∷ ts) =
      turns_of-append k (split_up t) (flat_map split_up ts)
      ∙ elim (cases_eq t.by k) [
        | inl same ↦ ap₂ (λ (a b : List (TurnEntry A)). a ++ b) (all_of k t.by (f t) same) (of_split k ts) ∙ sym (ap (flat_map split_up) (cond-true (t.by == k) (t ∷ turns_of k ts) (turns_of k ts) (eq-eqb t.by k same)))
        | inr other ↦ ap₂ (λ (a b : List (TurnEntry A)). a ++ b) (none_of k t.by (f t) other) (of_split k ts) ∙ sym (ap (flat_map split_up) (cond-false (t.by == k) (t ∷ turns_of k ts) (turns_of k ts) (ne_eqb t.by k other)))
      ]

  back_again : (n : ℕ) (xs : List A) → map (λ (t : TurnEntry A). t.what) (map (turn n) xs) ≡ xs
  back_again n [] = refl
  back_again n (a ∷ xs) = ap (λ l. a ∷ l) (back_again n xs)

  put_together : (ts : List (TurnEntry E)) → map (λ (t : TurnEntry A). t.what) (flat_map split_up ts) ≡ flat_map f ts
  put_together [] = refl
  put_together (t ∷ ts) = map-append (λ (u : TurnEntry A). u.what) (split_up t) (flat_map split_up ts) ∙ ap₂ (λ (a b : List A). a ++ b) (back_again t.by (f t)) (put_together ts)

  pub elements_rearranged : (xs ys : List (TurnEntry E)) → ((n : ℕ) → turns_of n xs ≡ turns_of n ys) → IsPermutation (flat_map f xs) (flat_map f ys)
  elements_rearranged xs ys same =
      subst (λ (p : List A × List A). IsPermutation p.0 p.1) (λ i. (put_together xs i, put_together ys i))
      (IsPermutation-map (λ (t : TurnEntry A). t.what) (flat_map split_up xs) (flat_map split_up ys)
      (rearranged (flat_map split_up xs) (flat_map split_up ys) (λ n. of_split n xs ∙ ap (flat_map split_up) (same n) ∙ sym (of_split n ys))))

-- ---- what an opener has of the passes that it took back

taken_here : (r : ℕ) (b : Back) (opener : NodeOpener) → b.at ≡ r → take_back r b opener ≡ after_join opener (pass_of b)
taken_here r b opener same = cond-true (b.at == r) (after_join opener (pass_of b)) opener (eq-eqb b.at r same)

not_taken : (r : ℕ) (b : Back) (opener : NodeOpener) → (b.at ≡ r → ⊥) → take_back r b opener ≡ opener
not_taken r b opener other = cond-false (b.at == r) (after_join opener (pass_of b)) opener (ne_eqb b.at r other)

own_after : (r : ℕ) (b : Back) (opener : NodeOpener) → (take_back r b opener).own ≡ opener.own ++ (if b.at == r then b.pass.own else [])
own_after r b opener = elim (cases_eq b.at r) [
  | inl same ↦ ap (λ (o : NodeOpener). o.own) (taken_here r b opener same) ∙ ap (λ l. opener.own ++ l) (sym (cond-true (b.at == r) b.pass.own [] (eq-eqb b.at r same)))
  | inr other ↦ ap (λ (o : NodeOpener). o.own) (not_taken r b opener other) ∙ sym (append-nil opener.own) ∙ ap (λ l. opener.own ++ l) (sym (cond-false (b.at == r) b.pass.own [] (ne_eqb b.at r other)))
]

pub own_taken : (r : ℕ) (bs : List Back) (opener : NodeOpener) → (taken_back r bs opener).own ≡ opener.own ++ own_at r bs
own_taken r [] opener = sym (append-nil opener.own)
own_taken r (b ∷ bs) opener =
    own_taken r bs (take_back r b opener) ∙ ap (λ l. l ++ own_at r bs) (own_after r b opener) ∙ append_assoc opener.own (if b.at == r then b.pass.own else []) (own_at r bs)

module _ (P : List NotedTurn → Type 0) (r : ℕ) where
  abbrev Each : List Back → Type 0
  Each bs = (i : ℕ) (d : Back) → i < length bs → (get_or bs i d).at ≡ r → P (get_or bs i d).pass.seen

  each_more : (b : Back) (bs : List Back) → (b.at ≡ r → P b.pass.seen) → Each bs → Each (b ∷ bs)
  each_more b bs first later zero d l here = first here
  each_more b bs first later (suc i) d l here = later i d (omega (arith, l)) here

  pub fronts_taken : (bs : List Back) (opener : NodeOpener) → All P (taken_back r bs opener).fronts → All P opener.fronts × Each bs
  fronts_taken [] opener all = (all, λ i d l here. let no : ⊥ = omega (arith, l) in absurd no)
  fronts_taken (b ∷ bs) opener all =
      let later = fronts_taken bs (take_back r b opener) all in
      elim (cases_eq b.at r) [
        | inl same ↦
            let more : All P (b.pass.seen ∷ opener.fronts) = subst (λ (o : NodeOpener). All P o.fronts) (taken_here r b opener same) later.0 in
            (All-tail P b.pass.seen opener.fronts more, each_more b bs (λ here. All-head P b.pass.seen opener.fronts more) later.1)
        | inr other ↦ (subst (λ (o : NodeOpener). All P o.fronts) (not_taken r b opener other) later.0, each_more b bs (λ here. absurd (other here)) later.1)
      ]

-- ---- a closed node

sent_by_turns : (ts : List NotedTurn) → flat_map (λ (t : NotedTurn). sent_numbers t.what) ts ≡ sent_numbers (notes_in ts)
sent_by_turns [] = refl
sent_by_turns (t ∷ ts) = ap (λ l. sent_numbers t.what ++ l) (sent_by_turns ts) ∙ sym (flat_map-append sent_number t.what (notes_in ts))

notes_begin : (a b : List NotedTurn) (notes : List Note) → notes ≡ notes_in b → StartsWith b a → StartsWith notes (notes_in a)
notes_begin a b notes are (later, is) = (notes_in later, are ∙ ap notes_in is ∙ notes_append a later)

pub has_noted : (r : ℕ) (lock : LockState Settings) (backs : List Back) (opener closed : NodeOpener) (node : NotedNode)
    → opener.own ≡ [] → closed ≡ taken_back r backs opener → IsClosed lock closed node → HasNoted r lock backs node
has_noted r lock backs opener closed node fresh taken is =
    let own : closed.own ≡ own_at r backs = ap (λ (o : NodeOpener). o.own) taken ∙ own_taken r backs opener ∙ ap (λ l. l ++ own_at r backs) fresh in
    record {
      is_node = is.is_node;
      noted = subst (λ (p : List Note × List Note). IsPermutation p.0 p.1) (λ i. (notes_in (own i), sym is.notes i))
          (elements_rearranged (λ (t : NotedTurn). t.what) closed.own closed.seen is.order);
      sent = subst (λ (p : List ℕ × List ℕ). IsPermutation p.0 p.1) (λ i. ((sent_by_turns closed.own ∙ ap (λ l. sent_numbers (notes_in l)) own) i, (sent_by_turns closed.seen ∙ ap sent_numbers (sym is.notes)) i))
          (elements_rearranged (λ (t : NotedTurn). sent_numbers t.what) closed.own closed.seen is.order);
      fronts = λ i d l here. notes_begin (get_or backs i d).pass.seen closed.seen node.journal.notes is.notes
          ((fronts_taken (StartsWith closed.seen) r backs opener (subst (λ (o : NodeOpener). All (StartsWith closed.seen) o.fronts) taken is.fronts)).1 i d l here);
    }

pub all_noted : {Z : Type 0} (locks : List (LockState Settings)) (openers joined kept : List NodeOpener) (backs : List Back) (result : Result (Vec NotedNode Z) NoMemory)
    → ((r : ℕ) (e : NodeOpener) → r < length locks → (get_or openers r e).own ≡ [])
    → AreOut locks joined []
    → ((r : ℕ) (e : NodeOpener) → r < length locks → get_or joined r e ≡ taken_back r backs (get_or openers r e))
    → IfOk result (λ list. length list.items ≡ length locks)
    → IfOk result (λ list. (r : ℕ) (d : LockState Settings) (e : NodeOpener) (f : NotedNode) → r < length locks → IsClosed (get_or locks r d) (get_or kept r e) (get_or list.items r f))
    → kept ≡ joined
    → IfOk result (λ list. HaveNoted locks backs list.items)
all_noted locks openers joined kept backs (Ok list) fresh out taken of_each each same = record {
  of_each = of_each;
  each = λ r d f l.
      let e : NodeOpener = record { lock = d; out = 0; splits = 0; seen = []; fronts = []; own = [] } in
      has_noted r (get_or locks r d) backs (get_or openers r e) (get_or kept r e) (get_or list.items r f) (fresh r e l) (ap (λ openers. get_or openers r e) same ∙ taken r e l) (each r d e f l);
}
all_noted locks openers joined kept backs (Err none) fresh out taken of_each each same = tt
