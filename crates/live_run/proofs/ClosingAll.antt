-- One node more is closed.
use Rattle.std.proofs.Common.{◌≡◌, ℕ, zero, suc, ◌<◌, ◌≤◌, List, [], ◌∷◌, ◌++◌, length, get_or, drop, inl, inr, sym, ap, subst, ◌∙◌, arith}
use Rattle.std.proofs.lemmas.Bool.{cases_eq}
use Rattle.std.proofs.lemmas.List.{length-append, get_or_push, get_or_append_left}
use Rattle.turn_lock.specs.Turns.{LockState}
use Rattle.replica_lock.specs.Turns.{NotedNode}
use Rattle.replica_lock.specs.declared.pass.Settings.{Settings}
use Rattle.live_run.specs.Joining.{NodeOpener, AreOut, IsClosed, AreClosing}

-- what is left begins with the element at its place
pub drop_next : {X : Type 0} (k : ℕ) (xs : List X) (y : X) (ys : List X) → y ∷ ys ≡ drop k xs → (k < length xs) × ((d : X) → get_or xs k d ≡ y) × (ys ≡ drop (suc k) xs)
drop_next zero [] y ys e = let no : suc (length ys) ≡ 0 = ap length e in absurd (omega (arith, no))
drop_next zero (x ∷ xs) y ys e = (omega arith, λ d. sym (ap (λ l. get_or l 0 d) e), ap (drop 1) e)
drop_next (suc k) [] y ys e = let no : suc (length ys) ≡ 0 = ap length e in absurd (omega (arith, no))
drop_next (suc k) (x ∷ xs) y ys e = let next = drop_next k xs y ys e in (omega (arith, next.0), next.1, next.2)

pub drop_none : {X : Type 0} (k : ℕ) (xs left : List X) → left ≡ drop k xs → length left ≡ 0 → length xs ≤ k
drop_none zero xs left e none = omega (arith, none, ap length e)
drop_none (suc k) [] left e none = omega arith
drop_none (suc k) (x ∷ xs) left e none = let rest = drop_none k xs left e none in omega (arith, rest)

module _ (locks : List (LockState Settings)) (openers : List NodeOpener) (lefts nodes_left : List (LockState Settings)) (rests openers_left : List NodeOpener) (lock : LockState Settings) (opener : NodeOpener) (closed : List NotedNode) where
  -- the next opener is of the next node, and no pass of it is out
  pub is_own : AreOut locks openers [] → AreClosing locks openers lefts rests closed → lefts ≡ lock ∷ nodes_left → rests ≡ opener ∷ openers_left → (opener.lock ≡ lock) × (opener.out ≡ 0)
  is_own out are node_is opener_is =
      let k = length closed in
      let node = drop_next k locks lock nodes_left (sym node_is ∙ are.left) in
      let own = drop_next k openers opener openers_left (sym opener_is ∙ are.with_openers) in (
        ap (λ (o : NodeOpener). o.lock) (sym (own.1 opener)) ∙ out.of k lock opener node.0 ∙ node.1 lock,
        ap (λ (o : NodeOpener). o.out) (sym (own.1 opener)) ∙ out.out k opener node.0,
      )

  pub closing_more : (node : NotedNode) → AreClosing locks openers lefts rests closed → lefts ≡ lock ∷ nodes_left → rests ≡ opener ∷ openers_left → IsClosed lock opener node
      → AreClosing locks openers nodes_left openers_left (closed ++ node ∷ [])
  closing_more node are node_is opener_is is =
      let k = length closed in
      let next = drop_next k locks lock nodes_left (sym node_is ∙ are.left) in
      let own = drop_next k openers opener openers_left (sym opener_is ∙ are.with_openers) in
      let longer : length (closed ++ node ∷ []) ≡ suc k = omega (arith, length-append closed (node ∷ [])) in
      record {
        few = omega (arith, longer, next.0);
        left = next.2 ∙ ap (λ j. drop j locks) (sym longer);
        with_openers = own.2 ∙ ap (λ j. drop j openers) (sym longer);
        each = λ r d e f l. elim (cases_eq r k) [
          | inl same ↦
              let here : get_or (closed ++ node ∷ []) r f ≡ node = get_or_push closed node f r (sym same) in
              subst (λ (p : LockState Settings × (NodeOpener × NotedNode)). IsClosed p.0 p.1.0 p.1.1)
              (λ i. ((sym (next.1 d) ∙ ap (λ j. get_or locks j d) (sym same)) i, ((sym (own.1 e) ∙ ap (λ j. get_or openers j e) (sym same)) i, sym here i))) is
          | inr other ↦
              let below : r < k = omega (arith, l, longer, other) in
              subst (IsClosed (get_or locks r d) (get_or openers r e)) (sym (get_or_append_left closed (node ∷ []) f r below)) (are.each r d e f below)
        ];
      }

module _ (locks : List (LockState Settings)) (openers : List NodeOpener) (lefts : List (LockState Settings)) (rests : List NodeOpener) (closed : List NotedNode) where
  pub none_closed : closed ≡ [] → lefts ≡ locks → rests ≡ openers → AreClosing locks openers lefts rests closed
  none_closed none all_left all_rest =
      let k : length closed ≡ 0 = ap length none in
      record {
        few = omega (arith, k);
        left = all_left ∙ ap (λ j. drop j locks) (sym k);
        with_openers = all_rest ∙ ap (λ j. drop j openers) (sym k);
        each = λ r d e f l. let no : ⊥ = omega (arith, l, k) in absurd no;
      }

  -- while a node is left, an opener is
  pub some_opener : (lock : LockState Settings) (nodes_left : List (LockState Settings)) → AreOut locks openers [] → AreClosing locks openers lefts rests closed → lefts ≡ lock ∷ nodes_left → length rests ≡ 0 → ⊥
  some_opener lock nodes_left out are node_is none =
      let next = drop_next (length closed) locks lock nodes_left (sym node_is ∙ are.left) in
      omega (arith, next.0, drop_none (length closed) openers rests are.with_openers none, out.of_each)

  pub all_closed : AreClosing locks openers lefts rests closed → length lefts ≡ 0 → length closed ≡ length locks
  all_closed are none = omega (arith, are.few, drop_none (length closed) locks lefts are.left none)
