-- Once every pass of a mailbox is joined, all that was posted stands in its roll.
use Rattle.std.proofs.Common.{◌≡◌, ℕ, ◌≤◌, ◌==◌, List, [], ◌∷◌, All, inl, inr, refl, sym, ap, subst}
use Rattle.std.specs.Prelude.{map}
use Rattle.std.specs.List.{filter}
use Rattle.std.proofs.lemmas.Bool.{cases_eq, cond-true, cond-false, eq-eqb, ne_eqb}
use Rattle.std.proofs.lemmas.List.Elements.{All-nil, All-cons, All-head, All-tail, All-contains}
use Rattle.mailboxes.specs.Seen.{items_by, numbers}
use Rattle.mailboxes.specs.declared.seen.Line.{Line}
use Rattle.mailboxes.specs.declared.seen.Posted.{Posted}
use Rattle.live_run.specs.Mails.{SentBy, PostedWasSent}

module _ {T : Type 0} (P : ℕ → T → Type 0) where
  -- the items of a number in a longer list
  items_here : (k : ℕ) (p : Posted T) (ps : List (Posted T)) → p.by ≡ k → items_by k (p ∷ ps) ≡ p.item ∷ items_by k ps
  items_here k p ps e = ap (λ (l : List (Posted T)). map (λ (q : Posted T). q.item) l) (cond-true (p.by == k) (p ∷ filter (λ q. q.by == k) ps) (filter (λ q. q.by == k) ps) (eq-eqb p.by k e))

  items_past : (k : ℕ) (p : Posted T) (ps : List (Posted T)) → (p.by ≡ k → ⊥) → items_by k (p ∷ ps) ≡ items_by k ps
  items_past k p ps ne = ap (λ (l : List (Posted T)). map (λ (q : Posted T). q.item) l) (cond-false (p.by == k) (p ∷ filter (λ q. q.by == k) ps) (filter (λ q. q.by == k) ps) (ne_eqb p.by k ne))

  -- what holds of the items of each number holds of all items
  pub each_number : (most : ℕ) (ps : List (Posted T)) → All (λ (p : Posted T). p.by ≤ most) ps → ((k : ℕ) → k ≤ most → All (P k) (items_by k ps)) → All (λ (p : Posted T). P p.by p.item) ps
  each_number most [] few each = All-nil (λ (p : Posted T). P p.by p.item)
  each_number most (p ∷ ps) few each =
      let first = All-head (λ (q : Posted T). q.by ≤ most) p ps few in
      All-cons (λ (q : Posted T). P q.by q.item) p ps
      (All-head (P p.by) p.item (items_by p.by ps) (subst (All (P p.by)) (items_here p.by p ps refl) (each p.by first)))
      (each_number most ps (All-tail (λ (q : Posted T). q.by ≤ most) p ps few) (λ k l. elim (cases_eq p.by k) [
        | inl e ↦ All-tail (P k) p.item (items_by k ps) (subst (All (P k)) (items_here k p ps e) (each k l))
        | inr ne ↦ subst (All (P k)) (items_past k p ps ne) (each k l)
      ]))

  -- what holds of the lines of a roll holds of the items of each of its numbers
  pub each_line : (ps : List (Posted T)) (roll : List (Line T)) → All (λ (l : Line T). items_by l.by ps ≡ l.items) roll → All (λ (l : Line T). All (P l.by) l.items) roll → All (λ k. All (P k) (items_by k ps)) (numbers roll)
  each_line ps [] exact all = All-nil (λ k. All (P k) (items_by k ps))
  each_line ps (l ∷ roll) exact all =
      All-cons (λ k. All (P k) (items_by k ps)) l.by (numbers roll)
      (subst (All (P l.by)) (sym (All-head (λ (x : Line T). items_by x.by ps ≡ x.items) l roll exact)) (All-head (λ (x : Line T). All (P x.by) x.items) l roll all))
      (each_line ps roll (All-tail (λ (x : Line T). items_by x.by ps ≡ x.items) l roll exact) (All-tail (λ (x : Line T). All (P x.by) x.items) l roll all))

pub posted_was_sent : PostedWasSent
posted_was_sent journals s knows exact numbered sent =
    let P = SentBy journals in
    each_number P s.forks s.posted (numbered knows.0) (λ k l. All-contains (λ k. All (P k) (items_by k s.posted)) (numbers s.roll) k (each_line P s.posted s.roll exact sent) (knows.1 k l))
