-- What a call that follows a rule leaves and answers, for every state that was stood for.
use Rattle.std.proofs.Common.{◌≡◌, ◌⊎◌, Bool, IsTrue, inl, inr, sym, subst}

-- what comes of a call at a state: what the rule makes of it; or there was no memory, and the state stays
abbrev pub Comes : {A S : Type 0} → A → (A → Bool) → A × S → S → A → (S → Type 0) → Type 0
Comes no_memory needs made s answer Leaves = ((answer ≡ made.0) × Leaves made.1) ⊎ ((answer ≡ no_memory) × IsTrue (needs made.0) × Leaves s)

-- some state is left
pub some_is_left : {A S : Type 0} (no_memory : A) (needs : A → Bool) (made : A × S) (s : S) (answer : A) (Leaves : S → Type 0) → Comes no_memory needs made s answer Leaves → (after : S) × Leaves after
some_is_left no_memory needs made s answer Leaves comes = elim comes [ inl told ↦ (made.1, told.1) | inr none ↦ (s, none.2) ]

-- memory may be wanted by more answers
pub comes_where : {A S : Type 0} (no_memory : A) (needs more : A → Bool) (made : A × S) (s : S) (answer : A) (Leaves : S → Type 0) → ((a : A) → IsTrue (needs a) → IsTrue (more a)) → Comes no_memory needs made s answer Leaves → Comes no_memory more made s answer Leaves
comes_where no_memory needs more made s answer Leaves weaker comes = elim comes [ inl told ↦ inl told | inr none ↦ inr (none.0, weaker made.0 none.1, none.2) ]

-- a state with a property that is stood for
abbrev pub IsSome : {S : Type 0} → (S → Type 0) → (S → Type 0) → Type 0
IsSome {S = S} Stands P = (s : S) × Stands s × P s

module _ {A S : Type 0} (no_memory : A) (rule : S → A × S) (P Stood Leaves : S → Type 0) (answer : A) where
  -- what the rule keeps of a state, the call keeps
  pub follows_keeps : (needs : A → Bool) → ((s : S) → Stood s → P s → P (rule s).1) → ((s : S) → Stood s → Comes no_memory needs (rule s) s answer Leaves) → IsSome Stood P → IsSome Leaves P
  follows_keeps needs keeps follows old = elim (follows old.0 old.1) [
    | inl told ↦ ((rule old.0).1, told.1, keeps old.0 old.1 old.2)
    | inr none ↦ (old.0, none.2, old.2)
  ]

  -- what the rule's answers are, the call's answer is
  pub follows_answers : (needs : A → Bool) (Q : A → Type 0) → Q no_memory → ((s : S) → Stood s → P s → Q (rule s).0) → ((s : S) → Stood s → Comes no_memory needs (rule s) s answer Leaves) → IsSome Stood P → Q answer
  follows_answers needs Q without are follows old = elim (follows old.0 old.1) [
    | inl told ↦ subst Q (sym told.0) (are old.0 old.1 old.2)
    | inr none ↦ subst Q (sym none.0) without
  ]
