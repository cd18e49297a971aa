-- The one word for what a call does, whatever its layer: it follows a rule. A rule takes a state to an answer and the next
-- state; it knows no want of memory.
use Rattle.std.specs.Prelude.{◌≡◌, ◌⊎◌, IsTrue, Bool}

-- For every state that a value stood for: the answer is the rule's, and the value then stands for the rule's next state; or
-- there was no memory for what the rule would have done, and it stands for what it stood for. Memory is wanted only by some
-- of a rule's answers.
abbrev pub Follows : {A S V : Type 0} → (V → S → Type 0) → A → (A → Bool) → (S → A × S) → V → A → V → Type 0
Follows {S = S} StandsFor no_memory takes_memory rule old answer new = (s : S) → StandsFor old s
    → ((answer ≡ (rule s).0) × StandsFor new (rule s).1) ⊎ ((answer ≡ no_memory) × IsTrue (takes_memory (rule s).0) × StandsFor new s)

-- The same of a call that memory can end in its midst: the value then stands for a state that the call passes.
abbrev pub FollowsOrStops : {A S V : Type 0} → (V → S → Type 0) → A → (S → S → Type 0) → (S → A × S) → V → A → V → Type 0
FollowsOrStops {S = S} StandsFor no_memory Passes rule old answer new = (s : S) → StandsFor old s
    → ((answer ≡ (rule s).0) × StandsFor new (rule s).1) ⊎ ((answer ≡ no_memory) × ((midst : S) × Passes s midst × StandsFor new midst))
