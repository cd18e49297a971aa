-- Chapters: what one member has delivered in one epoch, its own messages among them, oldest first. Causal delivery is as
-- in Baquero, Almeida and Shoker (arXiv 1710.04469); the checks for crooked messages are this project's own profile.
use Rattle.std.specs.Prelude.{ℕ, Bool, true, not, ◌||◌, ◌&&◌, ◌==◌, nat_eq, is_none, List, [], ◌∷◌, ◌++◌}
use Rattle.std.specs.Cmp.Lexicographic.{pointwise}
use Rattle.op_base.specs.Message.{fits}
use Rattle.op_base.specs.declared.message.Message.{Message}
use Rattle.causal_model.specs.Counts.{counts, is_deliverable, next_tag}
use Rattle.causal_model.specs.Crook.{crook_of}

-- whether a message can be delivered after messages of member me, and is not crooked
abbrev pub is_admissible : ℕ → ℕ → ℕ → List Message → Message → Bool
is_admissible n w me messages m = is_deliverable n (counts n messages) m && is_none (crook_of n w me messages m)

-- whether a message of a store of n members with a window w is the next that member me delivers
abbrev pub is_next : ℕ → ℕ → ℕ → List Message → Message → Bool
is_next n w me messages m =
    fits n m && is_admissible n w me messages m && (not (m.origin == me) || pointwise nat_eq m.tag (next_tag n me messages))

-- whether later messages can be delivered one by one after messages
abbrev pub follows : ℕ → ℕ → ℕ → List Message → List Message → Bool
follows n w me messages [] = true
follows n w me messages (m ∷ later) = is_next n w me messages m && follows n w me (messages ++ m ∷ []) later

-- whether messages are what member me of a store of n members with a window w can deliver in an epoch
abbrev pub is_chapter : ℕ → ℕ → ℕ → List Message → Bool
is_chapter n w me messages = follows n w me [] messages
