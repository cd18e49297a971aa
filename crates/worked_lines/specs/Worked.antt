-- Further worked transcripts: what the definition gives of short scripts, computed, beside what was meant. Each is the contract
-- of a function of worked.rt.
use Rattle.std.specs.Prelude.{◌≡◌, ℕ, true, false, List, [], ◌∷◌, ◌++◌, codes}
use Rattle.script_net.specs.Lines.{ended_lines_of, whole_lines_of}
use Rattle.script_net.specs.Worked.{IsRepliedTo}

-- a line, and what may become one
abbrev pub one_and_a_half : List ℕ
one_and_a_half = codes "beat 0" ++ 10 ∷ codes "be"

pub record LinesEnd : Type 0 where
  pub ended : ended_lines_of one_and_a_half ≡ codes "beat 0" ∷ []
  pub none_yet : ended_lines_of (codes "be") ≡ []
  -- while a text goes on its lines are those, and once it has ended the rest is a line
  pub going_on : whole_lines_of false one_and_a_half ≡ codes "beat 0" ∷ []
  pub whole : whole_lines_of true one_and_a_half ≡ codes "beat 0" ∷ codes "be" ∷ []

-- member 0 has its own message, and doesn't know that member 1 has it before it hears that
abbrev pub StableIsShown : Type 0
StableIsShown = IsRepliedTo
    (codes "store 2 1" ∷ codes "do 0 counter:c inc 1" ∷ codes "seen 0" ∷ codes "stable 0" ∷ codes "settle" ∷ codes "stable 0" ∷ [])
    (codes "ok 1" ∷ codes "seen 1 0" ∷ codes "stable 0 0" ∷ codes "settled" ∷ codes "stable 1 1" ∷ [])

-- what member 1 sent waits at member 2 for a message of member 0: the second came first, and then the first is kept, but no
-- more; with what they wait for all are delivered
abbrev pub ResendIsKept : Type 0
ResendIsKept = IsRepliedTo
    (codes "store 3 2" ∷ codes "do 0 counter:c inc 1" ∷ codes "give 1 0 1" ∷ codes "do 1 counter:c inc 1" ∷ codes "do 1 counter:c inc 1" ∷ codes "give 2 1 2" ∷ codes "resend 2 1" ∷ codes "resend 2 1" ∷ codes "resend 2 0" ∷ [])
    (codes "ok 1" ∷ codes "took 0:1" ∷ codes "ok 1" ∷ codes "ok 2" ∷ codes "kept" ∷ codes "kept" ∷ codes "none" ∷ codes "took 0:1 1:1 1:2" ∷ [])

-- words are parted by tabs too; a wrong number of words, a member that there isn't, an act of another kind and a number of 11
-- digits have their faults; a flag that was enabled is on
abbrev pub LinesAreRead : Type 0
LinesAreRead = IsRepliedTo
    (codes "store 2 1" ∷ (codes "do" ++ 9 ∷ codes "0 counter:c inc 1") ∷ codes "ask 0" ∷ codes "ask 2 counter:c" ∷ codes "do 0 counter:c clear" ∷ codes "give 1 0 00000000001" ∷ codes "do 1 ewflag:f enable" ∷ codes "ask 1 ewflag:f" ∷ [])
    (codes "ok 1" ∷ codes "bad 3" ∷ codes "bad 4" ∷ codes "bad 6" ∷ codes "bad 8" ∷ codes "ok 1" ∷ codes "= on" ∷ [])

-- a store has at most 16 members
abbrev pub NoStoreOf17 : Type 0
NoStoreOf17 = IsRepliedTo (codes "store 17 1" ∷ codes "beat 0" ∷ []) []

-- an element that is taken out is kept while another stands behind it, and isn't shown
abbrev pub ElementIsTakenOut : Type 0
ElementIsTakenOut = IsRepliedTo
    (codes "store 1 2" ∷ codes "do 0 list:d ins a head" ∷ codes "do 0 list:d ins b 0.0.1" ∷ codes "do 0 list:d del 0.0.1" ∷ codes "ids 0 list:d" ∷ codes "tombs 0 list:d" ∷ [])
    (codes "ok 1" ∷ codes "ok 2" ∷ codes "ok 3" ∷ codes "ids 0.0.2" ∷ codes "tombs 1" ∷ [])

-- of two elements at the head whose members hadn't heard of each other, that of the higher member stands first
abbrev pub HigherMemberIsFirst : Type 0
HigherMemberIsFirst = IsRepliedTo
    (codes "store 2 2" ∷ codes "do 0 list:d ins a head" ∷ codes "do 1 list:d ins b head" ∷ codes "resend 0 1" ∷ codes "ask 0 list:d" ∷ [])
    (codes "ok 1" ∷ codes "ok 1" ∷ codes "took 1:1" ∷ codes "= b a" ∷ [])
