-- Worked transcripts: what the definition gives of short scripts, computed, beside what was meant. Each is the contract of a
-- function of worked.rt.
use Rattle.std.specs.Prelude.{◌≡◌, ℕ, List, [], ◌∷◌, ◌++◌, codes}
use Rattle.std.specs.List.{flat_map}
use Rattle.script_net.specs.Transcript.{transcript}

-- lines, each with its end
abbrev pub ended : List (List ℕ) → List ℕ
ended lines = flat_map (λ line. line ++ 10 ∷ []) lines

-- a script of lines is replied to by lines
abbrev pub IsRepliedTo : List (List ℕ) → List (List ℕ) → Type 0
IsRepliedTo lines replies = transcript (ended lines) ≡ ended replies

-- the first example: one member counts, and is asked
abbrev pub OneMemberCounts : Type 0
OneMemberCounts = IsRepliedTo
    (codes "store 1 1" ∷ codes "do 0 counter:a inc 5" ∷ codes "ask 0 counter:a" ∷ [])
    (codes "ok 1" ∷ codes "= 5" ∷ [])

-- a message that is given and delivered
abbrev pub AMessageIsTaken : Type 0
AMessageIsTaken = IsRepliedTo
    (codes "store 2 1" ∷ codes "do 0 counter:c inc 1" ∷ codes "give 1 0 1" ∷ [])
    (codes "ok 1" ∷ codes "took 0:1" ∷ [])

-- an operation that waits until the one before it is stable
abbrev pub AWindowIsFull : Type 0
AWindowIsFull = IsRepliedTo
    (codes "store 2 1" ∷ codes "do 0 counter:c inc 1" ∷ codes "do 0 counter:c inc 1" ∷ [])
    (codes "ok 1" ∷ codes "busy" ∷ [])

-- bytes that are no frame, and what was never sent
abbrev pub BytesAreNoFrame : Type 0
BytesAreNoFrame = IsRepliedTo
    (codes "store 2 1" ∷ codes "raw 1 01" ∷ codes "give 1 0 1" ∷ [])
    (codes "bad frame 1" ∷ codes "unsent" ∷ [])

-- two forged frames, of which the second has more unstable than a window
abbrev pub AMessageIsDropped : Type 0
AMessageIsDropped = IsRepliedTo
    (codes "store 3 1" ∷ codes "raw 2 0100030f000000010000000000000000016300000001" ∷ codes "raw 2 0100030f000000020000000000000000016300000001" ∷ [])
    (codes "took 0:1" ∷ codes "took !0:2" ∷ [])

-- a comment and an empty line have no reply, and a line that is no command has its number
abbrev pub LinesArePassedOver : Type 0
LinesArePassedOver = IsRepliedTo
    (codes "# a store" ∷ codes "" ∷ codes "store 1 1" ∷ codes "# of one" ∷ codes "frob" ∷ codes "beat 0" ∷ [])
    (codes "bad 2" ∷ codes "quiet" ∷ [])

-- a member comes, begins with what there is, and can't go until its update is stable
abbrev pub MembersChange : Type 0
MembersChange = IsRepliedTo
    (codes "store 1 1" ∷ codes "do 0 counter:a inc 5" ∷ codes "members 2" ∷ codes "ask 1 counter:a" ∷ codes "do 1 counter:a inc 1" ∷ codes "members 1" ∷ [])
    (codes "ok 1" ∷ codes "epoch 1" ∷ codes "= 5" ∷ codes "ok 1" ∷ codes "unsettled" ∷ [])

-- a replica forgets what it heard where a stop leaves a byte less than its record, and not where it leaves all; what such scripts
-- don't have is no command, and a stop is none in others
abbrev pub ReplicasAreStopped : Type 0
ReplicasAreStopped = IsRepliedTo
    (codes "keep 2 2" ∷ codes "do 0 counter:c inc 5" ∷ codes "give 1 0 1" ∷ codes "stop 1 27" ∷ codes "ask 1 counter:c" ∷ codes "give 1 0 1" ∷ codes "stop 1 28" ∷ codes "ask 1 counter:c" ∷ codes "settle" ∷ [])
    (codes "ok 1" ∷ codes "took 0:1" ∷ codes "open 0" ∷ codes "= 0" ∷ codes "took 0:1" ∷ codes "open 2" ∷ codes "= 5" ∷ codes "bad 2" ∷ [])

abbrev pub NoStoreIsStopped : Type 0
NoStoreIsStopped = IsRepliedTo (codes "store 2 2" ∷ codes "stop 0 0" ∷ []) (codes "bad 2" ∷ [])
