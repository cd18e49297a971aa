-- The texts of replies, one line each: words, parted by one space.
use Rattle.std.specs.Prelude.{◌≡◌, ℕ, List, [], ◌∷◌, ◌++◌, length, map, Option, Some, None, codes, if◌then◌else◌}
use Rattle.std.specs.List.{flat_map}
use Rattle.std.specs.Fmt.{decimal, signed_decimal}
use Rattle.op_base.specs.declared.outcome.Answer.{Answer}
use Rattle.op_base.specs.declared.outcome.Answer.TheVariants.{Values, Flag, Sum}
use Rattle.op_base.specs.declared.outcome.Step.{Step}
use Rattle.op_base.specs.declared.outcome.Step.TheVariants as step
use Rattle.op_base.specs.declared.tag.ElementId.{ElementId}
use Rattle.op_base.specs.declared.tag.MessageId.{MessageId}
use Rattle.script_lang.specs.declared.reply.Reply.{Reply}
use Rattle.script_lang.specs.declared.reply.Reply.TheVariants.{Sent, Busy, End, Quiet, Held, Is, Unsent, Old, Again, Far, Kept, Took, Nothing, BadFrame, Settled, Unsettled, Epoch, Last, Log, Size, Stable, Seen, Noops, Lags, Ids, Tombs, Open, Bad}

-- words, each behind a space
abbrev pub spaced : List (List ℕ) → List ℕ
spaced words = flat_map (λ word. 32 ∷ word) words

-- words with one space between them, and none at the end
abbrev pub joined : List (List ℕ) → List ℕ
joined [] = []
joined (word ∷ words) = word ++ spaced words

-- an id: the origin, a colon and the number
abbrev pub id_word : MessageId → List ℕ
id_word id = decimal id.origin ++ 58 ∷ decimal id.seq

-- an id of an element: the epoch, the member and the number, parted by points
abbrev pub element_word : ElementId → List ℕ
element_word id = decimal id.epoch ++ 46 ∷ decimal id.origin ++ 46 ∷ decimal id.seq

-- a step: the id, behind an exclamation mark where the message was dropped
abbrev pub step_word : Step → List ℕ
step_word (step.Took id) = id_word id
step_word (step.Crook id cause) = 33 ∷ id_word id

-- the values of a set, a register or a list; on or off; or a sum
abbrev pub answer_words : Answer → List (List ℕ)
answer_words (Values values) = values
answer_words (Flag on) = (if on then codes "on" else codes "off") ∷ []
answer_words (Sum sum) = signed_decimal sum ∷ []

-- the member that lags, or none
abbrev pub lagging_word : Option ℕ → List ℕ
lagging_word (Some member) = decimal member
lagging_word None = codes "none"

-- what a reply says
abbrev pub reply_words : Reply → List (List ℕ)
reply_words (Sent number) = codes "ok" ∷ decimal number ∷ []
reply_words Busy = codes "busy" ∷ []
reply_words End = codes "end" ∷ []
reply_words Quiet = codes "quiet" ∷ []
reply_words Held = codes "held" ∷ []
reply_words (Is answer) = codes "=" ∷ answer_words answer
reply_words Unsent = codes "unsent" ∷ []
reply_words Old = codes "old" ∷ []
reply_words Again = codes "again" ∷ []
reply_words Far = codes "far" ∷ []
reply_words Kept = codes "kept" ∷ []
reply_words (Took steps) = codes "took" ∷ map step_word steps
reply_words Nothing = codes "none" ∷ []
reply_words (BadFrame fault) = codes "bad" ∷ codes "frame" ∷ decimal fault ∷ []
reply_words Settled = codes "settled" ∷ []
reply_words Unsettled = codes "unsettled" ∷ []
reply_words (Epoch number) = codes "epoch" ∷ decimal number ∷ []
reply_words Last = codes "last" ∷ []
reply_words (Log ids) = codes "log" ∷ map id_word ids
reply_words (Size entries items) = codes "size" ∷ decimal entries ∷ decimal items ∷ []
reply_words (Stable n tag) = codes "stable" ∷ map decimal tag
reply_words (Seen n tag) = codes "seen" ∷ map decimal tag
reply_words (Noops count) = codes "noops" ∷ decimal count ∷ []
reply_words (Lags member) = codes "lags" ∷ lagging_word member ∷ []
reply_words (Ids ids) = codes "ids" ∷ map element_word ids
reply_words (Tombs count) = codes "tombs" ∷ decimal count ∷ []
reply_words (Open count) = codes "open" ∷ decimal count ∷ []
reply_words (Bad fault) = codes "bad" ∷ decimal fault ∷ []

-- the line of a reply
abbrev pub reply_line : Reply → List ℕ
reply_line reply = joined (reply_words reply) ++ 10 ∷ []

-- the timestamp that a reply says has as many numbers as it says
abbrev pub HasItsEntries : Reply → Type 0
HasItsEntries (Stable n tag) = length tag ≡ n
HasItsEntries (Seen n tag) = length tag ≡ n
HasItsEntries reply = Unit {0}
