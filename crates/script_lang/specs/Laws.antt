-- Laws of the texts, each the contract of a function that does nothing.
use Rattle.std.specs.Prelude.{◌≡◌, ℕ, ◌<◌, ◌≤◌, ◌^◌, List, length, map, Option, Some, None, IfSome, IsTrue, All, unsigned_abs}
use Rattle.op_base.specs.Name.{is_value}
use Rattle.op_base.specs.declared.outcome.Answer.{Answer}
use Rattle.op_base.specs.declared.outcome.Answer.TheVariants.{Values, Flag, Sum}
use Rattle.op_base.specs.declared.outcome.Crook.{Crook}
use Rattle.op_base.specs.declared.outcome.Step.{Step}
use Rattle.op_base.specs.declared.outcome.Step.TheVariants as step
use Rattle.op_base.specs.declared.tag.ElementId.{ElementId}
use Rattle.op_base.specs.declared.tag.MessageId.{MessageId}
use Rattle.script_lang.specs.declared.reply.Reply.{Reply}
use Rattle.script_lang.specs.declared.reply.Reply.TheVariants.{Sent, Is, Took, BadFrame, Epoch, Log, Size, Stable, Seen, Noops, Lags, Ids, Tombs, Open, Bad}
use Rattle.script_lang.specs.Replies.{reply_line}

-- ---- which replies can come

-- a number of 64 bits
abbrev pub IsNumber : ℕ → Type 0
IsNumber n = n < 2 ^ 64

abbrev pub IsId : MessageId → Type 0
IsId id = IsNumber id.origin × IsNumber id.seq

abbrev pub IsElement : ElementId → Type 0
IsElement id = IsNumber id.epoch × IsNumber id.origin × IsNumber id.seq

abbrev pub IsStep : Step → Type 0
IsStep (step.Took id) = IsId id
IsStep (step.Crook id cause) = IsId id

-- one number a member
abbrev pub IsTag : ℕ → List ℕ → Type 0
IsTag n tag = (length tag ≡ n) × All IsNumber tag

-- values are values, and a sum has 128 bits
abbrev pub IsAnswer : Answer → Type 0
IsAnswer (Values values) = All (λ value. IsTrue (is_value value)) values
IsAnswer (Flag on) = Unit {0}
IsAnswer (Sum sum) = unsigned_abs sum ≤ 2 ^ 127

abbrev pub IsReply : Reply → Type 0
IsReply (Sent number) = IsNumber number
IsReply (Is answer) = IsAnswer answer
IsReply (Took steps) = All IsStep steps
IsReply (BadFrame fault) = IsNumber fault
IsReply (Epoch number) = IsNumber number
IsReply (Log ids) = All IsId ids
IsReply (Size entries items) = IsNumber entries × IsNumber items
IsReply (Stable n tag) = IsTag n tag
IsReply (Seen n tag) = IsTag n tag
IsReply (Noops count) = IsNumber count
IsReply (Lags member) = IfSome member IsNumber
IsReply (Ids ids) = All IsElement ids
IsReply (Tombs count) = IsNumber count
IsReply (Open count) = IsNumber count
IsReply (Bad fault) = IsNumber fault
IsReply reply = Unit {0}

-- ---- what a line doesn't show

-- two answers have one form: both are values, a flag or a sum
abbrev pub HaveOneForm : Answer → Answer → Type 0
HaveOneForm (Values values) (Values others) = Unit {0}
HaveOneForm (Flag on) (Flag other) = Unit {0}
HaveOneForm (Sum sum) (Sum other) = Unit {0}
HaveOneForm answer other = ⊥

-- why a message was dropped
abbrev pub cause_of : Step → Option Crook
cause_of (step.Took id) = None
cause_of (step.Crook id cause) = Some cause

-- Two replies are alike in what a line doesn't show: if both are answers, in their form; if both are steps, in why messages
-- were dropped.
abbrev pub AreAlike : Reply → Reply → Type 0
AreAlike (Is answer) (Is other) = HaveOneForm answer other
AreAlike (Took steps) (Took others) = map cause_of steps ≡ map cause_of others
AreAlike reply other = Unit {0}

-- replies with one line are equal, where they are alike in what it doesn't show
abbrev pub LinesTellReplies : Type 0
LinesTellReplies = (r s : Reply) → IsReply r → IsReply s → AreAlike r s → reply_line r ≡ reply_line s → r ≡ s
