-- A worked run: a client adds 5 to a counter, and asks for it.
use Rattle.std.specs.Prelude.{◌≡◌, true, false, List, [], ◌∷◌, ◌++◌, codes, pos}
use Rattle.op_base.specs.declared.message.Message.{Message}
use Rattle.op_base.specs.declared.operation.Act.TheVariants.{Inc}
use Rattle.op_base.specs.declared.outcome.Answer.TheVariants.{Sum}
use Rattle.causal_model.specs.Worked.{does_to, counter_c, yes}
use Rattle.causal_model.specs.declared.note.Note.{Note}
use Rattle.causal_model.specs.declared.note.Note.TheVariants as note
use Rattle.script_lang.specs.declared.live.LiveCommand.TheVariants.{Do, Ask}
use Rattle.script_lang.specs.declared.line.LineOf.TheVariants.{Skip, Run, Bad}
use Rattle.script_lang.specs.declared.reply.Reply.TheVariants as reply
use Rattle.world_model.specs.Settling.{round_of, is_quiescent}
use Rattle.world_model.specs.Journals.{world_of_journals}
use Rattle.live_run.specs.Texts.{live_text}
use Rattle.live_run.specs.declared.input.NumberedLine.{NumberedLine}
use Rattle.live_run.specs.declared.told.Told.{Told}

abbrev pub five : Message
five = does_to 0 (1 ∷ []) counter_c (Inc 5) yes

abbrev pub lines : List NumberedLine
lines =
    record { number = 1; line = Skip } ∷ record { number = 2; line = Run (Do 0 (record { object = counter_c; act = Inc 5; of_kind = yes })) }
    ∷ record { number = 3; line = Bad 2 } ∷ record { number = 4; line = Run (Ask 0 counter_c) } ∷ []

abbrev pub told : List (List Told)
told = (record { place = 1; reply = reply.Sent 1 } ∷ record { place = 1; reply = reply.Is (Sum (pos 5)) } ∷ []) ∷ []

abbrev pub journals : List (List Note)
journals = (note.Sent five ∷ []) ∷ []

-- the text, and that all has settled
pub record RunIsWorked : Type 0 where
  pub text : live_text 1 lines (world_of_journals 1 1 65535 journals) told journals
      ≡ codes "bad line 3 2" ++ 10 ∷ (codes "reply 0 1 1 ok 1" ++ 10 ∷ (codes "reply 0 2 1 = 5" ++ 10 ∷ (codes "settled" ++ 10 ∷ (codes "journal 0 1" ++ 10 ∷ (codes "sent 0200010f000000000000000100016300000005" ++ 10 ∷ (codes "final 0 counter:c = 5" ++ 10 ∷ []))))))
  pub still : (round_of (world_of_journals 1 1 65535 journals)).moved ≡ false
  pub settled : is_quiescent (world_of_journals 1 1 65535 journals) ≡ true
