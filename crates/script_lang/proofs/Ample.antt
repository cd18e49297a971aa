-- Lines at which memory runs out are lines that take it.
use Rattle.std.proofs.Common.{◌≡◌, Bool, false, refl, sym, subst, if◌then◌else◌}
use Rattle.std.specs.Prelude.{Result, Ok, Err, IsTrue}
use Rattle.std.proofs.lemmas.Bool.{cond-false}
use Rattle.script_lang.specs.Fault.{number_of_fault}
use Rattle.script_lang.specs.Lines.{bad_line, run_or_bad, may_lack}
use Rattle.script_lang.specs.Memory.{takes_memory}
use Rattle.script_lang.specs.declared.fault.Fault.{Fault}
use Rattle.script_lang.specs.declared.fault.Fault.TheVariants.{TooLong, Keyword, Words, Member, Object, Operation, Value, Number, NoMemory}
use Rattle.script_lang.specs.declared.line.LineOf.TheVariants as line

-- no fault of a line is told as want of memory
lacks : {C : Type 0} (fault : Fault) → bad_line {C = C} (number_of_fault fault) ≡ line.NoMemory → fault ≡ NoMemory
lacks TooLong e = absurd (cc)
lacks Keyword e = absurd (cc)
lacks Words e = absurd (cc)
lacks Member e = absurd (cc)
lacks Object e = absurd (cc)
lacks Operation e = absurd (cc)
lacks Value e = absurd (cc)
lacks Number e = absurd (cc)
lacks NoMemory e = refl

-- a line takes memory where its command does
takes : {C : Type 0} (keeps : C → Bool) (read : Result C Fault) → IsTrue (takes_memory keeps read) → IsTrue (may_lack keeps (run_or_bad read))
takes keeps (Ok command) h = h
takes keeps (Err TooLong) h = h
takes keeps (Err Keyword) h = h
takes keeps (Err Words) h = h
takes keeps (Err Member) h = h
takes keeps (Err Object) h = h
takes keeps (Err Operation) h = h
takes keeps (Err Value) h = h
takes keeps (Err Number) h = h
takes keeps (Err NoMemory) h = h

pub line_ample : {C : Type 0} (keeps : C → Bool) (passed : Bool) (read : Result C Fault) (fault : Fault) → passed ≡ false → (fault ≡ NoMemory → IsTrue (takes_memory keeps read))
    → bad_line {C = C} (number_of_fault fault) ≡ line.NoMemory → IsTrue (may_lack keeps (if passed then line.Skip else run_or_bad read))
line_ample keeps passed read fault fails ample e =
    subst (λ l. IsTrue (may_lack keeps l)) (sym (cond-false _ _ _ fails)) (takes keeps read (ample (lacks fault e)))
