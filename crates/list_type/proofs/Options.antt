-- Clauses on an `Option`.
use Rattle.std.proofs.Common.{Option, Some, None, IfNone}

-- what holds anyway holds where there is none
pub if_none : {X : Type 0} (r : Option X) (P : Type 0) → P → IfNone r P
if_none None P h = h
if_none (Some x) P h = tt
