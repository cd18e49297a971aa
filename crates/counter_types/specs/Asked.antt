-- Which kinds are counters. The kinds are this project's own profile.
use Rattle.std.specs.Prelude.{Bool, true, false}
use Rattle.op_base.specs.declared.name.Kind.{Kind}
use Rattle.op_base.specs.declared.name.Kind.TheVariants.{Counter, RCounter}

-- whether the objects of a kind are counters, so that they have a sum
abbrev pub has_sum : Kind → Bool
has_sum Counter = true
has_sum RCounter = true
has_sum kind = false
