-- How often words come, as a map keeps it by the words.
use Rattle.std.specs.Prelude.{ℕ, zero, suc, List, Option, Some, None}
use Rattle.std.specs.Borrow.{Bor}
use Rattle.op_base.specs.Name.{same_text}
use Rattle.indexmap.specs.IndexMap.{IndexMap, get_by}
use Rattle.workload.specs.Summary.{times}

-- what a map keeps of a word
abbrev pub kept_of : {S : Type 0} → IndexMap (Bor (List ℕ)) ℕ S → List ℕ → Option ℕ
kept_of counts word = get_by (λ key. same_text word key.now) counts

-- a number from 1 on
abbrev pub from_1 : ℕ → Option ℕ
from_1 zero = None
from_1 (suc n) = Some (suc n)

-- how often a word comes among words, where it does
abbrev pub count_in : List (List ℕ) → List ℕ → Option ℕ
count_in words word = from_1 (times words word)
