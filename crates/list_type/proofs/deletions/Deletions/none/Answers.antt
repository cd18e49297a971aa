use Rattle.std.proofs.Common.{[], arith}
use Rattle.std.proofs.lemmas.List.{get_or-replicate}
use Rattle.list_type.proofs.LinkedDeletions.{none_first}
use Rattle.list_type.proofs.deletions.Deletions.none.Goals as goal

pub returns : goal.returns
returns c = record {
  last = λ g few. none_first [] g _ (get_or-replicate 1024 g 0 0 few);
  ahead = λ k g upto own. absurd (omega arith);
}
