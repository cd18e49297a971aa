use Rattle.workload.proofs.Headers.{header-read}
use Rattle.workload.proofs.laws.made_scripts_begin_with_a_header.Goals as goal

pub returns : goal.returns
returns c = header-read
