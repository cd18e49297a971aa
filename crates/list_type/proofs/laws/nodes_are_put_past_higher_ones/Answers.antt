use Rattle.list_type.proofs.Planted.{put_below, put_on_top}
use Rattle.list_type.proofs.laws.nodes_are_put_past_higher_ones.Goals as goal

pub returns-clause-behind : goal.returns-clause-behind
returns-clause-behind g c = λ children place_below is_there pass x ranked deep at below. (put_below children place_below is_there pass x ranked deep at below).put

pub returns-clause-on_top : goal.returns-clause-on_top
returns-clause-on_top g c = λ children place_below is_there pass x ranked deep at there each. put_on_top children place_below is_there pass x ranked deep at there each
