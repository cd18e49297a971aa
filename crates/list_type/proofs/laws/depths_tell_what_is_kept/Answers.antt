use Rattle.list_type.proofs.Forests.{kept_laid}
use Rattle.list_type.proofs.laws.depths_tell_what_is_kept.Goals as goal

pub returns : goal.returns
returns g c = λ children place_below gone deep depth at. kept_laid children place_below gone deep depth at
