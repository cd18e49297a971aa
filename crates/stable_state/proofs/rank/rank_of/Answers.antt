use Rattle.std.proofs.Common.{◌∙◌, ◌<◌, subst}
use Rattle.std.specs.Prelude.{option_copied}
use Rattle.stable_state.specs.Ranks.{item_text}
use Rattle.stable_state.proofs.Ranks.{ranks_alike}
use Rattle.stable_state.proofs.rank.rank_of.Goals as goal

pub returns : goal.returns
returns c =
    let alike = ranks_alike c.front_of.result (item_text c.args.object.now (option_copied c.args.value)) c.front_of.ensures.front in
    record {
      rank = λ i. record { first = (c.rank_in.ensures.first ∙ alike.0) i; second = (c.rank_in.ensures.second ∙ alike.1) i };
      named = record {
        key = c.front_of.ensures.key;
        valid = c.front_of.ensures.value;
        bytes = λ i l. subst (λ b. b < 256) (c.front_of.ensures.front i l) (c.rank_in.ensures.bytes i);
      };
    }
