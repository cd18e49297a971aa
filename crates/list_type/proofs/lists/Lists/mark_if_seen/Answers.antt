use Rattle.std.proofs.Common.{sym, ap, ◌∙◌, ◌++◌, ◌∷◌}
use Rattle.list_type.specs.Nodes.{gone_node}
use Rattle.list_type.proofs.Leaving.{keys, listed_where_same, keys_with_gone}
use Rattle.list_type.proofs.lists.Lists.mark_if_seen.Goals as goal

pub invariant_of-self : goal.invariant_of-self
invariant_of-self c =
    let s = c.args.self.now in
    let held = c.requires in
    record {
      listed =
          listed_where_same s.rows s.slots s.chains c.mark_gone.new.chains s.listed held.0 (held.1 ++ (c.args.slot, gone_node held.2) ∷ held.3) held.4.within
          (c.mark_gone.ensures.rows held.0 held.1 held.2 held.3 held.4)
          (keys_with_gone held.1 c.args.slot held.2 held.3 ∙ ap keys (sym held.4.here));
    }
