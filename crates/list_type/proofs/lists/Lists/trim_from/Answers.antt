use Rattle.std.proofs.Common.{◌∙◌, ap, arith}
use Rattle.list_type.proofs.Leaving.{listed_without}
use Rattle.list_type.proofs.Taken.{trimmed_held, trimmed_out, fewer_stand, trim_goes_on, trim_ends}
use Rattle.list_type.proofs.lists.Lists.trim_from.Goals as goal

pub trim-requires : goal.trim-requires
trim-requires c slot is =
    let trimming = c.loop-node.invariant.trimming in
    trimmed_held c.loop-node.self.chains.rows trimming.row c.loop-node.at trimming.aim trimming.trimmed slot is

pub invariant_of-self : goal.invariant_of-self
invariant_of-self c =
    let s = c.loop-node.self in
    let trimming = c.loop-node.invariant.trimming in
    let from = c.in-Some.ensures.out in
    let out = trimmed_out s.chains.rows trimming.row c.loop-node.at trimming.aim trimming.trimmed from.0 from.1 c.trim.new.chains.rows c.in-Some.node (c.in-Some.ensures.taken from.0 from.1) in
    record {
      listed =
          listed_without s.rows s.slots c.forget.new.slots s.chains c.trim.new.chains s.listed out.row from.0 out.before c.in-Some.node out.after out.stands out.rows from.2 c.forget.ensures.forgotten;
    }

pub loop-node-smaller : goal.loop-node-smaller
loop-node-smaller c =
    let rows = c.loop-node.self.chains.rows in
    let trimming = c.loop-node.invariant.trimming in
    let from = c.in-Some.ensures.out in
    fewer_stand rows c.trim.new.chains.rows from.0 c.in-Some.node
    (trimmed_out rows trimming.row c.loop-node.at trimming.aim trimming.trimmed from.0 from.1 c.trim.new.chains.rows c.in-Some.node (c.in-Some.ensures.taken from.0 from.1))

pub loop-node-preserved : goal.loop-node-preserved
loop-node-preserved c =
    let from = c.in-Some.ensures.out in
    record {
      rows = c.loop-node.invariant.rows;
      trimming =
          trim_goes_on c.args.self.now.chains.rows c.loop-node.self.chains.rows c.trim.new.chains.rows c.args.slot c.loop-node.at c.in-Some.ahead from.0 c.in-Some.node from.1
          c.in-Some.ensures.goes_on (c.in-Some.ensures.taken from.0 from.1) c.loop-node.invariant.trimming;
      spare = omega (arith, c.loop-node.invariant.spare, c.in-Some.ensures.spare, c.trim.ensures.row_spare, c.forget.ensures.spare);
    }

pub returns-clause-trimmed : goal.returns-clause-trimmed
returns-clause-trimmed c row aim trimmed =
    ap (λ chains. chains.rows) c.in_default.ensures.unchanged
    ∙ trim_ends c.args.self.now.chains.rows c.loop-node.self.chains.rows c.args.slot c.loop-node.at c.in_default.ensures.ended c.loop-node.invariant.trimming row aim trimmed
