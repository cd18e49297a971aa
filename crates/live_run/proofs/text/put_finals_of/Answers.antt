use Rattle.live_run.specs.Texts.{final_line, states_of}
use Rattle.live_run.proofs.Texting.{member_more}
use Rattle.live_run.proofs.text.put_finals_of.Goals as goal

pub loop-r-preserved : goal.loop-r-preserved
loop-r-preserved c =
    member_more (λ r. final_line (states_of c.args.nodes.now) r c.args.object.now) c.loop-r.r c.args.out.now c.loop-r.out c.put_final.new.out c.loop-r.invariant c.in_ok-put_final.ensures.ok
