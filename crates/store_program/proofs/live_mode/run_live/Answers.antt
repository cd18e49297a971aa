use Rattle.std.proofs.Common.{◌≡◌, ◌∙◌, ◌++◌, List, ℕ, ap, subst, arith}
use Rattle.live_run.specs.Runs.{IsLiveText}
use Rattle.live_run.specs.declared.input.NumberedLine.{NumberedLine}
use Rattle.store_program.specs.Run.{TookFront}
use Rattle.store_program.proofs.Going.{front_taken}
use Rattle.store_program.proofs.LiveEnding.{right_output}
use Rattle.store_program.proofs.live_mode.run_live.Goals as goal

pub returns : goal.returns
returns g c =
    let read = c.in-Ok.ensures in
    let told = c.in-Ok-live.ensures.text in
    let whole : c.as_slice-2.result.now ≡ told.0 = c.as_slice-2.ensures ∙ (told.1 ∙ ap (λ (front : List ℕ). front ++ told.0) c.new-text.ensures) in
    record {
      given = read.given;
      gave = read.gave;
      few = omega (arith, read.short);
      ends = record {
        fault = c.in-Err-write_whole.ensures.fault;
        ended = read.ended;
        short = read.short;
        text = told.0;
        right = right_output c.in-Ok.input read.given told.0 read.asked (subst (λ (lines : List NumberedLine). IsLiveText c.in-Ok.input.n c.in-Ok.input.w c.in-Ok.input.clients lines told.0) c.as_slice.ensures.value told.2);
        wrote = subst (λ (text : List ℕ). TookFront (g.K.Sink.held c.args.sink.now) (g.K.Sink.held c.write_whole.new.sink) text) whole (front_taken _ _ _ c.in-Err-write_whole.ensures.prefix);
      };
    }
