use Rattle.std.proofs.Common.{◌++◌, ◌∙◌, sym, ap, string_bytes}
use Rattle.std.proofs.lemmas.Iterator.{YieldsList-from_chars}
use Rattle.std.proofs.lemmas.Iterator.Consumers.{YieldsList-end}
use Rattle.std.proofs.lemmas.List.{flat_map_more, map-id}
use Rattle.script_draw.specs.Escape.{escaped_char, escaped}
use Rattle.script_draw.proofs.escape.put_escaped.Goals as goal

pub loop-c-preserved : goal.loop-c-preserved
loop-c-preserved c =
    c.in_ok-put_char.ensures
    ∙ ap (λ bytes. bytes ++ escaped_char c.in-Some.c) c.loop-c.invariant
    ∙ flat_map_more escaped_char (string_bytes c.args.out.now) c.loop-c.yielded c.in-Some.c

pub returns : goal.returns
returns c =
    let all = YieldsList-end (YieldsList-from_chars c.args.text.now c.utf8.text cc) c.loop-c.yielded _ c.loop-c.yielded_by _ _ c.in-None.is c.next.ensures.steps in
    c.loop-c.invariant ∙ ap (λ cs. string_bytes c.args.out.now ++ escaped cs) (sym (map-id _) ∙ all.0)
