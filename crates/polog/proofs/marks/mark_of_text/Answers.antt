use Rattle.std.proofs.Common.{◌≡◌, ℕ, ◌-◌, List, length, take, drop, ap, ◌∙◌, arith}
use Rattle.std.specs.List.{fold}
use Rattle.std.proofs.lemmas.List.{take_all}
use Rattle.polog.specs.Marks.{with_byte, mark_of_text}
use Rattle.polog.proofs.Spans.{rest-taken}
use Rattle.polog.proofs.marks.mark_of_text.Goals as goal

pub returns : goal.returns
unfolding mark_of_text
returns c =
    let bytes = c.args.bytes.now in
    let from = c.saturating_sub.result in
    let is : from ≡ length bytes - 32 = c.saturating_sub.ensures in
    let part : List ℕ = take (length bytes - from) (drop from bytes) in
    let all : take c.loop-byte.byte-index part ≡ part = take_all c.loop-byte.byte-index part c.loop-byte-test.false in
    c.loop-byte.invariant ∙ ap (fold with_byte 0) (all ∙ rest-taken from bytes (omega (arith, is)) ∙ ap (λ i. drop i bytes) is)
