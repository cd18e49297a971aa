use Rattle.std.proofs.Common.{◌≡◌, ◌*◌, ◌∙◌, ap, arith, length-set, take, drop, add-one, refl}
use Rattle.std.specs.Int.{w32, from_be_bytes}
use Rattle.std.proofs.lemmas.List.{take_more_set, take_rest}
use Rattle.byteorder.specs.Endian.{big_number}
use Rattle.frame_codec.proofs.Numbers.{number_read, numbers_more}
use Rattle.frame_codec.proofs.fields.timestamp.Goals as goal

pub loop-x-preserved : goal.loop-x-preserved
loop-x-preserved c =
    let x = c.loop-x.x in
    let bytes = c.args.bytes.now in
    let read : c.read_u32.result ≡ from_be_bytes w32 (take 4 (drop (4 * x) bytes)) = c.read_u32.ensures ∙ ap (big_number 4) (take_rest bytes (4 * x)) ∙ number_read (drop (4 * x) bytes) in
    let longer = take_more_set c.loop-x.tag x c.read_u32.result (omega arith) in
    let same = c.loop-x.invariant.1 in
    (rw c.set.ensures (omega (arith, length-set c.loop-x.tag x c.read_u32.result)), rw (c.set.ensures, longer, add-one, numbers_more, same, read) refl)
