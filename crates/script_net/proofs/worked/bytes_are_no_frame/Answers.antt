use Rattle.std.proofs.Common.{refl}
use Rattle.std.specs.Fmt.{digits}
use Rattle.hex.specs.Hex.{decode_pairs}
use Rattle.frame_codec.specs.Fault.{fault_by}
use Rattle.script_net.proofs.worked.bytes_are_no_frame.Goals as goal

pub returns : goal.returns
unfolding digits decode_pairs fault_by
returns c = refl
