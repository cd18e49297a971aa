use Rattle.std.proofs.Common.{◌≡◌, take, map}
use Rattle.frame_codec.specs.Grammar.{frame_of}
use Rattle.frame_codec.specs.declared.version.Version.TheVariants.{Two}
use Rattle.peer.proofs.sending.encode_all.Given as goal

abbrev pub invariant-loop-message : goal.invariant-loop-message
invariant-loop-message l = l.frames ≡ map (frame_of Two l.fn.n 0) (take l.message-index l.messages)
