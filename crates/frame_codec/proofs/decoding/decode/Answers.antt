use Rattle.std.proofs.Common.{arith}
use Rattle.frame_codec.proofs.Faults.{refused}
use Rattle.frame_codec.proofs.Frames.{found, gives, placed}
use Rattle.frame_codec.proofs.decoding.decode.Goals as goal

pub returns-clause-found : goal.returns-clause-found
returns-clause-found c = found c.args.n c.args.epoch c.args.limit c.args.bytes.now c.message.result (λ i. omega (arith, c.type_inv.bytes i)) c.message.ensures.fault c.message.ensures.says

pub returns-clause-only : goal.returns-clause-only
returns-clause-only c = gives c.args.n c.args.epoch c.args.limit c.args.bytes.now c.message.result (omega arith) (omega arith) c.message.ensures.fault c.message.ensures.says

pub returns-clause-refused : goal.returns-clause-refused
returns-clause-refused c = refused _ c.message.result c.message.ensures.fault

pub returns-clause-in_place : goal.returns-clause-in_place
returns-clause-in_place c m = placed c.args.n c.args.epoch c.args.limit c.args.bytes.now m c.message.result (omega arith) (omega arith) c.message.ensures.fault c.message.ensures.in_place
