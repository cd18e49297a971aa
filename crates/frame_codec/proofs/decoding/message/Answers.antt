use Rattle.std.proofs.Common.{◌≡◌, ◌∙◌, ap, refl, arith, length}
use Rattle.std.proofs.lemmas.Result.{err_from_is_err_and}
use Rattle.frame_codec.specs.Fault.{version_at}
use Rattle.frame_codec.proofs.Frames.{head_is, length-numbers}
use Rattle.frame_codec.proofs.Faults.{fault_by-head, body_read}
use Rattle.frame_codec.proofs.decoding.message.Goals as goal

pub returns-in_err-head-clause-fault : goal.returns-in_err-head-clause-fault
returns-in_err-head-clause-fault c =
    let p = err_from_is_err_and c.from_residual.result c.from_residual.ensures.1 in
    rw (p.1, fault_by-head (version_at c.args.bytes.now) c.args.n c.args.epoch c.args.limit c.args.bytes.now _ c.in_err-head.ensures.fault) p.2

pub is_bad_number-requires : goal.is_bad_number-requires
is_bad_number-requires c =
    let head = head_is (version_at c.args.bytes.now) c.args.n c.args.epoch c.args.bytes.now c.in_ok-head.ensures.fault in
    let n : length c.timestamp-tag.result ≡ c.args.n = ap length c.timestamp-tag.ensures ∙ length-numbers c.args.n _ in
    omega (arith, head.origin_below, c.in_ok-head.ensures.origin)

pub returns-then-is_bad_number-clause-fault : goal.returns-then-is_bad_number-clause-fault
returns-then-is_bad_number-clause-fault c =
    let e = body_read (version_at c.args.bytes.now) c.in_ok-head.head.version c.args.n c.args.epoch c.args.limit c.head_len-begin.result c.args.bytes.now c.timestamp-tag.result c.in_ok-head.head.origin c.in_ok-head.head.code c.in_ok-head.ensures.fault c.in_ok-head.ensures.version c.head_len-begin.ensures.exact c.timestamp-tag.ensures c.in_ok-head.ensures.origin c.in_ok-head.ensures.code in
    rw (e, ← c.is_bad_number.ensures, c.if-is_bad_number.true) refl

pub returns-in_err-op-clause-fault : goal.returns-in_err-op-clause-fault
returns-in_err-op-clause-fault c =
    let p = err_from_is_err_and c.from_residual-in_err-op.result c.from_residual-in_err-op.ensures.1 in
    let e = body_read (version_at c.args.bytes.now) c.in_ok-head.head.version c.args.n c.args.epoch c.args.limit c.head_len-begin.result c.args.bytes.now c.timestamp-tag.result c.in_ok-head.head.origin c.in_ok-head.head.code c.in_ok-head.ensures.fault c.in_ok-head.ensures.version c.head_len-begin.ensures.exact c.timestamp-tag.ensures c.in_ok-head.ensures.origin c.in_ok-head.ensures.code in
    rw (p.1, p.2, e, ← c.is_bad_number.ensures, c.if-is_bad_number.false) c.in_err-op.ensures.fault

pub returns-clause-fault : goal.returns-clause-fault
returns-clause-fault c =
    let e = body_read (version_at c.args.bytes.now) c.in_ok-head.head.version c.args.n c.args.epoch c.args.limit c.head_len-begin.result c.args.bytes.now c.timestamp-tag.result c.in_ok-head.head.origin c.in_ok-head.head.code c.in_ok-head.ensures.fault c.in_ok-head.ensures.version c.head_len-begin.ensures.exact c.timestamp-tag.ensures c.in_ok-head.ensures.origin c.in_ok-head.ensures.code in
    e ∙ rw (← c.is_bad_number.ensures, c.if-is_bad_number.false) c.in_ok-op.ensures.fault
