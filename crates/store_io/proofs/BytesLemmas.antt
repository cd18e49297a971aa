-- How writes one after another add up.
use Rattle.std.proofs.Common.{ℕ, ◌+◌, ◌-◌, Option, Some, None, List, ◌++◌, length, take, drop, append_assoc}
use Rattle.std.proofs.Math.Seq.{take-add}
use Rattle.std.proofs.lemmas.List.{take_rest}
use Rattle.store_io.specs.Bytes.{Took}

-- one write and then another take the bytes of both
pub Took-append : (old middle new : Option (List ℕ)) (xs ys : List ℕ) → Took old middle xs → Took middle new ys → Took old new (xs ++ ys)
Took-append None middle new xs ys first second = rw first at second
Took-append (Some held) middle new xs ys first second = let then = rw first at second in rw then (simp append_assoc)

-- a write of the rest of a piece takes more of the piece
pub Took-more : (old middle new : Option (List ℕ)) (piece : List ℕ) (done count : ℕ) → Took old middle (take done piece) → Took middle new (take count (take (length piece - done) (drop done piece))) → Took old new (take (done + count) piece)
Took-more old middle new piece done count first second =
    rw take-add (Took-append old middle new _ _ first (rw take_rest at second))
