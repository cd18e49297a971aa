-- The numbers of a replica, in parts.
use Rattle.std.proofs.Common.{ℕ, ◌<◌, ◌≤◌, ◌&&◌, nat_lt, IsTrue}
use Rattle.std.proofs.lemmas.Bool.{and_parts, ltb-true, leb-true}
use Rattle.replica_core.specs.Numbers.{is_from_to, are_numbers}

pub record AreNumbers (me n w limit : ℕ) : Type 0 where
  pub some : 1 ≤ n
  pub few : n ≤ 16
  pub wide : 1 ≤ w
  pub narrow : w ≤ 64
  pub most : limit ≤ 1000000
  pub member : me < n

pub AreNumbers-from_test : (me n w limit : ℕ) → IsTrue (are_numbers me n w limit) → AreNumbers me n w limit
AreNumbers-from_test me n w limit t =
    let all = and_parts (is_from_to 1 16 n && is_from_to 1 64 w && is_from_to 1 1000000 limit) (nat_lt me n) t in
    let three = and_parts (is_from_to 1 16 n && is_from_to 1 64 w) (is_from_to 1 1000000 limit) all.0 in
    let two = and_parts (is_from_to 1 16 n) (is_from_to 1 64 w) three.0 in
    let members = and_parts _ _ two.0 in
    let window = and_parts _ _ two.1 in
    record {
      some = leb-true 1 n members.0;
      few = leb-true n 16 members.1;
      wide = leb-true 1 w window.0;
      narrow = leb-true w 64 window.1;
      most = leb-true limit 1000000 (and_parts _ _ three.1).1;
      member = ltb-true me n all.1;
    }
