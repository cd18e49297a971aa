use Rattle.std.proofs.Common.{◌≡◌, ℕ, ◌≤◌, List, take, replicate, length, All, ap, sym, subst, refl, ◌∙◌}
use Rattle.std.proofs.lemmas.List.{take-replicate}
use Rattle.op_base.specs.Timestamp.{zero_tag}
use Rattle.stability_matrix.specs.Rows.{stable_of}
use Rattle.stability_matrix.proofs.Standing.{known-none, stable_of-zeros, zeros_are_square}
use Rattle.stability_matrix.proofs.matrix.Matrix.new.Goals as goal

zeros : (n : ℕ) (zero : List ℕ) → n ≤ 16 → zero ≡ zero_tag n → take n (replicate 16 zero) ≡ replicate n (zero_tag n)
zeros n zero few is = take-replicate n 16 zero few ∙ ap (replicate n) is

pub invariant_of-result : goal.invariant_of-result
invariant_of-result c =
    let rows = zeros c.args.n c.zero-zero.result c.requires.few c.zero-zero.ensures in
    record {
      some = c.requires.some;
      few = c.requires.few;
      member = c.requires.member;
      room = refl;
      entries = subst (All (λ row. length row ≡ c.args.n)) (sym rows) (zeros_are_square c.args.n);
      least = c.zero-zero.ensures ∙ stable_of-zeros c.args.n ∙ ap stable_of (sym rows);
    }

pub returns-clause-zeros : goal.returns-clause-zeros
returns-clause-zeros c =
    let rows = zeros c.args.n c.zero-zero.result c.requires.few c.zero-zero.ensures in
    λ i. record { me = c.args.me; rows = rows i }

pub returns-clause-known : goal.returns-clause-known
returns-clause-known c = record { of_me = refl; known = zeros c.args.n c.zero-zero.result c.requires.few c.zero-zero.ensures ∙ sym (known-none c.args.n c.args.me) }
