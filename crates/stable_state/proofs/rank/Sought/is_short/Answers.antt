use Rattle.std.proofs.Common.{◌≡◌, [], ◌∷◌, length, length-append, nat_lt, sym, ap, ◌∙◌, arith}
use Rattle.std.specs.Prelude.{option_copied, unwrap_or}
use Rattle.stable_state.proofs.rank.Sought.is_short.Goals as goal
use Rattle.stable_state.proofs.rank.Sought.is_short.Goals.{in-Some, in-None}

pub returns : goal.returns
returns c =
    let sought = c.args.self.now in
    let bytes = unwrap_or (option_copied sought.value) [] in
    let value_len : c.match-self.value_len ≡ length bytes =
    elim c.match-self.branch [
      | in-Some w ↦ w.value_len-is ∙ ap length w.as_slice.ensures.bytes ∙ ap (λ value. length (unwrap_or (option_copied value) [])) (sym w.in-Some.is)
      | in-None w ↦ w.value_len-is ∙ ap (λ value. length (unwrap_or (option_copied value) [])) (sym w.in-None.is)
    ] in
    let key_len = ap length c.as_slice-key_len.ensures.bytes in
    ap (λ n. nat_lt n 32) (omega (arith, key_len, value_len, length-append sought.object.now.key (0 ∷ bytes)))
