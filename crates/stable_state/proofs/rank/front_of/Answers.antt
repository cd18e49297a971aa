use Rattle.std.proofs.Common.{◌+◌, [], ◌∷◌, ◌++◌, length, sym, ap, ◌∙◌}
use Rattle.std.specs.Prelude.{option_copied, unwrap_or, slice_index, slice_set}
use borrow.Rule.Slice.PartMut.{put_mid}
use Rattle.stable_state.proofs.Ranks.{named_text, unvalued_text, valued_text}
use Rattle.stable_state.proofs.rank.front_of.Goals as goal

pub returns-in-Some-clause-front : goal.returns-in-Some-clause-front
returns-in-Some-clause-front c =
    let key = c.args.object.now.key in
    let place = c.place_of_kind.result in
    let wide = c.copy_from_slice.new.self in
    let old = put_mid 1 32 (slice_set c.zeros-text.result 0 place) wide in
    let named = named_text c.zeros-text.result place key wide c.zeros-text.ensures.len c.zeros-text.ensures.each (c.copy_from_slice.ensures.after ∙ c.padded.ensures) in
    λ i l.
    valued_text old c.write_value.new.text key c.in-Some.value.now place named
    (λ front is. c.write_value.ensures.written front (is ∙ ap (λ key. length key + 2) (sym c.as_slice-key.ensures.bytes))) i l
    ∙ (λ j. slice_index (c.place_of_kind.ensures j ∷ (key ++ 0 ∷ ap (λ value. unwrap_or (option_copied value) []) (sym c.in-Some.is) j)) i)

pub returns-in_default-clause-front : goal.returns-in_default-clause-front
returns-in_default-clause-front c = λ i l.
    let key = c.args.object.now.key in
    let place = c.place_of_kind.result in
    let wide = c.copy_from_slice.new.self in
    let named = named_text c.zeros-text.result place key wide c.zeros-text.ensures.len c.zeros-text.ensures.each (c.copy_from_slice.ensures.after ∙ c.padded.ensures) in
    unvalued_text key (put_mid 1 32 (slice_set c.zeros-text.result 0 place) wide) place named i
    ∙ (λ j. slice_index (c.place_of_kind.ensures j ∷ (key ++ 0 ∷ unwrap_or (option_copied (sym c.in_default.is j)) [])) i)
