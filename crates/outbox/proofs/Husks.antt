-- Husks in front of messages, and the messages behind them.
use Rattle.std.proofs.Common.{◌≡◌, ℕ, ◌+◌, ◌-◌, ◌≤◌, List, [], ◌++◌, length, length-append, length-take-le, length-drop, append-nil, take, drop, All, ap, sym, subst, ◌∙◌, arith}
use Rattle.std.specs.Global.{Vec}
use Rattle.std.specs.Vec.{with_items}
use Rattle.std.specs.List.{between}
use Rattle.std.proofs.lemmas.Slice.{between_to_end}
use Rattle.std.proofs.Math.Seq.{take-append-add, drop-append-add}
use Rattle.std.proofs.lemmas.List.{with_items_is, drop_all}
use Rattle.std.proofs.lemmas.List.Elements.{All-append}
use Rattle.op_base.specs.declared.message.Message.{Message}
use Rattle.outbox.specs.Sent.{IsHusk}

-- what stands in a list once what is behind a place is replaced by as many
put_behind : {X : Type 0} (v : Vec X) (ys : List X) (g : ℕ) → length ys + g ≡ length v.items
    → (with_items v (take g v.items ++ (ys ++ drop (length v.items - g) (drop g v.items)))).items ≡ take g v.items ++ ys
put_behind v ys g len =
    let xs = v.items in
    let none : drop (length xs - g) (drop g xs) ≡ [] = drop_all (length xs - g) (drop g xs) (omega (arith, length-drop g xs)) in
    let is : take g xs ++ (ys ++ drop (length xs - g) (drop g xs)) ≡ take g xs ++ ys = ap (λ tail. take g xs ++ (ys ++ tail)) none ∙ ap (λ tail. take g xs ++ tail) (append-nil ys) in
    with_items_is v (take g xs ++ (ys ++ drop (length xs - g) (drop g xs))) (ap length is ∙ omega (arith, length-append (take g xs) ys, length-take-le g xs (omega (arith, len)), len, v.ok.0)) ∙ is

-- Of a list behind so many husks the first ones became husks, and the others are what is wanted: so it is behind all husks.
pub record HasMore (k g : ℕ) (ys wanted items : List Message) : Type 0 where
  pub same : length items ≡ g + length ys
  pub husks : All IsHusk (take (g + k) items)
  pub rest : drop (g + k) items ≡ wanted

has_more : (k g : ℕ) (xs ys : List Message) → g ≤ length xs → All IsHusk (take g xs) → All IsHusk (take k ys) → HasMore k g ys (drop k ys) (take g xs ++ ys)
has_more k g xs ys within before now =
    let len : length (take g xs) ≡ g = length-take-le g xs within in
    record {
      same = omega (arith, length-append (take g xs) ys, len);
      husks = subst (λ l. All IsHusk (take (l + k) (take g xs ++ ys))) len (subst (All IsHusk) (sym (take-append-add (take g xs) ys k)) (All-append IsHusk (take g xs) (take k ys) before now));
      rest = subst (λ l. drop (l + k) (take g xs ++ ys) ≡ drop k ys) len (drop-append-add (take g xs) ys k);
    }

module _ (v : Vec Message) (now : List Message) (g : ℕ) (is : now ≡ v.items) where
  -- what stands behind a place
  pub behind : between g (length now) now ≡ drop g v.items
  behind = between_to_end now g (length now) (omega arith) ∙ ap (drop g) is

  -- a write behind so many husks, by which the first ones there become husks, and of the others a function is left
  pub husked : (left : List Message → List Message) (ys : List Message) (k : ℕ) → length ys ≡ length (between g (length now) now) → g ≤ length v.items
      → All IsHusk (take g v.items) → All IsHusk (take k ys) → drop k ys ≡ left (between g (length now) now)
      → HasMore k g ys (left (drop g v.items)) (with_items v (take g now ++ (ys ++ drop (length now - g) (drop g now)))).items
  husked left ys k same within before husks rest =
      let len : length ys + g ≡ length v.items = omega (arith, same, ap length behind, length-drop g v.items, within) in
      subst (λ xs. HasMore k g ys (left (drop g v.items)) (with_items v (take g xs ++ (ys ++ drop (length xs - g) (drop g xs)))).items) (sym is)
      (subst (HasMore k g ys (left (drop g v.items))) (sym (put_behind v ys g len))
      (subst (λ wanted. HasMore k g ys wanted (take g v.items ++ ys)) (rest ∙ ap left behind) (has_more k g v.items ys within before husks)))
