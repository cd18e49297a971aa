-- The numbers of a header are in range.
use Rattle.std.proofs.Common.{◌≡◌, ℕ, ◌≤◌, Bool, true, false, ◌&&◌, nat_le, cond, IsTrue, List, [], ◌∷◌, length, Option, Some, None, refl, subst}
use Rattle.std.specs.Prelude.{IfSome, codes, nat_lt}
use Rattle.std.proofs.lemmas.Bool.{and_parts, leb-true}
use Rattle.op_base.specs.Name.{same_text}
use Rattle.script_lang.specs.Fault.{most_line_bytes}
use Rattle.script_lang.specs.Headers.{◌>>?◌, are_in_range, is_in_range, in_range, script_header, sized_header, live_header, header_words, header_of, usual_limit, is_from_to}
use Rattle.script_lang.specs.Numbers.{number_of}
use Rattle.script_lang.specs.Words.{words_of}
use Rattle.script_lang.specs.declared.header.Header.{Header}
use Rattle.script_lang.specs.declared.header.Header.TheVariants.{Store, Keep, Live}
use Rattle.script_lang.specs.declared.header.Mode.{Mode}
use Rattle.script_lang.specs.declared.header.Mode.TheVariants as mode

abbrev InRange : Header → Type 0
InRange h = IsTrue (is_in_range h)

then_some : {A B : Type 0} (Q : B → Type 0) (x : Option A) (f : A → Option B) → ((a : A) → IfSome (f a) Q) → IfSome (x >>? f) Q
then_some Q None f g = tt
then_some Q (Some a) f g = g a

either_some : {A : Type 0} (P : A → Type 0) (b : Bool) (x y : Option A) → IfSome x P → IfSome y P → IfSome (cond b x y) P
either_some P true x y p q = p
either_some P false x y p q = q

tested : (h : Header) (b : Bool) → (b ≡ true → InRange h) → IfSome (cond b (Some h) None) InRange
tested h true t = t refl
tested h false t = tt

in_its_range : (h : Header) → IfSome (in_range h) InRange
in_its_range h = tested h (is_in_range h) (λ t. t)

sized_in_range : (mode : Mode) (words : List (List ℕ)) → IfSome (sized_header mode words) InRange
sized_in_range mode [] = tt
sized_in_range mode (a ∷ []) = tt
sized_in_range mode (a ∷ b ∷ []) =
    then_some InRange (number_of a) _ (λ n. then_some InRange (number_of b) _ (λ w. in_its_range (script_header mode n w usual_limit)))
sized_in_range mode (a ∷ b ∷ c ∷ []) =
    then_some InRange (number_of a) _ (λ n. then_some InRange (number_of b) _ (λ w. then_some InRange (number_of c) _ (λ limit. in_its_range (script_header mode n w limit))))
sized_in_range mode (a ∷ b ∷ c ∷ d ∷ words) = tt

live_in_range : (words : List (List ℕ)) → IfSome (live_header words) InRange
live_in_range [] = tt
live_in_range (a ∷ []) = tt
live_in_range (a ∷ b ∷ []) = tt
live_in_range (a ∷ b ∷ c ∷ []) = tt
live_in_range (a ∷ b ∷ c ∷ d ∷ []) = tt
live_in_range (a ∷ b ∷ c ∷ d ∷ e ∷ []) =
    then_some InRange (number_of a) _ (λ n. then_some InRange (number_of b) _ (λ w. then_some InRange (number_of c) _ (λ clients.
    then_some InRange (number_of d) _ (λ turns. then_some InRange (number_of e) _ (λ loss. in_its_range (Live n w clients turns loss))))))
live_in_range (a ∷ b ∷ c ∷ d ∷ e ∷ f ∷ words) = tt

words_in_range : (words : List (List ℕ)) → IfSome (header_words words) InRange
words_in_range [] = tt
words_in_range (keyword ∷ words) =
    either_some InRange (same_text keyword (codes "store")) _ _ (sized_in_range mode.Store words)
    (either_some InRange (same_text keyword (codes "keep")) _ _ (sized_in_range mode.Keep words)
    (either_some InRange (same_text keyword (codes "live")) _ None (live_in_range words) tt))

-- the ranges of a store
pub record AreOfStore (n w limit : ℕ) : Type 0 where
  pub some : 1 ≤ n
  pub few : n ≤ 16
  pub wide : 1 ≤ w
  pub most : limit ≤ 1000000

of_range : (n w limit : ℕ) → are_in_range n w limit ≡ true → AreOfStore n w limit
of_range n w limit t =
    let outer = and_parts (is_from_to 1 16 n && is_from_to 1 64 w) (is_from_to 1 1000000 limit) t in
    let inner = and_parts (is_from_to 1 16 n) (is_from_to 1 64 w) outer.0 in
    let members = and_parts (nat_le 1 n) (nat_le n 16) inner.0 in
    record {
      some = leb-true 1 n members.0;
      few = leb-true n 16 members.1;
      wide = leb-true 1 w (and_parts (nat_le 1 w) (nat_le w 64) inner.1).0;
      most = leb-true limit 1000000 (and_parts (nat_le 1 limit) (nat_le limit 1000000) outer.1).1;
    }

read_in_range : (header : List ℕ) (h : Header) → header_of header ≡ Some h → InRange h
read_in_range header h e =
    let all : IfSome (header_of header) InRange = either_some InRange (nat_lt most_line_bytes (length header)) None (header_words (words_of header)) tt (words_in_range (words_of header)) in
    subst (λ o. IfSome o InRange) e all

pub header_in_range : (header : List ℕ) (n w limit : ℕ) → header_of header ≡ Some (Store n w limit) → AreOfStore n w limit
header_in_range header n w limit e = of_range n w limit (read_in_range header (Store n w limit) e)

pub keep_in_range : (header : List ℕ) (n w limit : ℕ) → header_of header ≡ Some (Keep n w limit) → AreOfStore n w limit
keep_in_range header n w limit e = of_range n w limit (read_in_range header (Keep n w limit) e)
