-- A matrix of messages, with the next message.
use Rattle.std.proofs.Common.{◌≡◌, ◌≢◌, ℕ, ◌+◌, ◌<◌, ◌==◌, All, replicate, List, [], ◌∷◌, ◌++◌, length, map, get_or, set, length-set, get_or-set_other, refl, sym, subst, ap, ◌∙◌, inl, inr, if◌then◌else◌, arith}
use Rattle.std.proofs.lemmas.Bool.{cases_eq, cond-true, cond-false, eq-eqb, ne_eqb, eqb-true, and_parts}
use Rattle.std.proofs.lemmas.Grind.{get_or-set_at}
use Rattle.std.proofs.lemmas.List.{same_lists, get_or-replicate, length-replicate}
use Rattle.std.proofs.lemmas.List.FromFn.{length-map-range_with_len, get_or-map-range_with_len}
use Rattle.op_base.specs.Message.{number}
use Rattle.op_base.specs.Timestamp.{entry, zero_tag}
use Rattle.op_base.specs.declared.message.Message.{Message}
use Rattle.causal_model.specs.Counts.{members, count_of, counts, next_tag}
use Rattle.causal_model.specs.Stability.{known_vector, last_tag, minimum, stable_vector}
use Rattle.causal_model.proofs.Delivery.Counts.{entry-counts}
use Rattle.causal_model.proofs.Delivery.Stability.{known_vector-push}
use Rattle.causal_model.proofs.Delivery.Begin.{known_vector-none, stable_vector-none}
use Rattle.stability_matrix.specs.Rows.{Known, row_of, stable_of, noted}
use Rattle.stability_matrix.specs.Standing.{IsMatrixOf, ComesNext, KeepsKnown, KeepsKnownOfOwn, StableAfter}

-- the known vectors of the members
abbrev pub known : ℕ → ℕ → List Message → List (List ℕ)
known n me ms = map (known_vector n me ms) (members n)

map-map : {X Y Z : Type 0} (f : X → Y) (g : Y → Z) (xs : List X) → map g (map f xs) ≡ map (λ x. g (f x)) xs
map-map f g [] = refl
map-map f g (x ∷ xs) = ap (λ ys. g (f x) ∷ ys) (map-map f g xs)

module _ (n me : ℕ) (ms : List Message) where
  pub length-known : length (known n me ms) ≡ n
  length-known = length-map-range_with_len (known_vector n me ms) 0 n

  pub get_or-known : (y : ℕ) (d : List ℕ) → y < n → get_or (known n me ms) y d ≡ known_vector n me ms y
  get_or-known y d l = get_or-map-range_with_len (known_vector n me ms) 0 n y y d l (omega arith)

  -- the least of their columns are the stable counts
  pub stable_of-known : stable_of (known n me ms) ≡ stable_vector n me ms
  stable_of-known =
      ap (λ k. map (λ x. minimum (map (λ row. entry row x) (known n me ms))) (members k)) length-known
      ∙ (λ i. map (λ x. minimum (map-map (known_vector n me ms) (λ row. entry row x) (members n) i)) (members n))

module _ (n me : ℕ) (ms : List Message) (m : Message) where
  -- the known vector of the own member, of the origin, and of another, with one message more
  known-push_own : (y : ℕ) → y ≡ me → known_vector n me (ms ++ m ∷ []) y ≡ set (counts n ms) m.origin (count_of ms m.origin + 1)
  known-push_own y e = known_vector-push n me ms m y ∙ cond-true (y == me) (set (counts n ms) m.origin (count_of ms m.origin + 1)) (if m.origin == y then m.tag else known_vector n me ms y) (eq-eqb y me e)

  known-push_origin : (y : ℕ) → y ≢ me → m.origin ≡ y → known_vector n me (ms ++ m ∷ []) y ≡ m.tag
  known-push_origin y ne e =
      known_vector-push n me ms m y ∙ cond-false (y == me) (set (counts n ms) m.origin (count_of ms m.origin + 1)) (if m.origin == y then m.tag else known_vector n me ms y) (ne_eqb y me ne)
      ∙ cond-true (m.origin == y) m.tag (known_vector n me ms y) (eq-eqb m.origin y e)

  known-push_other : (y : ℕ) → y ≢ me → m.origin ≢ y → known_vector n me (ms ++ m ∷ []) y ≡ known_vector n me ms y
  known-push_other y ne apart =
      known_vector-push n me ms m y ∙ cond-false (y == me) (set (counts n ms) m.origin (count_of ms m.origin + 1)) (if m.origin == y then m.tag else known_vector n me ms y) (ne_eqb y me ne)
      ∙ cond-false (m.origin == y) m.tag (known_vector n me ms y) (ne_eqb m.origin y apart)

  own_is_counts : known_vector n me ms me ≡ counts n ms
  own_is_counts = cond-true (me == me) (counts n ms) (last_tag n ms me) (eq-eqb me me refl)

  -- the next message of another member, noted
  pub noted-known : (origin : ℕ) (tag : List ℕ) → origin < n → origin ≢ me → ComesNext n origin tag ms m → noted me origin tag (known n me ms) ≡ known n me (ms ++ m ∷ [])
  noted-known origin tag l apart next =
      let rows = known n me ms in
      let own = set (row_of (set rows origin tag) me) origin (entry tag origin) in
      let len : length (noted me origin tag rows) ≡ n = length-set (set rows origin tag) me own ∙ length-set rows origin tag ∙ length-known n me ms in
      let counted : entry tag origin ≡ count_of ms origin + 1 =
      subst (λ x. entry tag x ≡ count_of ms x + 1) next.of_origin (subst (λ t. entry t m.origin ≡ count_of ms m.origin + 1) next.with_tag (
      eqb-true (number m) (entry (counts n ms) m.origin + 1) (and_parts _ _ next.deliverable).0
      ∙ ap (λ k. k + 1) (entry-counts n ms m.origin (subst (λ x. x < n) (sym next.of_origin) l)))) in
      same_lists (noted me origin tag rows) (known n me (ms ++ m ∷ [])) (len ∙ sym (length-known n me (ms ++ m ∷ []))) (λ y d within.
      let k : y < n = omega (arith, within, len) in
      sym (get_or-known n me (ms ++ m ∷ []) y d k ∙ sym (elim (cases_eq y me) [
        | inl e ↦
            let here : me < n = subst (λ x. x < n) e k in
            let was : row_of (set rows origin tag) me ≡ counts n ms = get_or-set_other rows origin me tag [] (λ f. apart (sym f)) ∙ get_or-known n me ms me [] here ∙ own_is_counts in
            get_or-set_at (set rows origin tag) me y own d e (omega (arith, here, length-set rows origin tag, length-known n me ms))
            ∙ ap (λ row. set row origin (entry tag origin)) was ∙ ap (set (counts n ms) origin) counted
            ∙ sym (subst (λ x. known_vector n me (ms ++ m ∷ []) y ≡ set (counts n ms) x (count_of ms x + 1)) next.of_origin (known-push_own y e))
        | inr ne ↦ get_or-set_other (set rows origin tag) me y own d ne ∙ elim (cases_eq y origin) [
          | inl e ↦ get_or-set_at rows origin y tag d e (omega (arith, l, length-known n me ms)) ∙ sym next.with_tag ∙ sym (known-push_origin y ne (next.of_origin ∙ sym e))
          | inr other ↦ get_or-set_other rows origin y tag d other ∙ get_or-known n me ms y d k ∙ sym (known-push_other y ne (λ f. other (sym f ∙ next.of_origin)))
        ]
      ])))

  pub noted-stands : (origin : ℕ) (tag : List ℕ) (old : Known) → origin < length old.rows → origin ≢ old.me
      → IsMatrixOf n me ms old → ComesNext n origin tag ms m → noted old.me origin tag old.rows ≡ known n me (ms ++ m ∷ [])
  noted-stands origin tag old l apart stands next =
      ap (λ y. noted y origin tag old.rows) stands.of_me ∙ ap (noted me origin tag) stands.known
      ∙ noted-known origin tag (omega (arith, l, ap length stands.known, length-known n me ms)) (λ e. apart (e ∙ sym stands.of_me)) next

  -- the next own message, noted
  pub noted-known_own : m.origin ≡ me → m.tag ≡ next_tag n me ms → set (known n me ms) me m.tag ≡ known n me (ms ++ m ∷ [])
  noted-known_own own with_tag =
      let rows = known n me ms in
      let len : length (set rows me m.tag) ≡ n = length-set rows me m.tag ∙ length-known n me ms in
      same_lists (set rows me m.tag) (known n me (ms ++ m ∷ [])) (len ∙ sym (length-known n me (ms ++ m ∷ []))) (λ y d within.
      let k : y < n = omega (arith, within, len) in
      sym (get_or-known n me (ms ++ m ∷ []) y d k ∙ sym (elim (cases_eq y me) [
        | inl e ↦ get_or-set_at rows me y m.tag d e (omega (arith, k, e, length-known n me ms)) ∙ with_tag
            ∙ sym (subst (λ x. known_vector n me (ms ++ m ∷ []) y ≡ set (counts n ms) x (count_of ms x + 1)) own (known-push_own y e))
        | inr ne ↦ get_or-set_other rows me y m.tag d ne ∙ get_or-known n me ms y d k ∙ sym (known-push_other y ne (λ f. ne (sym f ∙ own)))
      ])))

-- ---- what calls keep

pub keeps_noted : (origin : ℕ) (tag : List ℕ) (old new : Known) → origin < length old.rows → origin ≢ old.me
    → new ≡ record { me = old.me; rows = noted old.me origin tag old.rows } → KeepsKnown origin tag old new
keeps_noted origin tag old new l apart is n me ms m stands next = record {
  of_me = ap (λ k. k.me) is ∙ stands.of_me;
  known = ap (λ k. k.rows) is ∙ noted-stands n me ms m origin tag old l apart stands next;
}

pub keeps_noted_own : (tag : List ℕ) (old new : Known) → new ≡ record { me = old.me; rows = set old.rows old.me tag } → KeepsKnownOfOwn tag old new
keeps_noted_own tag old new is n me ms m stands own with_tag next = record {
  of_me = ap (λ k. k.me) is ∙ stands.of_me;
  known =
      ap (λ k. k.rows) is ∙ ap (λ y. set old.rows y tag) stands.of_me ∙ ap (λ rows. set rows me tag) stands.known ∙ ap (set (known n me ms) me) (sym with_tag)
      ∙ noted-known_own n me ms m own next;
}

pub stable_noted : (origin : ℕ) (tag : List ℕ) (matrix : Known) (stable : List ℕ) → origin < length matrix.rows → origin ≢ matrix.me
    → stable ≡ stable_of (noted matrix.me origin tag matrix.rows) → StableAfter origin tag matrix stable
stable_noted origin tag matrix stable l apart is n me ms m stands next =
    is ∙ ap stable_of (noted-stands n me ms m origin tag matrix l apart stands next) ∙ stable_of-known n me (ms ++ m ∷ [])

-- ---- before anything was delivered

pub known-none : (n me : ℕ) → known n me [] ≡ replicate n (zero_tag n)
known-none n me = same_lists (known n me []) (replicate n (zero_tag n)) (length-known n me [] ∙ sym (length-replicate n (zero_tag n))) (λ y d l.
    let k : y < n = omega (arith, l, length-known n me []) in
    get_or-known n me [] y d k ∙ known_vector-none n me y ∙ sym (get_or-replicate n y (zero_tag n) d k))

pub stable_of-zeros : (n : ℕ) → zero_tag n ≡ stable_of (replicate n (zero_tag n))
stable_of-zeros n = sym (ap stable_of (sym (known-none n 0)) ∙ stable_of-known n 0 [] ∙ stable_vector-none n 0)

pub zeros_are_square : (n : ℕ) → All (λ row. length row ≡ n) (replicate n (zero_tag n))
zeros_are_square n y d l =
    let k : y < n = omega (arith, l, length-replicate n (zero_tag n)) in
    ap length (get_or-replicate n y (zero_tag n) d k) ∙ length-replicate n 0

-- of a matrix with the same stable counts these are those of the same messages
pub keeps_stable : (old : Known) (stable : List ℕ) → stable ≡ stable_of old.rows → (n me : ℕ) (messages : List Message) → IsMatrixOf n me messages old → stable ≡ stable_vector n me messages
keeps_stable old stable same n me messages of = same ∙ ap stable_of of.known ∙ stable_of-known n me messages
