-- What stability is read from, with one message more.
use Rattle.std.proofs.Common.{◌≡◌, ℕ, ◌+◌, ◌<◌, ◌≤◌, true, false, ◌==◌, List, [], ◌∷◌, ◌++◌, map, set, subst, inl, inr, if◌then◌else◌, arith}
use Rattle.std.proofs.lemmas.Bool.{cases_eq, cond-true, cond-false, eq-eqb, ne_eqb, leb-true, le-leb}
use Rattle.std.proofs.lemmas.List.FromFn.{get_or-map-range_with_len}
use Rattle.std.proofs.lemmas.List.Sums.{fold_push}
use Rattle.op_base.specs.Timestamp.{entry, zero_tag}
use Rattle.op_base.specs.Message.{number}
use Rattle.op_base.specs.declared.message.Message.{Message}
use Rattle.causal_model.specs.Counts.{members, count_of, counts}
use Rattle.causal_model.specs.Stability.{last_tag, known_vector, minimum, stable_count, stable_vector, is_stable}
use Rattle.causal_model.proofs.Delivery.Counts.{counts-push, entry-counts, count_of_grows}

pub last_tag-push : (n : ℕ) (h : List Message) (m : Message) (x : ℕ) → last_tag n (h ++ m ∷ []) x ≡ (if m.origin == x then m.tag else last_tag n h x)
last_tag-push n h m x = fold_push (λ last y. if y.origin == x then y.tag else last) (zero_tag n) h m

pub known_vector-push : (n me : ℕ) (h : List Message) (m : Message) (y : ℕ)
    → known_vector n me (h ++ m ∷ []) y
    ≡ (if y == me then set (counts n h) m.origin (count_of h m.origin + 1) else (if m.origin == y then m.tag else known_vector n me h y))
known_vector-push n me h m y =
    elim (y == me) as (λ own.
    (if own then counts n (h ++ m ∷ []) else last_tag n (h ++ m ∷ []) y)
    ≡ (if own then set (counts n h) m.origin (count_of h m.origin + 1) else (if m.origin == y then m.tag else (if own then counts n h else last_tag n h y)))) [
      | true ↦ counts-push n h m
      | false ↦ last_tag-push n h m y
    ]

pub stable_count-push : (n me : ℕ) (h : List Message) (m : Message) (x : ℕ)
    → stable_count n me (h ++ m ∷ []) x
    ≡ minimum (map (λ y. entry (if y == me then set (counts n h) m.origin (count_of h m.origin + 1) else (if m.origin == y then m.tag else known_vector n me h y)) x) (members n))
stable_count-push n me h m x = λ i. minimum (map (λ y. entry (known_vector-push n me h m y i) x) (members n))

-- ---- no member is known to have less with one message more

minimum-map-le : (f g : ℕ → ℕ) (xs : List ℕ) → ((x : ℕ) → f x ≤ g x) → minimum (map f xs) ≤ minimum (map g xs)
minimum-map-le f g [] each = omega arith
minimum-map-le f g (x ∷ []) each = each x
minimum-map-le f g (x ∷ y ∷ xs) each = omega (arith, each x, minimum-map-le f g (y ∷ xs) each)

-- the stable count of a member, in the vector of them
pub entry-stable : (n me : ℕ) (h : List Message) (x : ℕ) → x < n → entry (stable_vector n me h) x ≡ stable_count n me h x
entry-stable n me h x l = get_or-map-range_with_len (stable_count n me h) 0 n x x 0 l (omega arith)

-- a message whose timestamp has no entry below its sender's last timestamp
module _ (n me : ℕ) (h : List Message) (m : Message) (risen : (x : ℕ) → x < n → entry (last_tag n h m.origin) x ≤ entry m.tag x) where
  pub last_tag_grows : (y x : ℕ) → x < n → entry (last_tag n h y) x ≤ entry (last_tag n (h ++ m ∷ []) y) x
  last_tag_grows y x l = rw (last_tag-push n h m y) (elim (cases_eq m.origin y) [
    | inl e ↦ rw (cond-true (m.origin == y) m.tag (last_tag n h y) (eq-eqb m.origin y e)) (subst (λ z. entry (last_tag n h z) x ≤ entry m.tag x) e (risen x l))
    | inr ne ↦ rw (cond-false (m.origin == y) m.tag (last_tag n h y) (ne_eqb m.origin y ne)) (omega arith)
  ])

  pub known_vector_grows : (y x : ℕ) → x < n → entry (known_vector n me h y) x ≤ entry (known_vector n me (h ++ m ∷ []) y) x
  known_vector_grows y x l =
      elim (y == me) as (λ own. entry (if own then counts n h else last_tag n h y) x ≤ entry (if own then counts n (h ++ m ∷ []) else last_tag n (h ++ m ∷ []) y) x) [
        | true ↦ omega (arith, entry-counts n h x l, entry-counts n (h ++ m ∷ []) x l, count_of_grows h m x)
        | false ↦ last_tag_grows y x l
      ]

  pub stable_count_grows : (x : ℕ) → x < n → stable_count n me h x ≤ stable_count n me (h ++ m ∷ []) x
  stable_count_grows x l = minimum-map-le (λ y. entry (known_vector n me h y) x) (λ y. entry (known_vector n me (h ++ m ∷ []) y) x) (members n) (λ y. known_vector_grows y x l)

  -- what is stable stays stable
  pub stable_stays : (e : Message) → e.origin < n → is_stable (stable_vector n me h) e ≡ true → is_stable (stable_vector n me (h ++ m ∷ [])) e ≡ true
  stable_stays e l t = le-leb (number e) (entry (stable_vector n me (h ++ m ∷ [])) e.origin) (omega (arith, leb-true (number e) (entry (stable_vector n me h) e.origin) t, entry-stable n me h e.origin l, entry-stable n me (h ++ m ∷ []) e.origin l, stable_count_grows e.origin l))
