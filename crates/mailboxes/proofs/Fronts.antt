-- Lists that begin with others.
use Rattle.std.proofs.Common.{◌≡◌, ◌<◌, ◌≤◌, Bool, true, false, cond, nat_lt, List, [], ◌∷◌, ◌++◌, length, get_or, drop, sym, refl, ap, ◌∙◌, append_assoc, length-append, arith}
use Rattle.std.proofs.lemmas.Bool.Decides.{nat_tests}
use Rattle.std.proofs.lemmas.List.{append-nil}
use Rattle.mailboxes.specs.declared.seen.Posted.{Posted}
use Rattle.mailboxes.specs.Seen.{BeginsWith, longer}

pub none_left : {A : Type 0} (l : List A) → length l ≤ 0 → l ≡ []
none_left [] h = refl
none_left (x ∷ xs) h = absurd (omega arith)

module _ {T : Type 0} where
  pub begins_itself : (a : List (Posted T)) → BeginsWith a a
  begins_itself a = ([], sym (append-nil a))

  pub begins_along : (a b c : List (Posted T)) → BeginsWith a b → BeginsWith b c → BeginsWith a c
  begins_along a b c p q = (q.0 ++ p.0, p.1 ∙ ap (λ l. l ++ p.0) q.1 ∙ append_assoc c q.0 p.0)

  begins_short : (a b : List (Posted T)) → BeginsWith a b → length b ≤ length a
  begins_short a b p = omega (arith, ap length p.1, length-append b p.0)

  -- lists that begin with one another are equal
  pub begins_both : (a b : List (Posted T)) → BeginsWith a b → BeginsWith b a → a ≡ b
  begins_both a b p q = let short = begins_short b a q in let n = ap length p.1 in let m = length-append b p.0 in
      p.1 ∙ (ap (λ l. b ++ l) (none_left p.0 (omega arith)) ∙ append-nil b)

  -- of two fronts of one list, the longer begins with the other
  pub begins_one : (l a b : List (Posted T)) → BeginsWith l a → BeginsWith l b → length a ≤ length b → BeginsWith b a
  begins_one l [] b p q le = (b, refl)
  begins_one l (x ∷ a) [] p q le = absurd (omega arith)
  begins_one [] (x ∷ a) (y ∷ b) p q le = absurd (omega (arith, ap length p.1))
  begins_one (z ∷ l) (x ∷ a) (y ∷ b) p q le =
      let rest = begins_one l a b (p.0, ap (drop 1) p.1) (q.0, ap (drop 1) q.1) (omega arith) in
      let same : y ≡ x = sym (ap (λ (m : List (Posted T)). get_or m 0 z) q.1) ∙ ap (λ (m : List (Posted T)). get_or m 0 z) p.1 in
      (rest.0, λ i. same i ∷ rest.1 i)

  -- by which of the two it is
  longer_cases : (P : List (Posted T) → Type 0) (a b : List (Posted T)) → (length b ≤ length a → P a) → (length a < length b → P b) → P (longer a b)
  longer_cases P a b left right = pick (nat_lt (length a) (length b)) refl
    where
      pick : (c : Bool) → nat_lt (length a) (length b) ≡ c → P (cond c b a)
      pick true is = right (grind (arith, nat_tests))
      pick false is = left (grind (arith, nat_tests))

  pub longer_front : (l a b : List (Posted T)) → BeginsWith l a → BeginsWith l b → BeginsWith l (longer a b)
  longer_front l a b p q = longer_cases (BeginsWith l) a b (λ _. p) (λ _. q)

  pub longer_left : (l a b : List (Posted T)) → BeginsWith l a → BeginsWith l b → BeginsWith (longer a b) a
  longer_left l a b p q = longer_cases (λ m. BeginsWith m a) a b (λ _. begins_itself a) (λ lt. begins_one l a b p q (omega arith))

  pub longer_right : (l a b : List (Posted T)) → BeginsWith l a → BeginsWith l b → BeginsWith (longer a b) b
  longer_right l a b p q = longer_cases (λ m. BeginsWith m b) a b (λ le. begins_one l b a q p le) (λ _. begins_itself b)
