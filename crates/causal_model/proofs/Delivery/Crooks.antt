-- What a message has that is not crooked.
use Rattle.std.proofs.Common.{◌≡◌, ◌≢◌, ℕ, ◌<◌, ◌≤◌, true, not, ◌&&◌, ◌||◌, ◌==◌, nat_lt, List, [], ◌∷◌, ◌++◌, None, sym, ap, ◌∙◌, inl, inr, arith, map}
use mathlib.Core.Bool.{and-true}
use Rattle.std.specs.Prelude.{is_none}
use Rattle.std.specs.List.{list_all}
use Rattle.std.proofs.lemmas.Bool.{and_parts, and_from, or_cases, or_left, or_right, not-true, not_from_false, eqb-true, eq-eqb, ltb-false, le-ltb, cases_eq}
use Rattle.std.proofs.lemmas.List.Folds.{list_all-map}
use Rattle.op_base.specs.Timestamp.{entry}
use Rattle.op_base.specs.declared.message.Message.{Message}
use Rattle.op_base.specs.declared.outcome.Crook.TheVariants.{Regress, Unclosed, Overrun, NoopOverrun}
use Rattle.causal_model.specs.Counts.{members}
use Rattle.causal_model.specs.Stability.{last_tag, unstable_operations, unstable_noops, noop_window}
use Rattle.causal_model.specs.Crook.{first_below, tag_of, regress_of, unclosed_at, unclosed_of, overrun_of, noop_overrun_of, crook_of}
use Rattle.causal_model.proofs.Theory.Lists.{each_member, from_each_member}
use Rattle.causal_model.proofs.Theory.Options.{none-find, none-first_some, none-option_map, none_unless, none_where}

-- that a message is not crooked after a history of member me, in parts
pub record IsStraight (n w me : ℕ) (h : List Message) (m : Message) : Type 0 where
  pub risen : (x : ℕ) → x < n → entry (last_tag n h m.origin) x ≤ entry m.tag x
  pub closed : (x y : ℕ) → x < n → y < n → x ≢ m.origin → 0 < entry m.tag x → entry (tag_of n h x (entry m.tag x)) y ≤ entry m.tag y
  pub operations : unstable_operations n me (h ++ m ∷ []) m.origin ≤ w
  pub noops : unstable_noops n me (h ++ m ∷ []) m.origin ≤ noop_window n w

-- ---- each cause is none exactly where its part holds

pub rises : (n : ℕ) (had got : List ℕ) → is_none (first_below n had got) ≡ true → (x : ℕ) → x < n → entry had x ≤ entry got x
rises n had got t x l =
    let stays = each_member (λ y. not (nat_lt (entry got y) (entry had y))) n (sym (none-find (λ y. nat_lt (entry got y) (entry had y)) (members n)) ∙ t) x l in
    ltb-false (entry got x) (entry had x) (not-true (nat_lt (entry got x) (entry had x)) stays)

pub from_rises : (n : ℕ) (had got : List ℕ) → ((x : ℕ) → x < n → entry had x ≤ entry got x) → is_none (first_below n had got) ≡ true
from_rises n had got each =
    none-find (λ y. nat_lt (entry got y) (entry had y)) (members n) ∙ from_each_member (λ y. not (nat_lt (entry got y) (entry had y))) n (λ x l. not_from_false (nat_lt (entry got x) (entry had x)) (le-ltb (entry got x) (entry had x) (each x l)))

module _ (n : ℕ) (h : List Message) (m : Message) where
  regress-none : is_none (regress_of n h m) ≡ is_none (first_below n (last_tag n h m.origin) m.tag)
  regress-none = none-option_map (λ x. Regress x (entry (last_tag n h m.origin) x) (entry m.tag x)) (first_below n (last_tag n h m.origin) m.tag)

  -- a sender's timestamps that don't regress don't fall
  pub risen_from_none : regress_of n h m ≡ None → (x : ℕ) → x < n → entry (last_tag n h m.origin) x ≤ entry m.tag x
  risen_from_none none = rises n (last_tag n h m.origin) m.tag (sym regress-none ∙ ap is_none none)

  unclosed_at-none : (x : ℕ) → is_none (unclosed_at n h m x) ≡ ((x == m.origin) || (entry m.tag x == 0) || is_none (first_below n (tag_of n h x (entry m.tag x)) m.tag))
  unclosed_at-none x =
      let had = tag_of n h x (entry m.tag x) in
      none_unless ((x == m.origin) || (entry m.tag x == 0)) _ ∙ ap (λ b. (x == m.origin) || (entry m.tag x == 0) || b) (none-option_map (λ y. Unclosed x y (entry had y) (entry m.tag y)) (first_below n had m.tag))

  unclosed-none : is_none (unclosed_of n h m) ≡ list_all (λ x. is_none (unclosed_at n h m x)) (members n)
  unclosed-none = none-first_some (map (unclosed_at n h m) (members n)) ∙ list_all-map is_none (unclosed_at n h m) (members n)

  closes : is_none (unclosed_of n h m) ≡ true → (x y : ℕ) → x < n → y < n → x ≢ m.origin → 0 < entry m.tag x → entry (tag_of n h x (entry m.tag x)) y ≤ entry m.tag y
  closes t x y l k ne some =
      let here = sym (unclosed_at-none x) ∙ each_member (λ z. is_none (unclosed_at n h m z)) n (sym unclosed-none ∙ t) x l in
      elim (or_cases ((x == m.origin) || (entry m.tag x == 0)) _ here) [
        | inl none ↦ elim (or_cases (x == m.origin) (entry m.tag x == 0) none) [ inl same ↦ absurd (ne (eqb-true x m.origin same)) | inr zero ↦ absurd (omega (arith, some, eqb-true (entry m.tag x) 0 zero)) ]
        | inr straight ↦ rises n (tag_of n h x (entry m.tag x)) m.tag straight y k
      ]

  from_closes : ((x y : ℕ) → x < n → y < n → x ≢ m.origin → 0 < entry m.tag x → entry (tag_of n h x (entry m.tag x)) y ≤ entry m.tag y) → is_none (unclosed_of n h m) ≡ true
  from_closes each = unclosed-none ∙ from_each_member (λ z. is_none (unclosed_at n h m z)) n (λ x l. unclosed_at-none x ∙ elim (cases_eq x m.origin) [
    | inl same ↦ or_left _ _ (or_left _ _ (eq-eqb x m.origin same))
    | inr ne ↦ elim (cases_eq (entry m.tag x) 0) [
      | inl zero ↦ or_left _ _ (or_right _ _ (eq-eqb (entry m.tag x) 0 zero))
      | inr some ↦ or_right _ _ (from_rises n (tag_of n h x (entry m.tag x)) m.tag (λ y k. each x y l k ne (omega (arith, some))))
    ]
  ])

module _ (n w me : ℕ) (h : List Message) (m : Message) where
  overrun-none : is_none (overrun_of n w me h m) ≡ not (nat_lt w (unstable_operations n me (h ++ m ∷ []) m.origin))
  overrun-none = none_where (nat_lt w (unstable_operations n me (h ++ m ∷ []) m.origin)) (Overrun (unstable_operations n me (h ++ m ∷ []) m.origin))

  noop_overrun-none : is_none (noop_overrun_of n w me h m) ≡ not (nat_lt (noop_window n w) (unstable_noops n me (h ++ m ∷ []) m.origin))
  noop_overrun-none = none_where (nat_lt (noop_window n w) (unstable_noops n me (h ++ m ∷ []) m.origin)) (NoopOverrun (unstable_noops n me (h ++ m ∷ []) m.origin))

  crook-none : is_none (crook_of n w me h m) ≡ (is_none (regress_of n h m) && (is_none (unclosed_of n h m) && (is_none (overrun_of n w me h m) && is_none (noop_overrun_of n w me h m))))
  crook-none =
      none-first_some (regress_of n h m ∷ unclosed_of n h m ∷ overrun_of n w me h m ∷ noop_overrun_of n w me h m ∷ [])
      ∙ ap (λ b. is_none (regress_of n h m) && (is_none (unclosed_of n h m) && (is_none (overrun_of n w me h m) && b))) (and-true (is_none (noop_overrun_of n w me h m)))

  pub IsStraight-from_none : is_none (crook_of n w me h m) ≡ true → IsStraight n w me h m
  IsStraight-from_none t =
      let first = and_parts _ _ (sym crook-none ∙ t) in
      let second = and_parts _ _ first.1 in
      let third = and_parts _ _ second.1 in
      record {
        risen = rises n (last_tag n h m.origin) m.tag (sym (regress-none n h m) ∙ first.0);
        closed = closes n h m second.0;
        operations = ltb-false w _ (not-true _ (sym overrun-none ∙ third.0));
        noops = ltb-false (noop_window n w) _ (not-true _ (sym noop_overrun-none ∙ third.1));
      }

  pub none-from_IsStraight : IsStraight n w me h m → is_none (crook_of n w me h m) ≡ true
  none-from_IsStraight s =
      let windows = and_from _ _ (overrun-none ∙ not_from_false _ (le-ltb w _ s.operations)) (noop_overrun-none ∙ not_from_false _ (le-ltb (noop_window n w) _ s.noops)) in
      let tags = and_from _ _ (from_closes n h m s.closed) windows in
      crook-none ∙ and_from _ _ (regress-none n h m ∙ from_rises n (last_tag n h m.origin) m.tag s.risen) tags
