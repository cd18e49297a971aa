-- Chapters of all members that share their messages: each message stands in the chapter of its origin. So they agree.
use Rattle.std.proofs.Common.{◌≡◌, ℕ, ◌<◌, All, false, ◌==◌, cond, Contains, IsTrue, List, [], ◌∷◌, ◌++◌, get_or, sym, ap, subst, ◌∙◌, inl, inr, append_assoc, arith}
use Rattle.std.proofs.lemmas.Bool.{and_parts, and_from, cases_eq, cases_lt, eq-eqb, both_ways}
use Rattle.std.proofs.lemmas.List.{get_or_default}
use Rattle.std.proofs.lemmas.List.Elements.{All-contains, All-nil, All-push}
use Rattle.std.proofs.lemmas.List.Sums.{sum_by-append}
use Rattle.op_base.specs.Message.{number}
use Rattle.op_base.specs.declared.message.Message.{Message}
use Rattle.causal_model.specs.Chapter.{is_chapter, follows}
use Rattle.causal_model.specs.Counts.{count_of, counts}
use Rattle.causal_model.specs.Order.{same_id}
use Rattle.causal_model.proofs.Delivery.Apart.{ids_are_apart}
use Rattle.causal_model.proofs.Delivery.Chapters.{IsNext, follows-append}
use Rattle.causal_model.proofs.Delivery.Counts.{entry-counts}
use Rattle.causal_model.proofs.States.Early.{IsDeliverable}
use Rattle.causal_model.proofs.Theory.Lists.{induction_at_end}
use Rattle.causal_model.proofs.Delivery.Orders.{each_fits}
use Rattle.causal_model.proofs.Delivery.Settling.{last_is_next}
use Rattle.honest_worlds.proofs.Agreeing.{Agree}

-- ---- fronts of a chapter

pub front_is_chapter : (n w me : ℕ) (g h : List Message) → IsTrue (is_chapter n w me (g ++ h)) → IsTrue (is_chapter n w me g)
front_is_chapter n w me g h t = (and_parts (is_chapter n w me g) (follows n w me g h) (sym (follows-append n w me [] g h) ∙ t)).0

-- what comes later is numbered above what was counted
pub later_is_above : (n w me : ℕ) (g h : List Message) → IsTrue (is_chapter n w me (g ++ h)) → All (λ e. count_of g e.origin < number e) h
later_is_above n w me g = induction_at_end (λ h. IsTrue (is_chapter n w me (g ++ h)) → All (λ e. count_of g e.origin < number e) h) (λ _. All-nil (λ e. count_of g e.origin < number e)) (λ h m ih t.
    let parts = last_is_next n w me (g ++ h) m (subst (λ ms. IsTrue (is_chapter n w me ms)) (sym (append_assoc g h (m ∷ []))) t) in
    All-push (λ e. count_of g e.origin < number e) h m (ih parts.0) (omega (arith, parts.1.counted, sum_by-append (λ y. cond (y.origin == m.origin) 1 0) g h)))

pub deliverable_from_next : (n w me : ℕ) (h : List Message) (m : Message) → IsNext n w me h m → IsDeliverable n (counts n h) m
deliverable_from_next n w me h m next = record {
  next = omega (arith, next.counted, entry-counts n h m.origin next.member);
  seen = λ x l ne. omega (arith, next.seen x l ne, entry-counts n h x l);
}

-- ---- chapters of all members that share their messages

-- what each member delivered is a chapter, and each message stands in that of its origin
pub record AreShared (n w : ℕ) (P : ℕ → List Message) : Type 0 where
  pub chapter : (r : ℕ) → r < n → IsTrue (is_chapter n w r (P r))
  pub shared : (r : ℕ) → r < n → All (λ m. Contains (P m.origin) m) (P r)

-- two messages of one id in a chapter are one
pub one_of_id : (n w me : ℕ) (h : List Message) (a b : Message) → IsTrue (is_chapter n w me h) → Contains h a → Contains h b → a.origin ≡ b.origin → number a ≡ number b → a ≡ b
one_of_id n w me h a b t has_a has_b eo en =
    let apart = ids_are_apart n w me h t in
    let Apart : Message → Message → Type 0 = λ x y. same_id x y ≡ false in
    let same = and_from (a.origin == b.origin) (number a == number b) (eq-eqb a.origin b.origin eo) (eq-eqb (number a) (number b) en) in
    let back = and_from (b.origin == a.origin) (number b == number a) (eq-eqb b.origin a.origin (sym eo)) (eq-eqb (number b) (number a) (sym en)) in
    let at_b = get_or_default h has_b.0 b a has_b.1 in
    elim (cases_eq has_a.0 has_b.0) [
      | inl here ↦ sym has_a.2 ∙ ap (λ k. get_or h k a) here ∙ sym at_b ∙ has_b.2
      | inr ne ↦ elim (cases_lt has_a.0 has_b.0) [
        | inl before ↦ absurd (both_ways (same_id a b) (subst (λ y. Apart a y) (sym at_b ∙ has_b.2) (subst (λ x. Apart x (get_or h has_b.0 a)) has_a.2 (apart has_a.0 has_b.0 a before has_b.1))) same)
        | inr after ↦ absurd (both_ways (same_id b a) (subst (λ y. Apart y a) (sym at_b ∙ has_b.2) (subst (λ x. Apart (get_or h has_b.0 a) x) has_a.2 (apart has_b.0 has_a.0 a (omega (arith, after, ne)) has_a.1))) back)
      ]
    ]

module _ (n w : ℕ) (P : ℕ → List Message) (are : AreShared n w P) where
  pub fits_of : (r : ℕ) (e : Message) → r < n → Contains (P r) e → (e.origin < n) × (0 < number e)
  fits_of r e l has = All-contains (λ z. (z.origin < n) × (0 < number z)) (P r) e (each_fits n w r (P r) (are.chapter r l)) has

  pub at_origin : (r : ℕ) (e : Message) → r < n → Contains (P r) e → Contains (P e.origin) e
  at_origin r e l has = All-contains (λ m. Contains (P m.origin) m) (P r) e (are.shared r l) has

  pub chapters_agree : (r q : ℕ) → r < n → q < n → Agree (P r) (P q)
  chapters_agree r q l k a b has_a has_b eo en =
      one_of_id n w a.origin (P a.origin) a b (are.chapter a.origin (fits_of r a l has_a).0) (at_origin r a l has_a) (subst (λ x. Contains (P x) b) (sym eo) (at_origin q b k has_b)) eo en

-- parts of lists that agree do
pub parts_agree : (g h a b : List Message) → ((e : Message) → Contains a e → Contains g e) → ((e : Message) → Contains b e → Contains h e) → Agree g h → Agree a b
parts_agree g h a b in_g in_h agree x y has_x has_y = agree x y (in_g x has_x) (in_h y has_y)
