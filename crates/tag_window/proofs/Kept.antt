-- With a message and without what is stable then, a window of the messages before is one of the messages with it.
use Rattle.std.proofs.Common.{◌≡◌, ◌≢◌, ℕ, ◌<◌, All, Bool, true, false, not, ◌&&◌, ◌==◌, cond, nat_le, nat_lt, IsTrue, Option, Some, None, List, [], ◌∷◌, ◌++◌, length, map, set, refl, sym, ap, subst, ◌∙◌, inl, inr, append-nil, arith}
use mathlib.Core.Bool.{and_comm}
use Rattle.std.specs.Prelude.{is_none}
use Rattle.std.specs.List.{filter}
use Rattle.std.proofs.lemmas.Bool.{and_parts, cases_eq, cases_lt, cond-true, cond-false, eqb-true, eq-eqb, ne_eqb, le-leb, lt-leb, lt-ltb, le-ltb, false≢true}
use Rattle.std.proofs.lemmas.List.{map-append, get_or-set_same, get_or-set_other, length-set}
use Rattle.std.proofs.lemmas.List.Elements.{All-head, All-tail, All-weaker, filter-append, filter_passes}
use Rattle.op_base.specs.Message.{number, fits}
use Rattle.op_base.specs.Timestamp.{entry}
use Rattle.op_base.specs.declared.message.Message.{Message}
use Rattle.causal_model.specs.Chapter.{is_chapter, is_next, is_admissible}
use Rattle.causal_model.specs.Counts.{counts, is_deliverable}
use Rattle.causal_model.specs.Crook.{first_some, regress_of, unclosed_of, overrun_of, noop_overrun_of, crook_of}
use Rattle.causal_model.specs.Stability.{stable_vector, is_stable, unstable_messages, unstable_of}
use Rattle.causal_model.proofs.Delivery.Chapters.{is_chapter-push}
use Rattle.causal_model.proofs.Theory.Lists.{filter-filter}
use Rattle.causal_model.proofs.Delivery.Unclosed.{unstable_messages-push}
use Rattle.tag_window.specs.declared.held.Held.{Held}
use Rattle.tag_window.specs.Window.{Window, held_of}
use Rattle.tag_window.specs.History.{held_message, IsWindowOf, IsWindowWith}

-- ---- a message comes

module _ (n w me : ℕ) (ms : List Message) (m : Message) (old new : Window) (x : ℕ) (h : Held) (l : x < length old.held) (is : new ≡ record old { held = set old.held x (held_of old x ++ h ∷ []) }) (origin : m.origin ≡ x) (same : held_message m ≡ h) (of : IsWindowOf n w me ms old) where
  own : ℕ → Message → Bool
  own y e = e.origin == y

  at_sender : held_of new x ≡ map held_message (filter (λ e. e.origin == x) (unstable_messages n me ms ++ m ∷ []))
  unfolding own
  at_sender =
      let before = filter (own x) (unstable_messages n me ms) in
      let last : filter (own x) (m ∷ []) ≡ m ∷ [] = cond-true (own x m) (m ∷ []) [] (eq-eqb m.origin x origin) in
      ap (λ (v : Window). held_of v x) is ∙ get_or-set_same old.held x (held_of old x ++ h ∷ []) [] l ∙ ap (λ hs. hs ++ h ∷ []) (of.holds x (omega (arith, l, of.entries))) ∙ ap (λ (e : Held). map held_message before ++ e ∷ []) (sym same)
      ∙ sym (map-append held_message before (m ∷ [])) ∙ ap (map held_message) (ap (λ es. before ++ es) (sym last) ∙ sym (filter-append (own x) (unstable_messages n me ms) (m ∷ [])))

  at_other : (y : ℕ) → y < n → y ≢ x → held_of new y ≡ map held_message (filter (λ e. e.origin == y) (unstable_messages n me ms ++ m ∷ []))
  unfolding own
  at_other y k ne =
      let before = filter (own y) (unstable_messages n me ms) in
      let last : filter (own y) (m ∷ []) ≡ [] = cond-false (own y m) (m ∷ []) [] (ne_eqb m.origin y (λ e. ne (sym e ∙ origin))) in
      ap (λ (v : Window). held_of v y) is ∙ get_or-set_other old.held x y (held_of old x ++ h ∷ []) [] ne ∙ of.holds y k
      ∙ ap (map held_message) (sym (filter-append (own y) (unstable_messages n me ms) (m ∷ []) ∙ ap (λ es. before ++ es) last ∙ append-nil before))

  -- it stands at the end of what is held of its sender
  pub with_message : IsWindowWith n w me ms m new
  with_message = record {
    entries = ap (λ (v : Window). length v.held) is ∙ length-set old.held x (held_of old x ++ h ∷ []) ∙ of.entries;
    bound = ap (λ (v : Window). v.w) is ∙ of.bound;
    holds = λ y k. elim (cases_eq y x) [
      | inl e ↦ subst (λ z. held_of new z ≡ map held_message (filter (λ e. e.origin == z) (unstable_messages n me ms ++ m ∷ []))) (sym e) at_sender
      | inr ne ↦ at_other y k ne
    ];
  }

-- ---- what is stable goes

nat_lt-not : (a b : ℕ) → nat_lt a b ≡ not (nat_le b a)
nat_lt-not a b = elim (cases_lt a b) [
  | inl l ↦ lt-ltb a b l ∙ sym (ap not (lt-leb b a l))
  | inr l ↦ le-ltb a b l ∙ sym (ap not (le-leb b a l))
]

filter-map : {X Y : Type 0} (f : X → Y) (p : Y → Bool) (q : X → Bool) (xs : List X) → All (λ x. p (f x) ≡ q x) xs → filter p (map f xs) ≡ map f (filter q xs)
filter-map f p q [] each = refl
filter-map f p q (x ∷ xs) each =
    let rest = filter-map f p q xs (All-tail (λ y. p (f y) ≡ q y) x xs each) in
    let either : (b : Bool) → cond b (f x ∷ map f (filter q xs)) (map f (filter q xs)) ≡ map f (cond b (x ∷ filter q xs) (filter q xs)) = λ b. elim b as (λ c. cond c (f x ∷ map f (filter q xs)) (map f (filter q xs)) ≡ map f (cond c (x ∷ filter q xs) (filter q xs))) [ true ↦ refl | false ↦ refl ] in
    ap (λ ys. cond (p (f x)) (f x ∷ ys) ys) rest ∙ ap (λ b. cond b (f x ∷ map f (filter q xs)) (map f (filter q xs))) (All-head (λ y. p (f y) ≡ q y) x xs each) ∙ either (q x)

first_none : {X : Type 0} (o : Option X) (others : List (Option X)) → is_none (first_some (o ∷ others)) ≡ true → o ≡ None
first_none None others t = refl
first_none (Some x) others t = absurd (false≢true t)

-- what of the messages of a member and of one more isn't stable after it
pub unstable_after : (n w me x : ℕ) (ms : List Message) (m : Message) → me < n → IsTrue (is_chapter n w me (ms ++ m ∷ []))
    → filter (λ h. nat_lt (entry (stable_vector n me (ms ++ m ∷ [])) x) (entry h.tag x)) (map held_message (filter (λ e. e.origin == x) (unstable_messages n me ms ++ m ∷ [])))
    ≡ map held_message (unstable_of n me (ms ++ m ∷ []) x)
unstable_after n w me x ms m l t =
    let parts = and_parts (is_chapter n w me ms) (is_next n w me ms m) (sym (is_chapter-push n w me ms m) ∙ t) in
    let both = and_parts (fits n m) (is_admissible n w me ms m) (and_parts (fits n m && is_admissible n w me ms m) _ parts.1).0 in
    let admitted = and_parts (is_deliverable n (counts n ms) m) (is_none (crook_of n w me ms m)) both.1 in
    let none : regress_of n ms m ≡ None = first_none (regress_of n ms m) (unclosed_of n ms m ∷ overrun_of n w me ms m ∷ noop_overrun_of n w me ms m ∷ []) admitted.1 in
    let stable = stable_vector n me (ms ++ m ∷ []) in
    let all = unstable_messages n me ms ++ m ∷ [] in
    let own : Message → Bool = λ e. e.origin == x in
    let now : Message → Bool = λ e. not (is_stable stable e) in
    let alike = All-weaker (λ e. own e ≡ true) (λ e. nat_lt (entry stable x) (entry e.tag x) ≡ now e) (λ e o. (λ i. nat_lt (entry stable (sym (eqb-true e.origin x o) i)) (entry e.tag (sym (eqb-true e.origin x o) i))) ∙ nat_lt-not (entry stable e.origin) (number e)) (filter own all) (filter_passes own all) in
    filter-map held_message (λ h. nat_lt (entry stable x) (entry h.tag x)) now (filter own all) alike
    ∙ ap (map held_message) (filter-filter own now all ∙ (λ i. filter (λ e. and_comm (own e) (now e) i) all) ∙ sym (filter-filter now own all) ∙ ap (filter own) (sym (unstable_messages-push n w me ms m l parts.0 both.0 admitted.0 none)))

-- so a window that let go of that is the history's with the message
pub without_stable : (n w me : ℕ) (ms : List Message) (m : Message) (old new : Window) (stable : List ℕ) → me < n → IsTrue (is_chapter n w me (ms ++ m ∷ [])) → stable ≡ stable_vector n me (ms ++ m ∷ [])
    → new.w ≡ old.w → length new.held ≡ length old.held → ((x : ℕ) → x < length old.held → held_of new x ≡ filter (λ h. nat_lt (entry stable x) (entry h.tag x)) (held_of old x))
    → IsWindowWith n w me ms m old → IsWindowOf n w me (ms ++ m ∷ []) new
without_stable n w me ms m old new stable l t is bound entries held with = record {
  entries = entries ∙ with.entries;
  bound = bound ∙ with.bound;
  holds = λ x k. held x (omega (arith, k, with.entries)) ∙ (λ i. filter (λ h. nat_lt (entry (is i) x) (entry h.tag x)) (with.holds x k i)) ∙ unstable_after n w me x ms m l t;
}
