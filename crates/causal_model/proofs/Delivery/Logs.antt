-- What one message more leaves of the outbox, of what is uncovered and logged; and how long a log is.
use Rattle.std.proofs.Common.{◌≡◌, ℕ, ◌+◌, ◌*◌, ◌<◌, ◌≤◌, Bool, true, false, not, ◌&&◌, ◌||◌, ◌==◌, nat_lt, cond, All, IsTrue, List, [], ◌∷◌, ◌++◌, length, zero, suc, refl, sym, ap, ◌∙◌, inl, inr, if◌then◌else◌, arith}
use mathlib.Core.Bool.{and-true, and_assoc}
use Rattle.std.specs.List.{filter, count_by, list_any}
use Rattle.std.proofs.lemmas.Bool.{and_parts, and_from, and_left, and_right, or_left, or_right, or_cases, cases_eq, eq-eqb, le-ltb, lt-ltb, lt-leb, ltb-true, not_from_true, cond-true, cond-false, false≢true}
use Rattle.std.proofs.lemmas.List.Elements.{All-head, All-tail, All-weaker, filter-append}
use Rattle.std.proofs.lemmas.List.Folds.{list_any-append, list_any_none}
use Rattle.std.proofs.lemmas.List.Sums.{length-filter, sum_by-cons}
use Rattle.op_base.specs.Timestamp.{entry}
use Rattle.op_base.specs.Message.{number}
use Rattle.op_base.specs.declared.message.Message.{Message}
use Rattle.op_base.specs.declared.operation.Update.{Update}
use Rattle.op_base.specs.declared.operation.Op.{Op}
use Rattle.op_base.specs.declared.operation.Op.TheVariants as op
use Rattle.causal_model.specs.Counts.{count_of}
use Rattle.causal_model.specs.Chapter.{is_chapter}
use Rattle.causal_model.specs.Log.{is_kept, is_covered_by, is_uncovered, kept_log}
use Rattle.causal_model.specs.Order.{happened_before}
use Rattle.causal_model.specs.Sending.{outbox_of}
use Rattle.causal_model.specs.Stability.{stable_vector, is_stable, carries_operation, unstable_operations}
use Rattle.causal_model.proofs.Theory.Lists.{filter-filter, count_by-le-count_by}
use Rattle.causal_model.proofs.Delivery.Orders.{never_before_itself}
use Rattle.causal_model.proofs.Delivery.Settling.{last_is_next, origins_are_members, few_are_unstable}
use Rattle.causal_model.proofs.Delivery.Stability.{stable_stays}
use Rattle.causal_model.proofs.Delivery.Timestamps.{tags_are_counted}
use Rattle.causal_model.proofs.Delivery.Windows.{unstable_of-filter, unstable-count}

-- ---- what is uncovered

pub either_fails : (a b : Bool) → not (a || (b || false)) ≡ (not a && not b)
either_fails true b = refl
either_fails false true = refl
either_fails false false = refl

pub is_uncovered-push : (covers : Update → Update → Bool) (h : List Message) (m e : Message) → is_uncovered covers (h ++ m ∷ []) e ≡ (is_uncovered covers h e && not (is_covered_by covers e.op m.op && happened_before e m))
is_uncovered-push covers h m e =
    let covered : Message → Bool = λ later. is_covered_by covers e.op later.op && happened_before e later in
    ap not (list_any-append covered h (m ∷ [])) ∙ either_fails (list_any covered h) (covered m)

-- a number above the counts is above what each message has seen
pub never_before_counted : (h : List Message) (m e : Message) → count_of h m.origin < number m → ((x : ℕ) → entry e.tag x ≤ count_of h x) → happened_before m e ≡ false
never_before_counted h m e above counted = and_right _ _ (lt-leb (number m) (entry e.tag m.origin) (omega (arith, above, counted m.origin)))

-- the new message neither happened before one of the history nor before itself
pub last_is_uncovered : (covers : Update → Update → Bool) (n w me : ℕ) (h : List Message) (m : Message) → IsTrue (is_chapter n w me (h ++ m ∷ [])) → is_uncovered covers (h ++ m ∷ []) m ≡ true
last_is_uncovered covers n w me h m t =
    let parts = last_is_next n w me h m t in
    let covered : Message → Bool = λ later. is_covered_by covers m.op later.op && happened_before m later in
    let above : count_of h m.origin < number m = omega (arith, parts.1.counted) in
    let each = All-weaker (λ e. (x : ℕ) → entry e.tag x ≤ count_of h x) (λ e. covered e ≡ false) (λ e counted. and_right _ _ (never_before_counted h m e above counted)) h (tags_are_counted n w me h parts.0) in
    is_uncovered-push covers h m m ∙ and_from _ _ (ap not (list_any_none covered h each)) (ap not (and_right _ _ (never_before_itself m)))

-- ---- the outbox and the log

filter_agree_on : {X : Type 0} (p q : X → Bool) (xs : List X) → All (λ x. p x ≡ q x) xs → filter p xs ≡ filter q xs
filter_agree_on p q [] each = refl
filter_agree_on p q (x ∷ xs) each =
    ap (λ b. cond b (x ∷ filter p xs) (filter p xs)) (All-head (λ y. p y ≡ q y) x xs each) ∙ ap (λ ys. cond (q x) (x ∷ ys) ys) (filter_agree_on p q xs (All-tail (λ y. p y ≡ q y) x xs each))

-- what is kept with one item more: of what was kept and of the item, what stays
pub kept-push : {X : Type 0} (now was stays : X → Bool) (takes : Bool) (xs : List X) (x : X) → All (λ y. now y ≡ (was y && stays y)) xs → now x ≡ (takes && stays x)
    → filter now (xs ++ x ∷ []) ≡ filter stays (filter was xs ++ (if takes then x ∷ [] else []))
kept-push now was stays takes xs x each last =
    filter-append now xs (x ∷ []) ∙ ap (λ ys. ys ++ filter now (x ∷ [])) (filter_agree_on now (λ y. was y && stays y) xs each ∙ sym (filter-filter was stays xs))
    ∙ ap (λ ys. filter stays (filter was xs) ++ ys) (ap (λ b. cond b (x ∷ []) []) last ∙ one takes)
    ∙ sym (filter-append stays (filter was xs) (if takes then x ∷ [] else [])) where
      one : (b : Bool) → cond (b && stays x) (x ∷ []) [] ≡ filter stays (cond b (x ∷ []) [])
      one true = refl
      one false = refl

-- with one message more, what is stable stays stable
stables_stay : (n w me : ℕ) (h : List Message) (m : Message) → IsTrue (is_chapter n w me (h ++ m ∷ [])) → All (λ e. is_stable (stable_vector n me h) e ≡ true → is_stable (stable_vector n me (h ++ m ∷ [])) e ≡ true) h
stables_stay n w me h m t =
    let parts = last_is_next n w me h m t in
    All-weaker (λ e. e.origin < n) (λ e. is_stable (stable_vector n me h) e ≡ true → is_stable (stable_vector n me (h ++ m ∷ [])) e ≡ true) (stable_stays n me h m parts.1.straight.risen) h (origins_are_members n w me h parts.0)

still_sent : (a s t : Bool) → (s ≡ true → t ≡ true) → (a && not t) ≡ ((a && not s) && not t)
still_sent false s t h = refl
still_sent true false t h = refl
still_sent true true t h = not_from_true t (h refl)

pub outbox_of-push : (n w me : ℕ) (h : List Message) (m : Message) → me < n → IsTrue (is_chapter n w me (h ++ m ∷ []))
    → outbox_of n me (h ++ m ∷ [])
    ≡ filter (λ e. not (is_stable (stable_vector n me (h ++ m ∷ [])) e)) (outbox_of n me h ++ (if m.origin == me then m ∷ [] else []))
outbox_of-push n w me h m l t =
    let was : Message → Bool = λ e. (e.origin == me) && not (is_stable (stable_vector n me h) e) in
    let stays : Message → Bool = λ e. not (is_stable (stable_vector n me (h ++ m ∷ [])) e) in
    let now : Message → Bool = λ e. (e.origin == me) && stays e in
    let each = All-weaker (λ e. is_stable (stable_vector n me h) e ≡ true → is_stable (stable_vector n me (h ++ m ∷ [])) e ≡ true) (λ e. now e ≡ (was e && stays e)) (λ e. still_sent (e.origin == me) (is_stable (stable_vector n me h) e) (is_stable (stable_vector n me (h ++ m ∷ [])) e)) h (stables_stay n w me h m t) in
    unstable_of-filter n me (h ++ m ∷ []) me ∙ kept-push now was stays (m.origin == me) h m each refl ∙ ap (λ ms. filter stays (ms ++ (if m.origin == me then m ∷ [] else []))) (sym (unstable_of-filter n me h me))

still_logged : (k u c s t : Bool) → (s ≡ true → t ≡ true) → (k && (u && not c) && not t) ≡ (((k && u && not s) && not c) && not t)
still_logged false u c s t h = refl
still_logged true false c s t h = refl
still_logged true true c false t h = refl
still_logged true true c true t h = and_right (not c) (not t) (not_from_true t (h refl))

pub kept_log-push : (keeps : Update → Bool) (covers : Update → Update → Bool) (n w me : ℕ) (h : List Message) (m : Message) → IsTrue (is_chapter n w me (h ++ m ∷ []))
    → kept_log keeps covers n me (h ++ m ∷ [])
    ≡ filter (λ e. not (is_stable (stable_vector n me (h ++ m ∷ [])) e))
    (filter (λ e. not (is_covered_by covers e.op m.op && happened_before e m)) (kept_log keeps covers n me h)
    ++ (if is_kept keeps m.op then m ∷ [] else []))
kept_log-push keeps covers n w me h m t =
    let was : Message → Bool = λ e. is_kept keeps e.op && is_uncovered covers h e && not (is_stable (stable_vector n me h) e) in
    let bare : Message → Bool = λ e. not (is_covered_by covers e.op m.op && happened_before e m) in
    let stays : Message → Bool = λ e. not (is_stable (stable_vector n me (h ++ m ∷ [])) e) in
    let now : Message → Bool = λ e. is_kept keeps e.op && is_uncovered covers (h ++ m ∷ []) e && stays e in
    let each = All-weaker (λ e. is_stable (stable_vector n me h) e ≡ true → is_stable (stable_vector n me (h ++ m ∷ [])) e ≡ true) (λ e. now e ≡ ((was e && bare e) && stays e)) (λ e stable. ap (λ b. is_kept keeps e.op && b && stays e) (is_uncovered-push covers h m e) ∙ still_logged (is_kept keeps e.op) (is_uncovered covers h e) (is_covered_by covers e.op m.op && happened_before e m) (is_stable (stable_vector n me h) e) (is_stable (stable_vector n me (h ++ m ∷ [])) e) stable) h (stables_stay n w me h m t) in
    let last : now m ≡ (is_kept keeps m.op && stays m) = rw (last_is_uncovered covers n w me h m t) (ap (λ b. b && stays m) (and-true (is_kept keeps m.op))) in
    kept-push now (λ e. was e && bare e) stays (is_kept keeps m.op) h m each last ∙ ap (λ ms. filter stays (ms ++ (if is_kept keeps m.op then m ∷ [] else []))) (sym (filter-filter was bare h))

-- ---- how long a log is

-- of what passes a test, each passes one of two others
pub count_by-either : {X : Type 0} (p q r : X → Bool) (xs : List X) → ((x : X) → p x ≡ true → (q x || r x) ≡ true) → count_by p xs ≤ count_by q xs + count_by r xs
count_by-either p q r [] h = omega arith
count_by-either p q r (x ∷ xs) h =
    omega (arith, sum_by-cons (λ y. cond (p y) 1 0) x xs, sum_by-cons (λ y. cond (q y) 1 0) x xs, sum_by-cons (λ y. cond (r y) 1 0) x xs, one (p x) (q x) (r x) (h x), count_by-either p q r xs h) where
      one : (a b c : Bool) → (a ≡ true → (b || c) ≡ true) → cond a 1 0 ≤ cond b 1 0 + cond c 1 0
      one false b c f = omega arith
      one true b c f = elim (or_cases b c (f refl)) [ inl e ↦ omega (arith, cond-true {A = ℕ} b 1 0 e) | inr e ↦ omega (arith, cond-true {A = ℕ} c 1 0 e) ]

count_by_none : {X : Type 0} (p : X → Bool) (xs : List X) → ((x : X) → p x ≡ false) → count_by p xs ≡ 0
count_by_none p [] h = refl
count_by_none p (x ∷ xs) h = omega (arith, sum_by-cons (λ y. cond (p y) 1 0) x xs, cond-false {A = ℕ} (p x) 1 0 (h x), count_by_none p xs h)

below_or_at : (k n : ℕ) (b : Bool) → (nat_lt k (suc n) && b) ≡ true → ((nat_lt k n && b) || ((k == n) && b)) ≡ true
below_or_at k n b t =
    let both = and_parts (nat_lt k (suc n)) b t in
    elim (cases_eq k n) [
      | inl e ↦ or_right _ _ (and_from (k == n) b (eq-eqb k n e) both.1)
      | inr ne ↦ or_left _ _ (and_from (nat_lt k n) b (lt-ltb k n (omega (arith, ltb-true k (suc n) both.0, ne))) both.1)
    ]

-- where at most w of each kind pass a test, at most n times w of the first n kinds do
pub count_by-le-product : {X : Type 0} (kind : X → ℕ) (p : X → Bool) (w : ℕ) (xs : List X) → ((k : ℕ) → count_by (λ x. (kind x == k) && p x) xs ≤ w) → (n : ℕ) → count_by (λ x. nat_lt (kind x) n && p x) xs ≤ n * w
count_by-le-product kind p w xs each zero = omega (arith, count_by_none (λ x. nat_lt (kind x) 0 && p x) xs (λ x. and_left _ _ (le-ltb (kind x) 0 (omega arith))))
count_by-le-product kind p w xs each (suc n) =
    omega (arith, count_by-either (λ x. nat_lt (kind x) (suc n) && p x) (λ x. nat_lt (kind x) n && p x) (λ x. (kind x == n) && p x) xs (λ x. below_or_at (kind x) n (p x)), each n, count_by-le-product kind p w xs each n)

pub is_operation : (keeps : Update → Bool) (o : Op) → is_kept keeps o ≡ true → carries_operation o ≡ true
is_operation keeps op.NoOp t = t
is_operation keeps (op.Update u) t = refl

logged_is_unstable : (l k u s c : Bool) → (k ≡ true → c ≡ true) → (l && (k && u && s)) ≡ true → (l && (s && c)) ≡ true
logged_is_unstable true true u s c h t = and_from s c (and_parts u s t).1 (h refl)
logged_is_unstable true false u s c h t = absurd (false≢true t)
logged_is_unstable false k u s c h t = t

-- the log has unstable operations alone, and each of them is a member's
pub log_is_bounded : (keeps : Update → Bool) (covers : Update → Update → Bool) (n w me : ℕ) (h : List Message) → IsTrue (is_chapter n w me h) → length (kept_log keeps covers n me h) ≤ n * w
log_is_bounded keeps covers n w me h t =
    let unstable : Message → Bool = λ e. not (is_stable (stable_vector n me h) e) && carries_operation e.op in
    let kept : Message → Bool = λ e. is_kept keeps e.op && is_uncovered covers h e && not (is_stable (stable_vector n me h) e) in
    let member : Message → Bool = λ e. nat_lt e.origin n in
    let each = All-weaker (λ e. e.origin < n) (λ e. kept e ≡ (member e && kept e)) (λ e l. sym (ap (λ b. b && kept e) (lt-ltb e.origin n l))) h (origins_are_members n w me h t) in
    let long = ap length (filter_agree_on kept (λ e. member e && kept e) h each) ∙ length-filter (λ e. member e && kept e) h in
    let fewer = count_by-le-count_by (λ e. member e && kept e) (λ e. member e && unstable e) h (λ e. logged_is_unstable (member e) (is_kept keeps e.op) (is_uncovered covers h e) (not (is_stable (stable_vector n me h) e)) (carries_operation e.op) (is_operation keeps e.op)) in
    let counted : (x : ℕ) → unstable_operations n me h x ≡ count_by (λ e. (e.origin == x) && unstable e) h = λ x. unstable-count (λ e. carries_operation e.op) n me h x ∙ (λ i. count_by (λ e. and_assoc (e.origin == x) (not (is_stable (stable_vector n me h) e)) (carries_operation e.op) i) h) in
    omega (arith, long, fewer, count_by-le-product (λ e. e.origin) unstable w h (λ x. omega (arith, counted x, (few_are_unstable n w me x h t).0)) n)
