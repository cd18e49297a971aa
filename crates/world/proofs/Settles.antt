-- The parts of settling, one after the other.
use Rattle.std.proofs.Common.{◌≡◌, ℕ, zero, suc, ◌+◌, ◌-◌, ◌*◌, ◌<◌, ◌≤◌, ◌≢◌, ◌==◌, ◌&&◌, ◌||◌, not, nat_eq, replicate, Bool, true, false, List, [], ◌∷◌, ◌++◌, Result, Ok, Err, fold, length, map, refl, sym, ap, subst, ◌∙◌, inl, inr, add-one, add-zero, zero-add, arith}
use Rattle.std.specs.List.{range_with_len, list_any}
use Rattle.std.proofs.Math.Logic.{∥∥₁_elim}
use Rattle.std.proofs.Math.Bridge.{le_prop}
use Rattle.std.proofs.Math.Nat.{mul-le-mul_right}
use Rattle.std.proofs.lemmas.Bool.{cond-true, cond-false, cases_eq, eq-eqb, eqb-true, false_from_ne_true}
use Rattle.std.specs.Cmp.Lexicographic.{pointwise, bytes_decides}
use Rattle.std.proofs.lemmas.List.Sums.{fold-append}
use Rattle.op_base.specs.declared.memory.NoMemory.{NoMemory}
use Rattle.op_base.specs.declared.outcome.Step.{Step}
use Rattle.causal_model.specs.Counts.{members}
use Rattle.world_model.specs.World.{PlainWorld, size_of}
use Rattle.world_model.specs.Settling.{Round, is_delivery, with_offered, after_offers, after_beat, after_offer, offers_made, round_of, rounds_within, most_rounds, world_settled, is_quiescent}
use Rattle.world_model.specs.Offering.{offered_between, resend_at}
use Rattle.world_model.specs.Showing.{seen_at}
use Rattle.world_model.proofs.Shown.{settled_is_equal_counts}
use Rattle.world.specs.Answers.{ShowsPlain}
use Rattle.world.specs.Midst.{offered_first, IsAmongOffers, IsInSettling, rounds_made}
use Rattle.world.specs.Shows.{NotedNode}
use Rattle.world.specs.declared.world.World.{World}
use Rattle.world.proofs.Nodes.{size_shown, limit_shown, StandsAt}
use Rattle.world.specs.Settles.{round_at, beats_made, StandsIn, StopsIn, LeadsTo, IsBetween, IsAmongOffersTo, IsAmongBeatsOf, IsInRound, AreMade}

-- ---- a walk over the members

range_more : (a n : ℕ) → range_with_len a (suc n) ≡ range_with_len a n ++ (a + n) ∷ []
range_more a zero = ap (λ (x : ℕ). x ∷ []) (sym (add-zero a))
range_more a (suc n) = ap (λ xs. a ∷ xs) (range_more (a + 1) n ∙ ap (λ (x : ℕ). range_with_len (a + 1) n ++ x ∷ []) (omega arith))

fold_more : {B : Type 0} (f : B → ℕ → B) (b : B) (n : ℕ) → fold f b (members (n + 1)) ≡ f (fold f b (members n)) n
fold_more f b n =
    ap (λ k. fold f b (members k)) (add-one n) ∙ ap (λ xs. fold f b xs) (range_more 0 n) ∙ fold-append f b (members n) ((0 + n) ∷ []) ∙ ap (f (fold f b (members n))) (zero-add n)

-- a walk that has come to a member goes on by one
pub one_more : (f : Round → ℕ → Round) (round : Round) (k : ℕ) (before after : Bool) (Shows Leaves : PlainWorld → Type 0)
    → StandsIn (fold f round (members k)) before Shows → ((plain : PlainWorld) → Shows plain → StandsIn (f (round_at plain before) k) after Leaves) → StandsIn (fold f round (members (k + 1))) after Leaves
one_more f round k before after Shows Leaves here step =
    let r = fold f round (members k) in
    subst (λ x. StandsIn x after Leaves) (sym (fold_more f round k)) (subst (λ b. StandsIn (f (round_at r.world b) k) after Leaves) here.moved_is (step r.world here.shows))

-- it has come to all members
pub over_all : (f : Round → ℕ → Round) (round : Round) (k n : ℕ) (moved : Bool) (Leaves : PlainWorld → Type 0) → k ≡ n → StandsIn (fold f round (members k)) moved Leaves → StandsIn (fold f round (members n)) moved Leaves
over_all f round k n moved Leaves e here = subst (λ x. StandsIn (fold f round (members x)) moved Leaves) e here

-- ---- an offer

-- an outbox was offered to another replica
pub offer_is_made : (plain : PlainWorld) (r k : ℕ) (moved after : Bool) (steps : List Step) (Leaves : PlainWorld → Type 0) → r ≢ k → steps ≡ (offered_between plain r k).steps → after ≡ (moved || list_any is_delivery steps)
    → Leaves (resend_at r k plain).1 → StandsIn (after_offer r (round_at plain moved) k) after Leaves
offer_is_made plain r k moved after steps Leaves other same is leaves =
    let round = round_at plain moved in
    let isnt : (r == k) ≡ false = false_from_ne_true (r == k) (λ e. other (eqb-true r k e)) in
    subst (λ x. StandsIn x after Leaves) (sym (cond-false (r == k) round (with_offered round r (offered_between plain r k)) isnt)) (record { moved_is = is ∙ ap (λ made. moved || list_any is_delivery made) same; shows = leaves })

-- ---- where memory ends

pub stops_in_offers_to : (round : Round) (r k : ℕ) (moved : Bool) (Shows Leaves : PlainWorld → Type 0)
    → StandsIn (fold (after_offer r) round (members k)) moved Shows → ((plain : PlainWorld) → Shows plain → StopsIn (IsBetween plain r k) Leaves) → StopsIn (IsAmongOffersTo round r) Leaves
stops_in_offers_to round r k moved Shows Leaves here step =
    let e = step (fold (after_offer r) round (members k)).world here.shows in
    record { midst = e.midst; passed = record { k = k; j = e.passed.0; is = e.passed.1 }; shows = e.shows }

pub stops_in_offers : (plain : PlainWorld) (r : ℕ) (moved : Bool) (Shows Leaves : PlainWorld → Type 0) → r < size_of plain
    → StandsIn (fold after_offers (round_at plain false) (members r)) moved Shows → ((w : PlainWorld) → Shows w → StopsIn (IsAmongOffersTo (round_at w moved) r) Leaves) → StopsIn (IsAmongOffers plain) Leaves
stops_in_offers plain r moved Shows Leaves l here step =
    let round = fold after_offers (round_at plain false) (members r) in
    let e = step round.world here.shows in
    let p = e.passed in
    record {
      midst = e.midst;
      passed = record { r = r; k = p.k; j = p.j; below = l; is = subst (λ b. e.midst ≡ offered_first p.j (fold (after_offer r) (round_at round.world b) (members p.k)).world r p.k) here.moved_is p.is };
      shows = e.shows;
    }

pub stops_in_beats : (round : Round) (r : ℕ) (moved : Bool) (Shows Leaves : PlainWorld → Type 0) → r < size_of round.world
    → StandsIn (fold after_beat round (members r)) moved Shows → ((w : PlainWorld) → Shows w → StopsIn (λ midst. midst ≡ w) Leaves) → StopsIn (IsAmongBeatsOf round) Leaves
stops_in_beats round r moved Shows Leaves l here step =
    let e = step (fold after_beat round (members r)).world here.shows in
    record { midst = e.midst; passed = record { r = r; below = l; is = e.passed }; shows = e.shows }

-- ---- a round

-- all offers were made, and then the beats
pub round_is_made : (plain : PlainWorld) (moved : Bool) (result : Result Bool NoMemory) (Shows Leaves : PlainWorld → Type 0)
    → size_of (offers_made plain).world ≡ size_of plain → StandsIn (offers_made plain) moved Shows
    → ((w : PlainWorld) → Shows w → LeadsTo (beats_made (round_at w moved)) (IsAmongBeatsOf (round_at w moved)) result Leaves) → LeadsTo (round_of plain) (IsInRound plain) result Leaves
round_is_made plain moved result Shows Leaves size here step =
    let round = offers_made plain in
    by result (subst (λ b. LeadsTo (beats_made (round_at round.world b)) (IsAmongBeatsOf (round_at round.world b)) result Leaves) here.moved_is (step round.world here.shows)) where
      by : (result : Result Bool NoMemory) → LeadsTo (beats_made (offers_made plain)) (IsAmongBeatsOf (offers_made plain)) result Leaves → LeadsTo (round_of plain) (IsInRound plain) result Leaves
      by (Ok after) h = over_all after_beat (offers_made plain) (size_of (offers_made plain).world) (size_of plain) after Leaves size h
      by (Err none) h = record { midst = h.midst; passed = inr (record { r = h.passed.r; below = omega (arith, h.passed.below, size); is = h.passed.is }); shows = h.shows }

pub stops_in_round : (plain : PlainWorld) (Leaves : PlainWorld → Type 0) → StopsIn (IsAmongOffers plain) Leaves → StopsIn (IsInRound plain) Leaves
stops_in_round plain Leaves h = record { midst = h.midst; passed = inl h.passed; shows = h.shows }

-- ---- rounds

-- after rounds that moved, what is left of settling begins where they led to
rounds_from : (k more : ℕ) (plain : PlainWorld) → ((i : ℕ) → i < k → (round_of (rounds_made i plain)).moved ≡ true) → rounds_within (k + more) plain ≡ rounds_within more (rounds_made k plain)
rounds_from zero more plain moved = ap (λ n. rounds_within n plain) (zero-add more)
rounds_from (suc k) more plain moved =
    ap (λ n. rounds_within n plain) (omega arith) ∙ rounds_from k (suc more) plain (λ i l. moved i (omega (arith, l)))
    ∙ cond-true (round_of (rounds_made k plain)).moved (rounds_within more (rounds_made (suc k) plain)) (rounds_made (suc k) plain) (moved k (omega arith))

-- a round that moves is one more
pub round_moves : (plain : PlainWorld) (k : ℕ) (moved : Bool) (Shows Leaves : PlainWorld → Type 0) → moved ≡ true → AreMade plain k Shows → ((w : PlainWorld) → Shows w → StandsIn (round_of w) moved Leaves) → AreMade plain (k + 1) Leaves
round_moves plain k moved Shows Leaves moves here step =
    let next = step (rounds_made k plain) here.shows in
    record {
      moved = λ i l. elim (cases_eq i k) [
        | inl e ↦ subst (λ x. (round_of (rounds_made x plain)).moved ≡ true) (sym e) (sym next.moved_is ∙ moves)
        | inr ne ↦ here.moved i (omega arith)
      ];
      shows = subst (λ x. Leaves (rounds_made x plain)) (sym (add-one k)) next.shows;
    }

-- one that doesn't move is the last
pub round_is_last : (plain : PlainWorld) (k : ℕ) (moved : Bool) (Shows Leaves : PlainWorld → Type 0) → moved ≡ false → k < most_rounds plain → AreMade plain k Shows → ((w : PlainWorld) → Shows w → StandsIn (round_of w) moved Leaves) → Leaves (world_settled plain)
round_is_last plain k moved Shows Leaves still l here step =
    let world = rounds_made k plain in
    let next = step world here.shows in
    let rest = most_rounds plain - suc k in
    let enough : most_rounds plain ≡ k + suc rest = omega (arith, l) in
    let last : world_settled plain ≡ (round_of world).world =
    ap (λ n. rounds_within n plain) enough ∙ rounds_from k (suc rest) plain here.moved ∙ cond-false (round_of world).moved (rounds_within rest (round_of world).world) (round_of world).world (sym next.moved_is ∙ still) in
    subst Leaves (sym last) next.shows

-- as many rounds as there can be are all
pub rounds_are_all : (plain : PlainWorld) (k : ℕ) (Leaves : PlainWorld → Type 0) → k ≡ most_rounds plain → AreMade plain k Leaves → Leaves (world_settled plain)
rounds_are_all plain k Leaves e here = subst Leaves (sym (ap (λ n. rounds_within n plain) (sym e ∙ sym (add-zero k)) ∙ rounds_from k 0 plain here.moved)) here.shows

-- memory ended in the next round
pub stops_in_settling : (plain : PlainWorld) (k : ℕ) (Shows Leaves : PlainWorld → Type 0) → AreMade plain k Shows → ((w : PlainWorld) → Shows w → StopsIn (IsInRound w) Leaves) → (midst : PlainWorld) × IsInSettling plain midst × Leaves midst
stops_in_settling plain k Shows Leaves here step =
    let e = step (rounds_made k plain) here.shows in
    (e.midst, record { rounds = k; moved = here.moved; is = e.passed }, e.shows)

-- ---- equal counts

pub is_quiescent_where : (plain : PlainWorld) (n : ℕ) → n ≡ size_of plain → ((r : ℕ) → r < n → seen_at plain r ≡ seen_at plain 0) → true ≡ is_quiescent plain
is_quiescent_where plain n e each = sym ((settled_is_equal_counts plain).1 (λ r l. each r (omega (arith, l, e))))

pub isnt_quiescent_where : (plain : PlainWorld) (r : ℕ) → r < size_of plain → (seen_at plain r ≡ seen_at plain 0 → ⊥) → false ≡ is_quiescent plain
isnt_quiescent_where plain r l differ = by (is_quiescent plain) (settled_is_equal_counts plain).0 where
  by : (b : Bool) → (b ≡ true → (q : ℕ) → q < size_of plain → seen_at plain q ≡ seen_at plain 0) → false ≡ b
  by false h = refl
  by true h = absurd (differ (h refl r l))

-- equal counts are not found to differ
pub equal_counts_agree : (x y : List ℕ) → x ≡ y → true ≡ not ((length x == length y) && pointwise nat_eq (x ++ replicate (16 - length x) 0) (y ++ replicate (16 - length y) 0)) → ⊥
equal_counts_agree x y e h =
    let padded : List ℕ → List ℕ = λ z. z ++ replicate (16 - length z) 0 in
    let agree : List ℕ → Bool = λ z. (length x == length z) && pointwise nat_eq (padded x) (padded z) in
    let here : agree x ≡ true = rw (eq-eqb (length x) (length x) refl) ((bytes_decides (padded x) (padded x)).1 refl) in
    let there = subst (λ z. agree z ≡ true) e here in
    let no : true ≡ false = h ∙ ap not there in
    cc

-- ---- what is known of any world

pub size_of_shown : (world : World) (plain : PlainWorld) → ShowsPlain world plain → length world.nodes.items ≡ size_of plain
size_of_shown world plain shows = size_shown world.nodes.items (map (λ row. row.items) world.sent.items) plain shows

-- it has 1 to 16 members
pub some_members : (world : World) → 1 ≤ length world.nodes.items
some_members world = ∥∥₁_elim world.shows le_prop (λ x. omega (arith, size_of_shown world x.0 x.1, x.1.is_world.some))

pub few_members : (world : World) → length world.nodes.items ≤ 16
few_members world = ∥∥₁_elim world.shows le_prop (λ x. omega (arith, size_of_shown world x.0 x.1, x.1.is_world.few))

-- and a limit of at most a million
pub limit_of_shown : (world : World) (plain : PlainWorld) (node : NotedNode) → ShowsPlain world plain → StandsAt world.nodes.items 0 node → node.inner.limit ≡ plain.limit
limit_of_shown world plain node shows stands = limit_shown world.nodes.items (map (λ row. row.items) world.sent.items) plain shows 0 node stands

pub low_limit : (world : World) (node : NotedNode) → StandsAt world.nodes.items 0 node → node.inner.limit ≤ 1000000
low_limit world node stands = ∥∥₁_elim world.shows le_prop (λ x. omega (arith, limit_of_shown world x.0 node x.1 stands, x.1.is_world.most))

-- so rounds can be counted
pub product_is_low : (n limit : ℕ) → n ≤ 16 → limit ≤ 1000000 → n * limit ≤ 16000000
product_is_low n limit few low = omega (arith, mul-le-mul_right limit few)

pub rounds_are_few : (n limit : ℕ) → n ≤ 16 → limit ≤ 1000000 → n * (n * limit) + 1 ≤ 256000001
rounds_are_few n limit few low = omega (arith, mul-le-mul_right (n * limit) few, product_is_low n limit few low)
