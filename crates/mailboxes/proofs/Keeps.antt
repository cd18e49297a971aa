-- Each step keeps the mailbox's rule, and tells what it says.
use Rattle.std.proofs.Common.{◌≡◌, ◌≢◌, ℕ, zero, suc, ◌+◌, ◌<◌, ◌≤◌, ◌⊎◌, ⊎_elim, Bool, true, false, cond, eqb, eq-eqb, ne_eqb, max, List, [], ◌∷◌, ◌++◌, length, drop, map, set, sym, refl, ap, ◌∙◌, subst, inl, inr, length-append, length-drop, get_or, arith, Some}
use mathlib.Core.Logic.{dite}
use mathlib.Core.Option.{some, some-injective, some-ne-none}
use native.Mathlib.Decide.{ℕ_discrete}
use lib.ListN.{get_elem?}
use Rattle.std.proofs.lemmas.Bool.Decides.{nat_tests}
use Rattle.std.proofs.lemmas.List.{map-append, drop-append-le, length-map}
use Rattle.std.proofs.lemmas.List.Elements.{All-nil, All-cons, All-append, All-push, All-map, All-weaker, Contains-append_left, Contains-append_right, Contains-push}
use Rattle.std.proofs.lemmas.List.Quantifiers.{all_pairs_push}
use Rattle.std.specs.Prelude.{All, Contains, slice_get, MatchOption, MatchResult, Option, None, Result, Ok, Err}
use Rattle.crossbeam_queue.specs.Fifo.{Pushes, Pops, Forks, Merges, Learns}
use Rattle.crossbeam_queue.proofs.Lists.{set_else, at_longer}
use Rattle.mailboxes.specs.declared.seen.Line.{Line}
use Rattle.mailboxes.specs.declared.seen.Posted.{Posted}
use Rattle.mailboxes.specs.declared.seen.Seen.{Seen}
use Rattle.mailboxes.specs.declared.seen.View.{View}
use Rattle.mailboxes.specs.Seen.{posted, line, items_of, items_by, numbers, enrolled, BeginsWith, longer, HasItsLine, TookAll, KnowsAll}
use Rattle.mailboxes.specs.Rule.{first_view, forking, newcomer_view, joining, spent, Enrolled, Took, Fits, SomePass, Kept, Sound, Posting, Taking, Joined, Holds}
use Rattle.mailboxes.proofs.Fronts.{begins_itself, begins_along, begins_both, longer_front, longer_left, longer_right}
use Rattle.mailboxes.proofs.Places.{set_at, all_set, snoc_at}
use Rattle.mailboxes.proofs.Rolls.{All-front, items_by_more, items_by_same, items_by_none, items_by_between, numbers-enrolled, its_number, first-append, of_number}
use Rattle.mailboxes.proofs.Taken.{apart_append, apart_takers, took_again}

-- the first item of what is left of a list
first_left : {A B : Type 0} (f : A → B) (k : ℕ) (l : List A) (x : B) (rest : List B) → map f (drop k l) ≡ x ∷ rest
    → (a : A) × (slice_get l k ≡ Some a) × (f a ≡ x) × (map f (drop (suc k) l) ≡ rest) × (k + 1 ≤ length l)
first_left f zero [] x rest e = absurd (omega (arith, ap length e))
first_left f (suc k) [] x rest e = absurd (omega (arith, ap length e))
first_left f zero (a ∷ l) x rest e = (a, refl, ap (λ m. get_or m 0 x) e, ap (drop 1) e, omega arith)
first_left f (suc k) (a ∷ l) x rest e = let t = first_left f k l x rest e in let inside = t.4 in (t.0, t.1, t.2, t.3, omega arith)

module _ {T : Type 0} where
  -- what a pass's facts tell of what it has seen
  sound : (list : List (Posted T)) (taken forks : ℕ) (seat taker : ℕ → ℕ) (j : ℕ) (v : View T) → HasItsLine v.seen → All (λ p. p.by ≤ forks) list → Fits list taken forks seat taker j v → TookAll v.seen → Sound v.seen
  sound list taken forks seat taker j v own low f whole =
      let P : Posted T → Type 0 = λ p. p.by ≤ forks in
      let seen : All P v.seen.posted = All-front P v.seen.posted f.begins.0 (subst (All P) f.begins.1 low) in
      record {
        has_its_line = own;
        exact = All-weaker (Enrolled list v.seen.posted forks seat j) (λ (l : Line T). items_by l.by v.seen.posted ≡ l.items) (λ l e. e.exact) v.seen.roll f.roll;
        numbered = λ is. subst (λ (n : ℕ). All (λ (p : Posted T). p.by ≤ n) v.seen.posted) (sym (f.first is).0) seen;
        once = record { apart = f.apart; below = All-weaker (Took v.seen.taken taker j) (λ k. k < v.seen.taken) (λ k t. t.below) v.seen.places f.took };
        whole = whole;
      }

  -- the seat of a number that is on a roll
  seat_of : (list seen : List (Posted T)) (forks : ℕ) (seat : ℕ → ℕ) (j k : ℕ) (roll : List (Line T)) → All (Enrolled list seen forks seat j) roll → Contains (numbers roll) k → (seat k ≡ j) × (k ≤ forks)
  seat_of list seen forks seat j k roll h there =
      of_number (λ n. (seat n ≡ j) × (n ≤ forks)) roll k (All-weaker (Enrolled list seen forks seat j) (λ (l : Line T). (seat l.by ≡ j) × (l.by ≤ forks)) (λ l e. (e.seated, e.numbered)) roll h) there

  -- a pass that knows all is the only one
  alone : (F : Seen T → Type 0) (items : List T) (views : List (View T)) (me : ℕ) (v : View T) → Kept items views → get_elem? views me ≡ some v → KnowsAll v.seen → SomePass views F → F v.seen
  alone F items views me v r at knows t =
      let old = r.each me v at in
      let its = r.each t.0 t.1 t.2 in
      let there = seat_of r.list t.1.seen.posted r.forks r.seat t.0 t.1.seen.number t.1.seen.roll its.roll (its_number t.1.seen t.3) in
      let few : t.1.seen.number ≤ v.seen.forks = subst (λ n. t.1.seen.number ≤ n) (sym (old.first knows.0).0) there.1 in
      let here = seat_of r.list v.seen.posted r.forks r.seat me t.1.seen.number v.seen.roll old.roll (knows.1 t.1.seen.number few) in
      let same : t.1 ≡ v = some-injective t.1 v (sym t.2 ∙ (ap (λ i. get_elem? views i) (sym there.0 ∙ here.0) ∙ at)) in
      subst (λ (y : View T). F y.seen) same t.4

  -- a pass that knows all took all that was taken
  took_all : (items : List T) (views : List (View T)) (me : ℕ) (v : View T) → Kept items views → get_elem? views me ≡ some v → TookAll v.seen
  took_all items views me v r at knows k lt = let b = (r.each me v at).below in ∣ alone (λ s. Contains s.places k) items views me v r at knows (r.takers k (omega arith)) ∣₁

  -- one of the passes, after a change of one
  some_set : (F G : Seen T → Type 0) (views : List (View T)) (me : ℕ) (v w : View T) → get_elem? views me ≡ some v
      → (F v.seen → HasItsLine w.seen × G w.seen) → ((s : Seen T) → F s → G s) → SomePass views F → SomePass (set views me w) G
  some_set F G views me v w at mine others t = dite (ℕ_discrete t.0 me)
      (λ is. let same : t.1 ≡ v = some-injective t.1 v (sym t.2 ∙ (ap (λ i. get_elem? views i) is ∙ at)) in
      let g = mine (subst (λ (y : View T). F y.seen) same t.4) in (me, w, set_at views me v w at, g.0, g.1))
      (λ ne. (t.0, t.1, set_else views me t.0 w ne ∙ t.2, t.3, others t.1.seen t.4))

  pub begins : Kept {T = T} [] (first_view ∷ [])
  begins = record {
    list = [];
    taken = 0;
    forks = 0;
    seat = λ _. 0;
    taker = λ _. 0;
    inside = omega arith;
    left = refl;
    numbered = All-nil (λ (p : Posted T). p.by ≤ 0);
    each = one;
    all_posted = (0, first_view, refl, refl, refl);
    all_taken = (0, first_view, refl, refl, refl);
    takers = λ k lt. absurd (omega arith);
  }
    where
      one : (j : ℕ) (v : View T) → get_elem? (first_view ∷ []) j ≡ some v → Fits [] 0 0 (λ _. 0) (λ _. 0) j v
      one zero v e = subst (Fits [] 0 0 (λ _. 0) (λ _. 0) 0) (some-injective first_view v e) record {
        begins = ([], refl);
        mine = ([], refl);
        theirs = ([], refl);
        below = omega arith;
        roll = All-cons (Enrolled [] [] 0 (λ _. 0) 0) (line 0 []) [] record { numbered = omega arith; seated = refl; whole = refl; exact = refl } (All-nil (Enrolled [] [] 0 (λ _. 0) 0));
        first = λ _. (refl, refl);
        took = All-nil (Took 0 (λ _. 0) 0);
        apart = λ i j d l m. absurd (omega arith);
      }
      one (suc j) v e = absurd (some-ne-none v (sym e))

  -- a line of the roll of the pass that posts, and of another
  line_posts : (list seen : List (Posted T)) (forks : ℕ) (seat : ℕ → ℕ) (j n : ℕ) (x : T) (l : Line T) (b : Bool) → eqb l.by n ≡ b
      → Enrolled list seen forks seat j l → Enrolled (list ++ posted n x ∷ []) (list ++ posted n x ∷ []) forks seat j (cond b (line n (l.items ++ x ∷ [])) l)
  line_posts list seen forks seat j n x l true is e =
      let same : l.by ≡ n = grind (arith, nat_tests) in
      let whole : items_by n (list ++ posted n x ∷ []) ≡ l.items ++ x ∷ [] = items_by_more n x list ∙ ap (λ m. m ++ x ∷ []) (ap (λ k. items_by k list) (sym same) ∙ e.whole) in
      record { numbered = subst (λ k. k ≤ forks) same e.numbered; seated = ap seat (sym same) ∙ e.seated; whole = whole; exact = whole }
  line_posts list seen forks seat j n x l false is e =
      let other : l.by ≢ n = grind (arith, nat_tests) in
      let whole = items_by_same l.by n x list other ∙ e.whole in
      record { numbered = e.numbered; seated = e.seated; whole = whole; exact = whole }

  other_posts : (list : List (Posted T)) (taken forks : ℕ) (seat taker : ℕ → ℕ) (me j n : ℕ) (x : T) (u : View T) → seat n ≡ me → j ≢ me → Fits list taken forks seat taker j u → Fits (list ++ posted n x ∷ []) taken forks seat taker j u
  other_posts list taken forks seat taker me j n x u its other f = record {
    begins = begins_along (list ++ posted n x ∷ []) list u.seen.posted (posted n x ∷ [], refl) f.begins;
    mine = f.mine;
    theirs = f.theirs;
    below = f.below;
    roll = All-weaker (Enrolled list u.seen.posted forks seat j) (Enrolled (list ++ posted n x ∷ []) u.seen.posted forks seat j)
        (λ l e. record { numbered = e.numbered; seated = e.seated; whole = items_by_same l.by n x list (λ is. other (sym e.seated ∙ (ap seat is ∙ its))) ∙ e.whole; exact = e.exact }) u.seen.roll f.roll;
    first = f.first;
    took = f.took;
    apart = f.apart;
  }

  pub posts : (n pass : ℕ) (v : View T) (x : T) → HasItsLine v.seen → Pushes Kept n pass v x (Posting v x)
  posts n pass v x own items views room r at =
      let old = r.each pass v at in
      let k : ℕ = v.seen.number in
      let its = seat_of r.list v.seen.posted r.forks r.seat pass k v.seen.roll old.roll (its_number v.seen own) in
      let new : List (Posted T) = r.list ++ posted k x ∷ [] in
      let w : View T = record v { seen = record v.seen { posted = new; roll = enrolled k x v.seen.roll } } in
      let has : HasItsLine w.seen = ap (λ (ks : List ℕ). slice_get ks 0) (numbers-enrolled k x v.seen.roll) ∙ own in
      let low : All (λ p. p.by ≤ r.forks) new = All-push (λ (p : Posted T). p.by ≤ r.forks) r.list (posted k x) r.numbered its.1 in
      let front : BeginsWith new v.seen.posted = begins_along new r.list v.seen.posted (posted k x ∷ [], refl) old.begins in
      let E : Line T → Type 0 = Enrolled new new r.forks r.seat pass in
      let fits : Fits new r.taken r.forks r.seat r.taker pass w = record {
        begins = begins_itself new;
        mine = begins_along new v.seen.posted v.mine front old.mine;
        theirs = begins_along new v.seen.posted v.theirs front old.theirs;
        below = old.below;
        roll = All-map E (λ (l : Line T). cond (eqb l.by k) (line k (l.items ++ x ∷ [])) l) v.seen.roll
            (All-weaker (Enrolled r.list v.seen.posted r.forks r.seat pass) (λ (l : Line T). E (cond (eqb l.by k) (line k (l.items ++ x ∷ [])) l))
            (λ l e. line_posts r.list v.seen.posted r.forks r.seat pass k x l (eqb l.by k) refl e) v.seen.roll old.roll);
        first = old.first;
        took = old.took;
        apart = old.apart;
      } in
      let same : numbers w.seen.roll ≡ numbers v.seen.roll = numbers-enrolled k x v.seen.roll in
      let whole : TookAll w.seen = λ knows. took_all items views pass v r at (knows.0, λ i le. subst (λ (ks : List ℕ). Contains ks i) same (knows.1 i le)) in
      let inside = r.inside in (
        w,
        record {
          list = new;
          taken = r.taken;
          forks = r.forks;
          seat = r.seat;
          taker = r.taker;
          inside = omega (arith, length-append r.list (posted k x ∷ []));
          left = ap items_of (drop-append-le r.taken r.list (posted k x ∷ []) r.inside) ∙ (map-append (λ (p : Posted T). p.item) (drop r.taken r.list) (posted k x ∷ []) ∙ ap (λ l. l ++ x ∷ []) r.left);
          numbered = low;
          each = all_set (Fits new r.taken r.forks r.seat r.taker) views pass w fits (λ j u other e. other_posts r.list r.taken r.forks r.seat r.taker pass j k x u its.0 other (r.each j u e));
          all_posted = (pass, w, set_at views pass v w at, has, refl);
          all_taken = some_set (λ s. s.taken ≡ r.taken) (λ s. s.taken ≡ r.taken) views pass v w at (λ t. (has, t)) (λ s t. t) r.all_taken;
          takers = λ i lt. some_set (λ s. Contains s.places i) (λ s. Contains s.places i) views pass v w at (λ t. (has, t)) (λ s t. t) (r.takers i lt);
        },
        (
          record {
            before = r.list;
            begins = old.begins;
            becomes = refl;
            alone = λ knows. sym (alone (λ s. s.posted ≡ r.list) items views pass v r at knows r.all_posted);
          },
          sound new r.taken r.forks r.seat r.taker pass w has low fits whole,
        ),
      )

  pub takes : (pass : ℕ) (v : View T) → HasItsLine v.seen → Pops Kept pass v (Taking v)
  takes pass v own x items views r at =
      let old = r.each pass v at in
      let d = first_left (λ (p : Posted T). p.item) r.taken r.list x items r.left in
      let w : View T = record v { seen = record v.seen { posted = r.list; taken = r.taken + 1; places = v.seen.places ++ r.taken ∷ [] } } in
      let taker : ℕ → ℕ = λ k. cond (eqb k r.taken) pass (r.taker k) in
      let stays : (n k j : ℕ) → k < n → n ≤ r.taken → r.taker k ≡ j → Took (r.taken + 1) taker j k
      = λ n k j lt le e. record { below = omega arith; by = ap (λ b. cond b pass (r.taker k)) (ne_eqb k r.taken (λ q. omega arith)) ∙ e } in
      let hit : taker r.taken ≡ pass = ap (λ b. cond b pass (r.taker r.taken)) (eq-eqb r.taken r.taken refl) in
      let was = old.below in
      let fits : Fits r.list (r.taken + 1) r.forks r.seat taker pass w = record {
        begins = begins_itself r.list;
        mine = begins_along r.list v.seen.posted v.mine old.begins old.mine;
        theirs = begins_along r.list v.seen.posted v.theirs old.begins old.theirs;
        below = omega arith;
        roll = All-weaker (Enrolled r.list v.seen.posted r.forks r.seat pass) (Enrolled r.list r.list r.forks r.seat pass)
            (λ l e. record { numbered = e.numbered; seated = e.seated; whole = e.whole; exact = e.whole }) v.seen.roll old.roll;
        first = old.first;
        took = All-push (Took (r.taken + 1) taker pass) v.seen.places r.taken
            (took_again v.seen.taken (r.taken + 1) r.taker taker pass v.seen.places (λ k lt e. stays v.seen.taken k pass lt was e) old.took) record { below = omega arith; by = hit };
        apart = all_pairs_push (λ a b. a ≢ b) v.seen.places r.taken old.apart (λ k d lt e. let b = (old.took k d lt).below in absurd (omega arith));
      } in
      let mine : (k : ℕ) → Contains v.seen.places k → Contains w.seen.places k = Contains-append_left v.seen.places (r.taken ∷ []) in
      let last : Contains w.seen.places r.taken = Contains-push v.seen.places r.taken in
      let whole : TookAll w.seen = λ knows k lt. dite (ℕ_discrete k r.taken)
      (λ is. ∣ subst (Contains w.seen.places) (sym is) last ∣₁)
      (λ ne. ∣ mine k (alone (λ s. Contains s.places k) (x ∷ items) views pass v r at knows (r.takers k (omega arith))) ∣₁) in (
        w,
        record {
          list = r.list;
          taken = r.taken + 1;
          forks = r.forks;
          seat = r.seat;
          taker = taker;
          inside = d.4;
          left = (let up : suc r.taken ≡ r.taken + 1 = omega arith in subst (λ k. items_of (drop k r.list) ≡ items) up d.3);
          numbered = r.numbered;
          each = all_set (Fits r.list (r.taken + 1) r.forks r.seat taker) views pass w fits
              (λ j u other e. let f = r.each j u e in let b = f.below in record {
                begins = f.begins;
                mine = f.mine;
                theirs = f.theirs;
                below = omega arith;
                roll = f.roll;
                first = f.first;
                took = took_again u.seen.taken u.seen.taken r.taker taker j u.seen.places (λ k lt e. record { below = lt; by = (stays u.seen.taken k j lt b e).by }) f.took;
                apart = f.apart;
              });
          all_posted = (pass, w, set_at views pass v w at, own, refl);
          all_taken = (pass, w, set_at views pass v w at, own, refl);
          takers = λ k lt. dite (ℕ_discrete k r.taken)
              (λ is. (pass, w, set_at views pass v w at, own, subst (Contains w.seen.places) (sym is) last))
              (λ ne. some_set (λ s. Contains s.places k) (λ s. Contains s.places k) views pass v w at (λ t. (own, mine k t)) (λ s t. t) (r.takers k (omega arith)));
        },
        (
          record {
            list = r.list;
            place = r.taken;
            by = d.0.by;
            begins = old.begins;
            later = old.below;
            stands = d.1 ∙ ap (λ (y : T). Some (posted d.0.by y)) d.2;
            becomes = refl;
            alone = λ knows. (
              sym (alone (λ s. s.posted ≡ r.list) (x ∷ items) views pass v r at knows r.all_posted),
              sym (alone (λ s. s.taken ≡ r.taken) (x ∷ items) views pass v r at knows r.all_taken),
            );
          },
          sound r.list (r.taken + 1) r.forks r.seat taker pass w own r.numbered fits whole,
        ),
      )

  pub forks : (pass : ℕ) (v : View T) → v.seen.number ≡ 0 → HasItsLine v.seen → Forks Kept pass v (forking v) (newcomer_view v)
  forks pass v is_first own items views r at =
      let old = r.each pass v at in
      let count = old.first is_first in
      let n : ℕ = v.seen.forks + 1 in
      let above : r.forks < n = (let c = count.0 in omega arith) in
      let w : View T = forking v in
      let z : View T = newcomer_view v in
      let vs : List (View T) = set views pass w in
      let seat : ℕ → ℕ = λ k. cond (eqb k n) (length vs) (r.seat k) in
      let hit : seat n ≡ length vs = ap (λ b. cond b (length vs) (r.seat n)) (eq-eqb n n refl) in
      let same : (k : ℕ) → k ≤ r.forks → seat k ≡ r.seat k = λ k le. ap (λ b. cond b (length vs) (r.seat k)) (ne_eqb k n (λ e. omega arith)) in
      let low : All (λ p. p.by ≤ n) r.list = All-weaker (λ (p : Posted T). p.by ≤ r.forks) (λ (p : Posted T). p.by ≤ n) (λ p le. omega arith) r.list r.numbered in
      let seen_low : All (λ p. p.by ≤ r.forks) v.seen.posted = All-front (λ (p : Posted T). p.by ≤ r.forks) v.seen.posted old.begins.0 (subst (All (λ (p : Posted T). p.by ≤ r.forks)) old.begins.1 r.numbered) in
      let lines : (j : ℕ) (u : View T) → Fits r.list r.taken r.forks r.seat r.taker j u → All (Enrolled r.list u.seen.posted n seat j) u.seen.roll
      = λ j u f. All-weaker (Enrolled r.list u.seen.posted r.forks r.seat j) (Enrolled r.list u.seen.posted n seat j)
      (λ l e. let le = e.numbered in record { numbered = omega arith; seated = same l.by le ∙ e.seated; whole = e.whole; exact = e.exact }) u.seen.roll f.roll in
      let first_seat : seat 0 ≡ r.seat 0 = same 0 (omega arith) in
      let F : ℕ → View T → Type 0 = Fits r.list r.taken n seat r.taker in
      let here : F pass w = record { begins = old.begins; mine = old.mine; theirs = old.theirs; below = old.below; roll = lines pass v old; first = λ _. (refl, first_seat ∙ count.1); took = old.took; apart = old.apart } in
      let there : F (length vs) z = record {
        begins = old.begins;
        mine = (v.seen.posted, refl);
        theirs = (v.seen.posted, refl);
        below = old.below;
        roll = All-cons (Enrolled r.list v.seen.posted n seat (length vs)) (line n []) []
            record { numbered = omega arith; seated = hit; whole = items_by_none r.forks n r.list above r.numbered; exact = items_by_none r.forks n v.seen.posted above seen_low }
            (All-nil (Enrolled r.list v.seen.posted n seat (length vs)));
        first = λ e. absurd (omega arith);
        took = All-nil (Took v.seen.taken r.taker (length vs));
        apart = λ i j d l m. absurd (omega arith);
      } in
      let others : (j : ℕ) (u : View T) → j ≢ pass → get_elem? views j ≡ some u → F j u = λ j u other e. let f = r.each j u e in record {
        begins = f.begins;
        mine = f.mine;
        theirs = f.theirs;
        below = f.below;
        roll = lines j u f;
        first = λ zero. absurd (other (sym (f.first zero).1 ∙ count.1));
        took = f.took;
        apart = f.apart;
      } in
      let more : (G : Seen T → Type 0) → SomePass vs G → SomePass (vs ++ z ∷ []) G = λ G t. (t.0, t.1, at_longer vs (z ∷ []) t.0 t.1 t.2, t.3, t.4) in
      record {
        list = r.list;
        taken = r.taken;
        forks = n;
        seat = seat;
        taker = r.taker;
        inside = r.inside;
        left = r.left;
        numbered = low;
        each = λ j u e. ⊎_elim (all_set F views pass w here others j u) (λ (is : (j ≡ length vs) × (z ≡ u)). subst (λ (y : ℕ × View T). F y.0 y.1) (λ i. (sym is.0 i, is.1 i)) there) (snoc_at vs z u j e);
        all_posted = more (λ s. s.posted ≡ r.list) (some_set (λ s. s.posted ≡ r.list) (λ s. s.posted ≡ r.list) views pass v w at (λ t. (own, t)) (λ s t. t) r.all_posted);
        all_taken = more (λ s. s.taken ≡ r.taken) (some_set (λ s. s.taken ≡ r.taken) (λ s. s.taken ≡ r.taken) views pass v w at (λ t. (own, t)) (λ s t. t) r.all_taken);
        takers = λ k lt. more (λ s. Contains s.places k) (some_set (λ s. Contains s.places k) (λ s. Contains s.places k) views pass v w at (λ t. (own, t)) (λ s t. t) (r.takers k lt));
      }

  pub joins : (pass : ℕ) (v : View T) (other : ℕ) (u : View T) → HasItsLine v.seen → Merges Kept pass v other u (joining v u) spent
  joins pass v other u own items views r at two at' =
      let old = r.each pass v at in
      let w : View T = joining v u in
      let vs : List (View T) = set views pass w in
      let was : get_elem? views other ≡ some u = sym (set_else views pass other w two) ∙ at' in
      let its = r.each other u was in
      let both : List (Posted T) = longer v.seen.posted u.seen.posted in
      let front : BeginsWith r.list both = longer_front r.list v.seen.posted u.seen.posted old.begins its.begins in
      let left : BeginsWith both v.seen.posted = longer_left r.list v.seen.posted u.seen.posted old.begins its.begins in
      let right : BeginsWith both u.seen.posted = longer_right r.list v.seen.posted u.seen.posted old.begins its.begins in
      let seat : ℕ → ℕ = λ k. cond (eqb (r.seat k) other) pass (r.seat k) in
      let moves : (k : ℕ) → r.seat k ≡ other → seat k ≡ pass = λ k e. ap (λ b. cond b pass (r.seat k)) (eq-eqb (r.seat k) other e) in
      let stays : (k j : ℕ) → r.seat k ≡ j → j ≢ other → seat k ≡ j = λ k j e ne. ap (λ b. cond b pass (r.seat k)) (ne_eqb (r.seat k) other (λ q. ne (sym e ∙ q))) ∙ e in
      let apart : pass ≢ other = λ e. two (sym e) in
      let taker : ℕ → ℕ = λ k. cond (eqb (r.taker k) other) pass (r.taker k) in
      let taker_moves : (k : ℕ) → r.taker k ≡ other → taker k ≡ pass = λ k e. ap (λ b. cond b pass (r.taker k)) (eq-eqb (r.taker k) other e) in
      let taker_stays : (k j : ℕ) → r.taker k ≡ j → j ≢ other → taker k ≡ j = λ k j e ne. ap (λ b. cond b pass (r.taker k)) (ne_eqb (r.taker k) other (λ q. ne (sym e ∙ q))) ∙ e in
      let most : ℕ = max v.seen.taken u.seen.taken in
      let F : ℕ → View T → Type 0 = Fits r.list r.taken r.forks seat taker in
      let E : Line T → Type 0 = Enrolled r.list both r.forks seat pass in
      let here : F pass w = record {
        begins = front;
        mine = left;
        theirs = right;
        below = (let a = old.below in let b = its.below in omega arith);
        roll = All-append E v.seen.roll u.seen.roll
            (All-weaker (Enrolled r.list v.seen.posted r.forks r.seat pass) E (λ l e. record {
              numbered = e.numbered;
              seated = stays l.by pass e.seated apart;
              whole = e.whole;
              exact = items_by_between l.by r.list both v.seen.posted l.items front left e.whole e.exact;
            }) v.seen.roll old.roll)
            (All-weaker (Enrolled r.list u.seen.posted r.forks r.seat other) E (λ l e. record {
              numbered = e.numbered;
              seated = moves l.by e.seated;
              whole = e.whole;
              exact = items_by_between l.by r.list both u.seen.posted l.items front right e.whole e.exact;
            }) u.seen.roll its.roll);
        first = λ zero. let f = old.first zero in (f.0, stays 0 pass f.1 apart);
        took = All-append (Took most taker pass) v.seen.places u.seen.places
            (took_again v.seen.taken most r.taker taker pass v.seen.places (λ k lt e. record { below = omega arith; by = taker_stays k pass e apart }) old.took)
            (All-weaker (Took u.seen.taken r.taker other) (Took most taker pass) (λ k t. let lt = t.below in record { below = omega arith; by = taker_moves k t.by }) u.seen.places its.took);
        apart = apart_append v.seen.places u.seen.places old.apart its.apart (apart_takers r.taker pass other v.seen.taken u.seen.taken v.seen.places u.seen.places apart old.took its.took);
      } in
      let rest : (j : ℕ) (y : View T) → j ≢ pass → get_elem? views j ≡ some y → j ≢ other → F j y = λ j y ne e far. let f = r.each j y e in record {
        begins = f.begins;
        mine = f.mine;
        theirs = f.theirs;
        below = f.below;
        roll = All-weaker (Enrolled r.list y.seen.posted r.forks r.seat j) (Enrolled r.list y.seen.posted r.forks seat j)
            (λ l e. record { numbered = e.numbered; seated = stays l.by j e.seated far; whole = e.whole; exact = e.exact }) y.seen.roll f.roll;
        first = λ zero. let g = f.first zero in (g.0, stays 0 j g.1 far);
        took = took_again y.seen.taken y.seen.taken r.taker taker j y.seen.places (λ k lt e. record { below = lt; by = taker_stays k j e far }) f.took;
        apart = f.apart;
      } in
      let gone : F other spent = record { begins = (r.list, refl); mine = ([], refl); theirs = ([], refl); below = omega arith; roll = All-nil (Enrolled r.list [] r.forks seat other); first = λ e. absurd (omega arith); took = All-nil (Took 0 taker other); apart = λ i j d l m. absurd (omega arith) } in
      let has : HasItsLine w.seen = first-append v.seen.roll u.seen.roll v.seen.number own in
      let there : get_elem? (set vs other spent) pass ≡ some w = set_else vs other pass spent apart ∙ set_at views pass v w at in
      let some_join : (G : Seen T → Type 0) → (G v.seen ⊎ G u.seen → G w.seen) → SomePass views G → SomePass (set vs other spent) G = λ G to t.
      dite (ℕ_discrete t.0 pass)
      (λ is. (pass, w, there, has, to (inl (subst (λ (y : View T). G y.seen) (some-injective t.1 v (sym t.2 ∙ (ap (λ i. get_elem? views i) is ∙ at))) t.4))))
      (λ not_me. dite (ℕ_discrete t.0 other)
      (λ is. (pass, w, there, has, to (inr (subst (λ (y : View T). G y.seen) (some-injective t.1 u (sym t.2 ∙ (ap (λ i. get_elem? views i) is ∙ was))) t.4))))
      (λ not_it. (t.0, t.1, set_else vs other t.0 spent not_it ∙ (set_else views pass t.0 w not_me ∙ t.2), t.3, t.4))) in
      record {
        list = r.list;
        taken = r.taken;
        forks = r.forks;
        seat = seat;
        taker = taker;
        inside = r.inside;
        left = r.left;
        numbered = r.numbered;
        each = all_set F vs other spent gone (λ j y far e. all_set (λ i z. i ≢ other → F i z) views pass w (λ _. here) rest j y e far);
        all_posted = some_join (λ s. s.posted ≡ r.list)
            (λ t. begins_both both r.list (⊎_elim (λ (e : v.seen.posted ≡ r.list). subst (BeginsWith both) e left) (λ (e : u.seen.posted ≡ r.list). subst (BeginsWith both) e right) t) front)
            r.all_posted;
        all_taken = some_join (λ s. s.taken ≡ r.taken)
            (λ t. let a = old.below in let b = its.below in ⊎_elim (λ (e : v.seen.taken ≡ r.taken). omega arith) (λ (e : u.seen.taken ≡ r.taken). omega arith) t)
            r.all_taken;
        takers = λ k lt. some_join (λ s. Contains s.places k) (λ t. ⊎_elim (Contains-append_left v.seen.places u.seen.places k) (Contains-append_right v.seen.places u.seen.places k) t) (r.takers k lt);
      }

  pub tells : (pass : ℕ) (v : View T) → HasItsLine v.seen → Learns Kept pass v (λ items. Joined v)
  tells pass v own items views r at = let f = r.each pass v at in (sound r.list r.taken r.forks r.seat r.taker pass v own r.numbered f (took_all items views pass v r at), f.mine, f.theirs)

  pub counts : (pass : ℕ) (v : View T) → Learns Kept pass v (Holds v)
  counts pass v items views r at knows =
      let all = alone (λ s. s.posted ≡ r.list) items views pass v r at knows r.all_posted in
      let taken = alone (λ s. s.taken ≡ r.taken) items views pass v r at knows r.all_taken in
      let inside = r.inside in
      let left = ap length r.left in
      omega (arith, ap length all, taken, length-map (drop r.taken r.list) (λ (p : Posted T). p.item), length-drop r.taken r.list)

  -- what is true of a pass stays true, whatever comes of a post
  pub stays_sound : (v w : View T) (x : T) (full : Type 0) (r : Result (Unit {0}) T) → Sound v.seen → MatchResult r (λ _. Posting v x w) (λ y. (y ≡ x) × (w ≡ v) × full) → Sound w.seen
  stays_sound v w x full (Ok done) before h = h.1
  stays_sound v w x full (Err y) before h = subst (λ (u : View T). Sound u.seen) (sym h.1) before

  -- the same of a take
  pub stays_sound_taking : (v w : View T) (empty : Type 0) (r : Option T) → Sound v.seen → MatchOption r ((w ≡ v) × empty) (λ x. Taking v x w) → Sound w.seen
  stays_sound_taking v w empty None before h = subst (λ (u : View T). Sound u.seen) (sym h.0) before
  stays_sound_taking v w empty (Some x) before h = h.1

  -- whatever comes of a post, the list begins with what it was
  pub posts_grow : (v w : View T) (x : T) (full : Type 0) (r : Result (Unit {0}) T) → MatchResult r (λ _. Posting v x w) (λ y. (y ≡ x) × (w ≡ v) × full) → BeginsWith w.seen.posted v.seen.posted
  posts_grow v w x full (Ok done) h =
      let p = h.0 in
      subst (λ (s : Seen T). BeginsWith s.posted v.seen.posted) (sym p.becomes) (begins_along (p.before ++ posted v.seen.number x ∷ []) p.before v.seen.posted (posted v.seen.number x ∷ [], refl) p.begins)
  posts_grow v w x full (Err y) h = subst (λ (u : View T). BeginsWith u.seen.posted v.seen.posted) (sym h.1) (begins_itself v.seen.posted)

  -- after a take the list begins with what it was, and the number doesn't fall
  pub takes_grow : (v w : View T) (empty : Type 0) (r : Option T) → MatchOption r ((w ≡ v) × empty) (λ x. Taking v x w) → BeginsWith w.seen.posted v.seen.posted × (v.seen.taken ≤ w.seen.taken)
  takes_grow v w empty None h = subst (λ (u : View T). BeginsWith u.seen.posted v.seen.posted × (v.seen.taken ≤ u.seen.taken)) (sym h.0) (begins_itself v.seen.posted, omega arith)
  takes_grow v w empty (Some x) h =
      let t = h.0 in
      let later = t.later in
      subst (λ (s : Seen T). BeginsWith s.posted v.seen.posted × (v.seen.taken ≤ s.taken)) (sym t.becomes) (t.begins, omega arith)
