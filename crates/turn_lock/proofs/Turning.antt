-- The steps of a pass keep the rule: it draws a ticket, loads the serving word and ends its turn.
use Rattle.std.proofs.Common.{◌≡◌, ◌≢◌, ℕ, ◌+◌, ◌%◌, ◌<◌, ◌≤◌, true, false, true≢false, cond, eqb, eq-eqb, ne_eqb, List, [], ◌∷◌, ◌++◌, get_or, set, sym, refl, ap, ◌∙◌, subst, inr, append_assoc, append-nil, arith, Option, Some}
use mathlib.Core.Logic.{dite}
use mathlib.Core.Option.{none, some, some-injective, some-ne-none}
use native.Mathlib.Decide.{ℕ_discrete}
use lib.ListN.{get_elem?}
use lib.Seq.{set-get_or}
use Rattle.atomic_table.specs.Table.{State, step, keeps, takes, gives, Allows}
use Rattle.atomic_table.proofs.Lists.{set_here, set_again}
use Rattle.turn_lock.specs.declared.view.TurnEntry.{TurnEntry}
use Rattle.turn_lock.specs.declared.view.View.{View}
use Rattle.turn_lock.specs.Turns.{turn, turns_of}
use Rattle.turn_lock.specs.Rule.{total, lives, waits, Knows, IsQuiet, Ticketed}
use Rattle.turn_lock.specs.Steps.{Held, ticketed, served, ended, Drew, Found, Looked, Recorded, Passed}
use Rattle.turn_lock.proofs.Lists.{not_true, not_false, set_at, total-set, total_le, all_set, near, bit_le}
use Rattle.turn_lock.proofs.TurnLists.{fronts, turns_of-append, Mine, one_turn}
use Rattle.turn_lock.proofs.Changes.{whole_set, seated_set, quiet_back}

module _ {X E K : Type 0} (fits : K → List (TurnEntry E) → X → Type 0) (key : K) where
  abbrev V : Type 0
  V = View E K

  abbrev St : Type 0
  St = State (Option X) V

  abbrev Rule : St → Type 0
  Rule = Ticketed (fits key) key

  -- what a waiting seat's ticket says, where it is the one that is served
  holds_turn : (s : St) (r : Rule s) (id : ℕ) (v : V) → get_elem? s.views id ≡ some v → v.draws ≡ true → v.ticket ≡ r.serving → (j : ℕ) (u : V) → get_elem? s.views j ≡ some u → u.draws ≡ true → u.ticket ≡ r.serving → j ≡ id
  holds_turn s r id v at has mine j u e theirs same =
      sym ((r.each j u e).draws theirs).3 ∙ (ap r.holder (same ∙ sym mine) ∙ ((r.each id v at).draws has).3)

  pub draws : (slots id : ℕ) (m : Held X E K) → m.0.live ≡ true → m.0.draws ≡ false → Allows Rule slots id m 0 (λ n. (n + 1) % 18446744073709551616) (Drew (step slots 0 1 0 none) m)
  draws slots id m live idle s r wide at small = let v : V = m.0 in let t : ℕ = r.drawn in let w : V = ticketed t v in let M : ℕ = 18446744073709551616 in
      let old = r.each id v at in
      let holder : ℕ → ℕ = λ n. cond (eqb n t) id (r.holder n) in
      let found : get_or s.words 0 0 ≡ t % 18446744073709551616 = ap (λ (l : List ℕ). get_or l 0 0) r.words in
      let calm : v.serves ≡ false = not_true v.serves (λ h. not_false v.draws idle (old.serves h).0) in
      let count = total-set waits s.views id v w at in
      let none_yet : waits v ≡ 0 = ap (λ b. cond b 1 0) idle in
      let now = r.waiting in
      let others : (j : ℕ) (u : V) → j ≢ id → get_elem? s.views j ≡ some u → Knows key r.log (t + 1) r.serving r.living holder r.seats j u
      = λ j u other e. let o = r.each j u e in record {
        about = o.about;
        seen = o.seen;
        opens = o.opens;
        live = o.live;
        draws = λ h. let d = o.draws h in (d.0, d.1, (let l = d.2 in omega arith), (ap (λ b. cond b id (r.holder u.ticket)) (ne_eqb u.ticket t (λ q. let l = d.2 in absurd (omega arith))) ∙ d.3));
        serves = o.serves;
      } in (
        w,
        keeps,
        tt,
        record {
          log = r.log;
          drawn = t + 1;
          serving = r.serving;
          living = r.living;
          holder = holder;
          seats = r.seats;
          words = ap (λ (l : List ℕ). set l 0 ((get_or s.words 0 0 + 1) % 18446744073709551616)) r.words ∙ ap (λ (n : ℕ). n ∷ r.serving % 18446744073709551616 ∷ []) (omega (arith, found));
          waiting = omega arith;
          alive = (let c = total-set lives s.views id v w at in let a = r.alive in omega arith);
          few = r.few;
          each = all_set (Knows key r.log (t + 1) r.serving r.living holder r.seats) s.views id w record {
            about = old.about;
            seen = old.seen;
            opens = old.opens;
            live = old.live;
            draws = λ _. (live, omega arith, omega arith, ap (λ b. cond b id (r.holder t)) (eq-eqb t t refl));
            serves = λ h. absurd (true≢false (sym h));
          } others;
          seated = seated_set r.seats s.views id v w at refl refl r.seated;
          whole = whole_set r.log r.log s.views id v w at refl refl (λ q. q) refl r.whole;
          home = λ quiet. r.home (quiet_back s.views id v w at calm quiet);
        },
        (refl, (t, refl, found)),
      )

  pub looks : (slots id : ℕ) (m : Held X E K) → m.0.draws ≡ true → m.0.serves ≡ false → Allows Rule slots id m 1 (λ n. n) (Looked fits (step slots 1 0 0 none) m)
  looks slots id m has calm s r wide at small = let v : V = m.0 in let old = r.each id v at in let mine = old.draws has in
      let n : ℕ = get_or s.words 1 0 in
      let found : n ≡ r.serving % 18446744073709551616 = ap (λ (l : List ℕ). get_or l 1 0) r.words in
      let still : set s.words 1 n ≡ s.words = set-get_or s.words 1 0 in
      dite (ℕ_discrete n (v.ticket % 18446744073709551616))
      (λ hit.
      let few = r.few in let alive = r.alive in let waiting = r.waiting in let low = mine.1 in let high = mine.2 in
      let bound : total waits s.views ≤ total lives s.views = total_le waits lives s.views (λ j u e. bit_le u.draws u.live (λ h. ((r.each j u e).draws h).0)) in
      let turn : v.ticket ≡ r.serving = near r.serving v.ticket low (omega arith) (sym found ∙ hit) in
      let quiet : IsQuiet s.views = λ j u e. not_true u.serves (λ h. let o = (r.each j u e).serves h in
      let is : j ≡ id = holds_turn s r id v at has turn j u e o.0 o.1 in
      let same : u ≡ v = some-injective u v (sym e ∙ (ap (λ (k : ℕ). get_elem? s.views k) is ∙ at)) in
      not_false v.serves calm (ap (λ (y : V). y.serves) (sym same) ∙ h)) in
      let home = r.home quiet in
      let w : V = served r.log v in (
        w,
        takes 0 (Some home.0),
        home.1,
        record {
          log = r.log;
          drawn = r.drawn;
          serving = r.serving;
          living = r.living;
          holder = r.holder;
          seats = r.seats;
          words = still ∙ r.words;
          waiting = (let c = total-set waits s.views id v w at in omega arith);
          alive = (let c = total-set lives s.views id v w at in omega arith);
          few = r.few;
          each = all_set (Knows key r.log r.drawn r.serving r.living r.holder r.seats) s.views id w record {
            about = old.about;
            seen = ([], sym (append-nil r.log));
            opens = old.opens;
            live = old.live;
            draws = old.draws;
            serves = λ _. (has, turn, refl);
          } (λ j u _ e. r.each j u e);
          seated = seated_set r.seats s.views id v w at refl refl r.seated;
          whole = whole_set r.log r.log s.views id v w at refl refl (λ _. refl) refl r.whole;
          home = λ q. absurd (true≢false (q id w (set_at s.views id v w at)));
        },
        (
          (λ _. (r.log, home.0, old.seen, (old.live mine.0).1, refl, subst (λ (k : K). fits k r.log home.0) (sym (old.about (inr mine.0))) home.2)),
          λ no. absurd (no hit),
        ),
      ))
      (λ miss. (
        v,
        keeps,
        tt,
        subst (λ (z : List ℕ × List V). Rule record { words = z.0; homes = s.homes; views = z.1 }) (λ i. (sym still i, sym (set_again s.views id v at) i)) r,
        ((λ hit. absurd (miss hit)), λ _. refl),
      ))

  -- the turn ends, with the value at home again
  ends : (slots id : ℕ) (v : V) (x : X) (turns : List (TurnEntry E)) (new : ℕ) → 0 < slots → v.serves ≡ true → Mine v.number turns → fits v.about (v.seen ++ turns) x → new ≡ (v.ticket % 18446744073709551616 + 1) % 18446744073709551616
      → Allows Rule slots id (v, (0, Some x) ∷ []) 1 (λ _. new) (λ n m'. (m'.0 ≡ ended turns v) × (m'.1 ≡ []))
  ends slots id v x turns new room on own ok next s r wide at small = let old = r.each id v at in let mine = old.serves on in
      let w : V = ended turns v in let log : List (TurnEntry E) = r.log ++ turns in
      let seen : v.seen ++ turns ≡ log = ap (λ l. l ++ turns) mine.2 in
      let turn : v.ticket ≡ r.serving = mine.1 in
      let had : waits v ≡ 1 = ap (λ b. cond b 1 0) mine.0 in
      let alive : v.live ≡ true = (old.draws mine.0).0 in
      let here = old.live alive in
      let waiting = r.waiting in
      let no_more : (k : ℕ) → k ≢ v.number → turns_of k (r.log ++ turns) ≡ turns_of k r.log = λ k other. turns_of-append k r.log turns ∙ (ap (λ l. turns_of k r.log ++ l) (own.1 k other) ∙ append-nil (turns_of k r.log)) in
      let seatless : (k : ℕ) → r.seats k ≡ none → k ≢ v.number = λ k h q. some-ne-none id (sym here.0 ∙ (ap r.seats (sym q) ∙ h)) in
      let other_ticket : (j : ℕ) (u : V) → j ≢ id → get_elem? s.views j ≡ some u → u.draws ≡ true → u.ticket ≢ r.serving = λ j u other e h same. other (holds_turn s r id v at mine.0 turn j u e h same) in (
        w,
        gives,
        tt,
        record {
          log = log;
          drawn = r.drawn;
          serving = r.serving + 1;
          living = r.living;
          holder = r.holder;
          seats = r.seats;
          words = ap (λ (l : List ℕ). set l 1 new) r.words ∙ ap (λ (n : ℕ). r.drawn % 18446744073709551616 ∷ n ∷ []) (omega (arith, next, turn));
          waiting = (let c = total-set waits s.views id v w at in omega arith);
          alive = (let c = total-set lives s.views id v w at in let a = r.alive in omega arith);
          few = r.few;
          each = all_set (Knows key log r.drawn (r.serving + 1) r.living r.holder r.seats) s.views id w record {
            about = old.about;
            seen = ([], sym (append-nil (v.seen ++ turns) ∙ seen));
            opens = λ h. absurd (not_false v.live (old.opens h).apart alive);
            live = λ _. (here.0, turns_of-append v.number r.log turns ∙ (λ i. here.1 i ++ own.0 i));
            draws = λ h. absurd (true≢false (sym h));
            serves = λ h. absurd (true≢false (sym h));
          } (λ j u other e. let o = r.each j u e in record {
            about = o.about;
            seen = (o.seen.0 ++ turns, ap (λ l. l ++ turns) o.seen.1 ∙ append_assoc u.seen o.seen.0 turns);
            opens = λ h. let p = o.opens h in record {
              first = p.first;
              apart = p.apart;
              out = p.out;
              later = λ k le. let q = p.later k le in (q.0, no_more k (seatless k q.0) ∙ q.1);
              joined = λ k n. p.joined k n ∙ sym (no_more k (seatless k n));
              others = p.others;
              fronts = λ i d below. fronts r.log _ turns (p.fronts i d below);
            };
            live = λ h. let l = o.live h in (l.0, no_more u.number (λ q. other (some-injective j id (sym l.0 ∙ (ap r.seats q ∙ here.0)))) ∙ l.1);
            draws = λ h. let d = o.draws h in let apart = other_ticket j u other e h in let low = d.1 in (d.0, (omega arith), d.2, d.3);
            serves = λ h. let d = o.serves h in absurd (other_ticket j u other e d.0 d.1);
          });
          seated = seated_set r.seats s.views id v w at refl refl r.seated;
          whole = (id, w, set_at s.views id v w at, inr alive, seen);
          home = λ _. (x, set_here s.homes 0 (some (Some x)) (omega (arith, wide)), subst (λ (z : K × List (TurnEntry E)). fits z.0 z.1 x) (λ i. (old.about (inr alive) i, seen i)) ok);
        },
        (refl, refl),
      )

  pub records : (slots id : ℕ) (m : Held X E K) (x : X) (e : E) (new : ℕ) → 0 < slots → m.1 ≡ (0, Some x) ∷ [] → m.0.serves ≡ true → fits m.0.about (m.0.seen ++ turn m.0.number e ∷ []) x → new ≡ (m.0.ticket % 18446744073709551616 + 1) % 18446744073709551616
      → Allows Rule slots id m 1 (λ _. new) (λ _. Recorded fits (step slots 1 new 0 none) m new)
  records slots id m x e new room out on ok next = subst (λ (c : List (ℕ × Option X)). Allows Rule slots id (m.0, c) 1 (λ _. new) (λ _. Recorded fits (step slots 1 new 0 none) (m.0, c) new)) (sym out)
      (λ s r wide at small. let t = ends slots id m.0 x (turn m.0.number e ∷ []) new room on (one_turn m.0.number e) ok next s r wide at small in (t.0, t.1, t.2, t.3, (e, x, refl, ok, t.4.0, t.4.1)))

  pub passes : (slots id : ℕ) (m : Held X E K) (x : X) (new : ℕ) → 0 < slots → m.1 ≡ (0, Some x) ∷ [] → m.0.serves ≡ true → fits m.0.about m.0.seen x → new ≡ (m.0.ticket % 18446744073709551616 + 1) % 18446744073709551616
      → Allows Rule slots id m 1 (λ _. new) (λ _. Passed (step slots 1 new 0 none) m new)
  passes slots id m x new room out on ok next = subst (λ (c : List (ℕ × Option X)). Allows Rule slots id (m.0, c) 1 (λ _. new) (λ _. Passed (step slots 1 new 0 none) (m.0, c) new)) (sym out)
      (λ s r wide at small. let t = ends slots id m.0 x [] new room on (refl, λ k other. refl) (subst (λ l. fits m.0.about l x) (sym (append-nil m.0.seen)) ok) next s r wide at small in (t.0, t.1, t.2, t.3, t.4))

  -- what the load told, of the seat as it was before the loop
  pub found : (st : _) (n mine : ℕ) (m u m' : Held X E K) → Looked fits st u n m' → u ≡ m → n ≡ mine → mine ≡ m.0.ticket % 18446744073709551616 → Found fits m m'
  found st n mine m u m' told same is ticket = (subst (λ (y : Held X E K). Looked fits st y n m') same told).0 (is ∙ ticket)
