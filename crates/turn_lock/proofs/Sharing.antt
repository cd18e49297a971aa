-- The steps of the opener keep the rule: the table is made, a pass is split, a pass is joined, the lock is closed.
use Rattle.std.proofs.Common.{◌≡◌, ◌≢◌, ℕ, zero, suc, ◌+◌, ◌-◌, ◌<◌, true, false, true≢false, cond, eqb, eq-eqb, ne_eqb, List, [], ◌∷◌, ◌++◌, length, set, sym, refl, ap, ◌∙◌, subst, inl, inr, ⊎_elim, append-nil, arith, Option, Some}
use mathlib.Core.Logic.{dite}
use mathlib.Core.Option as maybe
use mathlib.Core.Option.{none, some, some-injective, some-ne-none}
use native.Mathlib.Decide.{ℕ_discrete}
use lib.ListN.{get_elem?}
use Rattle.std.specs.List.{All}
use Rattle.atomic_table.specs.Table.{State, Splits, Joins, Final, Seen, opening}
use Rattle.atomic_table.proofs.Lists.{set_else, at_longer, at_last}
use Rattle.turn_lock.specs.declared.view.TurnEntry.{TurnEntry}
use Rattle.turn_lock.specs.declared.view.View.{View}
use Rattle.turn_lock.specs.Turns.{StartsWith, turns_of}
use Rattle.turn_lock.specs.Rule.{lives, waits, opening_view, splitting, newcomer, joining, spent, Knows, IsQuiet, Ticketed}
use Rattle.turn_lock.proofs.Lists.{all_more, not_true, not_false, set_at, total-set, term_le, total-append, all_set, snoc_at, some_or_none}
use Rattle.turn_lock.proofs.TurnLists.{turns_of-append, turns_of-same, turns_of-other, longer_begins, longer_whole}
use Rattle.turn_lock.proofs.Changes.{whole_set, seated_set, quiet_back}

module _ {X E K : Type 0} (fits : K → List (TurnEntry E) → X → Type 0) (key : K) where
  abbrev V : Type 0
  V = View E K

  abbrev St : Type 0
  St = State (Option X) V

  abbrev Rule : St → Type 0
  Rule = Ticketed (fits key) key

  pub begins : (x : X) → fits key [] x → Rule (opening (0 ∷ 0 ∷ []) (Some x ∷ []) (opening_view key))
  begins x ok = record {
    log = [];
    drawn = 0;
    serving = 0;
    living = 0;
    holder = λ _. 0;
    seats = λ _. none;
    words = refl;
    waiting = refl;
    alive = refl;
    few = omega arith;
    each = λ j v e. first j v e;
    seated = λ k j h. absurd (some-ne-none j (sym h));
    whole = (0, opening_view key, refl, inl refl, refl);
    home = λ _. (x, refl, ok);
  }
    where
      first : (j : ℕ) (v : V) → get_elem? (opening_view key ∷ []) j ≡ some v → Knows key [] 0 0 0 (λ _. 0) (λ _. none) j v
      first zero v e = subst (Knows key [] 0 0 0 (λ _. 0) (λ _. none) 0) (some-injective (opening_view key) v e) record {
        about = λ _. refl;
        seen = ([], refl);
        opens = λ _. record { first = refl; apart = refl; out = refl; later = λ _ _. (refl, refl); joined = λ _ _. refl; others = λ _ _ _. refl; fronts = λ _ _ below. absurd (omega arith) };
        live = λ h. absurd (true≢false (sym h));
        draws = λ h. absurd (true≢false (sym h));
        serves = λ h. absurd (true≢false (sym h));
      }
      first (suc j) v e = absurd (some-ne-none v (sym e))

  pub splits : (id : ℕ) (v : V) → v.opens ≡ true → v.out < 1024 → Splits Rule id v (splitting v) (newcomer v)
  splits id v opens room s r at = let old = r.each id v at in let p = old.opens opens in let w : V = splitting v in let z : V = newcomer v in let vs : List V = set s.views id w in
      let waiting = r.waiting in let alive = r.alive in let out = p.out in let n : ℕ = v.splits in
      let idle : v.draws ≢ true = λ h. not_false v.live p.apart (old.draws h).0 in
      let fresh = p.later n (omega arith) in
      let seats : ℕ → maybe.Option ℕ = λ k. cond (eqb k n) (some (length vs)) (r.seats k) in
      let hit : seats n ≡ some (length vs) = ap (λ b. cond b (some (length vs)) (r.seats n)) (eq-eqb n n refl) in
      let same : (k : ℕ) → k ≢ n → seats k ≡ r.seats k = λ k ne. ap (λ b. cond b (some (length vs)) (r.seats k)) (ne_eqb k n ne) in
      let living : ℕ = r.living + 1 in
      let K' : ℕ → V → Type 0 = Knows key r.log r.drawn r.serving living r.holder seats in record {
        log = r.log;
        drawn = r.drawn;
        serving = r.serving;
        living = living;
        holder = r.holder;
        seats = seats;
        words = r.words;
        waiting = (let c = total-set waits s.views id v w at in let d = total-append waits vs (z ∷ []) in omega arith);
        alive = (let c = total-set lives s.views id v w at in let d = total-append lives vs (z ∷ []) in omega arith);
        few = omega arith;
        each = λ j u e. ⊎_elim (all_set K' s.views id w record {
          about = old.about;
          seen = old.seen;
          opens = λ h. record {
            first = p.first;
            apart = p.apart;
            out = ap (λ (k : ℕ). k + 1) p.out;
            later = λ k le. let q = p.later k (omega arith) in (same k (λ e. absurd (omega arith)) ∙ q.0, q.1);
            joined = λ k h. dite (ℕ_discrete k n) (λ is. absurd (some-ne-none (length vs) (sym hit ∙ (ap seats (sym is) ∙ h)))) (λ ne. p.joined k (sym (same k ne) ∙ h));
            others = λ k i h. dite (ℕ_discrete k n) (λ is. ap (λ (l : ℕ). turns_of l v.own) is ∙ (p.joined n fresh.0 ∙ fresh.1)) (λ ne. p.others k i (sym (same k ne) ∙ h));
            fronts = p.fronts;
          };
          live = λ h. absurd (not_false v.live p.apart h);
          draws = old.draws;
          serves = old.serves;
        } (λ k x other f. let o = r.each k x f in record {
          about = o.about;
          seen = o.seen;
          opens = λ h. absurd (other ((o.opens h).first ∙ sym p.first));
          live = λ h. let l = o.live h in (same x.number (λ q. some-ne-none k (sym l.0 ∙ (ap r.seats q ∙ fresh.0))) ∙ l.0, l.1);
          draws = o.draws;
          serves = o.serves;
        }) j u) (λ (is : (j ≡ length vs) × (z ≡ u)). subst (λ (y : ℕ × V). K' y.0 y.1) (λ i. (sym is.0 i, is.1 i)) record {
          about = λ _. old.about (inl opens);
          seen = old.seen;
          opens = λ h. absurd (true≢false (sym h));
          live = λ _. (hit, fresh.1);
          draws = λ h. absurd (true≢false (sym h));
          serves = λ h. absurd (true≢false (sym h));
        }) (snoc_at vs z u j e);
        seated = λ k j h. dite (ℕ_discrete k n)
            (λ is. let there : length vs ≡ j = some-injective (length vs) j (sym hit ∙ (ap seats (sym is) ∙ h)) in (z, at_last vs z j there, refl, sym is))
            (λ ne. let t = seated_set r.seats s.views id v w at refl refl r.seated k j (sym (same k ne) ∙ h) in (t.0, at_longer vs (z ∷ []) j t.0 t.1, t.2, t.3));
        whole = (let h = whole_set r.log r.log s.views id v w at refl refl (λ q. q) refl r.whole in (h.0, h.1, at_longer vs (z ∷ []) h.0 h.1 h.2, h.3, h.4));
        home = λ quiet. r.home (quiet_back s.views id v w at (quiet id w (at_longer vs (z ∷ []) id w (set_at s.views id v w at))) (λ j u e. quiet j u (at_longer vs (z ∷ []) j u e)));
      }

  pub joins : (id : ℕ) (v : V) (other : ℕ) (u : V) (blank : K) → v.opens ≡ true → u.live ≡ true → u.draws ≡ false → Joins Rule id v other u (joining v u) (spent blank)
  joins id v other u blank opens live idle s r at two at' = let old = r.each id v at in let p = old.opens opens in let w : V = joining v u in let z : V = spent blank in
      let vs : List V = set s.views id w in let ws : List V = set vs other z in
      let there : get_elem? s.views other ≡ some u = sym (set_else s.views id other w two) ∙ at' in
      let its = r.each other u there in let its_live = its.live live in let n : ℕ = u.number in
      let seats : ℕ → maybe.Option ℕ = λ k. cond (eqb k n) none (r.seats k) in
      let same : (k : ℕ) → k ≢ n → seats k ≡ r.seats k = λ k ne. ap (λ b. cond b none (r.seats k)) (ne_eqb k n ne) in
      let gone : seats n ≡ none = ap (λ b. cond b none (r.seats n)) (eq-eqb n n refl) in
      let here : get_elem? ws id ≡ some w = set_else vs other id z (λ q. two (sym q)) ∙ set_at s.views id v w at in
      let calm : v.serves ≡ false = not_true v.serves (λ h. not_false v.live p.apart (old.draws (old.serves h).0).0) in
      let its_calm : u.serves ≡ false = not_true u.serves (λ h. not_false u.draws idle (its.serves h).0) in
      let living : ℕ = r.living - 1 in
      let one : lives u ≡ 1 = ap (λ b. cond b 1 0) live in
      let none_waits : waits u ≡ 0 = ap (λ b. cond b 1 0) idle in
      let waiting = r.waiting in let alive = r.alive in let few = r.few in
      let own_of : (k : ℕ) → k ≢ n → turns_of k u.own ≡ [] = λ k ne. ap (turns_of k) (sym its_live.1) ∙ turns_of-other k n ne r.log in
      let K' : ℕ → V → Type 0 = Knows key r.log r.drawn r.serving living r.holder seats in
      let L : ℕ → V → Type 0 = λ j y. j ≢ other → K' j y in
      let rest : (j : ℕ) (y : V) → get_elem? vs j ≡ some y → L j y = all_set L s.views id w (λ _. record {
        about = old.about;
        seen = longer_begins r.log v.seen u.seen old.seen its.seen;
        opens = λ h. record {
          first = p.first;
          apart = p.apart;
          out = ap (λ (k : ℕ). k - 1) p.out;
          later = λ k le. let q = p.later k le in (dite (ℕ_discrete k n) (λ is. ap seats is ∙ gone) (λ ne. same k ne ∙ q.0), q.1);
          joined = λ k h. turns_of-append k v.own u.own ∙ dite (ℕ_discrete k n)
              (λ is. subst (λ (l : ℕ). turns_of l v.own ++ turns_of l u.own ≡ turns_of l r.log) (sym is) (ap (λ l. l ++ turns_of n u.own) (p.others n other its_live.0) ∙ (ap (turns_of n) (sym its_live.1) ∙ turns_of-same n r.log)))
              (λ ne. ap (λ l. turns_of k v.own ++ l) (own_of k ne) ∙ (append-nil (turns_of k v.own) ∙ p.joined k (sym (same k ne) ∙ h)));
          others = λ k i h. turns_of-append k v.own u.own ∙ dite (ℕ_discrete k n)
              (λ is. absurd (some-ne-none i (sym h ∙ (ap seats is ∙ gone))))
              (λ ne. ap (λ l. turns_of k v.own ++ l) (own_of k ne) ∙ (append-nil (turns_of k v.own) ∙ p.others k i (sym (same k ne) ∙ h)));
          fronts = all_more (StartsWith r.log) u.seen v.fronts its.seen p.fronts;
        };
        live = λ h. absurd (not_false v.live p.apart h);
        draws = λ h. absurd (not_false v.live p.apart (old.draws h).0);
        serves = λ h. absurd (not_false v.serves calm h);
      }) (λ j y ne e apart. let o = r.each j y e in record {
        about = o.about;
        seen = o.seen;
        opens = λ h. absurd (ne ((o.opens h).first ∙ sym p.first));
        live = λ h. let l = o.live h in (same y.number (λ q. apart (some-injective j other (sym l.0 ∙ (ap r.seats q ∙ its_live.0)))) ∙ l.0, l.1);
        draws = o.draws;
        serves = o.serves;
      }) in record {
        log = r.log;
        drawn = r.drawn;
        serving = r.serving;
        living = living;
        holder = r.holder;
        seats = seats;
        words = r.words;
        waiting = (let c = total-set waits s.views id v w at in let d = total-set waits vs other u z at' in omega arith);
        alive = (let c = total-set lives s.views id v w at in let d = total-set lives vs other u z at' in omega arith);
        few = omega arith;
        each = all_set K' vs other z record {
          about = λ h. ⊎_elim (λ a. absurd (true≢false (sym a))) (λ a. absurd (true≢false (sym a))) h;
          seen = (r.log, refl);
          opens = λ h. absurd (true≢false (sym h));
          live = λ h. absurd (true≢false (sym h));
          draws = λ h. absurd (true≢false (sym h));
          serves = λ h. absurd (true≢false (sym h));
        } (λ j y apart e. rest j y e apart);
        seated = λ k j h. let ne : k ≢ n = λ q. some-ne-none j (sym h ∙ (ap seats q ∙ gone)) in let t = r.seated k j (sym (same k ne) ∙ h) in
            let not_me : j ≢ id = λ q. not_false v.live p.apart (ap (λ (y : V). y.live) (some-injective v t.0 (sym at ∙ (ap (λ (i : ℕ). get_elem? s.views i) (sym q) ∙ t.1))) ∙ t.2) in
            let not_it : j ≢ other = λ q. ne (sym t.3 ∙ ap (λ (y : V). y.number) (some-injective t.0 u (sym t.1 ∙ (ap (λ (i : ℕ). get_elem? s.views i) q ∙ there)))) in
            (t.0, set_else vs other j z not_it ∙ (set_else s.views id j w not_me ∙ t.1), t.2, t.3);
        whole = (let t = r.whole in dite (ℕ_discrete t.0 id)
            (λ is. (id, w, here, inl opens, longer_whole r.log v.seen u.seen old.seen its.seen (inl (ap (λ (y : V). y.seen) (some-injective v t.1 (sym at ∙ (ap (λ (i : ℕ). get_elem? s.views i) (sym is) ∙ t.2))) ∙ t.4))))
            (λ not_me. dite (ℕ_discrete t.0 other)
            (λ is. (id, w, here, inl opens, longer_whole r.log v.seen u.seen old.seen its.seen (inr (ap (λ (y : V). y.seen) (some-injective u t.1 (sym there ∙ (ap (λ (i : ℕ). get_elem? s.views i) (sym is) ∙ t.2))) ∙ t.4))))
            (λ not_it. (t.0, t.1, set_else vs other t.0 z not_it ∙ (set_else s.views id t.0 w not_me ∙ t.2), t.3, t.4))));
        home = λ quiet. r.home (quiet_back s.views id v w at calm (quiet_back vs other u z at' its_calm quiet));
      }

  -- once all passes are joined, the opener has seen all turns, and has them all
  pub closes : (id : ℕ) (v : V) (words : List ℕ) (xs : List (Option X)) → v.opens ≡ true → v.out ≡ 0 → Final (Seen Rule id v) words xs
      → (x : X) × (get_elem? xs 0 ≡ some (Some x)) × fits v.about v.seen x × ((k : ℕ) → turns_of k v.own ≡ turns_of k v.seen) × All (StartsWith v.seen) v.fronts
  closes id v words xs opens out f = let s = f.0 in let r = f.1.0 in let at = f.1.1 in let old = r.each id v at in let p = old.opens opens in
      let dead : (j : ℕ) (u : V) → get_elem? s.views j ≡ some u → u.live ≡ false = λ j u e. not_true u.live (λ h. let l = term_le lives s.views j u e in let a = r.alive in let o = p.out in
      let one : lives u ≡ 1 = ap (λ b. cond b 1 0) h in absurd (omega arith)) in
      let quiet : IsQuiet s.views = λ j u e. not_true u.serves (λ h. let o = r.each j u e in not_false u.live (dead j u e) (o.draws (o.serves h).0).0) in
      let home = r.home quiet in let t = r.whole in
      let first : t.0 ≡ id = ⊎_elim (λ a. ((r.each t.0 t.1 t.2).opens a).first ∙ sym p.first) (λ a. absurd (not_false t.1.live (dead t.0 t.1 t.2) a)) t.3 in
      let seen : v.seen ≡ r.log = ap (λ (y : V). y.seen) (some-injective v t.1 (sym at ∙ (ap (λ (i : ℕ). get_elem? s.views i) (sym first) ∙ t.2))) ∙ t.4 in
      let seatless : (k : ℕ) → r.seats k ≡ none = λ k. ⊎_elim (λ h. h) (λ h. let q = r.seated k h.0 h.1 in absurd (not_false q.0.live (dead h.0 q.0 q.1) q.2)) (some_or_none (r.seats k)) in (
        home.0,
        f.4 0 (Some home.0) home.1,
        subst (λ (y : K × List (TurnEntry E)). fits y.0 y.1 home.0) (λ i. (sym (old.about (inl opens)) i, sym seen i)) home.2,
        λ k. p.joined k (seatless k) ∙ ap (turns_of k) (sym seen),
        subst (λ (l : List (TurnEntry E)). All (StartsWith l) v.fronts) (sym seen) p.fronts,
      )
