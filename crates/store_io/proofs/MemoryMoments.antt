-- How time goes on in a keeper in memory.
use Rattle.std.proofs.Common.{◌≡◌, ◌⊎◌, inl, inr, ⊎_elim, ℕ, ◌≤◌, min, List, [], ◌∷◌, ◌++◌, length, take, drop, sym, subst, ◌∙◌, append_assoc, arith, length-append}
use Rattle.std.proofs.lemmas.List.{take-append-le, drop-append-le}
use Rattle.store_io.specs.Keeping.{Leaves, LeavesEither, Elapses}
use Rattle.store_io.specs.MemoryKeeping.{Stage, KeeperState, LeftByOne, LeftSince, counted, with_piece, with_stage}

abbrev pub Goes : KeeperState → KeeperState → (List ℕ → Type 0) → Type 0
Goes old new MayLeave = Elapses (length old.past) (length new.past) (LeftSince old) (LeftSince new) MayLeave

-- a stop that leaves a front leaves one of more bytes
leaves_more : (held piece : List ℕ) (synced : ℕ) (left : List ℕ) → Leaves held synced left → Leaves (held ++ piece) synced left
leaves_more held piece synced left l = record {
  count = l.count;
  durable = l.durable;
  within = omega (arith, l.within, length-append held piece);
  front = l.front ∙ sym (take-append-le l.count held piece l.within);
}

-- bytes come behind: the front of a piece, or all of it
appended : (k : KeeperState) (front rest : List ℕ) → Goes k (with_piece (counted k) front) (Leaves (k.held ++ (front ++ rest)) k.synced)
appended k front rest = record {
  later = omega arith;
  nothing_else = λ t left le since. ⊎_elim (λ had. inl (inl had)) (λ now. inr (subst (λ held. Leaves held k.synced left) (append_assoc k.held front rest) (leaves_more (k.held ++ front) rest k.synced left now))) since;
  keeps = λ t left le past. ⊎_elim (λ had. inl had) (λ now. inr (leaves_more k.held front k.synced left now)) past;
}

pub append_goes : (k mid new : KeeperState) (front rest piece : List ℕ) → mid ≡ counted k → new ≡ with_piece mid front → piece ≡ front ++ rest → Goes k new (Leaves (k.held ++ piece) k.synced)
append_goes k mid new front rest piece is_counted is_new is_piece = rw (is_new, is_counted, is_piece) (appended k front rest)

-- one stage more
one_more : (stages : List Stage) (stage : Stage) (left : List ℕ) → LeftByOne (stages ++ stage ∷ []) left → LeftByOne stages left ⊎ Leaves stage.0 stage.1 left
one_more [] stage left had = ⊎_elim (λ now. inr now) (λ none. absurd none) had
one_more (s ∷ stages) stage left had =
    ⊎_elim (λ here. inl (inl here)) (λ later. ⊎_elim (λ before. inl (inr before)) (λ now. inr now) (one_more stages stage left later)) had

with_one : (stages : List Stage) (stage : Stage) (left : List ℕ) → LeftByOne stages left ⊎ Leaves stage.0 stage.1 left → LeftByOne (stages ++ stage ∷ []) left
with_one [] stage left had = ⊎_elim (λ none. absurd none) (λ now. inl now) had
with_one (s ∷ stages) stage left had =
    ⊎_elim (λ first. ⊎_elim (λ here. inl here) (λ later. inr (with_one stages stage left (inl later))) first) (λ now. inr (with_one stages stage left (inr now))) had

-- what was held before is noted as a stage, and then this is held
staged : (k : KeeperState) (held : List ℕ) (synced : ℕ) → Goes k (with_stage (counted k) held synced) (LeavesEither k.held k.synced held synced)
staged k held synced = record {
  later = omega (arith, length-append k.past ((k.held, k.synced) ∷ []));
  nothing_else = λ t left le since.
      ⊎_elim
      (λ had. ⊎_elim (λ before. inl (inl before)) (λ now. inl (inr now)) (one_more (drop t k.past) (k.held, k.synced) left (subst (λ stages. LeftByOne stages left) (drop-append-le t k.past ((k.held, k.synced) ∷ []) le) had)))
      (λ now. inr (inr now)) since;
  keeps = λ t left le past. inl (subst (λ stages. LeftByOne stages left) (sym (drop-append-le t k.past ((k.held, k.synced) ∷ []) le)) (with_one (drop t k.past) (k.held, k.synced) left past));
}

pub cut_goes : (k mid new : KeeperState) (len : ℕ) → mid ≡ counted k → new ≡ with_stage mid (take len mid.held) (min len mid.synced) → Goes k new (LeavesEither k.held k.synced (take len k.held) (min len k.synced))
cut_goes k mid new len is_counted is_new = rw (is_new, is_counted) (staged k (take len k.held) (min len k.synced))

-- a stop that leaves what is held with more of it synced
leaves_less : (held : List ℕ) (synced more : ℕ) (left : List ℕ) → synced ≤ more → Leaves held more left → Leaves held synced left
leaves_less held synced more left le l = record { count = l.count; durable = omega (arith, le, l.durable); within = l.within; front = l.front }

synced_goes : (k : KeeperState) → k.synced ≤ length k.held → Goes k (with_stage (counted k) k.held (length k.held)) (Leaves k.held k.synced)
synced_goes k within =
    let t = staged k k.held (length k.held) in
    record {
      later = t.later;
      nothing_else = λ m left le since. ⊎_elim (λ before. inl before) (λ now. inr (⊎_elim (λ old. old) (λ new. leaves_less k.held k.synced (length k.held) left within new) now)) (t.nothing_else m left le since);
      keeps = t.keeps;
    }

pub sync_goes : (k mid new : KeeperState) → mid.synced ≤ length mid.held → mid ≡ counted k → new ≡ with_stage mid mid.held (length mid.held) → Goes k new (Leaves k.held k.synced)
sync_goes k mid new within is_counted is_new = let so = rw is_counted at within in rw (is_new, is_counted) (synced_goes k so)
