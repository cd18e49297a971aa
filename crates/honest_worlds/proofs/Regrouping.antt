-- A change of members keeps a world honest: at rest all replicas have the same events, which then are of epochs that are over.
use Rattle.std.proofs.Common.{◌≡◌, ◌≢◌, ℕ, ◌<◌, ◌≤◌, All, true, Contains, ◌∷◌, length, length-append, sym, ap, subst, ◌∙◌, arith}
use Rattle.std.proofs.lemmas.Bool.{and_parts}
use Rattle.std.proofs.lemmas.List.Elements.{All-nil}
use Rattle.causal_model.specs.History.{Event, events}
use Rattle.causal_model.proofs.Events.Events.{events_of_chapters}
use Rattle.world_model.specs.Honest.{IsSentMessage, past_events, IsHonest, history_of}
use Rattle.world_model.specs.Regrouping.{last_epoch, is_at_rest, next_world}
use Rattle.world_model.specs.Settling.{is_quiescent}
use Rattle.world_model.specs.World.{PlainWorld, size_of, epoch_in}
use Rattle.world_model.proofs.Regrouping.{stays_or_begins, comes_from, comes_from_member, next_size, next_at, next_is_world}
use Rattle.honest_worlds.specs.Laws.{RegroupingKeepsHonest}
use Rattle.honest_worlds.proofs.Settling.{equal_counts_are_equal_events}

module _ (n : ℕ) (world : PlainWorld) (honest : IsHonest world) (some : 1 ≤ n) (few : n ≤ 16) (more : epoch_in world ≢ last_epoch) (rests : is_at_rest world ≡ true) where
  abbrev after : PlainWorld
  after = next_world n world

  -- what is over at a replica of the next epoch are the events of the one that it comes from
  past_was_events : (r : ℕ) → r < n → past_events (history_of after r) ≡ events (history_of world (comes_from world r))
  past_was_events r l = ap (λ s. past_events s.history) (next_at n world r l) ∙ sym (events_of_chapters (history_of world (comes_from world r)))

  one_past_of_next : (r q : ℕ) → r < n → q < n → (e : Event) → Contains (past_events (history_of after r)) e → Contains (past_events (history_of after q)) e
  one_past_of_next r q l k e has =
      let same = equal_counts_are_equal_events world honest (and_parts (is_quiescent world) _ rests).0 in
      let member = comes_from_member n world honest.is_world in
      subst (λ es. Contains es e) (sym (past_was_events q k)) ((same (comes_from world r) (comes_from world q) (member r) (member q) e).0 (subst (λ es. Contains es e) (past_was_events r l) has))

  next_is_honest : IsHonest after
  next_is_honest =
      let low : (r : ℕ) → r < size_of after → r < n = λ r l. omega (arith, l, next_size n world) in
      record {
        is_world = next_is_world n world honest.is_world few more rests some;
        by_rule = λ r l before later m e _. absurd (omega (arith, ap length (sym (ap (λ s. s.history.present.messages) (next_at n world r (low r l))) ∙ e), length-append before (m ∷ later)));
        delivered = λ r l. subst (λ s. All (IsSentMessage after) s.history.present.messages) (sym (next_at n world r (low r l))) (All-nil (IsSentMessage after));
        early = λ r l. subst (λ s. All (IsSentMessage after) s.early) (sym (next_at n world r (low r l))) (All-nil (IsSentMessage after));
        one_past = λ r q l k e. (one_past_of_next r q (low r l) (low q k) e, one_past_of_next q r (low q k) (low r l) e);
      }

pub regrouping_keeps_honest : RegroupingKeepsHonest
regrouping_keeps_honest world n honest some few = stays_or_begins n world (λ made. IsHonest made.1) (λ answer none. honest) (λ more rests. next_is_honest n world honest some few more rests)
