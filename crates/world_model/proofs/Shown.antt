-- What replicas show: equal counts where a world is settled, and equal answers where they have the same events.
use Rattle.std.proofs.Common.{◌≡◌, Bool, true, nat_eq, IsTrue, subst, sym}
use Rattle.std.specs.Cmp.Lexicographic.{pointwise, bytes_decides}
use Rattle.std.proofs.lemmas.List.Elements.{All-from_get_or}
use Rattle.std.proofs.lemmas.List.Sums.{AllPass-from_list_all, list_all-from_AllPass}
use Rattle.causal_model.specs.History.{is_history}
use Rattle.causal_model.specs.State.{State, start, counted}
use Rattle.causal_model.proofs.Events.SameEvents.{same_events_answer_alike}
use Rattle.world_model.specs.Laws.{SettledIsEqualCounts, SameEventsAnswerAlike}
use Rattle.world_model.specs.Showing.{seen_at}
use Rattle.world_model.specs.World.{replica_of}

pub settled_is_equal_counts : SettledIsEqualCounts
settled_is_equal_counts world =
    let first = seen_at world 0 in
    let equal : State → Bool = λ s. pointwise nat_eq (counted s.history) first in (
      λ t r l. (bytes_decides (seen_at world r) first).0 (AllPass-from_list_all equal world.replicas t r (start 0 0) l),
      λ each. list_all-from_AllPass equal world.replicas (All-from_get_or (λ s. equal s ≡ true) world.replicas (start 0 0) (λ r l. (bytes_decides (seen_at world r) first).1 (each r l))),
    )

pub same_events_are_answered_alike : SameEventsAnswerAlike
same_events_are_answered_alike world other r q object is are window l k same =
    let g = (replica_of world r).history in
    let h = (replica_of other q).history in
    same_events_answer_alike world.w g h object (is.replicas r l).is_state.is_history (subst (λ w. IsTrue (is_history w h)) (sym window) (are.replicas q k).is_state.is_history) same
