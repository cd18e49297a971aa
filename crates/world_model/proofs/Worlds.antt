-- Worlds of which one replica is changed, and the first world.
use Rattle.std.proofs.Common.{◌≡◌, ◌≢◌, ℕ, ◌<◌, ◌==◌, List, [], ◌∷◌, ◌++◌, length, get_or, set, refl, sym, ap, subst, ◌∙◌, inl, inr, length-set, get_or-set_same, get_or-set_other, arith}
use Rattle.std.proofs.lemmas.Bool.{cases_eq, cond-true, eq-eqb}
use Rattle.std.proofs.lemmas.List.Elements.{filter-append}
use Rattle.std.proofs.lemmas.List.FromFn.{length-map-range_with_len, get_or-map-range_with_len}
use Rattle.op_base.specs.declared.message.Message.{Message}
use Rattle.causal_model.specs.History.{epoch_of}
use Rattle.causal_model.specs.State.{with_own, State, start}
use Rattle.causal_model.proofs.States.States.{start_is_state}
use Rattle.world_model.specs.Laws.{OpeningIsWorld, OpeningHasSize}
use Rattle.world_model.specs.World.{PlainWorld, size_of, epoch_in, opening, replica_of, sent_by, with_state, with_sent}
use Rattle.world_model.specs.Worlds.{IsReplica, own_of, IsWorld, KeepsWorld}

-- ---- the first world

pub opening_has_size : OpeningHasSize
opening_has_size n w limit = length-map-range_with_len (λ me. start n me) 0 n

pub opening_is_world : OpeningIsWorld
opening_is_world n w limit some few wide most =
    let world = opening n w limit in
    let size = opening_has_size n w limit in
    let replica : (r : ℕ) → r < size_of world → replica_of world r ≡ start n r = λ r l. get_or-map-range_with_len (λ me. start n me) 0 n r r (start 0 0) (omega (arith, l, size)) (omega arith) in
    let empty : (r : ℕ) → r < size_of world → sent_by world r ≡ [] = λ r l. get_or-map-range_with_len (λ me. []) 0 n r r [] (omega (arith, l, size)) (omega arith) in
    record {
      some = omega (arith, some, size);
      few = omega (arith, few, size);
      wide = wide;
      most = most;
      of_each = length-map-range_with_len (λ me. []) 0 n ∙ sym size;
      replicas = λ r l. subst (IsReplica (size_of world) w limit (epoch_in world) r) (sym (replica r l)) (subst (λ k. IsReplica k w limit (epoch_in world) r (start n r)) (sym size) (record {
        is_state = start_is_state n w limit r few (omega (arith, l, size));
        of_store = refl;
        of_member = refl;
        in_epoch = sym (ap (λ s. epoch_of s.history) (replica 0 (omega (arith, some, size))));
        none_is_next = refl;
      }));
      sent = λ r l. empty r l ∙ sym (ap own_of (replica r l));
    }

-- ---- one replica is changed

-- a replica that has come to a state, and the others; a replica that has sent a message, and the others
module _ (world : PlainWorld) (r : ℕ) (l : r < size_of world) where
  pub replica_here : (s : State) → replica_of (with_state world r s) r ≡ s
  replica_here s = get_or-set_same world.replicas r s (start 0 0) l

  pub replica_there : (s : State) (q : ℕ) → q ≢ r → replica_of (with_state world r s) q ≡ replica_of world q
  replica_there s q ne = get_or-set_other world.replicas r q s (start 0 0) ne

  pub sent_here : (m : Message) → r < length world.sent → sent_by (with_sent world r m) r ≡ sent_by world r ++ m ∷ []
  sent_here m k = get_or-set_same world.sent r (sent_by world r ++ m ∷ []) [] k

  pub sent_there : (m : Message) (q : ℕ) → q ≢ r → sent_by (with_sent world r m) q ≡ sent_by world q
  sent_there m q ne = get_or-set_other world.sent r q (sent_by world r ++ m ∷ []) [] ne

pub world_keeps_itself : (world : PlainWorld) → IsWorld world → KeepsWorld world world
world_keeps_itself world is = record { is_world = is; size = refl; epoch = refl; w = refl; limit = refl }

pub kept_twice : (a b c : PlainWorld) → KeepsWorld a b → KeepsWorld b c → KeepsWorld a c
kept_twice a b c first second = record { is_world = second.is_world; size = second.size ∙ first.size; epoch = second.epoch ∙ first.epoch; w = second.w ∙ first.w; limit = second.limit ∙ first.limit }

module _ (world : PlainWorld) (r : ℕ) (s : State) (is : IsWorld world) (l : r < size_of world) (replica : IsReplica (size_of world) world.w world.limit (epoch_in world) r s) where
  -- a replica comes to a state, and the lists of sent messages to others that are its and the others' own ones
  replica_changes : (sent : List (List Message)) → length sent ≡ size_of world → get_or sent r [] ≡ own_of s → ((q : ℕ) → q ≢ r → get_or sent q [] ≡ sent_by world q)
      → KeepsWorld world (record { w = world.w; limit = world.limit; replicas = set world.replicas r s; sent = sent })
  replica_changes sent of_each own others =
      let after : PlainWorld = record { w = world.w; limit = world.limit; replicas = set world.replicas r s; sent = sent } in
      let size : size_of after ≡ size_of world = length-set world.replicas r s in
      let here : replica_of after r ≡ s = replica_here world r l s in
      let there : (q : ℕ) → q ≢ r → replica_of after q ≡ replica_of world q = replica_there world r l s in
      let epoch : epoch_in after ≡ epoch_in world = elim (cases_eq 0 r) [
        | inl e ↦ ap (λ y. epoch_of (replica_of after y).history) e ∙ ap (λ g. epoch_of g.history) here ∙ replica.in_epoch
        | inr ne ↦ ap (λ g. epoch_of g.history) (there 0 ne)
      ] in
      record {
        is_world = record {
          some = omega (arith, size, is.some);
          few = omega (arith, size, is.few);
          wide = is.wide;
          most = is.most;
          of_each = of_each ∙ sym size;
          replicas = λ q k. subst (λ n. IsReplica n world.w world.limit (epoch_in after) q (replica_of after q)) (sym size) (subst (λ epoch. IsReplica (size_of world) world.w world.limit epoch q (replica_of after q)) (sym epoch) (elim (cases_eq q r) [
            | inl e ↦ subst (λ y. IsReplica (size_of world) world.w world.limit (epoch_in world) y (replica_of after y)) (sym e) (subst (IsReplica (size_of world) world.w world.limit (epoch_in world) r) (sym here) replica)
            | inr ne ↦ subst (IsReplica (size_of world) world.w world.limit (epoch_in world) q) (sym (there q ne)) (is.replicas q (omega (arith, k, size)))
          ]));
          sent = λ q k. elim (cases_eq q r) [
            | inl e ↦ subst (λ y. sent_by after y ≡ own_of (replica_of after y)) (sym e) (own ∙ sym (ap own_of here))
            | inr ne ↦ others q ne ∙ is.sent q (omega (arith, k, size)) ∙ sym (ap own_of (there q ne))
          ];
        };
        size = size;
        epoch = epoch;
        w = refl;
        limit = refl;
      }

  -- a replica comes to a state with the same own messages
  pub state_changes : own_of s ≡ own_of (replica_of world r) → KeepsWorld world (with_state world r s)
  state_changes same = replica_changes world.sent is.of_each (is.sent r l ∙ sym same) (λ q ne. refl)

-- a replica sends an own message
pub own_of_more : (s : State) (m : Message) → m.origin ≡ s.history.present.me → own_of (with_own s m) ≡ own_of s ++ m ∷ []
own_of_more s m own =
    filter-append (λ e. e.origin == s.history.present.me) s.history.present.messages (m ∷ [])
    ∙ ap (λ ms. own_of s ++ ms) (cond-true (m.origin == s.history.present.me) (m ∷ []) [] (eq-eqb m.origin s.history.present.me own))

pub message_is_sent : (world : PlainWorld) (r : ℕ) (m : Message) → IsWorld world → r < size_of world → IsReplica (size_of world) world.w world.limit (epoch_in world) r (with_own (replica_of world r) m) → m.origin ≡ r → KeepsWorld world (with_sent world r m)
message_is_sent world r m is l replica own =
    let sent = set world.sent r (sent_by world r ++ m ∷ []) in
    let me : m.origin ≡ (replica_of world r).history.present.me = own ∙ sym (is.replicas r l).of_member in
    replica_changes world r (with_own (replica_of world r) m) is l replica sent
    (length-set world.sent r (sent_by world r ++ m ∷ []) ∙ is.of_each)
    (sent_here world r l m (omega (arith, l, is.of_each)) ∙ ap (λ ms. ms ++ m ∷ []) (is.sent r l) ∙ sym (own_of_more (replica_of world r) m me))
    (sent_there world r l m)
