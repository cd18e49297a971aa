-- Whatever the command but a change of members, what a replica delivered stays the front of its messages.
use Rattle.std.proofs.Common.{◌≡◌, ℕ, zero, suc, ◌<◌, Bool, true, false, ◌==◌, List, [], ◌∷◌, ◌++◌, length, get_or, refl, sym, ap, subst, ◌∙◌, inl, inr, if◌then◌else◌, Option, Some, None, Result, Ok, Err, append_assoc, append-nil, arith, length-set}
use Rattle.std.specs.List.{fold}
use Rattle.std.proofs.lemmas.Bool.{cases_eq}
use Rattle.op_base.specs.declared.message.Message.{Message}
use Rattle.op_base.specs.declared.operation.Update.{Update}
use Rattle.op_base.specs.declared.outcome.Crook.{Crook}
use Rattle.causal_model.specs.Counts.{members}
use Rattle.causal_model.specs.Receiving.{next_of, crook_after, messages_with, state_with, steps_within, with_early, refusal_of, receive_by, receive_rule}
use Rattle.causal_model.specs.Sending.{local_messages, beat_messages}
use Rattle.causal_model.specs.State.{State, with_own}
use Rattle.causal_model.specs.declared.outcome.Beat.{Beat}
use Rattle.causal_model.specs.declared.outcome.Beat.TheVariants as beat
use Rattle.causal_model.specs.declared.outcome.Refusal.{Refusal}
use Rattle.causal_model.proofs.Theory.Lists.{fold_has}
use Rattle.causal_model.proofs.States.Steps.{steps_by}
use Rattle.world_model.specs.Offering.{Offered, none_offered, offered_more, outbox_in, offered_between, resend_at}
use Rattle.world_model.specs.Raw.{read_at, raw_of, raw_at}
use Rattle.world_model.specs.Settling.{Round, with_offered, after_offer, after_offers, with_beat, after_beat, offers_made, round_of, rounds_within, most_rounds, world_settled}
use Rattle.world_model.specs.World.{PlainWorld, size_of, replica_of, with_state, with_sent, with_all_sent, local_at, beat_at, offer_at, sent_message, give_of, give_at}
use Rattle.world_model.specs.Honest.{delivered_by}
use Rattle.world_model.proofs.Worlds.{replica_here, replica_there}
use Rattle.std.proofs.lemmas.List.FromFn.{get_or-range_with_len, length-range_with_len}

-- ---- what is delivered comes at the end

-- a list begins with another
abbrev pub Grows : List Message → List Message → Type 0
Grows ms after = (rest : List Message) × (after ≡ ms ++ rest)

pub grows_not : (ms : List Message) → Grows ms ms
grows_not ms = ([], sym (append-nil ms))

grows_twice : (a b c : List Message) → Grows a b → Grows b c → Grows a c
grows_twice a b c first second = (first.0 ++ second.0, second.1 ∙ ap (λ ms. ms ++ second.0) first.1 ∙ append_assoc a first.0 second.0)

messages_grow : (ms : List Message) (m : Message) (o : Option Crook) → Grows ms (messages_with ms m o)
messages_grow ms m None = (m ∷ [], refl)
messages_grow ms m (Some crook) = grows_not ms

steps_grow : (w most : ℕ) (s : State) → Grows (s.history.present.messages) (steps_within w most s).1.history.present.messages
steps_grow w zero s = grows_not s.history.present.messages
steps_grow w (suc most) s = by (steps_grow w most) (next_of s) where
  by : ((g : State) → Grows g.history.present.messages (steps_within w most g).1.history.present.messages) → (o : Option Message) → Grows s.history.present.messages (steps_by w most s o).1.history.present.messages
  by later None = grows_not s.history.present.messages
  by later (Some m) = grows_twice s.history.present.messages (state_with w s m).history.present.messages (steps_within w most (state_with w s m)).1.history.present.messages (messages_grow s.history.present.messages m (crook_after w s.history m)) (later (state_with w s m))

-- what was delivered before a message is received stays the front
received_grows : (w : ℕ) (s : State) (m : Message) → Grows s.history.present.messages (receive_rule w m s).1.history.present.messages
received_grows w s m = by (refusal_of w s m) where
  by : (o : Option Refusal) → Grows s.history.present.messages (receive_by w m s o).1.history.present.messages
  by (Some why) = grows_not s.history.present.messages
  by None = steps_grow w (length (with_early s m).early) (with_early s m)

offered_grows : (w : ℕ) (o : Offered) (ms : List Message) → Grows o.state.history.present.messages (fold (offered_more w) o ms).state.history.present.messages
offered_grows w o [] = grows_not o.state.history.present.messages
offered_grows w o (m ∷ ms) = grows_twice o.state.history.present.messages (offered_more w o m).state.history.present.messages (fold (offered_more w) (offered_more w o m) ms).state.history.present.messages (received_grows w o.state m) (offered_grows w (offered_more w o m) ms)

-- ---- in a world, at replica r

module _ (r : ℕ) where
  abbrev pub GrowsAt : PlainWorld → PlainWorld → Type 0
  GrowsAt world after = Grows (delivered_by world r) (delivered_by after r)

  at_twice : (a b c : PlainWorld) → GrowsAt a b → GrowsAt b c → GrowsAt a c
  at_twice a b c first second = grows_twice (delivered_by a r) (delivered_by b r) (delivered_by c r) first second

  -- where replica q comes to a state whose messages begin with those that it had
  state_grows : (world : PlainWorld) (q : ℕ) (s : State) → q < size_of world → Grows (delivered_by world q) s.history.present.messages → GrowsAt world (with_state world q s)
  state_grows world q s l grown = elim (cases_eq r q) [
    | inl e ↦ subst (λ y. Grows (delivered_by world y) (delivered_by (with_state world q s) y)) (sym e) (subst (λ g. Grows (delivered_by world q) g.history.present.messages) (sym (replica_here world q l s)) grown)
    | inr ne ↦ subst (λ g. Grows (delivered_by world r) g.history.present.messages) (sym (replica_there world q l s r ne)) (grows_not (delivered_by world r))
  ]

  sent_grows : (world : PlainWorld) (q : ℕ) (m : Message) → q < size_of world → GrowsAt world (with_sent world q m)
  sent_grows world q m l = state_grows world q (with_own (replica_of world q) m) l (m ∷ [], refl)

  offered_between_grows : (world : PlainWorld) (q k : ℕ) → q < size_of world → GrowsAt world (with_state world q (offered_between world q k).state)
  offered_between_grows world q k l = state_grows world q (offered_between world q k).state l (offered_grows world.w (none_offered (replica_of world q)) (outbox_in (replica_of world k)))

  -- where replica q sends messages
  all_sent_grows : (world : PlainWorld) (q : ℕ) (messages : List Message) → q < size_of world → GrowsAt world (with_all_sent q world messages)
  all_sent_grows world q [] l = grows_not (delivered_by world r)
  all_sent_grows world q (m ∷ messages) l =
      let next = with_sent world q m in
      let size = length-set world.replicas q (with_own (replica_of world q) m) in
      at_twice world next (with_all_sent q next messages) (sent_grows world q m l) (all_sent_grows next q messages (omega (arith, l, size)))

  -- rounds
  module _ (world : PlainWorld) where
    record IsGrown (round : Round) : Type 0 where
      size : size_of round.world ≡ size_of world
      grown : GrowsAt world round.world

    walk : (f : Round → ℕ → Round) (u : ℕ) → u ≡ size_of world → ((k : ℕ) → k < size_of world → (round : Round) → IsGrown round → IsGrown (f round k)) → (round : Round) → IsGrown round → IsGrown (fold f round (members u))
    walk f u e each round is = fold_has IsGrown f round (members u) is (λ i d low c h. each (get_or (members u) i d) (omega (arith, low, e, length-range_with_len 0 u, get_or-range_with_len 0 u i d (omega (arith, low, length-range_with_len 0 u)))) c h)

    offer_grows : (q : ℕ) → q < size_of world → (k : ℕ) → k < size_of world → (round : Round) → IsGrown round → IsGrown (after_offer q round k)
    offer_grows q l k _ round is = elim (q == k) as (λ own. IsGrown (if own then round else with_offered round q (offered_between round.world q k))) [
      | true ↦ is
      | false ↦ record {
        size = length-set round.world.replicas q (offered_between round.world q k).state ∙ is.size;
        grown = at_twice world round.world (with_state round.world q (offered_between round.world q k).state) is.grown (offered_between_grows round.world q k (omega (arith, l, is.size)));
      }
    ]

    beat_grows : (q : ℕ) → q < size_of world → (round : Round) → IsGrown round → IsGrown (after_beat round q)
    beat_grows q l round is = by (beat_at q round.world).0 where
      by : (answer : Beat) → IsGrown (with_beat round q answer)
      by beat.Quiet = is
      by beat.Held = is
      by beat.End = is
      by beat.NoMemory = is
      by (beat.Sent m) = record {
        size = length-set round.world.replicas q (with_own (replica_of round.world q) m) ∙ is.size;
        grown = at_twice world round.world (with_sent round.world q m) is.grown (sent_grows round.world q m (omega (arith, l, is.size)));
      }

    round_grows : IsGrown (round_of world)
    round_grows =
        walk after_beat (size_of world) refl beat_grows (offers_made world)
        (walk after_offers (size_of world) refl (λ q l round is. walk (after_offer q) (size_of round.world) is.size (λ k m. offer_grows q l k m) round is) (record { world = world; moved = false }) (record { size = refl; grown = grows_not (delivered_by world r) }))

  rounds_grow : (most : ℕ) (world : PlainWorld) → GrowsAt world (rounds_within most world)
  rounds_grow zero world = grows_not (delivered_by world r)
  rounds_grow (suc most) world = by (round_of world).moved (rounds_grow most (round_of world).world) where
    by : (moved : Bool) → GrowsAt (round_of world).world (rounds_within most (round_of world).world) → GrowsAt world (if moved then rounds_within most (round_of world).world else (round_of world).world)
    by true later = at_twice world (round_of world).world (rounds_within most (round_of world).world) (round_grows world).grown later
    by false later = (round_grows world).grown

  offering_grows : (world : PlainWorld) (q : ℕ) (m : Message) → q < size_of world → GrowsAt world (offer_at q m world).1
  offering_grows world q m l = state_grows world q (receive_rule world.w m (replica_of world q)).1 l (received_grows world.w (replica_of world q) m)

  pub sending_grows : (world : PlainWorld) (q : ℕ) (update : Update) → q < size_of world → GrowsAt world (local_at q update world).1
  sending_grows world q update l = all_sent_grows world q (local_messages (local_at q update world).0) l

  pub beating_grows : (world : PlainWorld) (q : ℕ) → q < size_of world → GrowsAt world (beat_at q world).1
  beating_grows world q l = all_sent_grows world q (beat_messages (beat_at q world).0) l

  pub giving_grows : (world : PlainWorld) (q k seq : ℕ) → q < size_of world → GrowsAt world (give_at q k seq world).1
  giving_grows world q k seq l = by (sent_message world k seq) where
    by : (found : Option Message) → GrowsAt world (give_of q world found).1
    by None = grows_not (delivered_by world r)
    by (Some m) = offering_grows world q m l

  pub resending_grows : (world : PlainWorld) (q k : ℕ) → q < size_of world → GrowsAt world (resend_at q k world).1
  resending_grows world q k l = offered_between_grows world q k l

  pub rawing_grows : (world : PlainWorld) (q : ℕ) (bytes : List ℕ) → q < size_of world → GrowsAt world (raw_at q bytes world).1
  rawing_grows world q bytes l = by (read_at world q bytes) where
    by : (read : Result Message _) → GrowsAt world (raw_of q world read).1
    by (Ok m) = offering_grows world q m l
    by (Err fault) = grows_not (delivered_by world r)

  pub settling_grows : (world : PlainWorld) → GrowsAt world (world_settled world)
  settling_grows world = rounds_grow (most_rounds world) world
