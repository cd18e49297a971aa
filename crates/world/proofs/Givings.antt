-- The message that is given, and its frame.
use Rattle.std.proofs.Common.{◌≡◌, ◌≢◌, ℕ, ◌<◌, ◌≤◌, ◌-◌, ◌==◌, Bool, true, false, IsTrue, List, [], length, map, slice_index_or, slice_set, nat_le, Some, None, Option, inl, inr, refl, sym, ap, subst, ◌∙◌, if◌then◌else◌, arith}
use Rattle.std.specs.Prelude.{slice_get}
use Rattle.std.specs.List.{list_all}
use Rattle.std.proofs.lemmas.Bool.{and_parts, eqb-true, leb-true, ltb-true}
use Rattle.std.proofs.lemmas.List.{length-map, get_or-map}
use Rattle.std.proofs.lemmas.List.Elements.{All-get_or}
use Rattle.std.proofs.lemmas.List.Sums.{AllPass-from_list_all}
use Rattle.std.proofs.lemmas.Option.{slice_get_cases, slice_get_past}
use Rattle.op_base.specs.Message.{fits, number}
use Rattle.op_base.specs.Valid.{is_valid, is_valid_act, is_valid_place}
use Rattle.op_base.specs.Name.{is_key, is_value}
use Rattle.op_base.specs.declared.message.Message.{Message}
use Rattle.op_base.specs.declared.operation.Act.{Act}
use Rattle.op_base.specs.declared.operation.Act.TheVariants as acts
use Rattle.op_base.specs.declared.operation.Op.{Op}
use Rattle.op_base.specs.declared.operation.Op.TheVariants as op
use Rattle.causal_model.specs.Counts.{is_carried}
use Rattle.causal_model.specs.Early.{has_id}
use Rattle.causal_model.proofs.Theory.Finds.{found}
use Rattle.frame_codec.specs.Grammar.{frame_of, IsArgument, IsOperation, IsFrame}
use Rattle.frame_codec.proofs.Codes.{op_code_most}
use Rattle.frame_codec.specs.declared.version.Version.TheVariants.{Two}
use Rattle.causal_model.specs.declared.outcome.Receive.{Receive}
use Rattle.causal_model.specs.declared.outcome.Receive.TheVariants as receive
use Rattle.causal_model.specs.Journal.{receive_notes}
use Rattle.causal_model.specs.Receiving.{is_accepted, receive_rule}
use Rattle.replica_node.specs.Rules.{noting}
use Rattle.world_model.specs.World.{PlainWorld, size_of, epoch_in, sent_by, sent_message, offer_at, give_of, wants_frame, takes_frame, give_at}
use Rattle.world_model.proofs.Sent.{sent_are_own, sent_is_numbered}
use Rattle.world.specs.Shows.{NotedNode, Shows}
use Rattle.world.specs.Steps.{SameNode, IsFrameOf}
use Rattle.world_model.specs.declared.outcome.Given.TheVariants as given
use Rattle.world.proofs.Nodes.{StandsAt, size_shown, n_shown, epoch_shown, limit_shown}
use Rattle.world.proofs.Follow.{Comes}
use Rattle.world.proofs.Replies.{Notes, replies_offer}

-- ---- what can be carried is sent as a frame

argument_is_sent : (act : Act) → IsTrue (is_valid_act act) → IsArgument Two act
argument_is_sent (acts.Add v) h = h
argument_is_sent (acts.Rmv v) h = h
argument_is_sent acts.Clear h = tt
argument_is_sent acts.Enable h = tt
argument_is_sent acts.Disable h = tt
argument_is_sent (acts.Write v) h = h
argument_is_sent (acts.Inc a) h = ltb-true a 4294967296 h
argument_is_sent (acts.Dec a) h = ltb-true a 4294967296 h
argument_is_sent (acts.Ins v place) h = and_parts (is_value v) (is_valid_place place) h
argument_is_sent (acts.Del id) h = h

operation_is_sent : (o : Op) → IsTrue (is_valid o) → IsOperation Two o
operation_is_sent op.NoOp h = tt
operation_is_sent (op.Update u) h = let parts = and_parts (is_key u.object.key) (is_valid_act u.act) h in (parts.0, argument_is_sent u.act parts.1)

-- the frame of a message that fits a store and can be carried there
pub frame_is_sent : (n epoch limit : ℕ) (m : Message) → IsTrue (fits n m) → IsTrue (is_carried limit m) → IsFrame n epoch limit (frame_of Two n epoch m) m
frame_is_sent n epoch limit m fit carried =
    let parts = and_parts (list_all (λ e. nat_le e limit) m.tag) (is_valid m.op) carried in
    let each = AllPass-from_list_all (λ e. nat_le e limit) m.tag parts.0 in
    (Two, record { in_epoch = tt; fits = fit; within = λ i d b. leb-true (slice_index_or m.tag i d) limit (each i d b); code = op_code_most m.op; operation = operation_is_sent m.op parts.1; spelled = refl })

-- ---- what is given

-- no message is numbered 0
pub none_at_0 : (nodes : List NotedNode) (rows : List (List (List ℕ))) (plain : PlainWorld) → Shows nodes rows plain → (k : ℕ) → k < length nodes → (seq : ℕ) → seq ≡ 0 → sent_message plain k seq ≡ None
none_at_0 nodes rows plain shows k low seq is =
    subst (λ s. sent_message plain k s ≡ None) (sym is) (sent_is_numbered plain k 0 shows.is_world (omega (arith, low, size_shown nodes rows plain shows)))

-- a message that is given: it was sent, fits and can be carried, and this is its frame
pub record IsGiven (plain : PlainWorld) (k seq n epoch limit : ℕ) (frame : List ℕ) (m : Message) : Type 0 where
  pub sent : sent_message plain k seq ≡ Some m
  pub fit : IsTrue (fits (size_of plain) m)
  pub carried : IsTrue (is_carried plain.limit m)
  pub is : IsFrameOf n epoch limit (record { origin = k; seq = seq }) frame m

module _ {X : Type 0} (items : X → List (List ℕ)) (nodes : List NotedNode) (sent : List X) (plain : PlainWorld) (shows : Shows nodes (map items sent) plain)
    (k : ℕ) (row : X) (low : k < length nodes) (at : row ≡ slice_index_or sent k row) where
  member : k < size_of plain
  member = omega (arith, low, size_shown nodes (map items sent) plain shows)

  kept : k < length plain.sent
  kept = omega (arith, member, shows.is_world.of_each)

  row_shown : items row ≡ map (frame_of Two (size_of plain) (epoch_in plain)) (sent_by plain k)
  row_shown =
      let frames = map (frame_of Two (size_of plain) (epoch_in plain)) in
      let counted : length sent ≡ length plain.sent = sym (length-map sent items) ∙ ap length shows.frames ∙ length-map plain.sent frames in
      let l : k < length sent = omega (arith, kept, counted) in
      ap items at ∙ sym (get_or-map items sent k row [] l) ∙ ap (λ rows. slice_index_or rows k []) shows.frames ∙ get_or-map frames plain.sent k [] [] kept

  pub none_is_past : (seq : ℕ) → length (items row) < seq → sent_message plain k seq ≡ None
  none_is_past seq past =
      let ms = sent_by plain k in
      let counted : length (items row) ≡ length ms = ap length row_shown ∙ length-map ms (frame_of Two (size_of plain) (epoch_in plain)) in
      let none : slice_get ms (seq - 1) ≡ None = slice_get_past ms (seq - 1) (omega (arith, past, counted)) in
      sent_is_numbered plain k seq shows.is_world member ∙ by (seq == 0) (slice_get ms (seq - 1)) none where
        by : (b : Bool) (x : Option Message) → x ≡ None → (if b then None else x) ≡ None
        by true x e = refl
        by false x e = e

  module _ (r : ℕ) (node : NotedNode) (stands : StandsAt nodes r node) (seq : ℕ) (some : seq ≢ 0) (most : seq ≤ length (items row)) (frame : List ℕ) (is : frame ≡ slice_index_or (items row) (seq - 1) frame) where
    pub message_given : (m : Message) × IsGiven plain k seq node.inner.n node.inner.epoch node.inner.limit frame m
    message_given =
        let n = size_of plain in
        let epoch = epoch_in plain in
        let ms = sent_by plain k in
        let counted : length (items row) ≡ length ms = ap length row_shown ∙ length-map ms (frame_of Two n epoch) in
        elim (slice_get_cases ms (seq - 1)).1 [
          | inl here ↦
              let m = here.0 in
              let number_is : sent_message plain k seq ≡ Some m = sent_is_numbered plain k seq shows.is_world member ∙ by (seq == 0) (λ e. some (eqb-true seq 0 e)) (slice_get ms (seq - 1)) ∙ here.2 in
              let IsOwn : Message → Type 0 = λ x. (x.origin ≡ k) × IsTrue (fits n x) × IsTrue (is_carried plain.limit x) in
              let own = All-get_or IsOwn ms (seq - 1) m here.1 (sent_are_own plain k shows.is_world member).1 in
              let parts = subst IsOwn here.3 own in
              let ids = and_parts (k == m.origin) (seq == number m) (found (has_id (record { origin = k; seq = seq })) ms m number_is).1 in
              let spelled : frame ≡ frame_of Two n epoch m = is ∙ ap (λ l. slice_index_or l (seq - 1) frame) row_shown ∙ get_or-map (frame_of Two n epoch) ms (seq - 1) m frame here.1 ∙ ap (frame_of Two n epoch) here.3 in
              let sent_frame = subst (λ x. IsFrame n epoch plain.limit x m) (sym spelled) (frame_is_sent n epoch plain.limit m parts.1 parts.2) in
              let same_n = n_shown nodes (map items sent) plain shows r node stands in
              let same_epoch = epoch_shown nodes (map items sent) plain shows r node stands in
              let same_limit = limit_shown nodes (map items sent) plain shows r node stands in (
                m,
                record {
                  sent = number_is;
                  fit = parts.1;
                  carried = parts.2;
                  is = record {
                    is = subst (λ x. IsFrame x node.inner.epoch node.inner.limit frame m) (sym same_n) (subst (λ x. IsFrame n x node.inner.limit frame m) (sym same_epoch) (subst (λ x. IsFrame n epoch x frame m) (sym same_limit) sent_frame));
                    id = ap (λ (o : ℕ). record { origin = o; seq = number m }) (sym (eqb-true k m.origin ids.0)) ∙ ap (λ (s : ℕ). record { origin = k; seq = s }) (sym (eqb-true seq (number m) ids.1));
                  };
                },
              )
          | inr past ↦ absurd (omega (arith, past.0, counted, most, some))
        ] where
          by : (b : Bool) → (b ≡ true → ⊥) → (x : Option Message) → (if b then None else x) ≡ x
          by true h x = absurd (h refl)
          by false h x = refl

    -- what giving it answers, by what it answers at the node
    pub replies_give : (left : NotedNode) → SameNode node left → (answer : Receive)
        → ((m : Message) → IsFrameOf node.inner.n node.inner.epoch node.inner.limit (record { origin = k; seq = seq }) frame m
        → Notes receive.NoMemory wants_frame (noting node.first (receive_notes m) (receive_rule node.inner.w m)) node.journal.notes answer left.journal.notes)
        → Comes (given.Got receive.NoMemory) takes_frame (give_at r k seq plain) plain (given.Got answer) (Shows (slice_set nodes r left) (map items sent))
    replies_give left same answer follows =
        let one = message_given in
        let m = one.0 in
        let comes = replies_offer nodes (map items sent) plain shows r node stands left same receive.NoMemory wants_frame (λ got. got) (noting node.first (receive_notes m) (receive_rule node.inner.w m)) m answer one.1.fit one.1.carried refl (follows m one.1.is) in
        let told : (given.Got (offer_at r m plain).0, (offer_at r m plain).1) ≡ give_at r k seq plain = ap (give_of r plain) (sym one.1.sent) in
        subst (λ made. Comes (given.Got receive.NoMemory) takes_frame made plain (given.Got answer) (Shows (slice_set nodes r left) (map items sent))) told (elim comes [
          | inl is ↦ inl (ap (λ got. given.Got got) is.0, is.1)
          | inr none ↦ inr (ap (λ got. given.Got got) none.0, none.1, none.2)
        ])

-- the frame of one that is accepted is read
pub accepted_is_read : (answer : Receive) → IsTrue (is_accepted answer) → IsTrue (wants_frame answer)
accepted_is_read receive.Old accepted = cc
accepted_is_read receive.Again accepted = cc
accepted_is_read receive.Far accepted = refl
accepted_is_read receive.Kept accepted = refl
accepted_is_read (receive.Took steps) accepted = refl
accepted_is_read receive.NoMemory accepted = refl

-- where none was sent with the number, none is given
pub none_is_given : (plain : PlainWorld) (r k seq : ℕ) (Leaves : PlainWorld → Type 0) → sent_message plain k seq ≡ None → Leaves plain → Comes (given.Got receive.NoMemory) takes_frame (give_at r k seq plain) plain given.Unsent Leaves
none_is_given plain r k seq Leaves none shows =
    subst (λ made. Comes (given.Got receive.NoMemory) takes_frame made plain given.Unsent Leaves) (ap (give_of r plain) (sym none)) (inl (refl, shows))
