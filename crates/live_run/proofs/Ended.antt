-- What workers did, once they are back, is a run.
use Rattle.std.proofs.Common.{◌≡◌, ℕ, zero, suc, ◌+◌, ◌-◌, ◌<◌, ◌≤◌, ◌==◌, Bool, true, false, List, [], ◌∷◌, ◌++◌, length, get_or, All, inl, inr, refl, sym, ap, ap₂, subst, ◌∙◌, if◌then◌else◌, zero-add, arith}
use Rattle.std.specs.List.{flat_map, Contains, range_with_len}
use Rattle.std.specs.List.Sorted.{IsPermutation}
use Rattle.std.proofs.Math.Logic.{∥∥₁_elim, ∥∥₁_map, ∥∥₁_prop}
use Rattle.std.proofs.lemmas.Bool.{cases_eq, cases_lt, eqb-true}
use Rattle.std.proofs.lemmas.Grind.{flat_map-append}
use Rattle.std.proofs.lemmas.List.{get_or-map, length-map}
use Rattle.std.proofs.Math.ListN.{get_or-eq_default}
use Rattle.std.proofs.Props.{props}
use Rattle.std.proofs.lemmas.List.Elements.{All-nil, All-append, All-cons, All-head, All-tail, All-contains, All-weaker, filter_passes}
use Rattle.std.proofs.lemmas.List.Sorted.{IsPermutation-sym, All-permutation}
use Rattle.op_base.specs.declared.message.Message.{Message}
use Rattle.causal_model.specs.Journal.{IsLegal, replay}
use Rattle.causal_model.specs.declared.note.Note.{Note}
use Rattle.causal_model.specs.declared.note.Note.TheVariants as note
use Rattle.honest_worlds.proofs.ClosedJournals.{legal_is_replayed}
use Rattle.mailboxes.specs.declared.seen.Posted.{Posted}
use Rattle.replica_lock.specs.Shows.{notes_append}
use Rattle.replica_lock.specs.Turns.{NotedNode, NotedTurn, notes_in}
use Rattle.replica_lock.specs.declared.pass.Settings.{Settings}
use Rattle.script_lang.specs.declared.live.LiveCommand.{LiveCommand}
use Rattle.turn_lock.specs.Turns.{LockState}
use Rattle.world_model.specs.Journals.{journal_of, ends_epoch, AreJournals, KeepsSent, sent_in}
use Rattle.live_run.specs.Ended.{IsCourierBack, AreBack, AreLocks, HasRun, WorkersHaveRun, notes_of_each}
use Rattle.live_run.specs.Inputs.{commands_of, replica_of_client}
use Rattle.live_run.specs.Joining.{own_at, HasNoted, HaveNoted}
use Rattle.live_run.specs.Limits.{live_limit}
use Rattle.live_run.specs.Mails.{SentBy, KeptWasPosted}
use Rattle.live_run.specs.Runs.{told_to, ok_numbers_at}
use Rattle.live_run.specs.Told.{AreTold, ok_numbers, sent_number, sent_numbers}
use Rattle.live_run.specs.Workers.{IsSentNote, settings_of}
use Rattle.live_run.specs.declared.joining.Back.{Back}
use Rattle.live_run.specs.declared.letter.Letter.{Letter}
use Rattle.live_run.specs.declared.told.Told.{Told}
use Rattle.live_run.proofs.Fronts.{are_told_longer}

-- ---- of lists

pub some_of : {X : Type 0} (xs : List X) (r : ℕ) → r < length xs → X
some_of [] r l = let no : ⊥ = omega (arith, l) in absurd no
some_of (x ∷ xs) r l = x

-- what is so of each below a number, though it isn't told how
pub each_below : (n : ℕ) (P : ℕ → Type 0) → ((r : ℕ) → r < n → ∥ P r ∥₁) → ∥ ((r : ℕ) → r < n → P r) ∥₁
each_below zero P some = ∣ (λ r l. let no : ⊥ = omega (arith, l) in absurd no) ∣₁
each_below (suc n) P some =
    ∥∥₁_elim (some n (omega arith)) ∥∥₁_prop (λ last. ∥∥₁_map (each_below n P (λ r l. some r (omega (arith, l)))) (λ all r l. elim (cases_eq r n) [
      | inl same ↦ subst P (sym same) last
      | inr other ↦ all r (omega (arith, l, other))
    ]))

-- a list whose front has these pieces by place, and whose other elements have none
front_pieces : {X A : Type 0} (f : X → List A) (g : ℕ → List A) (xs : List X) (start k : ℕ) → k ≤ length xs
    → ((i : ℕ) (d : X) → i < k → f (get_or xs i d) ≡ g (start + i))
    → ((i : ℕ) (d : X) → k ≤ i → i < length xs → f (get_or xs i d) ≡ [])
    → flat_map f xs ≡ flat_map g (range_with_len start k)
front_pieces f g [] start zero few here there = refl
front_pieces f g [] start (suc k) few here there = let no : ⊥ = omega (arith, few) in absurd no
front_pieces f g (x ∷ xs) start zero few here there =
    ap₂ (λ (a b : List _). a ++ b) (there 0 x (omega arith) (omega arith)) (front_pieces f g xs start zero (omega arith) (λ i d l. let no : ⊥ = omega (arith, l) in absurd no) (λ i d a b. there (suc i) d (omega (arith, a)) (omega (arith, b))))
front_pieces f g (x ∷ xs) start (suc k) few here there =
    ap₂ (λ (a b : List _). a ++ b) (here 0 x (omega arith) ∙ ap g (omega arith))
    (front_pieces f g xs (start + 1) k (omega (arith, few)) (λ i d l. here (suc i) d (omega (arith, l)) ∙ ap g (omega arith)) (λ i d a b. there (suc i) d (omega (arith, a)) (omega (arith, b))))

none_of_it : {A : Type 0} {xs : List A} (here : Bool) → xs ≡ [] → (if here then xs else []) ≡ []
none_of_it true none = none
none_of_it false none = refl

pub none_in : {X : Type 0} (xs : List X) (x : X) → length xs ≡ 0 → Contains xs x → ⊥
none_in xs x none has = omega (arith, none, has.1)

-- what is so of all that notes sent is so of each that stands as sent
abbrev IsOfSent : (Message → Type 0) → Note → Type 0
IsOfSent P (note.Sent m) = P m
IsOfSent P other = Unit {0}

each_sent : (P : Message → Type 0) (notes : List Note) → All P (sent_in notes) → All (IsOfSent P) notes
each_sent P [] all = All-nil (IsOfSent P)
each_sent P (note.Sent m ∷ notes) all = All-cons (IsOfSent P) (note.Sent m) notes (All-head P m (sent_in notes) all) (each_sent P notes (All-tail P m (sent_in notes) all))
each_sent P (note.Kept m ∷ notes) all = All-cons (IsOfSent P) (note.Kept m) notes tt (each_sent P notes all)
each_sent P (note.Took id ∷ notes) all = All-cons (IsOfSent P) (note.Took id) notes tt (each_sent P notes all)
each_sent P (note.Crook id ∷ notes) all = All-cons (IsOfSent P) (note.Crook id) notes tt (each_sent P notes all)
each_sent P (note.Regroup epoch n me ∷ notes) all = All-cons (IsOfSent P) (note.Regroup epoch n me) notes tt (each_sent P notes all)

pub sent_has : (P : Message → Type 0) (notes : List Note) (m : Message) → All P (sent_in notes) → Contains notes (note.Sent m) → P m
sent_has P notes m all has = All-contains (IsOfSent P) notes (note.Sent m) (each_sent P notes all) has

-- ---- own turns at a node

sent_one : (r : ℕ) (b : Back) → sent_numbers (notes_in (if b.at == r then b.pass.own else [])) ≡ (if b.at == r then sent_numbers (notes_in b.pass.own) else [])
sent_one r b = pick (b.at == r)
  where
    pick : (here : Bool) → sent_numbers (notes_in (if here then b.pass.own else [])) ≡ (if here then sent_numbers (notes_in b.pass.own) else [])
    pick true = refl
    pick false = refl

sent_at : (r : ℕ) (backs : List Back) → sent_numbers (notes_in (own_at r backs)) ≡ flat_map (λ b. if b.at == r then sent_numbers (notes_in b.pass.own) else []) backs
sent_at r [] = refl
sent_at r (b ∷ bs) =
    let own : List NotedTurn = if b.at == r then b.pass.own else [] in
    ap sent_numbers (notes_append own (own_at r bs)) ∙ flat_map-append sent_number (notes_in own) (notes_in (own_at r bs)) ∙ ap₂ (λ (x y : List ℕ). x ++ y) (sent_one r b) (sent_at r bs)

all_at : (P : Note → Type 0) (r : ℕ) (backs : List Back) → ((i : ℕ) (d : Back) → i < length backs → (get_or backs i d).at ≡ r → All P (notes_in (get_or backs i d).pass.own)) → All P (notes_in (own_at r backs))
all_at P r [] each = All-nil P
all_at P r (b ∷ bs) each =
    let own : List NotedTurn = if b.at == r then b.pass.own else [] in
    subst (All P) (sym (notes_append own (own_at r bs)))
    (All-append P (notes_in own) (notes_in (own_at r bs)) (first (b.at == r) (λ is. each 0 b (omega arith) (eqb-true b.at r is))) (all_at P r bs (λ i d l here. each (suc i) d (omega (arith, l)) here)))
  where
    first : (here : Bool) → (here ≡ true → All P (notes_in b.pass.own)) → All P (notes_in (if here then b.pass.own else []))
    first true all = all refl
    first false all = All-nil P

-- ---- the journals of a run

only_sent_keeps : (journals : List (List Note)) (x : Note) → IsSentNote x → KeepsSent journals x
only_sent_keeps journals (note.Sent m) is = tt
only_sent_keeps journals (note.Kept m) is = absurd is
only_sent_keeps journals (note.Took id) is = absurd is
only_sent_keeps journals (note.Crook id) is = absurd is
only_sent_keeps journals (note.Regroup epoch n me) is = absurd is

only_sent_goes_on : (x : Note) → IsSentNote x → ends_epoch x ≡ false
only_sent_goes_on (note.Sent m) is = refl
only_sent_goes_on (note.Kept m) is = absurd is
only_sent_goes_on (note.Took id) is = absurd is
only_sent_goes_on (note.Crook id) is = absurd is
only_sent_goes_on (note.Regroup epoch n me) is = absurd is

module _ (n w clients : ℕ) (commands : List LiveCommand) (told : List (List Told)) (posted : ℕ → List (Posted Letter)) (locks : List (LockState Settings)) (backs : List Back) (nodes : List NotedNode)
    (few : n ≤ 16) (at_members : (c : ℕ) → c < clients → replica_of_client n commands c < n) (are_locks : AreLocks n w locks) (back : AreBack n w clients commands told posted backs) (noted : HaveNoted locks backs nodes)
    (was_sent : (r : ℕ) → r < n → All (λ (p : Posted Letter). SentBy (journal_of (notes_of_each nodes)) p.by p.item) (posted r)) where
  abbrev Journals : List (List Note)
  Journals = notes_of_each nodes

  abbrev At : ℕ → List Note
  At r = journal_of Journals r

  -- a member's node
  record HasNode (r : ℕ) : Type 0 where
    node : NotedNode
    lock : LockState Settings
    has : HasNoted r lock backs node
    key : lock.key ≡ settings_of n w r
    its : At r ≡ node.journal.notes

  node_at : (r : ℕ) → r < n → HasNode r
  node_at r l =
      let of_lock : r < length locks = omega (arith, l, are_locks.of_each) in
      let of_node : r < length nodes = omega (arith, of_lock, noted.of_each) in
      let d = some_of locks r of_lock in
      let f = some_of nodes r of_node in
      record {
        node = get_or nodes r f;
        lock = get_or locks r d;
        has = noted.each r d f of_lock;
        key = are_locks.keys r d l;
        its = get_or-map (λ (x : NotedNode). x.journal.notes) nodes r f [] of_node;
      }

  legal_at : (r : ℕ) → r < n → ∥ IsLegal n w live_limit r (At r) ∥₁
  legal_at r l =
      let it = node_at r l in
      let is = it.has.is_node in
      ∥∥₁_map it.node.legal (λ legal. subst (λ (x : (ℕ × ℕ) × ((ℕ × ℕ) × List Note)). IsLegal x.0.1 x.1.0.0 x.1.0.1 x.0.0 x.1.1)
      (λ i. ((is.first ∙ ap (λ (k : Settings). (k.me, k.n)) it.key) i, (((is.w ∙ ap (λ (k : Settings). k.w) it.key) i, (is.limit ∙ ap (λ (k : Settings). k.limit) it.key) i), sym it.its i))) legal)

  -- what is so of the notes of all own turns at a member is so of its journal
  all_noted_at : (P : Note → Type 0) (r : ℕ) → r < n → ((i : ℕ) (d : Back) → i < length backs → (get_or backs i d).at ≡ r → All P (notes_in (get_or backs i d).pass.own)) → All P (At r)
  all_noted_at P r l each =
      let it = node_at r l in
      subst (All P) (sym it.its) (All-permutation P (notes_in (own_at r backs)) it.node.journal.notes it.has.noted (all_at P r backs each))

  -- it is so where it is of what clients sent, and of what the courier there noted
  by_workers : (P : Note → Type 0) (r : ℕ) → r < n → ((x : Note) → IsSentNote x → P x) → ((d : Back) → IsCourierBack r (posted r) (get_or backs (clients + r) d) → All P (notes_in (get_or backs (clients + r) d).pass.own)) → All P (At r)
  by_workers P r l of_clients of_courier = all_noted_at P r l (λ i d inside here. elim (cases_lt i clients) [
    | inl of ↦ All-weaker IsSentNote P of_clients (notes_in (get_or backs i d).pass.own) (back.client i d of).only_sent
    | inr past ↦
        let q : i - clients < n = omega (arith, inside, back.all, past) in
        let is : clients + (i - clients) ≡ i = omega (arith, past) in
        let at_q : i - clients ≡ r = sym (back.courier (i - clients) d q).at_its ∙ ap (λ k. (get_or backs k d).at) is ∙ here in
        subst (λ k. All P (notes_in (get_or backs k d).pass.own)) (ap (λ k. clients + k) (sym at_q) ∙ is) (of_courier d (back.courier r d l))
  ])

  one_epoch_at : (r : ℕ) → r < n → All (λ x. ends_epoch x ≡ false) (At r)
  one_epoch_at r l = by_workers (λ x. ends_epoch x ≡ false) r l only_sent_goes_on (λ d is. is.one_epoch)

  -- a message stands as sent in the journal of its origin alone
  of_origin : (k : ℕ) (m : Message) → Contains (At k) (note.Sent m) → m.origin ≡ k
  of_origin k m has = elim (cases_lt k n) [
    | inl l ↦ ∥∥₁_elim (legal_at k l) (search props) (λ legal.
        let is = legal_is_replayed n w live_limit k (At k) few l legal (one_epoch_at k l) in
        let present = (replay n k (At k)).history.present in
        let own = subst (All (λ (x : Message). (x.origin == present.me) ≡ true)) is.own (filter_passes (λ (x : Message). x.origin == present.me) present.messages) in
        eqb-true m.origin k (ap (λ me. m.origin == me) (sym is.replica.of_member) ∙ sent_has (λ (x : Message). (x.origin == present.me) ≡ true) (At k) m own has))
    | inr past ↦ absurd (none_in (At k) (note.Sent m) (ap length (get_or-eq_default Journals [] (omega (arith, past, length-map nodes (λ (x : NotedNode). x.journal.notes), noted.of_each, are_locks.of_each)))) has)
  ]

  posted_keeps : (m : Message) (p : Posted Letter) → SentBy At p.by p.item → p.item.message ≡ m → Contains (At m.origin) (note.Sent m)
  posted_keeps m p sent is = from p.by sent
    where
      from : (by : ℕ) → SentBy At by p.item → Contains (At m.origin) (note.Sent m)
      from zero never = absurd never
      from (suc k) stands =
          let there = subst (λ x. Contains (At k) (note.Sent x)) is stands in
          subst (λ r. Contains (At r) (note.Sent m)) (sym (of_origin k m there)) there

  kept_keeps : (r : ℕ) → r < n → (x : Note) → KeptWasPosted (posted r) x → KeepsSent Journals x
  kept_keeps r l (note.Kept m) (p, has, is) = posted_keeps m p (All-contains (λ (p : Posted Letter). SentBy At p.by p.item) (posted r) p (was_sent r l) has) is
  kept_keeps r l (note.Sent m) was = tt
  kept_keeps r l (note.Took id) was = tt
  kept_keeps r l (note.Crook id) was = tt
  kept_keeps r l (note.Regroup epoch m me) was = tt

  kept_at : (r : ℕ) → r < n → All (KeepsSent Journals) (At r)
  kept_at r l = by_workers (KeepsSent Journals) r l (only_sent_keeps Journals) (λ d is. All-weaker (KeptWasPosted (posted r)) (KeepsSent Journals) (kept_keeps r l) (notes_in (get_or backs (clients + r) d).pass.own) is.kept)

  journals_are : ∥ AreJournals n w live_limit Journals ∥₁
  journals_are = ∥∥₁_map (each_below n (λ r. IsLegal n w live_limit r (At r)) legal_at) (λ legal. record {
    legal = legal;
    one_epoch = one_epoch_at;
    kept = λ r m l has. All-contains (KeepsSent Journals) (At r) (note.Kept m) (kept_at r l) has;
  })

  -- ---- what clients were told

  told_at : (c : ℕ) → c < clients → AreTold n w (replica_of_client n commands c) (At (replica_of_client n commands c)) (commands_of c commands) (told_to told c)
  told_at c l =
      let r = replica_of_client n commands c in
      let it = node_at r (at_members c l) in
      let d = some_of backs c (omega (arith, l, back.all)) in
      let is = back.client c d l in
      let front = it.has.fronts c d (omega (arith, l, back.all)) is.at_its in
      subst (λ notes. AreTold n w r notes (commands_of c commands) (told_to told c)) (sym (it.its ∙ front.1))
      (are_told_longer n w r (notes_in (get_or backs c d).pass.seen) front.0 (commands_of c commands) (told_to told c) is.are_told)

  numbers_at : (r : ℕ) → r < n → IsPermutation (sent_numbers (At r)) (ok_numbers_at n clients commands told r)
  numbers_at r l =
      let it = node_at r l in
      let one : (b : Back) → List ℕ = λ b. if b.at == r then sent_numbers (notes_in b.pass.own) else [] in
      let theirs : ℕ → List ℕ = λ c. if replica_of_client n commands c == r then ok_numbers (told_to told c) else [] in
      let same : sent_numbers (notes_in (own_at r backs)) ≡ ok_numbers_at n clients commands told r =
      sent_at r backs ∙ front_pieces one theirs backs 0 clients (omega (arith, back.all))
      (λ c d lc.
      let is = back.client c d lc in
      let here : one (get_or backs c d) ≡ theirs c = λ i. if is.at_its i == r then is.sent i else [] in
      here ∙ ap theirs (sym (zero-add c)))
      (λ i d past inside.
      let q : i - clients < n = omega (arith, inside, back.all, past) in
      let at_i : clients + (i - clients) ≡ i = omega (arith, past) in
      none_of_it ((get_or backs i d).at == r) (ap (λ k. sent_numbers (notes_in (get_or backs k d).pass.own)) (sym at_i) ∙ (back.courier (i - clients) d q).noops)) in
      subst (λ (p : List ℕ × List ℕ). IsPermutation p.0 p.1) (λ i. (ap sent_numbers (sym it.its) i, same i)) (IsPermutation-sym _ _ it.has.sent)

  pub has_run : HasRun n w clients commands told Journals
  has_run = record {
    of_each = length-map nodes (λ (x : NotedNode). x.journal.notes) ∙ noted.of_each ∙ are_locks.of_each;
    to_each = back.to_each;
    journals_are = journals_are;
    are_told = told_at;
    places_rise = λ c l. (back.client c (some_of backs c (omega (arith, l, back.all))) l).places_rise;
    one_to_one = numbers_at;
  }

pub workers_have_run : WorkersHaveRun
workers_have_run n w clients commands told posted locks backs nodes few at_members are_locks back noted was_sent = has_run n w clients commands told posted locks backs nodes few at_members are_locks back noted was_sent
