-- What one more worker gave back.
use Rattle.std.proofs.Common.{◌≡◌, ℕ, ◌+◌, ◌-◌, ◌<◌, ◌≤◌, List, [], ◌∷◌, ◌++◌, length, get_or, All, inl, inr, refl, sym, ap, subst, ◌∙◌, arith}
use Rattle.std.specs.Prelude.{map}
use Rattle.std.proofs.lemmas.Bool.{cases_eq, cases_lt}
use Rattle.std.proofs.lemmas.List.{length-append, map-append, get_or_push, get_or_append_left}
use Rattle.std.proofs.lemmas.List.Elements.{All-nil, All-cons, All-append}
use Rattle.mailboxes.specs.Passes.{seen}
use Rattle.mailboxes.specs.declared.mailbox.MailPass.{MailPass}
use Rattle.mailboxes.specs.declared.mailbox.Mailbox.{Mailbox}
use Rattle.replica_lock.specs.Held.{Held}
use Rattle.replica_lock.specs.Turns.{notes_in}
use Rattle.replica_lock.specs.declared.pass.Settings.{Settings}
use Rattle.turn_lock.specs.Turns.{LockState}
use Rattle.live_run.specs.Ended.{AreLocks, IsClientBack}
use Rattle.live_run.specs.Inputs.{commands_in, commands_of, replica_of_client}
use Rattle.live_run.specs.Jobs.{IsClientsDone, IsCouriersDone}
use Rattle.live_run.specs.Joining.{IsBack}
use Rattle.live_run.specs.Mails.{KeptWasPosted}
use Rattle.live_run.specs.Returned.{AreDone, AreReturned, HasCarried, IsPut}
use Rattle.live_run.specs.Told.{AreTold}
use Rattle.live_run.specs.Workers.{IsMailDone}
use Rattle.live_run.specs.declared.input.NumberedLine.{NumberedLine}
use Rattle.live_run.specs.declared.joining.Back.{Back}
use Rattle.live_run.specs.declared.letter.Letter.{Letter}
use Rattle.live_run.specs.declared.returned.Returned.{Returned}
use Rattle.live_run.specs.declared.told.ClientDone.{ClientDone}
use Rattle.live_run.specs.declared.told.CourierDone.{CourierDone}
use Rattle.live_run.specs.declared.told.Told.{Told}
use Rattle.live_run.specs.declared.workers.Done.{Done}
use Rattle.live_run.specs.declared.workers.Done.TheVariants as done
use Rattle.live_run.proofs.Ended.{some_of}
use Rattle.live_run.proofs.Places.{both_pushed}

abbrev Row : Type 0
Row = List (MailPass Letter)

-- one more pass of a node came back
pub put_more : (d : Done) (old new : Returned) → IsPut d old new → length new.backs.items ≡ length old.backs.items + 1
put_more (done.Client at back) old new is = ap length is.2 ∙ length-append old.backs.items (record { at = at; pass = back.pass } ∷ [])
put_more (done.Courier at back) old new is = ap length is.2 ∙ length-append old.backs.items (record { at = at; pass = back.pass } ∷ [])
put_more (done.Stopped pass) old new is = absurd is

module _ (nodes : List (LockState Settings)) (mailboxes : List (Mailbox Letter)) (lines : List NumberedLine) (w clients : ℕ) where
  abbrev n : ℕ
  n = length nodes

  abbrev at_of : ℕ → ℕ
  at_of c = replica_of_client n (commands_in lines) c

  abbrev IsHere : ℕ → List Told → Back → Type 0
  IsHere c told back = IsClientBack n w (at_of c) (commands_of c (commands_in lines)) told back

  abbrev Are : ℕ → List (List Told) → List Row → List Back → Type 0
  Are i told rows backs = AreReturned nodes mailboxes lines w clients i told rows backs

  none_returned : Are 0 [] [] []
  none_returned = record {
    all = refl;
    to_each = omega arith;
    of_each = omega arith;
    backs_of = All-nil (IsBack nodes);
    client = λ c d e lc l. absurd (omega (arith, l));
    courier = λ r d e l. absurd (omega (arith, l));
  }

  more_client : (i : ℕ) (told : List (List Told)) (rows : List Row) (backs : List Back) (t : List Told) (b : Back) → Are i told rows backs → i < clients → IsHere i t b → IsBack nodes b
      → Are (i + 1) (told ++ t ∷ []) rows (backs ++ b ∷ [])
  more_client i told rows backs t b was low here of =
      let told_is : length told ≡ i = omega (arith, was.to_each, low) in
      let longer = length-append told (t ∷ []) in
      record {
        all = omega (arith, was.all, length-append backs (b ∷ []));
        to_each = omega (arith, told_is, longer, low);
        of_each = omega (arith, was.of_each, low);
        backs_of = All-append (IsBack nodes) backs (b ∷ []) was.backs_of (All-cons (IsBack nodes) b [] of (All-nil (IsBack nodes)));
        client = λ c d e lc l. both_pushed (λ c t b. c < clients → IsHere c t b) told backs t b (omega (arith, was.all, told_is))
            (λ c d e l lc. was.client c d e lc (omega (arith, l, told_is))) (λ lc. subst (λ c. IsHere c t b) (sym told_is) here) c d e (omega (arith, l, longer, told_is)) lc;
        courier = λ r d e l. absurd (omega (arith, l, low));
      }

  more_courier : (i : ℕ) (told : List (List Told)) (rows : List Row) (backs : List Back) (row : Row) (b : Back) → Are i told rows backs → clients ≤ i → HasCarried mailboxes (i - clients) row b → IsBack nodes b
      → Are (i + 1) told (rows ++ row ∷ []) (backs ++ b ∷ [])
  more_courier i told rows backs row b was past here of =
      let rows_are : length rows ≡ i - clients = was.of_each in
      let longer = length-append rows (row ∷ []) in
      record {
        all = omega (arith, was.all, length-append backs (b ∷ []));
        to_each = omega (arith, was.to_each, past);
        of_each = omega (arith, rows_are, longer, past);
        backs_of = All-append (IsBack nodes) backs (b ∷ []) was.backs_of (All-cons (IsBack nodes) b [] of (All-nil (IsBack nodes)));
        client = λ c d e lc l.
            let below : c < length backs = omega (arith, lc, past, was.all) in
            subst (IsHere c (get_or told c d)) (sym (get_or_append_left backs (b ∷ []) e c below)) (was.client c d e lc (omega (arith, lc, past)));
        courier = λ r d e l. elim (cases_eq r (i - clients)) [
          | inl same ↦
              subst (λ (p : ℕ × (Row × Back)). HasCarried mailboxes p.0 p.1.0 p.1.1)
              (λ j. (sym same j, (sym (get_or_push rows row d r (rows_are ∙ sym same)) j, sym (get_or_push backs b e (clients + r) (omega (arith, was.all, same, past))) j))) here
          | inr other ↦
              let low : clients + r < i = omega (arith, l, other, past) in
              subst (λ (p : Row × Back). HasCarried mailboxes r p.0 p.1)
              (λ j. (sym (get_or_append_left rows (row ∷ []) d r (omega (arith, low, rows_are))) j, sym (get_or_append_left backs (b ∷ []) e (clients + r) (omega (arith, low, was.all))) j)) (was.courier r d e low)
        ];
      }

  abbrev pub Have : ℕ → Returned → Type 0
  Have i r = Are i (map (λ ts. ts.items) r.told.items) (map (λ row. row.items) r.rows.items) r.backs.items

  module _ (locks : AreLocks n w nodes) where
    back_of : (at r : ℕ) (pass : Held) → at ≡ r → r < n → ((d : LockState Settings) → pass.lock ≡ get_or nodes r d) → IsBack nodes (record { at = at; pass = pass })
    back_of at r pass same inside of = record {
      inside = omega (arith, same, inside);
      of = λ d. of d ∙ ap (λ k. get_or nodes k d) (sym same);
    }

    client_back : (c at : ℕ) (d : ClientDone) → IsClientsDone nodes lines c (at_of c) (done.Client at d) → IsHere c d.told.items (record { at = at; pass = d.pass })
    client_back c at d (same, inside, is) =
        let lock = some_of nodes (at_of c) inside in
        let client = is lock in
        record {
          at_its = same;
          are_told = subst (λ (k : Settings). AreTold k.n k.w k.me (notes_in d.pass.seen) (commands_of c (commands_in lines)) d.told.items) (locks.keys (at_of c) lock inside) client.are_told;
          places_rise = client.places_rise;
          sent = client.sent;
          only_sent = client.only_sent;
        }

    courier_back : (r at : ℕ) (d : CourierDone) → IsCouriersDone nodes mailboxes r (done.Courier at d) → HasCarried mailboxes r d.mails.items (record { at = at; pass = d.pass })
    courier_back r at d (same, inside, is) =
        let lock = some_of nodes r inside in
        let courier = is lock in
        let me = ap (λ (k : Settings). k.me) (locks.keys r lock inside) in
        record {
          at_its = same;
          mails = record {
            of_each = courier.of_each;
            each = λ x b e l. subst (λ m. IsMailDone (get_or mailboxes x b) (m + 1) (notes_in d.pass.seen) (get_or d.mails.items x e)) me (courier.mails x b e l);
          };
          kept = λ e. subst (λ m. All (KeptWasPosted (seen (get_or d.mails.items m e)).posted) (notes_in d.pass.own)) me (courier.kept e);
          noops = courier.noops;
          one_epoch = courier.one_epoch;
        }

    -- ---- what was put so far

    pub returned_none : (r : Returned) → r.told.items ≡ [] → r.rows.items ≡ [] → r.backs.items ≡ [] → Have (length r.backs.items) r
    returned_none r no_told no_rows no_backs =
        subst (λ (p : List (List Told) × (List Row × List Back)). Are (length p.1.1) p.0 p.1.0 p.1.1)
        (λ i. (map (λ ts. ts.items) (sym no_told i), (map (λ row. row.items) (sym no_rows i), sym no_backs i))) none_returned

    module _ (results : List Done) (are : AreDone nodes mailboxes lines clients results) (i : ℕ) (old new : Returned) (had : Have i old) (inside : i < length results) where
      put_client : (at : ℕ) (d : ClientDone) → (e : Done) → get_or results i e ≡ done.Client at d → IsPut (done.Client at d) old new → Have (i + 1) new
      put_client at d e is (told, rows, backs) = elim (cases_lt i clients) [
        | inl low ↦
            let made = subst (IsClientsDone nodes lines i (at_of i)) is (are.client i e low) in
            let back : Back = record { at = at; pass = d.pass } in
            subst (λ (p : List (List Told) × (List Row × List Back)). Are (i + 1) p.0 p.1.0 p.1.1)
            (λ j. (sym (ap (map (λ ts. ts.items)) told ∙ map-append (λ ts. ts.items) old.told.items (d.told ∷ [])) j, (map (λ row. row.items) (sym rows j), sym backs j)))
            (more_client i (map (λ ts. ts.items) old.told.items) (map (λ row. row.items) old.rows.items) old.backs.items d.told.items back had low
            (client_back i at d made) (back_of at (at_of i) d.pass made.0 made.1 (λ l. (made.2 l).of_lock)))
        | inr past ↦
            let r = i - clients in
            let same : clients + r ≡ i = omega (arith, past) in
            absurd (subst (IsCouriersDone nodes mailboxes r) (ap (λ k. get_or results k e) same ∙ is) (are.courier r e (omega (arith, inside, are.all, past))))
      ]

      put_courier : (at : ℕ) (d : CourierDone) → (e : Done) → get_or results i e ≡ done.Courier at d → IsPut (done.Courier at d) old new → Have (i + 1) new
      put_courier at d e is (told, rows, backs) = elim (cases_lt i clients) [
        | inl low ↦ absurd (subst (IsClientsDone nodes lines i (at_of i)) is (are.client i e low))
        | inr past ↦
            let r = i - clients in
            let same : clients + r ≡ i = omega (arith, past) in
            let made = subst (IsCouriersDone nodes mailboxes r) (ap (λ k. get_or results k e) same ∙ is) (are.courier r e (omega (arith, inside, are.all, past))) in
            let back : Back = record { at = at; pass = d.pass } in
            subst (λ (p : List (List Told) × (List Row × List Back)). Are (i + 1) p.0 p.1.0 p.1.1)
            (λ j. (map (λ ts. ts.items) (sym told j), (sym (ap (map (λ row. row.items)) rows ∙ map-append (λ row. row.items) old.rows.items (d.mails ∷ [])) j, sym backs j)))
            (more_courier i (map (λ ts. ts.items) old.told.items) (map (λ row. row.items) old.rows.items) old.backs.items d.mails.items back had past
            (courier_back r at d made) (back_of at r d.pass made.0 made.1 (λ l. (made.2 l).of_lock)))
      ]

      pub returned_more : (d e : Done) → get_or results i e ≡ d → IsPut d old new → Have (i + 1) new
      returned_more (done.Client at back) e is put = put_client at back e is put
      returned_more (done.Courier at back) e is put = put_courier at back e is put
      returned_more (done.Stopped pass) e is put = absurd put
