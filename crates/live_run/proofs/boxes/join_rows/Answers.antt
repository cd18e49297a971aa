use Rattle.std.proofs.Common.{◌≡◌, ℕ, ◌+◌, ◌++◌, ◌∷◌, [], List, ap, length, map, rules, subst, sym, ◌∙◌, arith}
use Rattle.std.specs.Vec.Iter.{into_iter_items}
use Rattle.std.proofs.lemmas.List.{append-nil, append_assoc, length-map, map-append}
use Rattle.live_run.specs.Posting.{AreMails}
use Rattle.live_run.proofs.Mailing.{AreMeeting, Row, all_met, front_here, met_more, met_none, none_left, row_here, row_joins}
use Rattle.live_run.proofs.boxes.join_rows.Goals as goal

pub loop-row-init : goal.loop-row-init
loop-row-init c = record { len = search rules; met = ([], search rules, met_none (length c.args.rows.items) c.args.mailboxes.now c.args.firsts.now c.requires.firsts) }

pub join_row-requires : goal.join_row-requires
join_row-requires c =
    let was = c.loop-row.invariant.met in
    let rows = map (λ row. row.items) was.0 in
    let split : c.args.rows.items ≡ was.0 ++ c.in-Some.row ∷ into_iter_items c.next.new.self = was.1 ∙ ap (λ l. was.0 ++ l) c.in-Some.ensures.steps.0 in
    let there = row_here (λ row. row.items) was.0 c.in-Some.row (into_iter_items c.next.new.self) c.args.rows.items split in
    row_joins (length c.args.rows.items) (length was.0) (c.requires.rows.0 (length was.0)) c.args.mailboxes.now rows c.in-Some.row.items c.loop-row.firsts was.2
    (subst (AreMails (length was.0 + 1) (c.requires.rows.0 (length was.0)) c.args.mailboxes.now) (there.1 []) (c.requires.rows.1 (length was.0) [] there.0))

pub loop-row-preserved : goal.loop-row-preserved
loop-row-preserved c =
    let was = c.loop-row.invariant.met in
    let rows = map (λ row. row.items) was.0 in
    let split : c.args.rows.items ≡ was.0 ++ c.in-Some.row ∷ into_iter_items c.next.new.self = was.1 ∙ ap (λ l. was.0 ++ l) c.in-Some.ensures.steps.0 in
    let there = row_here (λ row. row.items) was.0 c.in-Some.row (into_iter_items c.next.new.self) c.args.rows.items split in
    let row_is : length c.in-Some.row.items ≡ length c.args.mailboxes.now = ap length (sym (there.1 [])) ∙ (c.requires.rows.1 (length was.0) [] there.0).of_each in
    record {
      len = (let had = c.loop-row.invariant.len in grind (rules, arith));
      met = (
        was.0 ++ c.in-Some.row ∷ [],
        split ∙ sym (append_assoc was.0 (c.in-Some.row ∷ []) (into_iter_items c.next.new.self)),
        subst (λ rows. AreMeeting (length c.args.rows.items) c.args.mailboxes.now rows c.join_row.new.firsts) (sym (map-append (λ row. row.items) was.0 (c.in-Some.row ∷ [])))
            (met_more (length c.args.rows.items) c.args.mailboxes.now rows c.in-Some.row.items c.loop-row.firsts c.join_row.new.firsts
            (λ x inside k d l.
            let before = front_here (λ row. row.items) was.0 (c.in-Some.row ∷ into_iter_items c.next.new.self) c.args.rows.items split k d l in
            let mails = c.requires.rows.1 k d before.0 in
            omega (arith, inside, mails.of_each, ap length before.1))
            row_is was.2 c.join_row.ensures),
      );
    }

pub returns : goal.returns
returns c =
    let was = c.loop-row.invariant.met in
    let all : c.args.rows.items ≡ was.0 = was.1 ∙ ap (λ l. was.0 ++ l) (none_left (into_iter_items c.loop-row.row-iterator) (omega (arith, c.in-None.ensures.steps.0, c.loop-row.invariant.len))) ∙ append-nil was.0 in
    all_met c.args.mailboxes.now (map (λ row. row.items) c.args.rows.items) c.loop-row.firsts
    (subst (λ (p : ℕ × List Row). AreMeeting p.0 c.args.mailboxes.now p.1 c.loop-row.firsts) (λ i. (sym (length-map c.args.rows.items (λ row. row.items)) i, map (λ row. row.items) (sym all i))) was.2)
