use Rattle.std.proofs.Common.{◌≡◌, ℕ, ◌<◌, true, false, ◌++◌, ◌∷◌, [], List, length, map, take, get_or, refl, sym, ap, subst, ◌∙◌, arith}
use Rattle.op_base.specs.Message.{id_of}
use Rattle.op_base.specs.Timestamp.{id_at}
use Rattle.op_base.specs.declared.message.Entry.{Entry}
use Rattle.op_base.specs.declared.tag.MessageId.{MessageId}
use Rattle.causal_model.specs.Log.{message_of}
use Rattle.polog.specs.Rows.{is_live, live_rows}
use Rattle.polog.proofs.Gaps.{live-more, live-no-more}
use Rattle.polog.proofs.Orders.{not-true, not-false}
use Rattle.polog.proofs.Places.{each-at, any-of}
use Rattle.polog.proofs.ids.numbered_ids.Goals as goal
use Rattle.polog.proofs.ids.numbered_ids.Goals.{then-not-is_free+in_ok-push, else-not-is_free}

pub id-requires : goal.id-requires
id-requires c =
    let rows = c.args.rows.now.rows in
    let d : ℕ × Entry = (0, c.entry.result.now) in
    subst (λ (e : Entry). e.origin < length e.tag) (sym (c.entry.ensures d))
    (each-at (λ r. r.1.origin < length r.1.tag) rows c.requires c.loop-at.at d (omega (arith, c.loop-at-test.true, c.len-at-end.ensures)))

abbrev told : ℕ × Entry → ℕ × MessageId
told r = (r.0, id_of (message_of r.1))

map-join : (xs : List (ℕ × Entry)) (r : ℕ × Entry) → map told (xs ++ r ∷ []) ≡ map told xs ++ told r ∷ []
map-join [] r = refl
map-join (x ∷ xs) r = ap (λ ys. told x ∷ ys) (map-join xs r)

pub loop-at-preserved : goal.loop-at-preserved
loop-at-preserved c =
    let rows = c.args.rows.now.rows in
    let at = c.loop-at.at in
    let inside : at < length rows = omega (arith, c.loop-at-test.true, c.len-at-end.ensures) in
    elim c.if-not-is_free.branch [
      | then-not-is_free+in_ok-push w ↦
          let d : ℕ × Entry = (0, w.entry.result.now) in
          let id = w.id.ensures ∙ ap (λ (e : Entry). id_at e.origin e.tag) (w.entry.ensures d) in
          let live : is_live (get_or rows at d) ≡ true = not-false _ (sym (c.is_free.ensures d) ∙ w.if-not-is_free.true) in
          rw w.ids-is (w.in_ok-push.ensures.items
          ∙ (λ t. c.loop-at.invariant t ++ (w.number.ensures d t, id t) ∷ [])
          ∙ sym (ap (map told) (live-more rows at d inside live) ∙ map-join (live_rows (take at rows)) (get_or rows at d)))
      | else-not-is_free w ↦
          let d = any-of rows (omega (arith, inside)) in
          let free : is_live (get_or rows at d) ≡ false = not-true _ (sym (c.is_free.ensures d) ∙ w.if-not-is_free.false) in
          rw w.ids-is (c.loop-at.invariant ∙ sym (ap (map told) (live-no-more rows at d inside free)))
    ]
