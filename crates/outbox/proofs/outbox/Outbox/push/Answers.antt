use Rattle.std.proofs.Common.{◌≡◌, ◌≤◌, ◌*◌, [], ◌∷◌, ◌++◌, length, length-append, length-drop, drop, take, All, ap, sym, subst, ◌∙◌, arith}
use Rattle.std.specs.Prelude.{IsTrue, AllPairs, vec_capacity}
use Rattle.std.proofs.lemmas.List.{take-append-le, drop-append-le}
use Rattle.std.proofs.lemmas.List.Elements.{All-push}
use Rattle.std.proofs.lemmas.List.Quantifiers.{all_pairs_push}
use Rattle.op_base.specs.Message.{fits}
use Rattle.outbox.specs.Sent.{Sent, ComesAfter, IsHusk, room_of}
use Rattle.outbox.specs.Fields.{sent_of}
use Rattle.outbox.specs.declared.outbox.Outbox.TheInside.{Inside}
use Rattle.outbox.proofs.Drops.{with_messages}
use Rattle.outbox.proofs.outbox.Outbox.push.Goals as goal
use Rattle.outbox.proofs.outbox.Outbox.push.Goals.{then-len-capacity, else-len-capacity}

-- the fields of an outbox before the message is pushed
record IsReady (sent : Sent) (o : Inside) : Type 0 where
  same : sent_of o ≡ sent
  room : 2 * room_of o.n o.w ≤ vec_capacity o.kept
  counted : o.gone ≤ length o.kept.items
  husks : All IsHusk (take o.gone o.kept.items)

pub invariant_of-self : goal.invariant_of-self
invariant_of-self c =
    let old = c.args.self.now in
    let ready : IsReady old c.if-len-capacity.self-inside = elim c.if-len-capacity.branch [
      | then-len-capacity w ↦ subst (IsReady old) (sym w.self-inside-is) (record {
        same = ap (with_messages c.self.inside.n c.self.inside.w) (w.drop.ensures.items ∙ w.drain.ensures.kept) ∙ c.self.view_is;
        room = omega (arith, c.self.invariant.room, w.drop.ensures.capacity, w.drain.ensures.capacity);
        counted = omega arith;
        husks = λ k d l. absurd (omega (arith, l));
      })
      | else-len-capacity w ↦ subst (IsReady old) (sym w.self-inside-is) (record {
        same = c.self.view_is;
        room = c.self.invariant.room;
        counted = c.self.invariant.counted;
        husks = c.self.invariant.husks;
      })
    ] in
    let inside = c.if-len-capacity.self-inside in
    let xs = inside.kept.items in
    let last = c.args.message ∷ [] in
    let pushed : c.push_reserved.new.self.items ≡ xs ++ last = c.push_reserved.ensures.items in
    let held : drop inside.gone c.push_reserved.new.self.items ≡ old.messages ++ last =
    ap (drop inside.gone) pushed ∙ drop-append-le inside.gone xs last ready.counted ∙ ap (λ sent. sent.messages ++ last) ready.same in
    let n : inside.n ≡ c.self.inside.n = ap (λ sent. sent.n) (ready.same ∙ sym c.self.view_is) in
    let w : inside.w ≡ c.self.inside.w = ap (λ sent. sent.w) (ready.same ∙ sym c.self.view_is) in
    let fit : All (λ m. IsTrue (fits old.n m)) (old.messages ++ last) = All-push (λ m. IsTrue (fits old.n m)) old.messages c.args.message
    (subst (λ sent. All (λ m. IsTrue (fits sent.n m)) sent.messages) c.self.view_is c.self.invariant.fit) c.requires.fits in
    record {
      some = omega (arith, c.self.invariant.some, n);
      few = omega (arith, c.self.invariant.few, n);
      window = omega (arith, c.self.invariant.window, w);
      narrow = omega (arith, c.self.invariant.narrow, w);
      room = omega (arith, ready.room, c.push_reserved.ensures.capacity);
      counted = omega (arith, ready.counted, ap length pushed, length-append xs last);
      held = omega (arith, ap length held, length-drop inside.gone c.push_reserved.new.self.items, length-append old.messages last, c.requires.room, ap (λ sent. room_of sent.n sent.w) ready.same);
      husks = subst (All IsHusk) (sym (ap (take inside.gone) pushed ∙ take-append-le inside.gone xs last ready.counted)) ready.husks;
      fit = subst (All (λ m. IsTrue (fits inside.n m))) (sym held) (subst (λ k. All (λ m. IsTrue (fits k m)) (old.messages ++ last)) (sym (ap (λ sent. sent.n) ready.same)) fit);
      rise = subst (AllPairs ComesAfter) (sym held) (all_pairs_push ComesAfter old.messages c.args.message (subst (AllPairs ComesAfter) (ap (λ sent. sent.messages) c.self.view_is) c.self.invariant.rise) c.requires.next);
    }
