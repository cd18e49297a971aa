use Rattle.std.proofs.Common.{◌≡◌, ℕ, true, ◌++◌, ◌∷◌, [], All, IsTrue, refl, sym, ap, subst, ◌∙◌, if◌then◌else◌}
use Rattle.std.proofs.lemmas.Bool.{eq-eqb, ne_eqb}
use Rattle.op_base.specs.Message.{fits}
use Rattle.op_base.specs.Timestamp.{covers}
use Rattle.op_base.specs.declared.message.Message.{Message}
use Rattle.causal_model.specs.Stability.{is_stable}
use Rattle.causal_model.proofs.Delivery.Settling.{last_is_next}
use Rattle.outbox.specs.Sent.{ComesAfter}
use Rattle.outbox.specs.Sent.{Sent}
use Rattle.stability_matrix.specs.Rows.{stable_of}
use Rattle.replica_core.specs.Steps.{IsSender, KeepsMatrix, with_own_in, left_unstable}
use Rattle.replica_core.specs.declared.step.Sender.TheVariants as sender
use Rattle.replica_core.proofs.Steps.{last_was_deliverable, stable_adds_none}
use Rattle.replica_core.proofs.step.note.Goals as goal
use Rattle.replica_core.proofs.step.note.Goals.{In-Own, After-note_own_moving-moved}

-- who sent it, where there is room for its copy
own_is : (c : In-Own) → IsSender c.args.matrix.now.me c.args.matrix.now c.args.message.now (sender.Own c.in-Own.room)
own_is c = subst (IsSender c.args.matrix.now.me c.args.matrix.now c.args.message.now) c.in-Own.is c.requires.sender

pub copied-requires : goal.copied-requires
copied-requires c = (own_is (goal.at.copied-requires c).In-Own).1

pub push-requires-clause-room : goal.push-requires-clause-room
push-requires-clause-room c = c.requires.room (own_is (goal.at.push-requires-clause-room c).In-Own).0

pub push-requires-clause-fits : goal.push-requires-clause-fits
push-requires-clause-fits c =
    let is = own_is (goal.at.push-requires-clause-fits c).In-Own in
    subst (λ m. IsTrue (fits c.args.outbox.now.n m)) (sym c.copied.ensures) (c.requires.fits is.0)

pub push-requires-clause-next : goal.push-requires-clause-next
push-requires-clause-next c =
    let is = own_is (goal.at.push-requires-clause-next c).In-Own in
    subst (λ m. All (λ e. ComesAfter e m) c.args.outbox.now.messages) (sym c.copied.ensures) (c.requires.next is.0)

-- the matrix is that of the messages with an own one
own_known : (c : After-note_own_moving-moved) → c.args.message.now.origin ≡ c.args.matrix.now.me → KeepsMatrix c.args.message.now c.args.matrix.now c.note_own_moving-moved.new.self
own_known c is n w me messages chapter of =
    let m = c.args.message.now in
    let own : m.origin ≡ me = is ∙ of.of_me in
    c.note_own_moving-moved.ensures.known n me messages m of own refl ((last_is_next n w me messages m chapter).1.own own)

pub returns-then-not-is_stable-clause-known : goal.returns-then-not-is_stable-clause-known
returns-then-not-is_stable-clause-known c =
    let at = goal.at.returns-then-not-is_stable-clause-known c in
    own_known at.After-note_own_moving-moved (own_is at.In-Own).0

pub returns-else-not-is_stable-clause-known : goal.returns-else-not-is_stable-clause-known
returns-else-not-is_stable-clause-known c =
    let at = goal.at.returns-else-not-is_stable-clause-known c in
    own_known at.After-note_own_moving-moved (own_is at.In-Own).0

-- an outbox with an own message at its end
own_pushed : (me : ℕ) (m : Message) (o : Sent) → m.origin ≡ me → record { n = o.n; w = o.w; messages = o.messages ++ m ∷ [] } ≡ with_own_in me m o
own_pushed me m o own = ap (λ own. record { n = o.n; w = o.w; messages = if own then o.messages ++ m ∷ [] else o.messages }) (sym (eq-eqb m.origin me own))

pub returns-then-not-is_stable-clause-outbox : goal.returns-then-not-is_stable-clause-outbox
returns-then-not-is_stable-clause-outbox c =
    let o = c.args.outbox.now in
    let own = (own_is (goal.at.returns-then-not-is_stable-clause-outbox c).In-Own).0 in
    ap (left_unstable (stable_of c.note_own_moving-moved.new.self.rows))
    (c.push.ensures.pushed ∙ ap (λ m. record { n = o.n; w = o.w; messages = o.messages ++ m ∷ [] }) c.copied.ensures ∙ own_pushed c.args.matrix.now.me c.args.message.now o own)

pub returns-else-not-is_stable-clause-outbox : goal.returns-else-not-is_stable-clause-outbox
returns-else-not-is_stable-clause-outbox c =
    let o = c.args.outbox.now in
    let m = c.args.message.now in
    let stable = stable_of c.note_own_moving-moved.new.self.rows in
    let own = (own_is (goal.at.returns-else-not-is_stable-clause-outbox c).In-Own).0 in
    let is : is_stable stable m ≡ true = sym (c.is_stable.ensures.least ∙ ap (covers stable) c.id.ensures) ∙ c.if-not-is_stable.false in
    ap (λ messages. record { n = o.n; w = o.w; messages = messages }) (stable_adds_none stable m o.messages is) ∙ ap (left_unstable stable) (own_pushed c.args.matrix.now.me m o own)

pub returns-in-Other-clause-known : goal.returns-in-Other-clause-known
returns-in-Other-clause-known c = λ n w me messages chapter of.
    c.note_moved.ensures.known n me messages c.args.message.now of (record { of_origin = refl; with_tag = refl; deliverable = last_was_deliverable n w me messages c.args.message.now chapter })

pub returns-in-Other-clause-outbox : goal.returns-in-Other-clause-outbox
returns-in-Other-clause-outbox c =
    let m = c.args.message.now in
    let is = subst (IsSender c.args.matrix.now.me c.args.matrix.now m) c.in-Other.is c.requires.sender in
    let o = c.args.outbox.now in
    ap (λ own. left_unstable (stable_of c.note_moved.new.self.rows) (record { n = o.n; w = o.w; messages = if own then o.messages ++ m ∷ [] else o.messages })) (sym (ne_eqb m.origin c.args.matrix.now.me is.0))
