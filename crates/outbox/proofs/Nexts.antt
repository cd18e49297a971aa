-- A member's next own message, and its outbox.
use Rattle.std.proofs.Common.{◌≡◌, ℕ, ◌<◌, ◌≤◌, All, not, ◌==◌, List, [], ◌∷◌, ◌++◌, length, get_or, true, IsTrue, sym, ap, ◌∙◌, arith}
use Rattle.std.specs.List.{filter}
use Rattle.std.proofs.lemmas.Bool.{eqb-true}
use Rattle.std.proofs.lemmas.List.Elements.{All-filter, filter_passes}
use Rattle.op_base.specs.Message.{number}
use Rattle.op_base.specs.declared.message.Message.{Message}
use Rattle.causal_model.specs.Chapter.{is_chapter}
use Rattle.causal_model.specs.Counts.{count_of}
use Rattle.causal_model.specs.Sending.{outbox_of}
use Rattle.causal_model.specs.Stability.{is_stable, stable_vector, unstable_messages}
use Rattle.causal_model.proofs.Delivery.Limits.{numbers_are_counted}
use Rattle.causal_model.proofs.Delivery.Numbered.{next_follows_unstable}
use Rattle.causal_model.proofs.Delivery.Settling.{last_is_next}
use Rattle.outbox.specs.Sent.{ComesAfter, room_of}

pub next_is_pushed : (n w me : ℕ) (ms : List Message) (m : Message) → me < n → 1 ≤ w → IsTrue (is_chapter n w me (ms ++ m ∷ [])) → m.origin ≡ me
    → (length (outbox_of n me ms) < room_of n w) × All (λ e. ComesAfter e m) (outbox_of n me ms)
next_is_pushed n w me ms m l some chapter own =
    let parts = last_is_next n w me ms m chapter in
    let room = (next_follows_unstable n w me ms m l some chapter).0 in
    let Counted : Message → Type 0 = λ e. number e ≤ count_of ms e.origin in
    let counted : All Counted (outbox_of n me ms) = All-filter (λ e. e.origin == me) Counted (unstable_messages n me ms)
    (All-filter (λ e. not (is_stable (stable_vector n me ms) e)) Counted ms (numbers_are_counted n w me ms parts.0)) in
    let follows : (e : Message) → (e.origin == me) ≡ true → Counted e → ComesAfter e m = λ e is_own upto.
    let same : e.origin ≡ m.origin = eqb-true e.origin me is_own ∙ sym own in
    record { of_origin = same; rises = omega (arith, upto, ap (count_of ms) same, parts.1.counted) } in
    let owns = filter_passes (λ (e : Message). e.origin == me) (unstable_messages n me ms) in (
      omega (arith, room, ap (λ x. length (filter (λ (e : Message). e.origin == x) (unstable_messages n me ms))) own),
      λ k d within. follows (get_or (outbox_of n me ms) k d) (owns k d within) (counted k d within),
    )
