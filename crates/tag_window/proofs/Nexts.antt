-- The next message, and what is held of its origin.
use Rattle.std.proofs.Common.{◌≡◌, ℕ, ◌+◌, ◌-◌, ◌<◌, ◌≤◌, ◌==◌, List, [], ◌∷◌, ◌++◌, length, map, get_or, IsTrue, sym, ap, subst, ◌∙◌, arith}
use Rattle.std.proofs.lemmas.Bool.{eqb-true}
use Rattle.std.proofs.lemmas.List.{length-map, get_or-map}
use Rattle.std.proofs.lemmas.List.Elements.{filter_passes}
use Rattle.std.proofs.lemmas.Option.{slice_get-get_or}
use Rattle.op_base.specs.Timestamp.{entry}
use Rattle.op_base.specs.declared.message.Message.{Message}
use Rattle.causal_model.specs.Chapter.{is_chapter}
use Rattle.causal_model.specs.Stability.{noop_window, unstable_messages, unstable_of}
use Rattle.causal_model.proofs.Delivery.Numbered.{next_follows_unstable}
use Rattle.causal_model.proofs.Delivery.Settling.{last_is_next}
use Rattle.tag_window.specs.declared.held.Held.{Held}
use Rattle.tag_window.specs.Window.{Window, held_of, IsNextNumber}
use Rattle.tag_window.specs.History.{held_message, IsWindowOf}

pub next_has_room : (n w me : ℕ) (ms : List Message) (m : Message) (window : Window) → me < n → 1 ≤ w → IsTrue (is_chapter n w me (ms ++ m ∷ [])) → IsWindowOf n w me ms window
    → (length (held_of window m.origin) < w + noop_window n w) × IsNextNumber m.origin (held_of window m.origin) m.tag
next_has_room n w me ms m window l some chapter of =
    let x = m.origin in
    let member = (last_is_next n w me ms m chapter).1.member in
    let follows = next_follows_unstable n w me ms m l some chapter in
    let unstable = unstable_of n me ms x in
    let len = length-map unstable held_message in
    let next : IsNextNumber x (map held_message unstable) m.tag = λ last there.
    let within : length unstable - 1 < length unstable = omega (arith, there, len) in
    let e = get_or unstable (length unstable - 1) m in
    let own : e.origin ≡ x = eqb-true e.origin x (filter_passes (λ (y : Message). y.origin == x) (unstable_messages n me ms) (length unstable - 1) m within) in
    let number_of : Held → ℕ = λ h. entry h.tag x + 1 in
    ap (λ k. number_of (get_or (map held_message unstable) (k - 1) last)) len ∙ ap number_of (get_or-map held_message unstable (length unstable - 1) m last within)
    ∙ ap (λ y. entry e.tag y + 1) (sym own) ∙ follows.1 e (omega (arith, there, len)) (slice_get-get_or unstable (length unstable - 1) m within) in
    subst (λ held. (length held < w + noop_window n w) × IsNextNumber x held m.tag) (sym (of.holds x member)) (omega (arith, follows.0, len), next)
