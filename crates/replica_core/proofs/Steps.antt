-- A message more, as the parts of a replica take it.
use Rattle.std.proofs.Common.{◌≡◌, ℕ, true, cond, ◌&&◌, ◌||◌, ◌==◌, not, nat_eq, IsTrue, List, [], ◌∷◌, ◌++◌, filter, append-nil, ap, sym, ◌∙◌}
use Rattle.std.specs.Prelude.{is_none}
use Rattle.std.specs.Cmp.Lexicographic.{pointwise}
use Rattle.std.proofs.lemmas.Bool.{and_parts}
use Rattle.std.proofs.lemmas.List.Elements.{filter-append}
use Rattle.op_base.specs.Message.{fits}
use Rattle.op_base.specs.declared.message.Message.{Message}
use Rattle.causal_model.specs.Chapter.{is_admissible, is_next, is_chapter}
use Rattle.causal_model.specs.Counts.{counts, next_tag, is_deliverable}
use Rattle.causal_model.specs.Crook.{crook_of}
use Rattle.causal_model.specs.Stability.{is_stable}
use Rattle.causal_model.proofs.Delivery.Chapters.{is_chapter-push}
use Rattle.outbox.specs.Sent.{unstable_in}

-- what the last message of a chapter was before it was delivered
module _ (n w me : ℕ) (messages : List Message) (m : Message) (chapter : IsTrue (is_chapter n w me (messages ++ m ∷ []))) where
  last_could_come : IsTrue (fits n m && is_admissible n w me messages m)
  last_could_come =
      let both = and_parts (is_chapter n w me messages) (is_next n w me messages m) (sym (is_chapter-push n w me messages m) ∙ chapter) in
      (and_parts (fits n m && is_admissible n w me messages m) (not (m.origin == me) || pointwise nat_eq m.tag (next_tag n me messages)) both.1).0

  pub last_fits : IsTrue (fits n m)
  last_fits = (and_parts (fits n m) (is_admissible n w me messages m) last_could_come).0

  pub last_was_deliverable : IsTrue (is_deliverable n (counts n messages) m)
  last_was_deliverable =
      (and_parts (is_deliverable n (counts n messages) m) (is_none (crook_of n w me messages m)) (and_parts (fits n m) (is_admissible n w me messages m) last_could_come).1).0

-- a message that is stable adds nothing to those that aren't
pub stable_adds_none : (stable : List ℕ) (m : Message) (messages : List Message) → is_stable stable m ≡ true → unstable_in stable messages ≡ unstable_in stable (messages ++ m ∷ [])
stable_adds_none stable m messages is =
    let left = λ (e : Message). not (is_stable stable e) in
    sym (filter-append left messages (m ∷ []) ∙ ap (λ b. filter left messages ++ cond (not b) (m ∷ []) []) is ∙ append-nil (filter left messages))
