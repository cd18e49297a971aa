-- No two messages of a chapter have one id.
use Rattle.std.proofs.Common.{◌≡◌, ℕ, ◌==◌, false, AllPairs, IsTrue, List, get_or, ap, arith}
use Rattle.std.proofs.lemmas.Bool.{and_parts, eqb-true, false_from_ne_true}
use Rattle.std.proofs.lemmas.List.Quantifiers.{all_pairs_push}
use Rattle.op_base.specs.Message.{number}
use Rattle.op_base.specs.declared.message.Message.{Message}
use Rattle.causal_model.specs.Chapter.{is_chapter}
use Rattle.causal_model.specs.Counts.{count_of}
use Rattle.causal_model.specs.Order.{same_id}
use Rattle.causal_model.proofs.Delivery.Chapters.{chapter_induction}
use Rattle.causal_model.proofs.Delivery.Limits.{numbers_are_counted}

pub ids_are_apart : (n w me : ℕ) (h : List Message) → IsTrue (is_chapter n w me h) → AllPairs (λ (a b : Message). same_id a b ≡ false) h
ids_are_apart n w me = chapter_induction n w me (λ g. AllPairs (λ (a b : Message). same_id a b ≡ false) g) (λ i j d _ l. absurd (omega (arith, l))) (λ g m t next ih.
    all_pairs_push (λ (a b : Message). same_id a b ≡ false) g m ih (λ k d l.
    let e = get_or g k d in
    false_from_ne_true (same_id e m) (λ same.
    let both = and_parts (e.origin == m.origin) (number e == number m) same in
    absurd (omega (arith, numbers_are_counted n w me g t k d l, next.counted, ap (count_of g) (eqb-true e.origin m.origin both.0), eqb-true (number e) (number m) both.1)))))
