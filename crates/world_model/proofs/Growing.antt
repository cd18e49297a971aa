-- Journals that grow while no update is sent: so they do in two steps, and they are journals of one store still.
use Rattle.std.proofs.Common.{◌≡◌, ℕ, zero, suc, ◌<◌, List, ◌++◌, false, All, Contains, inl, inr, sym, ap, subst, ◌∙◌, append_assoc, arith}
use Rattle.std.proofs.Math.Logic.{∥∥₁_map, ∥∥₁_map₂}
use Rattle.std.proofs.lemmas.Bool.{cases_eq}
use Rattle.std.proofs.lemmas.List.Elements.{All-contains, All-weaker, All-append, Contains-append_left, Contains-append_cases}
use Rattle.causal_model.specs.declared.note.Note.{Note}
use Rattle.causal_model.specs.declared.note.Note.TheVariants as note
use Rattle.world_model.specs.Journals.{journal_of, ends_epoch, KeepsSent, sends_update}
use Rattle.world_model.specs.Laws.{GrowingGoesOn, GrownAreJournals}

-- what a note keeps stands as sent in longer journals too
module _ (b c : List (List Note)) (longer : (r : ℕ) → (more : List Note) × (journal_of c r ≡ journal_of b r ++ more)) where
  pub keeps_sent-longer : (x : Note) → KeepsSent b x → KeepsSent c x
  keeps_sent-longer (note.Kept m) keeps =
      let l = longer m.origin in
      subst (λ notes. Contains notes (note.Sent m)) (sym l.1) (Contains-append_left (journal_of b m.origin) l.0 (note.Sent m) keeps)
  keeps_sent-longer (note.Sent m) keeps = tt
  keeps_sent-longer (note.Took id) keeps = tt
  keeps_sent-longer (note.Crook id) keeps = tt
  keeps_sent-longer (note.Regroup epoch n me) keeps = tt

pub growing_goes_on : GrowingGoesOn
growing_goes_on a b c first later = record {
  of_each = later.of_each ∙ first.of_each;
  each = λ r.
      let f = first.each r in
      let l = later.each r in
      record {
        more = f.more ++ l.more;
        grows = l.grows ∙ ap (λ notes. notes ++ l.more) f.grows ∙ append_assoc (journal_of a r) f.more l.more;
        sent = ∥∥₁_map₂ f.sent l.sent (λ before after.
            All-append (KeepsSent c) f.more l.more (All-weaker (KeepsSent b) (KeepsSent c) (keeps_sent-longer b c (λ q. ((later.each q).more, (later.each q).grows))) f.more before) after);
        one_epoch = All-append (λ note. ends_epoch note ≡ false) f.more l.more f.one_epoch l.one_epoch;
        noops = All-append (λ note. sends_update note ≡ false) f.more l.more f.noops l.noops;
      };
}

-- what somehow is of each number below n, somehow is of all
all_below : (P : ℕ → Type 0) (n : ℕ) → ((r : ℕ) → r < n → ∥ P r ∥₁) → ∥ ((r : ℕ) → r < n → P r) ∥₁
all_below P zero each = ∣ (λ r l. absurd (omega (arith, l))) ∣₁
all_below P (suc n) each = ∥∥₁_map₂ (all_below P n (λ r l. each r (omega (arith, l)))) (each n (omega arith)) (λ rest last r l. elim (cases_eq r n) [
  | inl e ↦ subst P (sym e) last
  | inr ne ↦ rest r (omega (arith, l, ne))
])

pub grown_are_journals : GrownAreJournals
grown_are_journals n w limit old new are grown legal = ∥∥₁_map (all_below (λ r. All (KeepsSent new) (grown.each r).more) n (λ r _. (grown.each r).sent)) (λ sent. record {
  legal = legal;
  one_epoch = λ r l.
      let g = grown.each r in
      subst (All (λ note. ends_epoch note ≡ false)) (sym g.grows) (All-append (λ note. ends_epoch note ≡ false) (journal_of old r) g.more (are.one_epoch r l) g.one_epoch);
  kept = λ r m l has.
      let g = grown.each r in
      elim (Contains-append_cases (journal_of old r) g.more (note.Kept m) (subst (λ notes. Contains notes (note.Kept m)) g.grows has)) [
        | inl before ↦ keeps_sent-longer old new (λ q. ((grown.each q).more, (grown.each q).grows)) (note.Kept m) (are.kept r m l before)
        | inr later ↦ All-contains (KeepsSent new) g.more (note.Kept m) (sent r l) later
      ];
})
