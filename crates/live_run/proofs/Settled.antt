-- A run's journals once they have settled.
use Rattle.std.proofs.Common.{◌≡◌, ℕ, false, List, [], ◌∷◌, ◌++◌, All, refl, sym, ap, ap₂, subst, ◌∙◌, arith}
use Rattle.std.specs.List.Sorted.{IsPermutation}
use Rattle.std.proofs.Math.Logic.{∥∥₁_elim, ∥∥₁_prop}
use Rattle.std.proofs.Props.{props}
use Rattle.std.proofs.lemmas.Bool.{true≢false}
use Rattle.std.proofs.lemmas.Grind.{flat_map-append}
use Rattle.std.proofs.lemmas.List.{append-nil}
use Rattle.std.proofs.lemmas.List.Elements.{All-head, All-tail}
use Rattle.op_base.specs.Message.{number}
use Rattle.causal_model.specs.Stability.{carries_operation}
use Rattle.op_base.specs.declared.operation.Op.{Op}
use Rattle.op_base.specs.declared.operation.Op.TheVariants as op
use Rattle.causal_model.specs.Journal.{IsLegal}
use Rattle.causal_model.specs.declared.note.Note.{Note}
use Rattle.causal_model.specs.declared.note.Note.TheVariants as note
use Rattle.honest_worlds.proofs.ClosedJournals.{journals_have_no_crook}
use Rattle.world_model.specs.Journals.{journal_of, AreJournals, sends_update}
use Rattle.world_model.proofs.Growing.{grown_are_journals}
use Rattle.live_run.specs.Ended.{SettledIsRun}
use Rattle.live_run.specs.Inputs.{replica_of_client, commands_of}
use Rattle.live_run.specs.Limits.{live_limit}
use Rattle.live_run.specs.Runs.{told_to, ok_numbers_at}
use Rattle.live_run.specs.Told.{AreTold, carried_number, sent_number, sent_numbers}
use Rattle.live_run.proofs.Ended.{each_below}
use Rattle.live_run.proofs.Fronts.{are_told_longer}

noop_has_none : (seq : ℕ) (o : Op) → carries_operation o ≡ false → carried_number seq o ≡ []
noop_has_none seq op.NoOp none = refl
noop_has_none seq (op.Update update) none = absurd (true≢false none)

none_of_note : (x : Note) → sends_update x ≡ false → sent_number x ≡ []
none_of_note (note.Sent m) none = noop_has_none (number m) m.op none
none_of_note (note.Kept m) none = refl
none_of_note (note.Took id) none = refl
none_of_note (note.Crook id) none = refl
none_of_note (note.Regroup epoch n me) none = refl

-- notes that send no update have no numbers of updates
none_sent : (notes : List Note) → All (λ x. sends_update x ≡ false) notes → sent_numbers notes ≡ []
none_sent [] all = refl
none_sent (x ∷ notes) all =
    ap₂ (λ (a b : List ℕ). a ++ b) (none_of_note x (All-head (λ x. sends_update x ≡ false) x notes all)) (none_sent notes (All-tail (λ x. sends_update x ≡ false) x notes all))

pub settled_is_run : SettledIsRun
settled_is_run n w clients commands told old new some few window at_members had grown legal still settled =
    let journals : ∥ AreJournals n w live_limit new ∥₁ =
    ∥∥₁_elim had.journals_are ∥∥₁_prop (λ are. ∥∥₁_elim (each_below n (λ r. IsLegal n w live_limit r (journal_of new r)) legal) ∥∥₁_prop (λ all. grown_are_journals n w live_limit old new are grown all)) in
    record {
      of_each = grown.of_each ∙ had.of_each;
      to_each = had.to_each;
      journals_are = journals;
      straight = λ r l k d inside. ∥∥₁_elim journals (search props) (λ are. journals_have_no_crook n w live_limit r new some few window (omega arith) are l k d inside);
      are_told = λ c l.
          let r = replica_of_client n commands c in
          let more = grown.each r in
          subst (λ notes. AreTold n w r notes (commands_of c commands) (told_to told c)) (sym more.grows) (are_told_longer n w r (journal_of old r) more.more (commands_of c commands) (told_to told c) (had.are_told c l));
      places_rise = had.places_rise;
      one_to_one = λ r l.
          let more = grown.each r in
          let same : sent_numbers (journal_of new r) ≡ sent_numbers (journal_of old r) =
          ap sent_numbers more.grows ∙ flat_map-append sent_number (journal_of old r) more.more ∙ ap (λ ns. sent_numbers (journal_of old r) ++ ns) (none_sent more.more more.noops) ∙ append-nil (sent_numbers (journal_of old r)) in
          subst (λ ns. IsPermutation ns (ok_numbers_at n clients commands told r)) (sym same) (had.one_to_one r l);
      still = still;
      settled = settled;
    }
