-- What a text is that is no update, and what is told of an update that wasn't sent.
use Rattle.std.proofs.Common.{◌≡◌, ◌≢◌, ℕ, ◌≤◌, true, false, List, [], ◌∷◌, length, get_or, map, take, drop, refl, sym, ap, subst, ◌∙◌, arith}
use Rattle.std.specs.Prelude.{Option, Some, None, Result, Ok, Err}
use Rattle.std.proofs.lemmas.Bool.{cond-true}
use Rattle.op_base.specs.declared.operation.Update.{Update}
use Rattle.script_lang.specs.Acts.{are_few, update_in}
use Rattle.script_lang.specs.declared.fault.Fault.{Fault}
use Rattle.script_lang.specs.declared.fault.Fault.TheVariants as fault
use Rattle.peer.specs.Calls.{is_framed}
use Rattle.peer.specs.declared.answers.Updated.{Updated}
use Rattle.peer.specs.declared.answers.Updated.TheVariants as updated
use Rattle.peer_c.specs.declared.outcome.Outcome.TheVariants.{Done, NoMemory}
use Rattle.peer_c.specs.Tells.{words_update, told_number, told_fault, told_update}

-- what words are is told by the first seven of them
pub update_by_seven : (words : List (List ℕ)) → words_update (take 7 words) ≡ words_update words
update_by_seven [] = refl
update_by_seven (a ∷ []) = refl
update_by_seven (a ∷ b ∷ []) = refl
update_by_seven (a ∷ b ∷ c ∷ []) = refl
update_by_seven (a ∷ b ∷ c ∷ d ∷ []) = refl
update_by_seven (a ∷ b ∷ c ∷ d ∷ e ∷ words) = refl

-- no more than two arguments are few
few_arguments : {X : Type 0} (f : X → List ℕ) (arguments : List X) → length arguments ≤ 2 → are_few (map f arguments) ≡ true
few_arguments f [] few = refl
few_arguments f (a ∷ []) few = refl
few_arguments f (a ∷ b ∷ []) few = refl
few_arguments f (a ∷ b ∷ c ∷ arguments) few = absurd (omega arith)

-- words are an update by their arguments where these are few
pub few_update : {X : Type 0} (f : X → List ℕ) (none : X) (words arguments : List X) → 2 ≤ length words → arguments ≡ drop 2 words → length arguments ≤ 2
    → words_update (map f words) ≡ update_in (f (get_or words 0 none)) (f (get_or words 1 none)) (map f arguments)
few_update f none [] arguments two are few = absurd (omega arith)
few_update f none (object ∷ []) arguments two are few = absurd (omega arith)
few_update {X} f none (object ∷ operation ∷ words) arguments two are few =
    subst (λ (xs : List X). words_update (map f (object ∷ operation ∷ words)) ≡ update_in (f object) (f operation) (map f xs)) (sym are)
    (cond-true _ _ _ (few_arguments f words (omega (arith, few, ap length are))))

err_is_not_ok : (f : Fault) (u : Update) → Err f ≡ Ok u → ⊥
err_is_not_ok f u e = cc

-- what is an update is refused for want of memory alone
pub only_memory : (f : Fault) (wanted : Result Update Fault) (u : Update) → (f ≢ fault.NoMemory → wanted ≡ Err f) → wanted ≡ Ok u → f ≡ fault.NoMemory
only_memory fault.TooLong wanted u told is = absurd (err_is_not_ok fault.TooLong u (sym (told (λ e. cc)) ∙ is))
only_memory fault.Keyword wanted u told is = absurd (err_is_not_ok fault.Keyword u (sym (told (λ e. cc)) ∙ is))
only_memory fault.Words wanted u told is = absurd (err_is_not_ok fault.Words u (sym (told (λ e. cc)) ∙ is))
only_memory fault.Member wanted u told is = absurd (err_is_not_ok fault.Member u (sym (told (λ e. cc)) ∙ is))
only_memory fault.Object wanted u told is = absurd (err_is_not_ok fault.Object u (sym (told (λ e. cc)) ∙ is))
only_memory fault.Operation wanted u told is = absurd (err_is_not_ok fault.Operation u (sym (told (λ e. cc)) ∙ is))
only_memory fault.Value wanted u told is = absurd (err_is_not_ok fault.Value u (sym (told (λ e. cc)) ∙ is))
only_memory fault.Number wanted u told is = absurd (err_is_not_ok fault.Number u (sym (told (λ e. cc)) ∙ is))
only_memory fault.NoMemory wanted u told is = refl

-- what is no update is refused for its own fault, but for want of memory
pub told_is_fault : (e f : Fault) (wanted : Result Update Fault) → (e ≢ fault.NoMemory → wanted ≡ Err e) → wanted ≡ Err f → told_fault e ≢ NoMemory → told_fault e ≡ told_fault f
told_is_fault e f wanted told is other =
    let same : ◌≡◌ {A = Result Update Fault} (Err e) (Err f) = sym (told (λ memory. other (ap told_fault memory))) ∙ is in
    let both : e ≡ f = cc in ap told_fault both

pub number_is_not_done : (number : Option ℕ) → told_number number ≢ Done
number_is_not_done (Some number) = λ done. cc
number_is_not_done None = λ done. cc

pub unsent_update : (answer : Updated) → told_update answer ≢ Done → is_framed answer ≡ false
unsent_update (updated.Frame frame) other = absurd (other refl)
unsent_update updated.Busy other = refl
unsent_update updated.End other = refl
unsent_update updated.NoMemory other = refl
