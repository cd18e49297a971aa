-- The reply to what a world answers is that of the rule, and the world then shows the plain world after the rule.
use Rattle.std.proofs.Common.{◌≡◌, Bool, inl, inr, Option, Some, None, List, ℕ, ◌++◌, Result, Ok, Err, refl, sym, ap, subst, ◌∙◌}
use Rattle.std.proofs.lemmas.Bool.{false≢true}
use Rattle.std.specs.Prelude.{IfOk, OnOk, IsErr}
use Rattle.op_base.specs.declared.memory.NoMemory.{NoMemory}
use Rattle.causal_model.specs.Follows.{Follows, FollowsOrStops}
use Rattle.replica_keeper.specs.Worlds.{Shown, FollowsOrEnds}
use Rattle.replica_keeper.specs.declared.keep_world.KeepWorld.{KeepWorld}
use Rattle.script_lang.specs.Replies.{reply_line}
use Rattle.script_lang.specs.declared.reply.Reply.{Reply}
use Rattle.world_model.specs.Stops.{PlainKeep}
use Rattle.script_net.specs.Replied.{IsReply, IsTold}
use Rattle.script_net.specs.Transcript.{reply_text}

-- of an error nothing is told
neither : {T E : Type 0} (result : Result T E) (P : T → Type 0) (Q : Type 0) → IsErr result → IfOk result P × OnOk result Q
neither (Ok x) P Q e = absurd (false≢true e)
neither (Err e) P Q is = (tt, tt)

module _ {Q W : Type 0} (Shows : Q → W → Type 0) where
  tells : (o : Option Reply) (after : W) (result : Result Reply NoMemory) (new : Q) → IsReply o result → Shows new after → IsTold Shows (o, after) result new
  tells (Some r) after result new is shows = subst (λ made. IsTold Shows (Some r, after) made new) (sym is) (refl, shows)
  tells None after result new is shows = neither result (λ reply. None ≡ Some reply) (Shows new after) is

  module _ {A : Type 0} (reply_of : A → Option Reply) (no_memory : A) (none : reply_of no_memory ≡ None) (rule : W → A × W) (plain : W) (answer : A) (new : Q) (result : Result Reply NoMemory) (is : IsReply (reply_of answer) result) where
    abbrev RuleTold : Type 0
    RuleTold = IsTold Shows (reply_of (rule plain).0, (rule plain).1) result new

    by_rule : answer ≡ (rule plain).0 → Shows new (rule plain).1 → RuleTold
    by_rule e after = tells (reply_of (rule plain).0) (rule plain).1 result new (subst (λ x. IsReply (reply_of x) result) e is) after

    without_memory : answer ≡ no_memory → RuleTold
    without_memory e = neither result (λ reply. reply_of (rule plain).0 ≡ Some reply) (Shows new (rule plain).1) (subst (λ o. IsReply o result) (ap reply_of e ∙ none) is)

    module _ (old : Q) (shows : Shows old plain) where
      -- so it is of a call that follows a rule, and of one in whose midst memory can end
      pub follows_told : (takes_memory : A → Bool) → Follows Shows no_memory takes_memory rule old answer new → RuleTold
      follows_told takes_memory follows = elim (follows plain shows) [ inl a ↦ by_rule a.0 a.1 | inr a ↦ without_memory a.0 ]

      pub stops_told : (Passes : W → W → Type 0) → FollowsOrStops Shows no_memory Passes rule old answer new → RuleTold
      stops_told Passes follows = elim (follows plain shows) [ inl a ↦ by_rule a.0 a.1 | inr a ↦ without_memory a.0 ]

-- and of one of durable replicas
pub ends_told : {A : Type 0} (reply_of : A → Option Reply) (no_memory : A) (none : reply_of no_memory ≡ None) (rule : PlainKeep → A × PlainKeep) (keep : PlainKeep) (answer : A) (new : KeepWorld)
    (result : Result Reply NoMemory) (is : IsReply (reply_of answer) result) (old : KeepWorld) (shown : Shown old keep) (takes_memory : A → Bool) → FollowsOrEnds no_memory takes_memory rule old answer new
    → IsTold Shown (reply_of (rule keep).0, (rule keep).1) result new
ends_told reply_of no_memory none rule keep answer new result is old shown takes_memory follows = elim (follows keep shown) [
  | inl a ↦ by_rule Shown reply_of no_memory none rule keep answer new result is a.0 a.1
  | inr a ↦ without_memory Shown reply_of no_memory none rule keep answer new result is a.0
]

-- where a reply was told, the line that is put is the text of the rule's reply, and the rule's effect was made
module _ {Q W : Type 0} (Shows : Q → W → Type 0) (made : Option Reply × W) (result : Result Reply NoMemory) (new : Q) (reply : Reply) (is : result ≡ Ok reply) (told : IsTold Shows made result new)
    {E : Type 0} {T : Type 0} (done : Result T E) where
  here : (made.0 ≡ Some reply) × Shows new made.1
  here = subst (λ r. IsTold Shows made r new) is told

  pub told_text : (old after : List ℕ) → OnOk done (after ≡ old ++ reply_line reply) → OnOk done (after ≡ old ++ reply_text made.0)
  told_text old after put = subst (λ o. OnOk done (after ≡ old ++ reply_text o)) (sym here.0) put

  pub told_world : OnOk done (Shows new made.1)
  told_world = elim done as (λ r. OnOk r (Shows new made.1)) [ Ok x ↦ here.1 | Err e ↦ tt ]
