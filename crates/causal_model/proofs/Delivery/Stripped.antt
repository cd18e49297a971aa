-- The log, what a message leaves of it, and what then goes from it as settled.
use Rattle.std.proofs.Common.{◌≡◌, ◌+◌, ◌≤◌, Bool, true, not, ◌&&◌, All, List, [], ◌∷◌, ◌++◌, length, length-append, if◌then◌else◌, arith}
use Rattle.std.specs.List.{filter}
use Rattle.std.proofs.lemmas.Bool.{and_parts, cond_both}
use Rattle.std.proofs.lemmas.List.Elements.{All-nil, All-cons, All-append, All-filter, filter_passes}
use Rattle.std.proofs.lemmas.List.Sums.{length-filter, count_by-le-length}
use Rattle.op_base.specs.declared.message.Message.{Message}
use Rattle.causal_model.specs.Log.{pruned_log, log_of, stripped_of, is_kept, is_covered_by, is_uncovered}
use Rattle.causal_model.specs.Covering.{store_keeps, store_covers}
use Rattle.causal_model.specs.History.{History}
use Rattle.causal_model.specs.Order.{happened_before}
use Rattle.causal_model.specs.Stability.{stable_vector, is_stable}

-- the tests of the messages that are logged, and of the entries that a message doesn't cover
abbrev kept : History → Message → Bool
kept h e = is_kept store_keeps e.op && is_uncovered store_covers h.present.messages e && not (is_stable (stable_vector h.present.n h.present.me h.present.messages) e)

abbrev bare : Message → Message → Bool
bare m e = not (is_covered_by store_covers e.op m.op && happened_before e m)

abbrev own : Message → List Message
own m = if is_kept store_keeps m.op then m ∷ [] else []

abbrev pub pruned_of : History → Message → List Message
pruned_of h m = pruned_log store_keeps store_covers h.present.n h.present.me h.present.messages m

abbrev now_stable : History → Message → Message → Bool
now_stable h m = is_stable (stable_vector h.present.n h.present.me (h.present.messages ++ m ∷ []))

-- what is logged is kept
pub log_is_kept : (h : History) → All (λ e. is_kept store_keeps e.op ≡ true) (log_of h)
log_is_kept h = let passed = filter_passes (kept h) h.present.messages in λ k d l. (and_parts _ _ (and_parts _ _ (passed k d l)).0).0

-- what holds of the log, and of the message where it is kept, holds of what the message leaves
pub each_pruned : (P : Message → Type 0) (h : History) (m : Message) → All P (log_of h) → (is_kept store_keeps m.op ≡ true → P m) → All P (pruned_of h m)
each_pruned P h m logged last =
    let news : All P (own m) = cond_both (is_kept store_keeps m.op) (m ∷ []) [] (λ ms. All P ms) (λ keeps. All-cons P m [] (last keeps) (All-nil P)) (λ _. All-nil P) in
    All-append P (filter (bare m) (log_of h)) (own m) (All-filter (bare m) P (log_of h) logged) news

-- what goes from the log is kept, and is one of the epoch's messages or the new one
pub each_stripped : (P : Message → Type 0) (h : History) (m : Message) → All P h.present.messages → P m → All (λ e. (is_kept store_keeps e.op ≡ true) × P e) (stripped_of h m)
each_stripped P h m each last =
    let Both : Message → Type 0 = λ e. (is_kept store_keeps e.op ≡ true) × P e in
    let logged = All-filter (kept h) P h.present.messages each in
    All-filter (now_stable h m) Both (pruned_of h m) (each_pruned Both h m (λ k d l. (log_is_kept h k d l, logged k d l)) (λ keeps. (keeps, last)))

-- and at most one more than there are messages goes
pub stripped_is_short : (h : History) (m : Message) → length (stripped_of h m) ≤ length h.present.messages + 1
stripped_is_short h m =
    let one : length (own m) ≤ 1 = cond_both (is_kept store_keeps m.op) (m ∷ []) [] (λ ms. length ms ≤ 1) (λ _. omega arith) (λ _. omega arith) in
    omega (arith, shorter (now_stable h m) (pruned_of h m), length-append (filter (bare m) (log_of h)) (own m), one, shorter (bare m) (log_of h), shorter (kept h) h.present.messages) where
      shorter : (p : Message → Bool) (es : List Message) → length (filter p es) ≤ length es
      shorter p es = omega (arith, length-filter p es, count_by-le-length p es)
