-- What the log's entries of an object take out is what clears do and what deletions do.
use Rattle.std.proofs.Common.{◌≡◌, ℕ, ◌+◌, max, Bool, true, false, not, ◌&&◌, ◌||◌, ◌==◌, nat_lt, nat_le, if◌then◌else◌, List, refl, sym, ap, ◌∙◌, inl, inr, arith}
use Rattle.std.specs.Prelude.{slice_index}
use Rattle.std.specs.List.{list_any}
use Rattle.std.proofs.lemmas.Bool.{cases_eq}
use Rattle.std.proofs.lemmas.Bool.Decides.{nat_tests}
use Rattle.op_base.specs.Message.{number}
use Rattle.op_base.specs.Timestamp.{entry}
use Rattle.op_base.specs.declared.message.Entry.{Entry}
use Rattle.op_base.specs.declared.message.Message.{Message}
use Rattle.op_base.specs.declared.operation.Act.{Act}
use Rattle.op_base.specs.declared.operation.Act.TheVariants as acts
use Rattle.op_base.specs.declared.tag.ElementId.{ElementId}
use Rattle.causal_model.specs.Elements.{takes_out}
use Rattle.causal_model.specs.ListSteps.{had_seen}
use Rattle.causal_model.specs.Log.{message_of}
use Rattle.causal_model.proofs.Theory.Elements.{list_any-or}
use Rattle.list_type.specs.Heads.{takes_by}
use Rattle.list_type.specs.Removals.{is_clear, is_deletion, clears_by, deletes_by, seen_below, is_cleared}
use Rattle.list_type.specs.declared.removals.Clears.{Clears}

-- an act that takes an element out is a clear, or its deletion
act_parted : (id : ElementId) (act : Act) → takes_out id act ≡ (is_clear act || is_deletion id act)
act_parted id (acts.Add v) = refl
act_parted id (acts.Rmv v) = refl
act_parted id acts.Clear = refl
act_parted id acts.Enable = refl
act_parted id acts.Disable = refl
act_parted id (acts.Write v) = refl
act_parted id (acts.Inc n) = refl
act_parted id (acts.Dec n) = refl
act_parted id (acts.Ins v place) = refl
act_parted id (acts.Del other) = refl

-- so entries take an element out where one clears it, or one deletes it
pub taken_parted : (epoch : ℕ) (entries : List Entry) (id : ElementId)
    → list_any (λ e. takes_by epoch e id) entries ≡ (list_any (λ e. clears_by epoch e id) entries || list_any (λ e. deletes_by epoch e id) entries)
taken_parted epoch entries id =
    (λ i. list_any (λ (e : Entry). act_parted id e.update.act i && had_seen epoch (message_of e) id) entries)
    ∙ list_any-or (λ (e : Entry). is_clear e.update.act) (λ e. is_deletion id e.update.act) (λ e. had_seen epoch (message_of e) id) entries

-- ---- joined clears

-- of its own epoch a sender had seen those below a number
below_number : (x o seq n own : ℕ) → (x ≡ o → n ≡ own) → (not ((x == o) && (seq == own)) && nat_le seq n) ≡ nat_lt seq (if x == o then n else n + 1)
below_number x o seq n own same = elim (cases_eq x o) [
  | inl is ↦ let e = same is in grind (arith, nat_tests)
  | inr differs ↦ grind (arith, nat_tests)
]

-- below the greater of two numbers is below one of them
below_either : (seq a b : ℕ) → nat_lt seq (max a b) ≡ (nat_lt seq a || nat_lt seq b)
below_either seq a b = grind (arith, nat_tests)

-- what two clears take out, as one clears, or the other
either : (a any old s t : Bool) → ((true && a) || (s && (old || t))) ≡ (((any && a) || (s && old)) || (a || (s && t)))
either true true old s t = refl
either true false old false t = refl
either true false true true t = refl
either true false false true t = refl
either false true old false t = refl
either false false old false t = refl
either false true true true t = refl
either false true false true t = refl
either false false true true t = refl
either false false false true t = refl

-- joined with a clear's, they take out what it does beside what they did
pub join_takes : (old new : Clears) (epoch : ℕ) (m : Message) (id : ElementId) → new.any ≡ true
    → slice_index new.below id.origin ≡ max (slice_index old.below id.origin) (seen_below m id.origin)
    → is_cleared new epoch id ≡ (is_cleared old epoch id || had_seen epoch m id)
join_takes old new epoch m id any below =
    let x = id.origin in
    let seen = below_number x m.origin id.seq (entry m.tag x) (number m) (λ is. ap (entry m.tag) is) in
    (λ i. (any i && nat_lt id.epoch epoch) || ((id.epoch == epoch) && nat_lt id.seq (below i)))
    ∙ ap (λ b. (true && nat_lt id.epoch epoch) || ((id.epoch == epoch) && b)) (below_either id.seq (slice_index old.below x) (seen_below m x))
    ∙ ap (λ b. (true && nat_lt id.epoch epoch) || ((id.epoch == epoch) && (nat_lt id.seq (slice_index old.below x) || b))) (sym seen)
    ∙ either (nat_lt id.epoch epoch) old.any (nat_lt id.seq (slice_index old.below x)) (id.epoch == epoch) (not ((x == m.origin) && (id.seq == number m)) && nat_le id.seq (entry m.tag x))

-- what isn't a clear takes nothing more out
pub none_more : (cleared test seen : Bool) → test ≡ false → cleared ≡ (cleared || (test && seen))
none_more true test seen is = refl
none_more false test seen is = sym (ap (λ b. b && seen) is)
