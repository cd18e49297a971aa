use Rattle.std.proofs.Common.{◌≡◌, ℕ, Bool, true, IsTrue, ◌⊎◌, inl, inr, Result, Ok, Err, refl, sym, subst}
use Rattle.op_base.specs.declared.memory.NoMemory.{NoMemory}
use Rattle.causal_model.specs.Sending.{beat_messages, is_beat}
use Rattle.causal_model.specs.declared.outcome.Beat.{Beat}
use Rattle.causal_model.specs.declared.outcome.Beat.TheVariants as beat
use Rattle.world_model.specs.Settling.{with_beat}
use Rattle.world_model.specs.World.{PlainWorld, beat_at, with_all_sent}
use Rattle.world.specs.Answers.{ShowsPlain}
use Rattle.world.specs.Settles.{round_at, LeadsTo}
use Rattle.world.proofs.world.World.make_beat.Goals as goal
use Rattle.world.proofs.world.World.make_beat.Goals.{in-Sent, in-NoMemory, in-Quiet}

-- what is told of a beat in a round
abbrev IsTold : Bool → Beat → Result Bool NoMemory → Type 0
IsTold moved (beat.Sent m) result = result ≡ Ok true
IsTold moved beat.Quiet result = result ≡ Ok moved
IsTold moved beat.Held result = result ≡ Ok moved
IsTold moved beat.End result = result ≡ Ok moved
IsTold moved beat.NoMemory result = (none : NoMemory) × (result ≡ Err none)

module _ (plain : PlainWorld) (r : ℕ) (moved : Bool) (Leaves : PlainWorld → Type 0) (result : Result Bool NoMemory) where
  abbrev Leads : Beat → Result Bool NoMemory → Type 0
  Leads rule told = LeadsTo (with_beat (round_at plain moved) r rule) (λ midst. midst ≡ plain) told Leaves

  by_rule : (rule : Beat) → IsTold moved rule result → Leaves (with_all_sent r plain (beat_messages rule)) → Leads rule result
  by_rule (beat.Sent m) is there = subst (Leads (beat.Sent m)) (sym is) (record { moved_is = refl; shows = there })
  by_rule beat.Quiet is there = subst (Leads beat.Quiet) (sym is) (record { moved_is = refl; shows = there })
  by_rule beat.Held is there = subst (Leads beat.Held) (sym is) (record { moved_is = refl; shows = there })
  by_rule beat.End is there = subst (Leads beat.End) (sym is) (record { moved_is = refl; shows = there })
  by_rule beat.NoMemory is there = subst (Leads beat.NoMemory) (sym is.1) (record { midst = plain; passed = refl; shows = there })

  lacking : (rule : Beat) → IsTold moved beat.NoMemory result → Leaves plain → Leads rule result
  lacking rule is there = subst (Leads rule) (sym is.1) (record { midst = plain; passed = refl; shows = there })

  leads : (answer : Beat) → IsTold moved answer result → ((answer ≡ (beat_at r plain).0) × Leaves (beat_at r plain).1) ⊎ ((answer ≡ beat.NoMemory) × IsTrue (is_beat (beat_at r plain).0) × Leaves plain)
      → Leads (beat_at r plain).0 result
  leads answer is (inl x) = by_rule (beat_at r plain).0 (subst (λ a. IsTold moved a result) x.0 is) x.1
  leads answer is (inr x) = lacking (beat_at r plain).0 (subst (λ a. IsTold moved a result) x.0 is) x.2

quiet : (moved : Bool) (answer : Beat) (result : Result Bool NoMemory) → (answer ≡ beat.Quiet) ⊎ (answer ≡ beat.Held) ⊎ (answer ≡ beat.End) → result ≡ Ok moved → IsTold moved answer result
quiet moved answer result (inl is) same = subst (λ a. IsTold moved a result) (sym is) same
quiet moved answer result (inr (inl is)) same = subst (λ a. IsTold moved a result) (sym is) same
quiet moved answer result (inr (inr is)) same = subst (λ a. IsTold moved a result) (sym is) same

told : (c : goal.Joined-beat-2) → IsTold c.args.moved c.beat.result c.match-beat.result
told c = elim c.match-beat.branch [
  | in-Sent w ↦ subst (λ a. IsTold c.args.moved a c.match-beat.result) (sym w.in-Sent.is) w.result-is
  | in-NoMemory w ↦ subst (λ a. IsTold c.args.moved a c.match-beat.result) (sym w.in-NoMemory.is) (_, w.result-is)
  | in-Quiet w ↦ quiet c.args.moved c.beat.result c.match-beat.result w.in-Quiet.is w.result-is
]

pub returns-clause-made : goal.returns-clause-made
returns-clause-made c = λ plain shows. leads plain c.args.r c.args.moved (ShowsPlain c.beat.new.self) c.match-beat.result c.beat.result (told c) (c.beat.ensures.answer plain shows)
