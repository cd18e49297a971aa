-- A pass more is split from a node, for a job more.
use Rattle.std.proofs.Common.{◌≡◌, ℕ, suc, ◌+◌, ◌<◌, ◌≤◌, ◌==◌, Bool, true, false, List, [], ◌∷◌, ◌++◌, length, get_or, refl, sym, ap, ◌∙◌, if◌then◌else◌, arith}
use Rattle.std.specs.Prelude.{slice_set}
use Rattle.std.proofs.Math.ListN.{length-set}
use Rattle.std.proofs.lemmas.Bool.{cond-true, cond-false, eq-eqb, ne_eqb}
use Rattle.replica_lock.specs.declared.pass.Settings.{Settings}
use Rattle.turn_lock.specs.Turns.{LockState, after_split}
use Rattle.live_run.specs.Joining.{NodeOpener, left_at, AreOut}
use Rattle.live_run.specs.Opening.{job_at, jobs_at, AreOpened}
use Rattle.live_run.specs.declared.joining.Back.{Back}
use Rattle.live_run.specs.declared.workers.Job.{Job}
use Rattle.live_run.proofs.Places.{each_set}

abbrev one_if : Bool → ℕ
one_if b = if b then 1 else 0

jobs_more : (r : ℕ) (jobs : List Job) (j : Job) → jobs_at r (jobs ++ j ∷ []) ≡ jobs_at r jobs + one_if (job_at j == r)
jobs_more r [] j = omega arith
jobs_more r (k ∷ jobs) j = omega (arith, jobs_more r jobs j)

pub one_split : (nodes : List (LockState Settings)) (openers : List NodeOpener) (jobs : List Job) (job : Job) (at : ℕ) (old new : NodeOpener) → at < length nodes
    → new ≡ after_split (get_or openers at old) → AreOpened nodes openers jobs → job_at job ≡ at → AreOpened nodes (slice_set openers at new) (jobs ++ job ∷ [])
one_split nodes openers jobs job at old new inside is are here =
    let low : at < length openers = omega (arith, inside, are.of_each) in
    let more = jobs ++ job ∷ [] in
    record {
      of_each = length-set openers at new ∙ are.of_each;
      of = λ r d e l. each_set (λ r (o : NodeOpener). (d : LockState Settings) → o.lock ≡ get_or nodes r d) openers at new low
          (λ d. ap (λ (o : NodeOpener). o.lock) is ∙ are.of at d old inside) (λ r e l other d. are.of r d e (omega (arith, l, are.of_each))) r e (omega (arith, l, are.of_each)) d;
      out = λ r e l. each_set (λ r (o : NodeOpener). o.out ≡ jobs_at r more) openers at new low
          (let one : one_if (job_at job == at) ≡ 1 = cond-true (job_at job == at) 1 0 (eq-eqb (job_at job) at here) in
          let now : new.out ≡ (get_or openers at old).out + 1 = ap (λ (o : NodeOpener). o.out) is in
          omega (arith, now, are.out at old inside, jobs_more at jobs job, one))
          (λ r e l other.
          let none : one_if (job_at job == r) ≡ 0 = cond-false (job_at job == r) 1 0 (ne_eqb (job_at job) r (λ same. other (sym same ∙ here))) in
          let was = are.out r e (omega (arith, l, are.of_each)) in
          omega (arith, was, jobs_more r jobs job, none))
          r e (omega (arith, l, are.of_each));
      none = λ r e l. each_set (λ r (o : NodeOpener). o.own ≡ []) openers at new low
          (ap (λ (o : NodeOpener). o.own) is ∙ are.none at old inside) (λ r e l other. are.none r e (omega (arith, l, are.of_each))) r e (omega (arith, l, are.of_each));
    }

-- where passes came back from where jobs are, as many are left as there were jobs
left_is : (r : ℕ) (jobs : List Job) (backs : List Back) → length backs ≡ length jobs → ((i : ℕ) (d : Back) (e : Job) → i < length jobs → (get_or backs i d).at ≡ job_at (get_or jobs i e)) → left_at r backs ≡ jobs_at r jobs
left_is r [] [] same each = refl
left_is r [] (b ∷ backs) same each = absurd (omega (arith, same))
left_is r (j ∷ jobs) [] same each = absurd (omega (arith, same))
left_is r (j ∷ jobs) (b ∷ backs) same each =
    let first : one_if (b.at == r) ≡ one_if (job_at j == r) = ap (λ at. one_if (at == r)) (each 0 b j (omega arith)) in
    omega (arith, first, left_is r jobs backs (omega (arith, same)) (λ i d e l. each (suc i) d e (omega (arith, l))))

pub opened_are_out : (nodes : List (LockState Settings)) (openers : List NodeOpener) (jobs : List Job) (backs : List Back) → AreOpened nodes openers jobs → length backs ≡ length jobs
    → ((i : ℕ) (d : Back) (e : Job) → i < length jobs → (get_or backs i d).at ≡ job_at (get_or jobs i e)) → AreOut nodes openers backs
opened_are_out nodes openers jobs backs are same each = record {
  of_each = are.of_each;
  of = are.of;
  out = λ r e l. are.out r e l ∙ sym (left_is r jobs backs same each);
}

-- fewer jobs are at a node than there are
at_most : (r : ℕ) (jobs : List Job) → jobs_at r jobs ≤ length jobs
at_most r [] = omega arith
at_most r (j ∷ jobs) = omega (arith, one (job_at j == r), at_most r jobs)
  where
    one : (b : Bool) → one_if b ≤ 1
    one true = omega arith
    one false = omega arith

pub has_room : (nodes : List (LockState Settings)) (openers : List NodeOpener) (jobs : List Job) (at : ℕ) (old : NodeOpener) → at < length nodes → AreOpened nodes openers jobs → length jobs < 1024 → (get_or openers at old).out < 1024
has_room nodes openers jobs at old inside are few = omega (arith, are.out at old inside, at_most at jobs, few)
