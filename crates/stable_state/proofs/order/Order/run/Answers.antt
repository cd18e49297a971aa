use Rattle.std.proofs.Common.{◌≡◌, ℕ, suc, ◌+◌, ◌-◌, ◌≤◌, List, [], ◌++◌, length, take, drop, get_or, ap, sym, subst, ◌∙◌, arith, length-drop}
use Rattle.std.specs.List.{concat}
use Rattle.std.proofs.lemmas.List.{take_all}
use Rattle.stable_state.specs.Chunks.{IsHome}
use Rattle.stable_state.proofs.Ends.{start_le, start_more}
use Rattle.stable_state.proofs.Joined.{slots_run}
use Rattle.stable_state.proofs.order.Order.run.Goals as goal

-- the slots of a chunk from a place on
record IsRun (slots : List ℕ) (place : ℕ) (run : List ℕ) : Type 0 where
  within : place + length run ≤ length slots
  slots_are : take (place + length run) slots ≡ take place slots ++ run

run_at : (parts : List (List ℕ)) (place k start : ℕ) (part : List ℕ) → IsHome parts (place + 1) k → part ≡ get_or parts k [] → start ≡ length (concat (take k parts))
    → IsRun (concat parts) place (take (length part - (place - start)) (drop (place - start) part))
run_at parts place k start part home part_is start_is =
    let before = length (concat (take k parts)) in
    let first = place - start in
    let at : before + first ≡ place = omega (arith, home.begins_before (omega arith), start_is) in
    let inside : first ≤ length part = omega (arith, home.begins_before (omega arith), home.ends, start_is, ap length part_is) in
    let end : place + length (drop first part) ≡ before + length part = omega (arith, at, inside, length-drop first part) in
    subst (IsRun (concat parts) place) (sym (take_all (length part - first) (drop first part) (omega (arith, length-drop first part)))) (record {
      within = omega (arith, end, start_more parts k home.within, start_le parts (suc k), ap length part_is);
      slots_are = ap (λ n. take n (concat parts)) (end ∙ ap (λ xs. before + length xs) part_is) ∙ slots_run parts k home.within first (omega (arith, inside, ap length part_is))
          ∙ ap (λ n. take n (concat parts) ++ drop first (get_or parts k [])) at ∙ ap (λ xs. take place (concat parts) ++ drop first xs) (sym part_is);
    })

run_among : (parts : List (List ℕ)) (items : List ℕ) (place k start : ℕ) (part : List ℕ) → concat parts ≡ items → IsHome parts (place + 1) k → part ≡ get_or parts k [] → start ≡ length (concat (take k parts))
    → IsRun items place (take (length part - (place - start)) (drop (place - start) part))
run_among parts items place k start part are home part_is start_is = subst (λ xs. IsRun xs place (take (length part - (place - start)) (drop (place - start) part))) are (run_at parts place k start part home part_is start_is)

pub returns-clause-within : goal.returns-clause-within
returns-clause-within c =
    (run_among c.self.inside.chunks.parts c.args.self.now.items c.args.place c.chunk_to-chunk.result c.start.result c.part-part.result.now (ap (λ v. v.items) c.self.view_is) c.chunk_to-chunk.ensures c.part-part.ensures c.start.ensures).within

pub returns-clause-run : goal.returns-clause-run
returns-clause-run c =
    (run_among c.self.inside.chunks.parts c.args.self.now.items c.args.place c.chunk_to-chunk.result c.start.result c.part-part.result.now (ap (λ v. v.items) c.self.view_is) c.chunk_to-chunk.ensures c.part-part.ensures c.start.ensures).slots_are
