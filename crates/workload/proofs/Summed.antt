-- The summary in the parts that are put.
use Rattle.std.proofs.Common.{◌≡◌, ℕ, List, [], ◌∷◌, ◌++◌, length, map, sym, ap, ◌∙◌, codes}
use Rattle.std.specs.Borrow.{Bor}
use Rattle.std.specs.List.{zip}
use Rattle.std.proofs.lemmas.Grind.{flat_map-append}
use Rattle.std.proofs.lemmas.List.{append_assoc, length-map}
use Rattle.workload.specs.Summary.{cut_lines, ended, word_at, counts_of, count_line, last_lines, told_reply, summary, summary_lines}

-- three parts, one behind another
ended_parts : (text one two three line : List ℕ) (counts shown : List (List ℕ)) → one ≡ text ++ (line ++ 10 ∷ []) → two ≡ one ++ ended counts → three ≡ two ++ ended shown
    → three ≡ text ++ ended (line ∷ (counts ++ shown))
ended_parts text one two three line counts shown first second third =
    let behind : ended (counts ++ shown) ≡ ended counts ++ ended shown = flat_map-append (λ l. l ++ 10 ∷ []) counts shown in
    third ∙ ap (λ t. t ++ ended shown) second ∙ append_assoc one (ended counts) (ended shown) ∙ ap (λ t. one ++ t) (sym behind)
    ∙ ap (λ t. t ++ ended (counts ++ shown)) first ∙ append_assoc text (line ++ 10 ∷ []) (ended (counts ++ shown))

-- slices as texts
abbrev pub texts : List (Bor (List ℕ)) → List (List ℕ)
texts slices = map (λ slice. slice.now) slices

pub summed_up : (script transcript text one two three : List ℕ) (lines replies asked answered : List (Bor (List ℕ))) (counts : List (List ℕ × ℕ))
    → texts lines ≡ cut_lines script → texts replies ≡ cut_lines transcript → counts ≡ counts_of (map (word_at 0) (texts replies))
    → texts asked ≡ last_lines (texts lines) → texts answered ≡ last_lines (texts replies)
    → one ≡ text ++ (count_line (codes "lines", length replies) ++ 10 ∷ []) → two ≡ one ++ ended (map count_line counts)
    → three ≡ two ++ ended (map told_reply (zip (texts asked) (texts answered)))
    → three ≡ text ++ summary script transcript
summed_up script transcript text one two three lines replies asked answered counts lines_are replies_are counts_are asked_are answered_are first second third =
    let all : three ≡ text ++ ended (summary_lines (texts lines) (texts replies)) =
    ended_parts text one two three (count_line (codes "lines", length (texts replies))) (map count_line (counts_of (map (word_at 0) (texts replies)))) (map told_reply (zip (last_lines (texts lines)) (last_lines (texts replies))))
    (first ∙ ap (λ n. text ++ (count_line (codes "lines", n) ++ 10 ∷ [])) (sym (length-map replies (λ reply. reply.now))))
    (second ∙ ap (λ cs. one ++ ended (map count_line cs)) counts_are)
    (third ∙ (λ t. two ++ ended (map told_reply (zip (asked_are t) (answered_are t))))) in
    all ∙ (λ t. text ++ ended (summary_lines (lines_are t) (replies_are t)))
