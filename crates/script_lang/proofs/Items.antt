-- The words of a reply: no one has a space, and each is read as what it says.
use Rattle.std.proofs.Common.{◌≡◌, ℕ, zero, suc, ◌≤◌, ◌^◌, true, false, not, List, [], ◌∷◌, ◌++◌, eqb, map, refl, ap, ◌∙◌, cond, arith}
use Rattle.std.specs.Prelude.{◌&&◌, ℤ, pos, negsuc, unsigned_abs, IsTrue, All, nat_lt, ◌==◌}
use Rattle.std.specs.Fmt.{decimal, signed_decimal}
use Rattle.std.specs.List.{list_all, slice_split}
use Rattle.std.specs.Str.{is_utf8}
use Rattle.std.specs.Str.Parse.{digits_value}
use Rattle.std.proofs.lemmas.Bool.{and_parts}
use Rattle.std.proofs.lemmas.Bool.Decides.{nat_tests}
use Rattle.std.proofs.lemmas.List.{map-id}
use Rattle.std.proofs.lemmas.List.Elements.{All-head, All-tail}
use Rattle.std.proofs.lemmas.List.Folds.{list_all-append}
use Rattle.op_base.specs.Name.{is_value, is_value_byte, is_short}
use Rattle.op_base.specs.declared.outcome.Answer.{Answer}
use Rattle.op_base.specs.declared.outcome.Answer.TheVariants.{Values, Flag, Sum}
use Rattle.op_base.specs.declared.outcome.Crook.TheVariants.{Overrun}
use Rattle.op_base.specs.declared.outcome.Step.{Step}
use Rattle.op_base.specs.declared.outcome.Step.TheVariants as step
use Rattle.op_base.specs.declared.tag.ElementId.{ElementId}
use Rattle.op_base.specs.declared.tag.MessageId.{MessageId}
use Rattle.script_lang.specs.Replies.{id_word, element_word, step_word, answer_words}
use Rattle.script_lang.specs.Laws.{IsNumber, IsId, IsElement, IsStep, IsAnswer}
use Rattle.script_lang.proofs.Parted.{lacks, false_from_not, split-two, split-three}
use Rattle.script_lang.proofs.Decimals.{IsNoDigit, decimal-lacks, decimal-value}

-- ---- how words are read

-- of a dropped message that it was dropped, and not why
abbrev pub shown_step : Step → Step
shown_step (step.Took id) = step.Took id
shown_step (step.Crook id cause) = step.Crook id (Overrun 0)

-- an id: its origin, a colon and its number
abbrev id_of_parts : List (List ℕ) → MessageId
id_of_parts [] = record { origin = 0; seq = 0 }
id_of_parts (origin ∷ []) = record { origin = 0; seq = 0 }
id_of_parts (origin ∷ seq ∷ parts) = record { origin = digits_value 10 origin; seq = digits_value 10 seq }

abbrev pub id_of : List ℕ → MessageId
id_of word = id_of_parts (slice_split (λ b. eqb b 58) word)

-- an id of an element: its epoch, its member and its number, parted by points
abbrev element_of_parts : List (List ℕ) → ElementId
element_of_parts (epoch ∷ origin ∷ seq ∷ parts) = record { epoch = digits_value 10 epoch; origin = digits_value 10 origin; seq = digits_value 10 seq }
element_of_parts parts = record { epoch = 0; origin = 0; seq = 0 }

abbrev pub element_of : List ℕ → ElementId
element_of word = element_of_parts (slice_split (λ b. eqb b 46) word)

-- a step: an id, behind an exclamation mark where the message was dropped
abbrev pub step_of : List ℕ → Step
step_of [] = step.Took (id_of [])
step_of (b ∷ bytes) = cond (eqb b 33) (step.Crook (id_of bytes) (Overrun 0)) (step.Took (id_of (b ∷ bytes)))

-- a sum, behind a minus where it is below 0
abbrev negative : ℕ → ℤ
negative zero = pos 0
negative (suc n) = negsuc n

abbrev pub sum_of : List ℕ → ℤ
sum_of [] = pos 0
sum_of (b ∷ bytes) = cond (eqb b 45) (negative (digits_value 10 bytes)) (pos (digits_value 10 (b ∷ bytes)))

-- ---- what words lack

pub no_space : IsNoDigit 32
no_space b low high = grind (arith, nat_tests)

no_bang : IsNoDigit 33
no_bang b low high = grind (arith, nat_tests)

no_minus : IsNoDigit 45
no_minus b low high = grind (arith, nat_tests)

no_point : IsNoDigit 46
no_point b low high = grind (arith, nat_tests)

no_colon : IsNoDigit 58
no_colon b low high = grind (arith, nat_tests)

pub no_n : IsNoDigit 110
no_n b low high = grind (arith, nat_tests)

-- no number, id, step, value or sum has a space
pub number-lacks : (n : ℕ) → IsNumber n → lacks 32 (decimal n) ≡ true
number-lacks n h = decimal-lacks 32 n no_space (omega arith)

pub id-lacks : (c : ℕ) (id : MessageId) → IsNoDigit c → not (eqb 58 c) ≡ true → IsId id → lacks c (id_word id) ≡ true
id-lacks c id none colon h =
    rw (list_all-append (λ b. not (eqb b c)) (decimal id.origin) (58 ∷ decimal id.seq), decimal-lacks c id.origin none (omega arith), colon, decimal-lacks c id.seq none (omega arith)) refl

pub element-lacks : (id : ElementId) → IsElement id → lacks 32 (element_word id) ≡ true
element-lacks id h =
    let epoch = number-lacks id.epoch h.0 in
    let origin = number-lacks id.origin h.1 in
    let seq = number-lacks id.seq h.2 in
    rw (list_all-append (λ b. not (eqb b 32)) (decimal id.epoch ++ 46 ∷ decimal id.origin) (46 ∷ decimal id.seq), list_all-append (λ b. not (eqb b 32)) (decimal id.epoch) (46 ∷ decimal id.origin), epoch, origin, seq) refl

pub step-lacks : (s : Step) → IsStep s → lacks 32 (step_word s) ≡ true
step-lacks (step.Took id) h = id-lacks 32 id no_space refl h
step-lacks (step.Crook id cause) h = id-lacks 32 id no_space refl h

value_bytes-lack : (bytes : List ℕ) → list_all is_value_byte bytes ≡ true → lacks 32 bytes ≡ true
value_bytes-lack [] h = refl
value_bytes-lack (b ∷ bytes) h =
    let p = and_parts (is_value_byte b) (list_all is_value_byte bytes) h in
    let q = and_parts (nat_lt 32 b) (not (b == 127)) p.0 in
    let r : not (eqb b 32) ≡ true = grind (arith, nat_tests) in
    rw (r, value_bytes-lack bytes p.1) refl

value-lacks : (value : List ℕ) → IsTrue (is_value value) → lacks 32 value ≡ true
value-lacks value h =
    let p = and_parts (is_short 4096 value && list_all is_value_byte value) (is_utf8 value) h in
    value_bytes-lack value (and_parts (is_short 4096 value) (list_all is_value_byte value) p.0).1

sum-lacks : (sum : ℤ) → unsigned_abs sum ≤ 2 ^ 127 → lacks 32 (signed_decimal sum) ≡ true
sum-lacks (pos n) h = decimal-lacks 32 n no_space (omega arith)
sum-lacks (negsuc n) h = decimal-lacks 32 (suc n) no_space (omega arith)

-- each word of items lacks a space
pub items-lack : {A : Type 0} (word : A → List ℕ) (P : A → Type 0) → ((x : A) → P x → lacks 32 (word x) ≡ true) → (xs : List A) → All P xs → list_all (lacks 32) (map word xs) ≡ true
items-lack word P h [] all = refl
items-lack word P h (x ∷ xs) all = rw (h x (All-head P x xs all), items-lack word P h xs (All-tail P x xs all)) refl

pub numbers-lack : (tag : List ℕ) → All IsNumber tag → list_all (lacks 32) (map decimal tag) ≡ true
numbers-lack tag h = items-lack decimal IsNumber number-lacks tag h

values-lack : (values : List (List ℕ)) → All (λ value. IsTrue (is_value value)) values → list_all (lacks 32) values ≡ true
values-lack [] h = refl
values-lack (value ∷ values) h =
    rw (value-lacks value (All-head (λ v. IsTrue (is_value v)) value values h), values-lack values (All-tail (λ v. IsTrue (is_value v)) value values h)) refl

pub answer-lacks : (answer : Answer) → IsAnswer answer → list_all (lacks 32) (answer_words answer) ≡ true
answer-lacks (Values values) h = values-lack values h
answer-lacks (Flag true) h = refl
answer-lacks (Flag false) h = refl
answer-lacks (Sum sum) h = rw (sum-lacks sum h) refl

-- ---- words are read as what they say

pub id_of-word : (id : MessageId) → IsId id → id_of (id_word id) ≡ id
id_of-word id h =
    rw (split-two 58 (decimal id.origin) (decimal id.seq) refl (decimal-lacks 58 id.origin no_colon (omega arith)) (decimal-lacks 58 id.seq no_colon (omega arith)), decimal-value id.origin (omega arith), decimal-value id.seq (omega arith)) refl

pub element_of-word : (id : ElementId) → IsElement id → element_of (element_word id) ≡ id
element_of-word id h =
    let epoch = decimal-lacks 46 id.epoch no_point (omega arith) in
    let origin = decimal-lacks 46 id.origin no_point (omega arith) in
    let seq = decimal-lacks 46 id.seq no_point (omega arith) in
    rw (split-three 46 (decimal id.epoch) (decimal id.origin) (decimal id.seq) refl epoch origin seq, decimal-value id.epoch (omega arith), decimal-value id.origin (omega arith), decimal-value id.seq (omega arith)) refl

-- what doesn't begin with the mark was taken
took-step : (word : List ℕ) → lacks 33 word ≡ true → step_of word ≡ step.Took (id_of word)
took-step [] h = refl
took-step (b ∷ bytes) h = let p = and_parts (not (eqb b 33)) (lacks 33 bytes) h in rw (false_from_not (eqb b 33) p.0) refl

pub step_of-word : (s : Step) → IsStep s → step_of (step_word s) ≡ shown_step s
step_of-word (step.Took id) h = took-step (id_word id) (id-lacks 33 id no_bang refl h) ∙ ap step.Took (id_of-word id h)
step_of-word (step.Crook id cause) h = ap (λ i. step.Crook i (Overrun 0)) (id_of-word id h)

-- what doesn't begin with a minus is no sum below 0
sum_of-pos : (word : List ℕ) → lacks 45 word ≡ true → sum_of word ≡ pos (digits_value 10 word)
sum_of-pos [] h = refl
sum_of-pos (b ∷ bytes) h = let p = and_parts (not (eqb b 45)) (lacks 45 bytes) h in rw (false_from_not (eqb b 45) p.0) refl

pub sum_of-word : (sum : ℤ) → unsigned_abs sum ≤ 2 ^ 127 → sum_of (signed_decimal sum) ≡ sum
sum_of-word (pos n) h = sum_of-pos (decimal n) (decimal-lacks 45 n no_minus (omega arith)) ∙ ap pos (decimal-value n (omega arith))
sum_of-word (negsuc n) h = ap negative (decimal-value (suc n) (omega arith))

-- items are read back from their words
pub items-read : {A : Type 0} (word : A → List ℕ) (read : List ℕ → A) (seen : A → A) (P : A → Type 0) → ((x : A) → P x → read (word x) ≡ seen x) → (xs : List A) → All P xs → map read (map word xs) ≡ map seen xs
items-read word read seen P h [] all = refl
items-read word read seen P h (x ∷ xs) all = rw (h x (All-head P x xs all), items-read word read seen P h xs (All-tail P x xs all)) refl

pub numbers-read : (tag : List ℕ) → All IsNumber tag → map (λ w. digits_value 10 w) (map decimal tag) ≡ tag
numbers-read tag h = items-read decimal (λ w. digits_value 10 w) (λ n. n) IsNumber (λ n small. decimal-value n (omega arith)) tag h ∙ map-id tag
