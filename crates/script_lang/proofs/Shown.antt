-- A reply is read back from its line.
use Rattle.std.proofs.Common.{◌≡◌, ℕ, Bool, true, false, List, [], ◌∷◌, eqb, length, map, refl, ap, sym, ◌∙◌, arith}
use Rattle.std.specs.Prelude.{if◌then◌else◌, codes, Option, Some, None}
use Rattle.std.specs.Fmt.{decimal}
use Rattle.std.specs.List.{list_all, slice_split}
use Rattle.std.specs.Str.Parse.{digits_value}
use Rattle.std.proofs.lemmas.List.{append_cancel_right, length-map, map-id}
use Rattle.op_base.specs.Name.{same_text}
use Rattle.op_base.specs.declared.outcome.Answer.{Answer}
use Rattle.op_base.specs.declared.outcome.Answer.TheVariants.{Values, Flag, Sum}
use Rattle.op_base.specs.declared.outcome.Step.{Step}
use Rattle.op_base.specs.declared.outcome.Step.TheVariants as step
use Rattle.script_lang.specs.declared.reply.Reply.{Reply}
use Rattle.script_lang.specs.declared.reply.Reply.TheVariants.{Sent, Busy, End, Quiet, Held, Is, Unsent, Old, Again, Far, Kept, Took, Nothing, BadFrame, Settled, Unsettled, Epoch, Last, Log, Size, Stable, Seen, Noops, Lags, Ids, Tombs, Open, Bad}
use Rattle.script_lang.specs.Replies.{joined, id_word, element_word, step_word, answer_words, reply_words, reply_line}
use Rattle.script_lang.specs.Laws.{IsId, IsElement, IsStep, IsTag, IsAnswer, IsReply, HaveOneForm, cause_of, AreAlike}
use Rattle.script_lang.proofs.Parted.{lacks, split-joined}
use Rattle.script_lang.proofs.Decimals.{decimal-lacks, decimal-value}
use Rattle.script_lang.proofs.Items.{shown_step, id_of, element_of, step_of, sum_of, no_space, no_n, number-lacks, id-lacks, element-lacks, step-lacks, items-lack, numbers-lack, answer-lacks, items-read, numbers-read, id_of-word, element_of-word, step_of-word, sum_of-word}

-- ---- how a line is read

-- the first word
abbrev first : List (List ℕ) → List ℕ
first [] = []
first (word ∷ words) = word

-- a faulty line, or a faulty frame
abbrev bad_of : List (List ℕ) → Reply
bad_of [] = Bad 0
bad_of (fault ∷ []) = Bad (digits_value 10 fault)
bad_of (frame ∷ fault ∷ words) = BadFrame (digits_value 10 fault)

-- how many entries and items there are
abbrev size_of : List (List ℕ) → Reply
size_of [] = Busy
size_of (entries ∷ words) = Size (digits_value 10 entries) (digits_value 10 (first words))

-- the member that lags, or none, whose word alone has an n
abbrev lagging_of : List ℕ → Option ℕ
lagging_of word = if lacks 110 word then Some (digits_value 10 word) else None

-- the reply of a first word and the others
abbrev reply_as : List ℕ → List (List ℕ) → Reply
reply_as word words =
    if same_text word (codes "ok") then Sent (digits_value 10 (first words))
    else if same_text word (codes "busy") then Busy
    else if same_text word (codes "end") then End
    else if same_text word (codes "quiet") then Quiet
    else if same_text word (codes "held") then Held
    else if same_text word (codes "=") then Is (Values words)
    else if same_text word (codes "unsent") then Unsent
    else if same_text word (codes "old") then Old
    else if same_text word (codes "again") then Again
    else if same_text word (codes "far") then Far
    else if same_text word (codes "kept") then Kept
    else if same_text word (codes "took") then Took (map step_of words)
    else if same_text word (codes "none") then Nothing
    else if same_text word (codes "settled") then Settled
    else if same_text word (codes "unsettled") then Unsettled
    else if same_text word (codes "epoch") then Epoch (digits_value 10 (first words))
    else if same_text word (codes "last") then Last
    else if same_text word (codes "log") then Log (map id_of words)
    else if same_text word (codes "size") then size_of words
    else if same_text word (codes "stable") then Stable (length words) (map (λ w. digits_value 10 w) words)
    else if same_text word (codes "seen") then Seen (length words) (map (λ w. digits_value 10 w) words)
    else if same_text word (codes "noops") then Noops (digits_value 10 (first words))
    else if same_text word (codes "lags") then Lags (lagging_of (first words))
    else if same_text word (codes "ids") then Ids (map element_of words)
    else if same_text word (codes "tombs") then Tombs (digits_value 10 (first words))
    else if same_text word (codes "open") then Open (digits_value 10 (first words))
    else bad_of words

abbrev reply_of : List (List ℕ) → Reply
reply_of [] = Busy
reply_of (word ∷ words) = reply_as word words

-- ---- what a line shows

-- of an answer its words, and not their form; of other replies everything
abbrev shown : Reply → Reply
shown (Is answer) = Is (Values (answer_words answer))
shown (Took steps) = Took (map shown_step steps)
shown reply = reply

-- the words of a text
abbrev words_in : List ℕ → List (List ℕ)
words_in text = slice_split (λ b. eqb b 32) text

-- what is read of a line's words is read of the line
line-read : (word : List ℕ) (words : List (List ℕ)) (r : Reply) → list_all (lacks 32) (word ∷ words) ≡ true → reply_of (word ∷ words) ≡ r → reply_of (words_in (joined (word ∷ words))) ≡ r
line-read word words r lack read = ap reply_of (split-joined word words lack) ∙ read

-- a timestamp, and how many members it is of
tag-read : (n : ℕ) (tag : List ℕ) (f : ℕ → List ℕ → Reply) → IsTag n tag → f (length (map decimal tag)) (map (λ w. digits_value 10 w) (map decimal tag)) ≡ f n tag
tag-read n tag f h = let e : length (map decimal tag) ≡ n = length-map tag decimal ∙ h.0 in rw (e, numbers-read tag h.1) refl

-- what is read of a reply's line is what it shows
reply-read : (r : Reply) → IsReply r → reply_of (words_in (joined (reply_words r))) ≡ shown r
reply-read (Sent number) h = line-read (codes "ok") (decimal number ∷ []) _ (rw (number-lacks number h) refl) (ap Sent (decimal-value number (omega arith)))
reply-read (Is answer) h = line-read (codes "=") (answer_words answer) _ (answer-lacks answer h) refl
reply-read (Took steps) h = line-read (codes "took") (map step_word steps) _ (items-lack step_word IsStep step-lacks steps h) (ap Took (items-read step_word step_of shown_step IsStep step_of-word steps h))
reply-read (BadFrame fault) h = line-read (codes "bad") (codes "frame" ∷ decimal fault ∷ []) _ (rw (number-lacks fault h) refl) (ap BadFrame (decimal-value fault (omega arith)))
reply-read (Epoch number) h = line-read (codes "epoch") (decimal number ∷ []) _ (rw (number-lacks number h) refl) (ap Epoch (decimal-value number (omega arith)))
reply-read (Log ids) h =
    line-read (codes "log") (map id_word ids) _ (items-lack id_word IsId (λ id k. id-lacks 32 id no_space refl k) ids h)
    (ap Log (items-read id_word id_of (λ id. id) IsId id_of-word ids h ∙ map-id ids))
reply-read (Size entries items) h =
    line-read (codes "size") (decimal entries ∷ decimal items ∷ []) _ (rw (number-lacks entries h.0, number-lacks items h.1) refl)
    (rw (decimal-value entries (omega arith), decimal-value items (omega arith)) refl)
reply-read (Stable n tag) h = line-read (codes "stable") (map decimal tag) _ (numbers-lack tag h.1) (tag-read n tag Stable h)
reply-read (Seen n tag) h = line-read (codes "seen") (map decimal tag) _ (numbers-lack tag h.1) (tag-read n tag Seen h)
reply-read (Noops count) h = line-read (codes "noops") (decimal count ∷ []) _ (rw (number-lacks count h) refl) (ap Noops (decimal-value count (omega arith)))
reply-read (Lags None) h = refl
reply-read (Lags (Some member)) h =
    line-read (codes "lags") (decimal member ∷ []) _ (rw (number-lacks member h) refl)
    (ap Lags (ap (λ digits. if digits then Some (digits_value 10 (decimal member)) else None) (decimal-lacks 110 member no_n (omega arith)) ∙ ap Some (decimal-value member (omega arith))))
reply-read (Ids ids) h =
    line-read (codes "ids") (map element_word ids) _ (items-lack element_word IsElement element-lacks ids h)
    (ap Ids (items-read element_word element_of (λ id. id) IsElement element_of-word ids h ∙ map-id ids))
reply-read (Tombs count) h = line-read (codes "tombs") (decimal count ∷ []) _ (rw (number-lacks count h) refl) (ap Tombs (decimal-value count (omega arith)))
reply-read (Open count) h = line-read (codes "open") (decimal count ∷ []) _ (rw (number-lacks count h) refl) (ap Open (decimal-value count (omega arith)))
reply-read (Bad fault) h = line-read (codes "bad") (decimal fault ∷ []) _ (rw (number-lacks fault h) refl) (ap Bad (decimal-value fault (omega arith)))
reply-read r h = refl

-- replies with one line are the same in what it shows
lines_tell_shown : (r s : Reply) → IsReply r → IsReply s → reply_line r ≡ reply_line s → shown r ≡ shown s
lines_tell_shown r s hr hs e =
    let same : joined (reply_words r) ≡ joined (reply_words s) = append_cancel_right _ _ (10 ∷ []) e in
    sym (reply-read r hr) ∙ ap (λ text. reply_of (words_in text)) same ∙ reply-read s hs

-- ---- what is shown, and what isn't, make the reply

answers_alike : (a b : Answer) → IsAnswer a → IsAnswer b → HaveOneForm a b → answer_words a ≡ answer_words b → a ≡ b
answers_alike (Values values) (Values others) ha hb one e = ap Values e
answers_alike (Flag true) (Flag true) ha hb one e = refl
answers_alike (Flag false) (Flag false) ha hb one e = refl
answers_alike (Flag true) (Flag false) ha hb one e = absurd cc
answers_alike (Flag false) (Flag true) ha hb one e = absurd cc
answers_alike (Sum sum) (Sum other) ha hb one e = ap Sum (sym (sum_of-word sum ha) ∙ ap (λ words. sum_of (first words)) e ∙ sum_of-word other hb)
answers_alike a b ha hb one e = absurd one

step_alike : (x y : Step) → cause_of x ≡ cause_of y → shown_step x ≡ shown_step y → x ≡ y
step_alike (step.Took x) (step.Took y) c e = e
step_alike (step.Took x) (step.Crook y cause) c e = absurd cc
step_alike (step.Crook x cause) (step.Took y) c e = absurd cc
step_alike (step.Crook x cause) (step.Crook y other) c e = cc

steps_alike : (xs ys : List Step) → map cause_of xs ≡ map cause_of ys → map shown_step xs ≡ map shown_step ys → xs ≡ ys
steps_alike [] [] c e = refl
steps_alike [] (y ∷ ys) c e = absurd cc
steps_alike (x ∷ xs) [] c e = absurd cc
steps_alike (x ∷ xs) (y ∷ ys) c e =
    let cause : cause_of x ≡ cause_of y = cc in
    let seen : shown_step x ≡ shown_step y = cc in
    let causes : map cause_of xs ≡ map cause_of ys = cc in
    let all_seen : map shown_step xs ≡ map shown_step ys = cc in
    let one : x ≡ y = step_alike x y cause seen in
    let others : xs ≡ ys = steps_alike xs ys causes all_seen in
    cc

-- whether a line shows all of a reply
abbrev is_plain : Reply → Bool
is_plain (Is answer) = false
is_plain (Took steps) = false
is_plain reply = true

plain-shown : (r : Reply) → is_plain r ≡ true → shown r ≡ r
plain-shown (Is answer) h = absurd cc
plain-shown (Took steps) h = absurd cc
plain-shown r h = refl

is_plain-shown : (r : Reply) → is_plain (shown r) ≡ is_plain r
is_plain-shown (Is answer) = refl
is_plain-shown r = refl

replies_alike : (r s : Reply) → IsReply r → IsReply s → AreAlike r s → shown r ≡ shown s → r ≡ s
replies_alike (Is a) (Is b) hr hs alike e = ap Is (answers_alike a b hr hs alike cc)
replies_alike (Is a) s hr hs alike e = absurd cc
replies_alike (Took xs) (Took ys) hr hs alike e = ap Took (steps_alike xs ys alike cc)
replies_alike (Took xs) s hr hs alike e = absurd cc
replies_alike r s hr hs alike e = e ∙ plain-shown s (sym (is_plain-shown s) ∙ sym (ap is_plain e))

pub lines_tell_replies : (r s : Reply) → IsReply r → IsReply s → AreAlike r s → reply_line r ≡ reply_line s → r ≡ s
lines_tell_replies r s hr hs alike e = replies_alike r s hr hs alike (lines_tell_shown r s hr hs e)
