-- No entry of a timestamp of a history is above the count of its member.
use Rattle.std.proofs.Common.{◌≡◌, ℕ, ◌<◌, ◌≤◌, All, ◌&&◌, ◌==◌, IsTrue, List, [], ◌∷◌, ◌++◌, ap, inl, inr, if◌then◌else◌, arith}
use Rattle.std.proofs.lemmas.Bool.{cond_both, cases_eq, cases_lt}
use Rattle.std.proofs.lemmas.List.{get_or_past, get_or-replicate, length-replicate}
use Rattle.std.proofs.lemmas.List.Elements.{All-head, All-tail, All-nil, All-push, All-weaker}
use Rattle.op_base.specs.Timestamp.{entry, zero_tag}
use Rattle.op_base.specs.Message.{number}
use Rattle.op_base.specs.declared.message.Message.{Message}
use Rattle.causal_model.specs.Counts.{count_of, next_tag}
use Rattle.causal_model.specs.Stability.{last_tag}
use Rattle.causal_model.specs.Crook.{tag_of}
use Rattle.causal_model.specs.Chapter.{is_chapter}
use Rattle.causal_model.proofs.Delivery.Counts.{count_of-push_own, count_of_grows, entry-next_tag_own, entry-next_tag_other}
use Rattle.causal_model.proofs.Delivery.Chapters.{IsNext, chapter_induction}
use Rattle.causal_model.proofs.Theory.Lists.{fold_has}

-- ---- what holds of all zeros, and of each timestamp of a history, holds of those that are looked up in it

pub last_tag_has : (P : List ℕ → Type 0) (n : ℕ) (h : List Message) (x : ℕ) → P (zero_tag n) → All (λ m. P m.tag) h → P (last_tag n h x)
last_tag_has P n h x none each = fold_has P (λ last m. if m.origin == x then m.tag else last) (zero_tag n) h none (All-weaker (λ m. P m.tag) (λ m. (last : List ℕ) → P last → P (if m.origin == x then m.tag else last)) (λ m here last had.
    cond_both (m.origin == x) m.tag last P (λ _. here) (λ _. had)) h each)

pub tag_of_has : (P : List ℕ → Type 0) (n : ℕ) (h : List Message) (x seq : ℕ) → P (zero_tag n) → All (λ m. P m.tag) h → P (tag_of n h x seq)
tag_of_has P n [] x seq none each = none
tag_of_has P n (m ∷ h) x seq none each =
    cond_both ((m.origin == x) && (number m == seq)) m.tag (tag_of n h x seq) P (λ _. All-head (λ y. P y.tag) m h each) (λ _. tag_of_has P n h x seq none (All-tail (λ y. P y.tag) m h each))

-- ---- entries and counts

pub entry-zero_tag : (n x : ℕ) → entry (zero_tag n) x ≡ 0
entry-zero_tag n x = elim (cases_lt x n) [ inl l ↦ get_or-replicate n x 0 0 l | inr past ↦ get_or_past (zero_tag n) x 0 (omega (arith, length-replicate {A = ℕ} n 0)) ]

-- no entry of a message is above the count with it
pub next_is_counted : (n w me : ℕ) (h : List Message) (m : Message) → IsNext n w me h m → (x : ℕ) → entry m.tag x ≤ count_of (h ++ m ∷ []) x
next_is_counted n w me h m next x = elim (cases_eq m.origin x) [
  | inl e ↦ omega (arith, next.counted, ap (entry m.tag) e, ap (count_of h) e, count_of-push_own h m x e)
  | inr ne ↦ elim (cases_lt x n) [
    | inl l ↦ omega (arith, next.seen x l (λ e. ne (omega (arith, e))), count_of_grows h m x)
    | inr past ↦ omega (arith, get_or_past m.tag x 0 (omega (arith, next.entries)))
  ]
]

pub tags_are_counted : (n w me : ℕ) (h : List Message) → IsTrue (is_chapter n w me h) → All (λ m. (x : ℕ) → entry m.tag x ≤ count_of h x) h
tags_are_counted n w me h t = chapter_induction n w me (λ g. All (λ m. (x : ℕ) → entry m.tag x ≤ count_of g x) g) (All-nil (λ m. (x : ℕ) → entry m.tag x ≤ count_of [] x)) (λ g m _ next ih.
    All-push (λ y. (x : ℕ) → entry y.tag x ≤ count_of (g ++ m ∷ []) x) g m (All-weaker (λ y. (x : ℕ) → entry y.tag x ≤ count_of g x) (λ y. (x : ℕ) → entry y.tag x ≤ count_of (g ++ m ∷ []) x) (λ y each x. omega (arith, each x, count_of_grows g m x)) g ih) (next_is_counted n w me g m next)) h t

pub last_tag_is_counted : (n w me : ℕ) (h : List Message) (y x : ℕ) → IsTrue (is_chapter n w me h) → entry (last_tag n h y) x ≤ count_of h x
last_tag_is_counted n w me h y x t = last_tag_has (λ tag. (z : ℕ) → entry tag z ≤ count_of h z) n h y (λ z. omega (arith, entry-zero_tag n z)) (tags_are_counted n w me h t) x

pub tag_of_is_counted : (n w me : ℕ) (h : List Message) (y seq x : ℕ) → IsTrue (is_chapter n w me h) → entry (tag_of n h y seq) x ≤ count_of h x
tag_of_is_counted n w me h y seq x t = tag_of_has (λ tag. (z : ℕ) → entry tag z ≤ count_of h z) n h y seq (λ z. omega (arith, entry-zero_tag n z)) (tags_are_counted n w me h t) x

-- the next own timestamp has no entry below its count
pub next_tag_has_counts : (n me : ℕ) (h : List Message) (x : ℕ) → me < n → x < n → count_of h x ≤ entry (next_tag n me h) x
next_tag_has_counts n me h x l k = elim (cases_eq x me) [
  | inl e ↦ omega (arith, ap (entry (next_tag n me h)) e, ap (count_of h) e, entry-next_tag_own n me h l)
  | inr ne ↦ omega (arith, entry-next_tag_other n me h x k ne)
]
