-- Histories and their limits in parts, and with one message more.
use Rattle.std.proofs.Common.{◌≡◌, ℕ, ◌<◌, ◌≤◌, Bool, true, ◌&&◌, nat_le, nat_lt, IsTrue, List, [], ◌∷◌, ◌++◌, sym, ap, ◌∙◌}
use mathlib.Core.Bool.{and-true}
use Rattle.std.specs.List.{list_all}
use Rattle.std.proofs.lemmas.Bool.{and_parts, and_from, ltb-true, lt-ltb, leb-true, le-leb}
use Rattle.std.proofs.lemmas.List.Folds.{list_all-append}
use Rattle.op_base.specs.declared.message.Message.{Message}
use Rattle.causal_model.specs.Counts.{is_carried, are_carried}
use Rattle.causal_model.specs.Chapter.{is_chapter, is_next}
use Rattle.causal_model.specs.History.{Chapter, History, epoch_of, with_message, is_chapter_of, is_all_stable, is_history, is_limited}
use Rattle.causal_model.proofs.Delivery.Chapters.{is_chapter-push}
use Rattle.causal_model.proofs.Delivery.Limits.{are_carried-push}

-- the tests that the chapters that are over pass
abbrev pub is_over : ℕ → Chapter → Bool
is_over w chapter = is_chapter_of w chapter && is_all_stable chapter

-- that a history is one, in parts
pub record IsHistory (w : ℕ) (h : History) : Type 0 where
  pub past : list_all (is_over w) h.past ≡ true
  pub few : h.present.n ≤ 16
  pub member : h.present.me < h.present.n
  pub chapter : IsTrue (is_chapter h.present.n w h.present.me h.present.messages)

pub IsHistory-from_test : (w : ℕ) (h : History) → IsTrue (is_history w h) → IsHistory w h
IsHistory-from_test w h t =
    let both = and_parts (list_all (is_over w) h.past) (is_chapter_of w h.present) t in
    let parts = and_parts (nat_le h.present.n 16 && nat_lt h.present.me h.present.n) (is_chapter h.present.n w h.present.me h.present.messages) both.1 in
    let store = and_parts (nat_le h.present.n 16) (nat_lt h.present.me h.present.n) parts.0 in
    record { past = both.0; few = leb-true h.present.n 16 store.0; member = ltb-true h.present.me h.present.n store.1; chapter = parts.1 }

pub test-from_IsHistory : (w : ℕ) (h : History) → IsHistory w h → IsTrue (is_history w h)
test-from_IsHistory w h is =
    and_from (list_all (is_over w) h.past) (is_chapter_of w h.present) is.past (and_from (nat_le h.present.n 16 && nat_lt h.present.me h.present.n) (is_chapter h.present.n w h.present.me h.present.messages) (and_from (nat_le h.present.n 16) (nat_lt h.present.me h.present.n) (le-leb h.present.n 16 is.few) (lt-ltb h.present.me h.present.n is.member)) is.chapter)

pub present_is_chapter : (w : ℕ) (h : History) → IsTrue (is_history w h) → is_chapter_of w h.present ≡ true
present_is_chapter w h t = (and_parts (list_all (is_over w) h.past) (is_chapter_of w h.present) t).1

-- that the messages of chapters can be carried
abbrev pub all_carried : ℕ → List Chapter → Bool
all_carried limit chapters = list_all (λ chapter. are_carried limit chapter.messages) chapters

pub all_carried-push : (limit : ℕ) (past : List Chapter) (chapter : Chapter) → all_carried limit (past ++ chapter ∷ []) ≡ (all_carried limit past && are_carried limit chapter.messages)
all_carried-push limit past chapter = list_all-append (λ c. are_carried limit c.messages) past (chapter ∷ []) ∙ ap (λ b. all_carried limit past && b) (and-true (are_carried limit chapter.messages))

-- that a history is within the limits, in parts
pub record IsLimited (limit : ℕ) (h : History) : Type 0 where
  pub epochs : epoch_of h ≤ 65535
  pub past : all_carried limit h.past ≡ true
  pub present : are_carried limit h.present.messages ≡ true

pub IsLimited-from_test : (limit : ℕ) (h : History) → IsTrue (is_limited limit h) → IsLimited limit h
IsLimited-from_test limit h t =
    let both = and_parts (nat_le (epoch_of h) 65535) (all_carried limit (h.past ++ h.present ∷ [])) t in
    let parts = and_parts (all_carried limit h.past) (are_carried limit h.present.messages) (sym (all_carried-push limit h.past h.present) ∙ both.1) in
    record { epochs = leb-true (epoch_of h) 65535 both.0; past = parts.0; present = parts.1 }

pub test-from_IsLimited : (limit : ℕ) (h : History) → IsLimited limit h → IsTrue (is_limited limit h)
test-from_IsLimited limit h is =
    and_from (nat_le (epoch_of h) 65535) (all_carried limit (h.past ++ h.present ∷ [])) (le-leb (epoch_of h) 65535 is.epochs) (all_carried-push limit h.past h.present ∙ and_from (all_carried limit h.past) (are_carried limit h.present.messages) is.past is.present)

-- a history with its next message
pub history_with : (w : ℕ) (h : History) (m : Message) → IsTrue (is_history w h) → IsTrue (is_next h.present.n w h.present.me h.present.messages m) → IsTrue (is_history w (with_message h m))
history_with w h m t next =
    let is = IsHistory-from_test w h t in
    test-from_IsHistory w (with_message h m) (record {
      past = is.past;
      few = is.few;
      member = is.member;
      chapter = is_chapter-push h.present.n w h.present.me h.present.messages m ∙ and_from _ _ is.chapter next;
    })

-- a history with a message that can be carried
pub limited_with : (limit : ℕ) (h : History) (m : Message) → IsTrue (is_limited limit h) → IsTrue (is_carried limit m) → IsTrue (is_limited limit (with_message h m))
limited_with limit h m t carried =
    let is = IsLimited-from_test limit h t in
    test-from_IsLimited limit (with_message h m) (record {
      epochs = is.epochs;
      past = is.past;
      present = are_carried-push limit h.present.messages m ∙ and_from _ _ is.present carried;
    })

-- what a history with one message more was before, and that the message can be carried
pub history_before : (w : ℕ) (h : History) (m : Message) → IsTrue (is_history w (with_message h m)) → IsTrue (is_history w h)
history_before w h m t =
    let is = IsHistory-from_test w (with_message h m) t in
    test-from_IsHistory w h (record { past = is.past; few = is.few; member = is.member; chapter = (and_parts _ _ (sym (is_chapter-push h.present.n w h.present.me h.present.messages m) ∙ is.chapter)).0 })

pub limited_before : (limit : ℕ) (h : History) (m : Message) → IsTrue (is_limited limit (with_message h m)) → IsTrue (is_limited limit h) × IsTrue (is_carried limit m)
limited_before limit h m t =
    let is = IsLimited-from_test limit (with_message h m) t in
    let both = and_parts (are_carried limit h.present.messages) (is_carried limit m) (sym (are_carried-push limit h.present.messages m) ∙ is.present) in
    (test-from_IsLimited limit h (record { epochs = is.epochs; past = is.past; present = both.0 }), both.1)
