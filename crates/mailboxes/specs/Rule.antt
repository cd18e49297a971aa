-- The mailbox's rule: what is true of what it holds, and of what all its passes know.
use Rattle.std.specs.Prelude.{◌≡◌, ℕ, ◌≢◌, ◌+◌, ◌<◌, ◌≤◌, List, [], length, drop, All, AllPairs, Contains}
use mathlib.Core.Option.{some}
use lib.ListN.{get_elem?}
use Rattle.mailboxes.specs.declared.seen.Line.{Line}
use Rattle.mailboxes.specs.declared.seen.Posted.{Posted}
use Rattle.mailboxes.specs.declared.seen.Seen.{Seen}
use Rattle.mailboxes.specs.declared.seen.View.{View}
use Rattle.mailboxes.specs.Seen.{items_of, items_by, BeginsWith, first_seen, forked, newcomer, joined, HasItsLine, IsExact, IsNumbered, TookOnce, TookAll, KnowsAll, Posts, Takes}

-- a place that the pass at the seat j took: it is below the number that the pass has seen, and no other pass took it
pub record Took (taken : ℕ) (taker : ℕ → ℕ) (j k : ℕ) : Type 0 where
  pub below : k < taken
  pub by : taker k ≡ j

module _ {T : Type 0} where
  -- what is known of a pass to which none was joined yet
  abbrev pub unjoined : Seen T → View T
  unjoined s = record { seen = s; mine = []; theirs = [] }

  abbrev pub first_view : View T
  first_view = unjoined first_seen

  abbrev pub forking : View T → View T
  forking v = record v { seen = forked v.seen }

  abbrev pub newcomer_view : View T → View T
  newcomer_view v = unjoined (newcomer v.seen)

  abbrev pub joining : View T → View T → View T
  joining v w = record { seen = joined v.seen w.seen; mine = v.seen.posted; theirs = w.seen.posted }

  -- a pass that was joined to another knows nothing, has no roll, and isn't the first
  abbrev pub spent : View T
  spent = unjoined (record { number = 1; forks = 0; posted = []; taken = 0; roll = []; places = [] })

  -- a line of the roll of the pass at the seat j: no other pass has its number, and its items are those of the one list,
  -- and of the list that the pass has seen
  pub record Enrolled (list posted : List (Posted T)) (forks : ℕ) (seat : ℕ → ℕ) (j : ℕ) (l : Line T) : Type 0 where
    pub numbered : l.by ≤ forks
    pub seated : seat l.by ≡ j
    pub whole : items_by l.by list ≡ l.items
    pub exact : items_by l.by posted ≡ l.items

  -- what is true of one pass
  pub record Fits (list : List (Posted T)) (taken forks : ℕ) (seat taker : ℕ → ℕ) (j : ℕ) (v : View T) : Type 0 where
    pub begins : BeginsWith list v.seen.posted
    pub mine : BeginsWith v.seen.posted v.mine
    pub theirs : BeginsWith v.seen.posted v.theirs
    pub below : v.seen.taken ≤ taken
    pub roll : All (Enrolled list v.seen.posted forks seat j) v.seen.roll
    pub first : v.seen.number ≡ 0 → (v.seen.forks ≡ forks) × (seat 0 ≡ j)
    pub took : All (Took v.seen.taken taker j) v.seen.places
    pub apart : AllPairs (λ a b. a ≢ b) v.seen.places

  -- some pass that wasn't joined away
  abbrev pub SomePass : List (View T) → (Seen T → Type 0) → Type 0
  SomePass views F = (j : ℕ) × (v : View T) × (get_elem? views j ≡ some v) × HasItsLine v.seen × F v.seen

  -- there is one list of the items that were ever posted, and the mailbox holds those from the number taken on. Each pass
  -- has seen a front of it, and some pass has seen all; and each place below the number was taken by one pass
  pub record Kept (items : List T) (views : List (View T)) : Type 0 where
    pub list : List (Posted T)
    pub taken : ℕ
    pub forks : ℕ
    pub seat : ℕ → ℕ
    pub taker : ℕ → ℕ
    pub inside : taken ≤ length list
    pub left : items_of (drop taken list) ≡ items
    pub numbered : All (λ p. p.by ≤ forks) list
    pub each : (j : ℕ) (v : View T) → get_elem? views j ≡ some v → Fits list taken forks seat taker j v
    pub all_posted : SomePass views (λ s. s.posted ≡ list)
    pub all_taken : SomePass views (λ s. s.taken ≡ taken)
    pub takers : (k : ℕ) → k < taken → SomePass views (λ s. Contains s.places k)

  -- what a call tells of what its pass has seen
  pub record Sound (s : Seen T) : Type 0 where
    pub has_its_line : HasItsLine s
    pub exact : IsExact s
    pub numbered : IsNumbered s
    pub once : TookOnce s
    pub whole : TookAll s

  abbrev pub Posting : View T → T → View T → Type 0
  Posting v x w = Posts v.seen x w.seen × Sound w.seen

  abbrev pub Taking : View T → T → View T → Type 0
  Taking v x w = Takes v.seen x w.seen × Sound w.seen

  -- after a join the list begins with what either pass had seen
  abbrev pub Joined : View T → Type 0
  Joined v = Sound v.seen × BeginsWith v.seen.posted v.mine × BeginsWith v.seen.posted v.theirs

  -- a pass that knows all knows how many items the mailbox holds
  abbrev pub Holds : View T → List T → Type 0
  Holds v items = KnowsAll v.seen → length v.seen.posted ≡ v.seen.taken + length items
