-- What a pass has seen of its mailbox, and what each call makes of it.
use Rattle.std.specs.Prelude.{◌≡◌, ◌≢◌, ℕ, ◌+◌, ◌<◌, ◌≤◌, ◌==◌, max, nat_lt, if◌then◌else◌, List, [], ◌∷◌, ◌++◌, length, map, filter, All, AllPairs, Contains, Some, slice_get}
use Rattle.mailboxes.specs.declared.seen.Posted.{Posted}
use Rattle.mailboxes.specs.declared.seen.Line.{Line}
use Rattle.mailboxes.specs.declared.seen.Seen.{Seen}

-- no place stands in both lists
abbrev pub AreApart : List ℕ → List ℕ → Type 0
AreApart xs ys = (k : ℕ) → Contains xs k → Contains ys k → ⊥

module _ {T : Type 0} where
  -- an item, posted under a number
  abbrev pub posted : ℕ → T → Posted T
  posted k x = record { by = k; item = x }

  -- the line of a number
  abbrev pub line : ℕ → List T → Line T
  line k xs = record { by = k; items = xs }

  -- the items of posted ones
  abbrev pub items_of : List (Posted T) → List T
  items_of list = map (λ p. p.item) list

  -- the items that were posted under a number, in order
  abbrev pub items_by : ℕ → List (Posted T) → List T
  items_by k list = items_of (filter (λ p. p.by == k) list)

  -- the numbers of a roll
  abbrev pub numbers : List (Line T) → List ℕ
  numbers roll = map (λ l. l.by) roll

  -- the roll, with an item at the end of a number's line
  abbrev pub enrolled : ℕ → T → List (Line T) → List (Line T)
  enrolled k x roll = map (λ l. if l.by == k then line k (l.items ++ x ∷ []) else l) roll

  -- the list begins with these
  abbrev pub BeginsWith : List (Posted T) → List (Posted T) → Type 0
  BeginsWith list front = (rest : List (Posted T)) × (list ≡ front ++ rest)

  -- the longer of two lists
  abbrev pub longer : List (Posted T) → List (Posted T) → List (Posted T)
  longer xs ys = if nat_lt (length xs) (length ys) then ys else xs

  -- what the first pass has seen of a new mailbox
  abbrev pub first_seen : Seen T
  first_seen = record { number = 0; forks = 0; posted = []; taken = 0; roll = line 0 [] ∷ []; places = [] }

  -- the first pass, with one fork more
  abbrev pub forked : Seen T → Seen T
  forked first = record first { forks = first.forks + 1 }

  -- that fork: it has seen as much, its roll has its own number, with no items, and it has taken nothing
  abbrev pub newcomer : Seen T → Seen T
  newcomer first = record { number = first.forks + 1; forks = 0; posted = first.posted; taken = first.taken; roll = line (first.forks + 1) [] ∷ []; places = [] }

  -- the first pass, once another is joined to it
  abbrev pub joined : Seen T → Seen T → Seen T
  joined first other = record first { posted = longer first.posted other.posted; taken = max first.taken other.taken; roll = first.roll ++ other.roll; places = first.places ++ other.places }

  -- What is true of what a pass has seen, at any time.

  -- its roll begins with the line of its own number
  abbrev pub HasItsLine : Seen T → Type 0
  HasItsLine s = slice_get (numbers s.roll) 0 ≡ Some s.number

  -- for each number of the roll, the items of that number in the list are exactly the roll's
  abbrev pub IsExact : Seen T → Type 0
  IsExact s = All (λ l. items_by l.by s.posted ≡ l.items) s.roll

  -- the first pass has seen no item with a number above its forks
  abbrev pub IsNumbered : Seen T → Type 0
  IsNumbered s = s.number ≡ 0 → All (λ p. p.by ≤ s.forks) s.posted

  -- the first pass, and each of its forks was joined: its roll has every number up to its forks
  abbrev pub KnowsAll : Seen T → Type 0
  KnowsAll s = (s.number ≡ 0) × ((k : ℕ) → k ≤ s.forks → Contains (numbers s.roll) k)

  -- it took no place twice, and none that isn't below its number
  pub record TookOnce (s : Seen T) : Type 0 where
    pub apart : AllPairs (λ a b. a ≢ b) s.places
    pub below : All (λ k. k < s.taken) s.places

  -- a pass that knows all took each place below its number
  abbrev pub TookAll : Seen T → Type 0
  TookAll s = KnowsAll s → (k : ℕ) → k < s.taken → ∥ Contains s.places k ∥₁

  -- after a post the list ends with the item, under the pass's own number, and the roll has it. A pass that knows all
  -- has seen nothing else that is new
  pub record Posts (old : Seen T) (x : T) (new : Seen T) : Type 0 where
    pub before : List (Posted T)
    pub begins : BeginsWith before old.posted
    pub becomes : new ≡ record old { posted = before ++ posted old.number x ∷ []; roll = enrolled old.number x old.roll }
    pub alone : KnowsAll old → before ≡ old.posted

  -- an item that was taken stands in the list at a place that is not below the former number. The new number is that
  -- place plus one, and the place is one that the pass took. A pass that knows all takes the item at its number, and has
  -- seen nothing else that is new
  pub record Takes (old : Seen T) (x : T) (new : Seen T) : Type 0 where
    pub list : List (Posted T)
    pub place : ℕ
    pub by : ℕ
    pub begins : BeginsWith list old.posted
    pub later : old.taken ≤ place
    pub stands : slice_get list place ≡ Some (posted by x)
    pub becomes : new ≡ record old { posted = list; taken = place + 1; places = old.places ++ place ∷ [] }
    pub alone : KnowsAll old → (list ≡ old.posted) × (place ≡ old.taken)
