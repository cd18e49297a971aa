-- Passes of mailboxes: a row is forked from the first ones, and a row is joined to them.
use Rattle.std.proofs.Common.{◌≡◌, ℕ, suc, ◌+◌, ◌<◌, List, [], ◌∷◌, ◌++◌, length, get_or, All, inl, inr, refl, sym, ap, ap₂, subst, ◌∙◌, arith}
use Rattle.std.specs.Prelude.{map, slice_set}
use Rattle.std.specs.List.{flat_map, Contains}
use Rattle.std.proofs.Math.ListN.{length-set}
use Rattle.std.proofs.lemmas.Bool.{cases_eq}
use Rattle.std.proofs.lemmas.Grind.{flat_map-append}
use Rattle.std.proofs.lemmas.List.{append-nil, append_assoc, get_or_at, get_or_default, get_or_push, get_or_append_left, get_or-set_same, get_or-set_other, length-append, length-map, map-append}
use Rattle.std.proofs.lemmas.List.Elements.{All-nil, All-cons}
use Rattle.causal_model.specs.declared.note.Note.{Note}
use Rattle.causal_model.specs.declared.note.Note.TheVariants as note
use Rattle.mailboxes.specs.Passes.{seen, IsOf}
use Rattle.mailboxes.specs.Seen.{BeginsWith, forked, newcomer, line, numbers}
use Rattle.mailboxes.specs.declared.mailbox.MailPass.{MailPass}
use Rattle.mailboxes.specs.declared.mailbox.Mailbox.{Mailbox}
use Rattle.mailboxes.specs.declared.seen.Line.{Line}
use Rattle.mailboxes.specs.declared.seen.Posted.{Posted}
use Rattle.mailboxes.specs.declared.seen.Seen.{Seen}
use Rattle.live_run.specs.Meeting.{AreToJoin, HasJoined, HaveJoined, HaveMet, IsMeeting}
use Rattle.live_run.specs.Opening.{AreFirsts, AreForked}
use Rattle.live_run.specs.Posting.{AreMails}
use Rattle.live_run.specs.declared.letter.Letter.{Letter}

abbrev Box : Type 0
Box = Mailbox Letter

abbrev Mail : Type 0
Mail = MailPass Letter

-- ---- forking

module _ (k : ℕ) (mailboxes : List Box) (old new mails : List Mail) (are : AreFirsts k mailboxes old) (fork : AreForked (length mailboxes) mailboxes old new mails) where
  pub firsts_forked : AreFirsts (k + 1) mailboxes new
  firsts_forked = record {
    of_each = fork.of_each ∙ are.of_each;
    of = λ x d e l. fork.of x e e l ∙ are.of x d e l;
    seen_is = λ x e l. fork.counted x e e l ∙ ap forked (are.seen_is x e l);
  }

  pub mails_forked : AreMails (k + 1) [] mailboxes mails
  mails_forked = record {
    of_each = fork.made;
    each = λ x d e l.
        let is = fork.newcomers x e e l ∙ ap newcomer (are.seen_is x e l) in
        let none : Line Letter → Type 0 = λ l. All (λ letter. Contains [] (note.Sent letter.message)) l.items in
        record {
          of = fork.forks_of x d e l;
          fork = ap (λ (s : Seen Letter). s.number) is;
          one_line = ap (λ (s : Seen Letter). numbers s.roll) is;
          was_sent = subst (λ (s : Seen Letter). All none s.roll) (sym is) (All-cons none (line (k + 1) []) [] (All-nil (λ letter. Contains [] (note.Sent letter.message))) (All-nil none));
        };
  }

-- ---- joining

pub joined_none : (old row : List Mail) → HaveJoined 0 old row old
joined_none old row = record {
  of_each = refl;
  each = λ x c d e l. absurd (omega (arith, l));
  others = λ x e l. refl;
}

module _ (old now row : List Mail) (i : ℕ) (was became mail : Mail) where
  pub joined_more : i < length old → HaveJoined i old row now → ((d : Mail) → get_or row i d ≡ mail) → HasJoined (get_or now i was) mail became → HaveJoined (i + 1) old row (slice_set now i became)
  joined_more inside are mail_is has =
      let low : i < length now = omega (arith, inside, are.of_each) in
      let here : (c : Mail) → get_or old i c ≡ get_or now i was = λ c. get_or_default old i c was inside ∙ sym (are.others i was (omega arith)) in
      let stays : (x : ℕ) (e : Mail) → (x ≡ i → ⊥) → get_or (slice_set now i became) x e ≡ get_or now x e = λ x e other. get_or-set_other now i x became e other in
      record {
        of_each = length-set now i became ∙ are.of_each;
        each = λ x c d e l. elim (cases_eq x i) [
          | inl same ↦ subst (λ (p : Mail × (Mail × Mail)). HasJoined p.0 p.1.0 p.1.1)
              (λ j. (sym (ap (λ k. get_or old k c) same ∙ here c) j, (sym (ap (λ k. get_or row k d) same ∙ mail_is d) j, sym (ap (λ k. get_or (slice_set now i became) k e) same ∙ get_or-set_same now i became e low) j))) has
          | inr other ↦ subst (HasJoined (get_or old x c) (get_or row x d)) (sym (stays x e other)) (are.each x c d e (omega (arith, l, other)))
        ];
        others = λ x e l. stays x e (λ same. absurd (omega (arith, l, same))) ∙ are.others x e (omega (arith, l));
      }

abbrev pub Row : Type 0
Row = List Mail

-- first passes that met some rows of couriers, of so many that were forked
pub record AreMeeting (forks : ℕ) (mailboxes : List Box) (rows : List Row) (firsts : List Mail) : Type 0 where
  pub of_each : length firsts ≡ length mailboxes
  pub of : (x : ℕ) (d : Box) (e : Mail) → x < length mailboxes → IsOf (get_or mailboxes x d) (get_or firsts x e)
  pub each : (x : ℕ) (e : Mail) → x < length mailboxes → IsMeeting forks x rows (get_or firsts x e)

pub met_none : (forks : ℕ) (mailboxes : List Box) (firsts : List Mail) → AreFirsts forks mailboxes firsts → AreMeeting forks mailboxes [] firsts
met_none forks mailboxes firsts are = record {
  of_each = are.of_each;
  of = are.of;
  each = λ x e l. record {
    number = ap (λ (s : Seen Letter). s.number) (are.seen_is x e l);
    forks_are = ap (λ (s : Seen Letter). s.forks) (are.seen_is x e l);
    roll = ap (λ (s : Seen Letter). s.roll) (are.seen_is x e l);
    begins = λ k d none. absurd (omega (arith, none));
  };
}

abbrev rolls : ℕ → Mail → List Row → List (Line Letter)
rolls x first rows = flat_map (λ (row : Row). (seen (get_or row x first)).roll) rows

abbrev AreLong : ℕ → List Row → Type 0
AreLong x rows = (k : ℕ) (d : Row) → k < length rows → x < length (get_or rows k d)

rolls_of : (x : ℕ) (a b : Mail) (rows : List Row) → AreLong x rows → rolls x a rows ≡ rolls x b rows
rolls_of x a b [] long = refl
rolls_of x a b (row ∷ rows) long =
    ap₂ (λ (p q : List (Line Letter)). p ++ q) (ap (λ m. (seen m).roll) (get_or_default row x a b (long 0 row (omega arith)))) (rolls_of x a b rows (λ k d l. long (suc k) d (omega (arith, l))))

begins_on : (a b c : List (Posted Letter)) → BeginsWith a b → BeginsWith b c → BeginsWith a c
begins_on a b c (later, is) (more, was) = (more ++ later, is ∙ ap (λ l. l ++ later) was ∙ append_assoc c more later)

-- one pass that met rows, and one more
met_one : (forks x : ℕ) (rows : List Row) (row : Row) (old new : Mail) → AreLong x rows → x < length row → IsMeeting forks x rows old → HasJoined old (get_or row x new) new
    → IsMeeting forks x (rows ++ row ∷ []) new
met_one forks x rows row old new long inside was has = record {
  number = ap (λ (s : Seen Letter). s.number) has.seen_is ∙ was.number;
  forks_are = ap (λ (s : Seen Letter). s.forks) has.seen_is ∙ was.forks_are;
  roll =
      ap (λ (s : Seen Letter). s.roll) has.seen_is
      ∙ ap (λ l. l ++ (seen (get_or row x new)).roll) (was.roll ∙ ap (λ l. line 0 [] ∷ l) (rolls_of x old new rows long))
      ∙ ap (λ l. line 0 [] ∷ l) (ap (λ l. rolls x new rows ++ l) (sym (append-nil (seen (get_or row x new)).roll)) ∙ sym (flat_map-append (λ (row : Row). (seen (get_or row x new)).roll) rows (row ∷ [])));
  begins = λ k d l. elim (cases_eq k (length rows)) [
    | inl same ↦ subst (λ r. BeginsWith (seen new).posted (seen (get_or r x new)).posted) (sym (get_or_push rows row d k (sym same))) has.theirs
    | inr other ↦
        let low : k < length rows = omega (arith, l, other, length-append rows (row ∷ [])) in
        subst (λ r. BeginsWith (seen new).posted (seen (get_or r x new)).posted) (sym (get_or_append_left rows (row ∷ []) d k low))
        (subst (λ m. BeginsWith (seen new).posted (seen m).posted) (get_or_default (get_or rows k d) x old new (long k d low)) (begins_on _ _ _ has.mine (was.begins k d low)))
  ];
}

pub met_more : (forks : ℕ) (mailboxes : List Box) (rows : List Row) (row : Row) (old new : List Mail) → ((x : ℕ) → x < length mailboxes → AreLong x rows) → length row ≡ length mailboxes
    → AreMeeting forks mailboxes rows old → HaveJoined (length row) old row new → AreMeeting forks mailboxes (rows ++ row ∷ []) new
met_more forks mailboxes rows row old new long row_is was has = record {
  of_each = has.of_each ∙ was.of_each;
  of = λ x d e l. (has.each x e e e (omega (arith, l, row_is))).of ∙ was.of x d e l;
  each = λ x e l.
      let inside : x < length row = omega (arith, l, row_is) in
      met_one forks x rows row (get_or old x e) (get_or new x e) (long x l) inside (was.each x e l) (has.each x e (get_or new x e) e inside);
}

pub all_met : (mailboxes : List Box) (rows : List Row) (firsts : List Mail) → AreMeeting (length rows) mailboxes rows firsts → HaveMet mailboxes rows firsts
all_met mailboxes rows firsts are = record { each = are.each }

some_box : (x : ℕ) (boxes : List Box) → x < length boxes → Box
some_box x [] l = let no : ⊥ = omega (arith, l) in absurd no
some_box x (b ∷ boxes) l = b

-- a row whose passes are those of a fork can be joined where the first ones met others
pub row_joins : (forks k : ℕ) (notes : List Note) (mailboxes : List Box) (rows : List Row) (row : Row) (firsts : List Mail) → AreMeeting forks mailboxes rows firsts → AreMails (k + 1) notes mailboxes row → AreToJoin mailboxes firsts row
row_joins forks k notes mailboxes rows row firsts are mails = record {
  of_each = are.of_each;
  row_of_each = mails.of_each;
  of = are.of;
  row_of = λ x d e l. (mails.each x d e l).of;
  firsts_are = λ x e l. (are.each x e l).number;
  forks_are = λ x e l none.
      let box = some_box x mailboxes l in
      absurd (omega (arith, none, (mails.each x box e l).fork));
}

-- the element behind a front, and the elements of the front
pub row_here : {X Y : Type 0} (f : X → Y) (done : List X) (x : X) (rest xs : List X) → xs ≡ done ++ x ∷ rest → (length done < length (map f xs)) × ((d : Y) → get_or (map f xs) (length done) d ≡ f x)
row_here f done x rest xs is = (
  omega (arith, ap length is, length-append done (x ∷ rest), length-map xs f),
  λ d. ap (λ l. get_or (map f l) (length done) d) is ∙ ap (λ l. get_or l (length done) d) (map-append f done (x ∷ rest)) ∙ get_or_at (map f done) (f x) (map f rest) d (length done) (length-map done f),
)

pub front_here : {X Y : Type 0} (f : X → Y) (done rest xs : List X) → xs ≡ done ++ rest → (k : ℕ) (d : Y) → k < length (map f done) → (k < length (map f xs)) × (get_or (map f xs) k d ≡ get_or (map f done) k d)
front_here f done rest xs is k d l = (
  omega (arith, l, ap length is, length-append done rest, length-map xs f, length-map done f),
  ap (λ l. get_or (map f l) k d) is ∙ ap (λ l. get_or l k d) (map-append f done rest) ∙ get_or_append_left (map f done) (map f rest) d k l,
)

pub none_left : {X : Type 0} (xs : List X) → length xs ≡ 0 → xs ≡ []
none_left [] none = refl
none_left (x ∷ xs) none = let no : ⊥ = omega (arith, none) in absurd no
