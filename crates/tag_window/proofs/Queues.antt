-- What is held of one member: its numbers follow one another, so one is found by its number, and the stable ones are in front.
use Rattle.std.proofs.Common.{◌≡◌, ◌≢◌, if◌then◌else◌, ℕ, ◌+◌, ◌-◌, ◌<◌, ◌≤◌, All, Bool, true, false, not, ◌==◌, nat_lt, List, [], ◌∷◌, ◌++◌, length, get_or, drop, zero, suc, refl, sym, ap, subst, ◌∙◌, inl, inr, arith, length-append, length-drop}
use Rattle.std.specs.List.{filter, count_by}
use Rattle.std.proofs.lemmas.Bool.{cases_eq, cases_lt, cond-true, cond-false, eq-eqb, ne_eqb, lt-ltb, le-ltb}
use Rattle.std.proofs.lemmas.List.{get_or_default, get_or_append_left, get_or_push, get_or-drop, drop_more}
use Rattle.std.proofs.lemmas.List.Elements.{All-push, All-drop, All-from_get_or, All-head, All-tail}
use Rattle.std.proofs.lemmas.List.Sums.{sum_by_push, sum_by-cons}
use Rattle.causal_model.proofs.Cells.ItemMaps.{filter_all_of}
use Rattle.op_base.specs.Timestamp.{entry, zero_tag}
use Rattle.tag_window.specs.declared.held.Held.{Held}
use Rattle.tag_window.specs.Window.{IsNextNumber}
use Rattle.tag_window.specs.Queue.{Line, IsNumbered, IsSound, tag_held}

-- with the next number at the end the numbers follow one another
pub numbered-push : (x : ℕ) (held : List Held) (h : Held) → IsNumbered x held → IsNextNumber x held h.tag → IsNumbered x (held ++ h ∷ [])
numbered-push x held h numbered next i d l =
    let longer = length-append held (h ∷ []) in
    elim (cases_lt i (length held)) [
      | inl below ↦ ap (λ e. entry e.tag x) (get_or_append_left held (h ∷ []) d i below) ∙ numbered i d below ∙ ap (λ e. entry e.tag x + i) (sym (get_or_append_left held (h ∷ []) d 0 (omega (arith, below))))
      | inr past ↦
          let here : length held ≡ i = omega (arith, past, l, longer) in
          let last : get_or (held ++ h ∷ []) i d ≡ h = get_or_push held h d i here in
          elim (cases_eq (length held) 0) [
            | inl none ↦
                let first : get_or (held ++ h ∷ []) 0 d ≡ h = get_or_push held h d 0 none in
                omega (arith, ap (λ e. entry e.tag x) last, ap (λ e. entry e.tag x) first, none, here)
            | inr some ↦
                let nonempty : 0 < length held = omega (arith, some) in
                omega (arith, ap (λ e. entry e.tag x) last, next h nonempty, numbered (length held - 1) h (omega (arith, nonempty)), ap (λ e. entry e.tag x) (get_or_default held 0 h d nonempty), ap (λ e. entry e.tag x) (get_or_append_left held (h ∷ []) d 0 nonempty), here)
          ]
    ]

-- they do without the first
pub numbered-drop : (x : ℕ) (held : List Held) → IsNumbered x held → IsNumbered x (drop 1 held)
numbered-drop x held numbered i d l =
    let shorter = length-drop 1 held in
    omega (arith, ap (λ e. entry e.tag x) (get_or-drop 1 held i d), ap (λ e. entry e.tag x) (get_or-drop 1 held 0 d), numbered (1 + i) d (omega (arith, shorter, l)), numbered 1 d (omega (arith, shorter, l)))

-- the one with a number stands so far behind the first
pub tag_held-at : (n x : ℕ) (held : List Held) (i seq : ℕ) (d : Held) → IsNumbered x held → i < length held → seq ≡ entry (get_or held 0 d).tag x + i → tag_held n x held seq ≡ (get_or held i d).tag
tag_held-at n x [] i seq d numbered l e = absurd (omega (arith, l))
tag_held-at n x (h ∷ hs) zero seq d numbered l e = cond-true (entry h.tag x == seq) h.tag (tag_held n x hs seq) (eq-eqb (entry h.tag x) seq (omega (arith, e)))
tag_held-at n x (h ∷ hs) (suc i) seq d numbered l e =
    cond-false (entry h.tag x == seq) h.tag (tag_held n x hs seq) (ne_eqb (entry h.tag x) seq (λ same. omega (arith, e, same)))
    ∙ tag_held-at n x hs i seq d (numbered-drop x (h ∷ hs) numbered) (omega (arith, l)) (omega (arith, e, numbered 1 d (omega (arith, l))))

-- where none has the number, none is found
pub tag_held-none : (n x : ℕ) (held : List Held) (seq : ℕ) → All (λ h. entry h.tag x ≢ seq) held → tag_held n x held seq ≡ zero_tag n
tag_held-none n x [] seq none = refl
tag_held-none n x (h ∷ hs) seq none =
    cond-false (entry h.tag x == seq) h.tag (tag_held n x hs seq) (ne_eqb (entry h.tag x) seq (All-head (λ e. entry e.tag x ≢ seq) h hs none))
    ∙ tag_held-none n x hs seq (All-tail (λ e. entry e.tag x ≢ seq) h hs none)

-- none has a number so far behind the first's as there are, or one below it
pub tag_held-outside : (n x : ℕ) (held : List Held) (seq : ℕ) (d : Held) → IsNumbered x held → entry (get_or held 0 d).tag x + length held ≤ seq → tag_held n x held seq ≡ zero_tag n
tag_held-outside n x held seq d numbered high = tag_held-none n x held seq (All-from_get_or (λ h. entry h.tag x ≢ seq) held d (λ i l same. omega (arith, numbered i d l, same, l, high)))

pub tag_held-before : (n x : ℕ) (held : List Held) (seq : ℕ) (d : Held) → IsNumbered x held → seq < entry (get_or held 0 d).tag x → tag_held n x held seq ≡ zero_tag n
tag_held-before n x held seq d numbered low = tag_held-none n x held seq (All-from_get_or (λ h. entry h.tag x ≢ seq) held d (λ i l same. omega (arith, numbered i d l, same, low)))

-- where the first is above a number, all are
pub all_above : (x count : ℕ) (held : List Held) (d : Held) → IsNumbered x held → count < entry (get_or held 0 d).tag x → filter (λ h. nat_lt count (entry h.tag x)) held ≡ held
all_above x count held d numbered above = filter_all_of (λ h. nat_lt count (entry h.tag x)) held (All-from_get_or (λ h. nat_lt count (entry h.tag x) ≡ true) held d (λ i l. lt-ltb count (entry (get_or held i d).tag x) (omega (arith, numbered i d l, above))))

-- a first that isn't can go
pub first_goes : (x count : ℕ) (held : List Held) (d : Held) → 0 < length held → entry (get_or held 0 d).tag x ≤ count → filter (λ h. nat_lt count (entry h.tag x)) (drop 1 held) ≡ filter (λ h. nat_lt count (entry h.tag x)) held
first_goes x count [] d l low = refl
first_goes x count (h ∷ hs) d l low = sym (cond-false (nat_lt count (entry h.tag x)) (h ∷ filter (λ e. nat_lt count (entry e.tag x)) hs) (filter (λ e. nat_lt count (entry e.tag x)) hs) (le-ltb count (entry h.tag x) (omega (arith, low))))

-- what fails a test is the rest
pub count_by-not : {X : Type 0} (p : X → Bool) (xs : List X) → count_by p xs + count_by (λ x. not (p x)) xs ≡ length xs
count_by-not p [] = refl
count_by-not p (x ∷ xs) =
    let one : (if p x then 1 else 0) + (if not (p x) then 1 else 0) ≡ 1 = elim (p x) as (λ b. (if b then 1 else 0) + (if not b then 1 else 0) ≡ 1) [ true ↦ refl | false ↦ refl ] in
    omega (arith, sum_by-cons (λ y. if p y then 1 else 0) x xs, sum_by-cons (λ y. if not (p y) then 1 else 0) x xs, count_by-not p xs, one)

-- a queue stays sound where its next timestamp comes
pub sound-push : (line grown : Line) (cap noops cap' noops' : ℕ) (h : Held) → IsSound line cap noops → length line.held < line.room → length h.tag ≡ line.n → IsNextNumber line.origin line.held h.tag
    → grown ≡ record line { held = line.held ++ h ∷ [] } → cap' ≡ cap → noops' ≡ noops + (if h.noop then 1 else 0) → IsSound grown cap' noops'
sound-push line grown cap noops cap' noops' h sound room entries next is caps counts =
    let now : Line = record line { held = line.held ++ h ∷ [] } in
    let grew : IsSound now cap (noops + (if h.noop then 1 else 0)) = record {
      member = sound.member;
      small = sound.small;
      reserved = sound.reserved;
      within = omega (arith, length-append line.held (h ∷ []), room);
      entries = All-push (λ e. length e.tag ≡ line.n) line.held h sound.entries entries;
      numbered = numbered-push line.origin line.held h sound.numbered next;
      counted = omega (arith, sound.counted, sum_by_push (λ e. if e.noop then 1 else 0) line.held h);
    } in
    subst (λ (l : Line). IsSound l cap' noops') (sym is) (subst (λ k. IsSound now k noops') (sym caps) (subst (IsSound now cap) (sym counts) grew))

-- and where its first goes
pub sound-drop : (line shrunk : Line) (room noops room' noops' : ℕ) (d : Held) → IsSound line room noops → 0 < length line.held
    → shrunk ≡ record line { held = drop 1 line.held } → room' ≡ room → noops' ≡ noops - (if (get_or line.held 0 d).noop then 1 else 0) → IsSound shrunk room' noops'
sound-drop line shrunk room noops room' noops' d sound some is rooms counts =
    let now : Line = record line { held = drop 1 line.held } in
    let one : Held → ℕ = λ e. if e.noop then 1 else 0 in
    let whole = ap (count_by (λ (e : Held). e.noop)) (drop_more line.held 0 d some) ∙ sum_by-cons one (get_or line.held 0 d) (drop 1 line.held) in
    let grew : IsSound now room noops' = record {
      member = sound.member;
      small = sound.small;
      reserved = sound.reserved;
      within = omega (arith, length-drop 1 line.held, sound.within);
      entries = All-drop (λ e. length e.tag ≡ line.n) 1 line.held sound.entries;
      numbered = numbered-drop line.origin line.held sound.numbered;
      counted = omega (arith, sound.counted, counts, whole);
    } in
    subst (λ (l : Line). IsSound l room' noops') (sym is) (subst (λ k. IsSound now k noops') (sym rooms) grew)

-- what is left where the stable ones went
pub left_after : (old line : Line) (count : ℕ) (stable : List ℕ) → line.n ≡ old.n → line.origin ≡ old.origin → line.room ≡ old.room → count ≡ entry stable old.origin
    → filter (λ h. nat_lt count (entry h.tag line.origin)) line.held ≡ filter (λ h. nat_lt count (entry h.tag line.origin)) old.held
    → filter (λ h. nat_lt count (entry h.tag line.origin)) line.held ≡ line.held
    → line ≡ record old { held = filter (λ h. nat_lt (entry stable old.origin) (entry h.tag old.origin)) old.held }
left_after old line count stable n origin room counted kept all =
    let held = sym all ∙ kept ∙ (λ j. filter (λ h. nat_lt (counted j) (entry h.tag (origin j))) old.held) in
    λ i. record { n = n i; origin = origin i; room = room i; held = held i }
