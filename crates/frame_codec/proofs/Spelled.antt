-- A field that is read is the field that was written, and what was written is read again.
use Rattle.std.proofs.Common.{◌≡◌, ℕ, zero, suc, ◌+◌, ◌*◌, ◌^◌, ◌<◌, ◌≤◌, Bool, true, false, List, [], ◌∷◌, ◌++◌, length, get_or, take, drop, refl, sym, ap, subst, ◌∙◌, append_assoc, arith, inl, inr}
use Rattle.std.specs.Prelude.{IsTrue, nat_le, nat_lt, ◌&&◌, ◌||◌, ◌==◌, not, Option, Some, None, if◌then◌else◌}
use Rattle.std.specs.Int.{w32, from_be_bytes}
use Rattle.std.specs.List.{list_all, flat_map, AllByRecursion}
use Rattle.std.specs.Str.{is_utf8}
use Rattle.std.proofs.lemmas.Bool.{cases_lt, leb-true, le-leb, lt-ltb, ltb-true, and_parts, and_from, eqb-true, eq-eqb, not-false}
use Rattle.std.proofs.lemmas.List.{take_at, drop_at, drop-drop, take-append-drop, length-append, length-take, length-drop, get_or-drop, get_or-take, get_or_past}
use Rattle.std.proofs.lemmas.Nat.{be_bytes_2, be_bytes_4, from_be_bytes-to_be_bytes_2, from_be_bytes-to_be_bytes_4}
use Rattle.std.proofs.Math.Seq.{drop-cons}
use Rattle.op_base.specs.Operation.{has_act, is_element, is_place, verb_of}
use Rattle.op_base.specs.Valid.{is_valid_id, is_valid_place}
use Rattle.op_base.specs.declared.name.Kind.{Kind}
use Rattle.op_base.specs.declared.tag.ElementId.{ElementId}
use Rattle.op_base.specs.Name.{is_short, is_key, is_value, is_value_byte}
use Rattle.op_base.specs.declared.operation.Act.{Act}
use Rattle.op_base.specs.declared.operation.Act.TheVariants as acts
use Rattle.op_base.specs.declared.verb.Verb.{Verb}
use Rattle.op_base.specs.declared.verb.Verb.TheVariants.{Add, Rmv, Clear, Enable, Disable, Write, Inc, Dec, Ins, Del}
use Rattle.frame_codec.specs.declared.version.Version.{Version}
use Rattle.frame_codec.specs.declared.version.Version.TheVariants.{One, Two}
use Rattle.frame_codec.specs.Grammar.{epoch_field, length_field, number_field, text_field, id_field, place_field, argument_field, carries_length, is_sent, IsArgument}
use Rattle.frame_codec.specs.Fault.{element_at, is_id_field, is_place_field, behind_place, head_len, is_bad_epoch, length_len, length_at, numbers, text_of, behind_text, is_text_field}
use Rattle.frame_codec.specs.Reading.{place_at, act_at, is_argument, behind_act}
use Rattle.frame_codec.proofs.Codes.{names_place, names_element}

abbrev pub IsBytes : List ℕ → Type 0
IsBytes bytes = (i : ℕ) → get_or bytes i 0 < 256

pub IsBytes-drop : (n : ℕ) (bytes : List ℕ) → IsBytes bytes → IsBytes (drop n bytes)
IsBytes-drop n bytes h i = rw get_or-drop (h (n + i))

IsBytes-take : (n : ℕ) (bytes : List ℕ) → IsBytes bytes → IsBytes (take n bytes)
IsBytes-take n bytes h i =
    elim (cases_lt i n) [
      | inl lt ↦ rw (get_or-take n bytes i 0 lt) (h i)
      | inr le ↦ rw (get_or_past (take n bytes) i 0 (omega (arith, length-take n bytes))) (omega arith)
    ]

pub IsBytes-behind : (version : Version) (bytes : List ℕ) → IsBytes bytes → IsBytes (behind_text version bytes)
IsBytes-behind version bytes h = IsBytes-drop (length_at version bytes) (drop (length_len version) bytes) (IsBytes-drop (length_len version) bytes h)

-- ---- numbers

-- four bytes are the bytes of the number that they read as
number_spelled : (bytes : List ℕ) → IsBytes bytes → 4 ≤ length bytes → bytes ≡ number_field (from_be_bytes w32 (take 4 bytes)) ++ drop 4 bytes
number_spelled bytes fits long =
    let four : number_field (from_be_bytes w32 (take 4 bytes)) ≡ take 4 bytes = be_bytes_4 (take 4 bytes) _ (omega (arith, length-take 4 bytes)) (IsBytes-take 4 bytes fits) refl in
    sym (take-append-drop 4 bytes) ∙ ap (λ (front : List ℕ). front ++ drop 4 bytes) (sym four)

number_below : (bytes : List ℕ) → IsBytes bytes → from_be_bytes w32 bytes < 2 ^ 32
number_below bytes fits = omega (arith, fits 0, fits 1, fits 2, fits 3)

-- so many bytes are those of the numbers that they read as
pub numbers_spelled : (n : ℕ) (bytes : List ℕ) → IsBytes bytes → 4 * n ≤ length bytes → bytes ≡ flat_map number_field (numbers n bytes) ++ drop (4 * n) bytes
numbers_spelled zero bytes fits long = refl
numbers_spelled (suc n) bytes fits long =
    let at : 4 + 4 * n ≡ 4 * suc n = omega arith in
    let first = number_spelled bytes fits (omega arith) in
    let others = numbers_spelled n (drop 4 bytes) (IsBytes-drop 4 bytes fits) (omega (arith, length-drop 4 bytes)) in
    let rest : drop (4 * n) (drop 4 bytes) ≡ drop (4 * suc n) bytes = drop-drop (4 * n) 4 bytes ∙ ap (λ k. drop k bytes) at in
    let number = from_be_bytes w32 (take 4 bytes) in
    first
    ∙ ap (λ (r : List ℕ). number_field number ++ r) (others ∙ ap (λ (r : List ℕ). flat_map number_field (numbers n (drop 4 bytes)) ++ r) rest)

-- the bytes of a timestamp read back
pub numbers_again : (tag rest : List ℕ) → AllByRecursion (λ e. e < 2 ^ 32) tag → numbers (length tag) (flat_map number_field tag ++ rest) ≡ tag
numbers_again [] rest fits = refl
numbers_again (e ∷ tag) rest fits =
    let one = from_be_bytes-to_be_bytes_4 e fits.0 in
    let others = numbers_again tag rest fits.1 in
    λ i. one i ∷ others i

pub length-number_fields : (tag : List ℕ) → length (flat_map number_field tag) ≡ 4 * length tag
length-number_fields [] = refl
length-number_fields (e ∷ tag) = let others = length-number_fields tag in omega (arith, others)

-- ---- ids and places

-- nine bytes that are an id's are those of the id that they read as
pub id_spelled : (bytes : List ℕ) → IsBytes bytes → is_id_field bytes ≡ true → (bytes ≡ id_field (element_at bytes) ++ drop 9 bytes) × (is_valid_id (element_at bytes) ≡ true)
id_spelled bytes fits h =
    let long : 9 ≤ length bytes = leb-true 9 (length bytes) (and_parts (nat_le 9 (length bytes)) (is_element (element_at bytes)) h).0 in
    let id = element_at bytes in
    let behind = IsBytes-drop 5 bytes fits in
    let first : bytes ≡ number_field id.epoch ++ drop 4 bytes = number_spelled bytes fits (omega (arith, long)) in
    let member : drop 4 bytes ≡ id.origin ∷ drop 5 bytes = drop-cons bytes 4 0 (omega (arith, long)) in
    let last : drop 5 bytes ≡ number_field id.seq ++ drop 9 bytes = number_spelled (drop 5 bytes) behind (omega (arith, long, length-drop 5 bytes)) ∙ ap (λ (r : List ℕ). number_field id.seq ++ r) (drop-drop 4 5 bytes) in (
      first ∙ (λ i. number_field id.epoch ++ (member ∙ ap (λ (r : List ℕ). id.origin ∷ r) last) i) ∙ sym (append_assoc (number_field id.epoch) (id.origin ∷ number_field id.seq) (drop 9 bytes)),
      and_from _ _ (and_from _ _ (lt-ltb id.epoch 4294967296 (number_below (take 4 bytes) (IsBytes-take 4 bytes fits))) (lt-ltb id.origin 256 (fits 4))) (lt-ltb id.seq 4294967296 (number_below (take 4 (drop 5 bytes)) (IsBytes-take 4 (drop 5 bytes) behind))),
    )

-- an id that was written is read again
pub record IsIdAgain (id : ElementId) (bytes rest : List ℕ) : Type 0 where
  pub whole : is_id_field bytes ≡ true
  pub id_is : element_at bytes ≡ id
  pub behind : drop 9 bytes ≡ rest

pub id_again : (id : ElementId) (rest : List ℕ) → is_element id ≡ true → is_valid_id id ≡ true → IsIdAgain id (id_field id ++ rest) rest
id_again id rest named valid =
    let two = and_parts (nat_lt id.epoch 4294967296 && nat_lt id.origin 256) (nat_lt id.seq 4294967296) valid in
    let one = and_parts (nat_lt id.epoch 4294967296) (nat_lt id.origin 256) two.0 in
    let epoch = from_be_bytes-to_be_bytes_4 id.epoch (ltb-true id.epoch 4294967296 one.0) in
    let seq = from_be_bytes-to_be_bytes_4 id.seq (ltb-true id.seq 4294967296 two.1) in
    let same : element_at (id_field id ++ rest) ≡ id = λ i. record { epoch = epoch i; origin = id.origin; seq = seq i } in
    record { whole = and_from _ _ (le-leb 9 _ (omega arith)) (ap is_element same ∙ named); id_is = same; behind = refl }

-- so is a place
pub place_spelled : (bytes : List ℕ) → IsBytes bytes → is_place_field bytes ≡ true → (bytes ≡ place_field (place_at bytes) ++ behind_place bytes) × (is_valid_place (place_at bytes) ≡ true)
place_spelled [] fits h = absurd cc
place_spelled (b ∷ bytes) fits h = by (b == 0) refl (and_parts (nat_lt 0 (length (b ∷ bytes))) _ h).1 where
  by : (t : Bool) → (b == 0) ≡ t → (t || (b == 1 && is_id_field bytes)) ≡ true
      → (b ∷ bytes ≡ place_field (if t then None else Some (element_at bytes)) ++ (if t then bytes else drop 9 bytes)) × (is_valid_place (if t then None else Some (element_at bytes)) ≡ true)
  by true e t = ((λ i. eqb-true b 0 e i ∷ bytes), refl)
  by false e t =
      let parts = and_parts (b == 1) (is_id_field bytes) t in
      let id = id_spelled bytes (λ i. fits (suc i)) parts.1 in
      ((λ i. eqb-true b 1 parts.0 i ∷ id.0 i), id.1)

pub record IsPlaceAgain (place : Option ElementId) (bytes rest : List ℕ) : Type 0 where
  pub whole : is_place_field bytes ≡ true
  pub place_is : place_at bytes ≡ place
  pub behind : behind_place bytes ≡ rest

pub place_again : (place : Option ElementId) (rest : List ℕ) → is_place place ≡ true → is_valid_place place ≡ true → IsPlaceAgain place (place_field place ++ rest) rest
place_again None rest named valid = record { whole = and_from _ _ (lt-ltb 0 (suc (length rest)) (omega arith)) refl; place_is = refl; behind = refl }
place_again (Some id) rest named valid =
    let t = id_again id rest named valid in
    record { whole = and_from _ _ (lt-ltb 0 (suc (length (id_field id ++ rest))) (omega arith)) t.whole; place_is = ap Some t.id_is; behind = t.behind }

-- ---- the epoch

-- what stands behind the four first bytes is the epoch of the version and what stands behind the head
pub epoch_spelled : (version : Version) (epoch : ℕ) (bytes : List ℕ) → IsBytes bytes → head_len version ≤ length bytes → is_bad_epoch version epoch bytes ≡ false → drop 4 bytes ≡ epoch_field version epoch ++ drop (head_len version) bytes
epoch_spelled One epoch bytes fits long good = refl
epoch_spelled Two epoch bytes fits long good =
    let number = number_spelled (drop 4 bytes) (IsBytes-drop 4 bytes fits) (omega (arith, long, length-drop 4 bytes)) in
    let same : from_be_bytes w32 (take 4 (drop 4 bytes)) ≡ epoch = eqb-true _ _ (not-false _ good) in
    number ∙ (λ i. number_field (same i) ++ drop-drop 4 4 bytes i)

-- an epoch that was written is the epoch that is read
pub epoch_again : (version : Version) (epoch a b c d : ℕ) (rest : List ℕ) → epoch < 2 ^ 32 → is_bad_epoch version epoch (a ∷ b ∷ c ∷ d ∷ (epoch_field version epoch ++ rest)) ≡ false
epoch_again One epoch a b c d rest small = refl
epoch_again Two epoch a b c d rest small = ap not (eq-eqb _ _ (from_be_bytes-to_be_bytes_4 epoch small))

-- behind a head stands what was written behind it
pub behind_head : (version : Version) (epoch a b c d : ℕ) (rest : List ℕ) → drop (head_len version) (a ∷ b ∷ c ∷ d ∷ (epoch_field version epoch ++ rest)) ≡ rest
behind_head One epoch a b c d rest = refl
behind_head Two epoch a b c d rest = refl

pub length-head : (version : Version) (epoch : ℕ) → 4 + length (epoch_field version epoch) ≡ head_len version
length-head One epoch = refl
length-head Two epoch = refl

-- ---- texts

length_spelled : (version : Version) (bytes : List ℕ) → IsBytes bytes → length_len version ≤ length bytes → take (length_len version) bytes ≡ length_field version (length_at version bytes)
length_spelled One [] fits long = absurd (omega (arith, long))
length_spelled One (len ∷ bytes) fits long = refl
length_spelled Two bytes fits long = sym (be_bytes_2 (take 2 bytes) _ (omega (arith, long, length-take 2 bytes)) (IsBytes-take 2 bytes fits) refl)

length_again : (version : Version) (len : ℕ) (rest : List ℕ) → len < 2 ^ 16 → length_at version (length_field version len ++ rest) ≡ len
length_again One len rest small = refl
length_again Two len rest small = from_be_bytes-to_be_bytes_2 len small

behind_length : (version : Version) (len : ℕ) (rest : List ℕ) → drop (length_len version) (length_field version len ++ rest) ≡ rest
behind_length One len rest = refl
behind_length Two len rest = refl

length-length_field : (version : Version) (len : ℕ) → length (length_field version len) ≡ length_len version
length-length_field One len = refl
length-length_field Two len = refl

-- a whole text field is the length and the text, and then what stands behind
pub text_spelled : (version : Version) (p : List ℕ → Bool) (bytes : List ℕ) → IsBytes bytes → is_text_field version p bytes ≡ true → (bytes ≡ text_field version (text_of version bytes) ++ behind_text version bytes) × (p (text_of version bytes) ≡ true)
text_spelled version p bytes fits h =
    let len = length_at version bytes in
    let rest = drop (length_len version) bytes in
    let parts = and_parts (nat_le (length_len version + len) (length bytes)) (p (text_of version bytes)) h in
    let whole : length_len version + len ≤ length bytes = leb-true _ _ parts.0 in
    let front = length_spelled version bytes fits (omega (arith, whole)) in
    let long : len ≡ length (take len rest) = omega (arith, whole, length-take len rest, length-drop (length_len version) bytes) in
    let field : take (length_len version) bytes ≡ length_field version (length (take len rest)) = front ∙ ap (length_field version) long in (
      sym (take-append-drop (length_len version) bytes) ∙ (λ i. field i ++ sym (take-append-drop len rest) i)
          ∙ sym (append_assoc (length_field version (length (take len rest))) (take len rest) (drop len rest)),
      parts.1,
    )

-- the parts of what begins with a text field
record HasText (version : Version) (text rest : List ℕ) : Type 0 where
  len : length_at version (text_field version text ++ rest) ≡ length text
  behind : drop (length_len version) (text_field version text ++ rest) ≡ text ++ rest

has_text : (version : Version) (text rest : List ℕ) → length text < 2 ^ 16 → HasText version text rest
has_text version text rest small =
    let regrouped : text_field version text ++ rest ≡ length_field version (length text) ++ (text ++ rest) = append_assoc (length_field version (length text)) text rest in
    record {
      len = ap (length_at version) regrouped ∙ length_again version (length text) (text ++ rest) small;
      behind = ap (drop (length_len version)) regrouped ∙ behind_length version (length text) (text ++ rest);
    }

pub text_again : (version : Version) (text rest : List ℕ) → length text < 2 ^ 16 → text_of version (text_field version text ++ rest) ≡ text
text_again version text rest small =
    let parts = has_text version text rest small in
    (λ i. take (parts.len i) (parts.behind i)) ∙ take_at text rest (length text) refl

pub behind_again : (version : Version) (text rest : List ℕ) → length text < 2 ^ 16 → behind_text version (text_field version text ++ rest) ≡ rest
behind_again version text rest small =
    let parts = has_text version text rest small in
    (λ i. drop (parts.len i) (parts.behind i)) ∙ drop_at text rest (length text) refl

pub text_whole : (version : Version) (p : List ℕ → Bool) (text rest : List ℕ) → length text < 2 ^ 16 → p text ≡ true → is_text_field version p (text_field version text ++ rest) ≡ true
text_whole version p text rest small passes =
    let bytes = text_field version text ++ rest in
    let parts = has_text version text rest small in
    let front = length-length_field version (length text) in
    let len : length bytes ≡ length_len version + length text + length rest =
    omega (arith, front, length-append (text_field version text) rest, length-append (length_field version (length text)) text) in
    and_from _ _ (le-leb (length_len version + length_at version bytes) (length bytes) (omega (arith, len, parts.len))) (ap p (text_again version text rest small) ∙ passes)

-- ---- arguments

-- an argument that is there is spelled so, and is one of its act
pub record IsSpelled (version : Version) (verb : Verb) (bytes : List ℕ) : Type 0 where
  pub parts : bytes ≡ argument_field version (act_at version verb bytes) ++ behind_act version verb bytes
  pub valid : IsArgument version (act_at version verb bytes)

amount_spelled : (bytes : List ℕ) → IsBytes bytes → nat_le 4 (length bytes) ≡ true → (bytes ≡ number_field (from_be_bytes w32 (take 4 bytes)) ++ drop 4 bytes) × (from_be_bytes w32 (take 4 bytes) < 2 ^ 32)
amount_spelled bytes fits h = (number_spelled bytes fits (leb-true 4 _ h), number_below (take 4 bytes) (IsBytes-take 4 bytes fits))

pub argument_spelled : (version : Version) (verb : Verb) (bytes : List ℕ) → IsBytes bytes → is_argument version verb bytes ≡ true → IsSpelled version verb bytes
argument_spelled version Add bytes fits h = let t = text_spelled version (is_sent version) bytes fits h in record { parts = t.0; valid = t.1 }
argument_spelled version Rmv bytes fits h = let t = text_spelled version (is_sent version) bytes fits h in record { parts = t.0; valid = t.1 }
argument_spelled version Clear bytes fits h = record { parts = refl; valid = tt }
argument_spelled version Enable bytes fits h = record { parts = refl; valid = tt }
argument_spelled version Disable bytes fits h = record { parts = refl; valid = tt }
argument_spelled version Write bytes fits h = let t = text_spelled version (is_sent version) bytes fits h in record { parts = t.0; valid = t.1 }
argument_spelled version Inc bytes fits h = let t = amount_spelled bytes fits h in record { parts = t.0; valid = t.1 }
argument_spelled version Dec bytes fits h = let t = amount_spelled bytes fits h in record { parts = t.0; valid = t.1 }
argument_spelled version Ins bytes fits h =
    let tests = and_parts (is_text_field version (is_sent version) bytes) (is_place_field (behind_text version bytes)) h in
    let t = text_spelled version (is_sent version) bytes fits tests.0 in
    let p = place_spelled (behind_text version bytes) (IsBytes-behind version bytes fits) tests.1 in
    let text = text_field version (text_of version bytes) in
    record {
      parts = t.0 ∙ ap (λ (r : List ℕ). text ++ r) p.0 ∙ sym (append_assoc text (place_field (place_at (behind_text version bytes))) (behind_place (behind_text version bytes)));
      valid = (t.1, p.1);
    }
argument_spelled version Del bytes fits h = let t = id_spelled bytes fits h in record { parts = t.0; valid = t.1 }

-- an argument that was written is read again
pub record IsAgain (version : Version) (act : Act) (verb : Verb) (bytes rest : List ℕ) : Type 0 where
  pub whole : is_argument version verb bytes ≡ true
  pub act_is : act_at version verb bytes ≡ act
  pub behind : behind_act version verb bytes ≡ rest

short : (most : ℕ) (text : List ℕ) (passes : Bool) → (is_short most text && passes) ≡ true → length text ≤ most
short most text passes h =
    let both = and_parts (is_short most text) passes h in
    leb-true _ _ (and_parts (nat_lt 0 (length text)) (nat_le (length text) most) both.0).1

pub short_key : (key : List ℕ) → IsTrue (is_key key) → length key < 2 ^ 16
short_key key valid = let most = short 32 key _ valid in omega (arith, most)

short_value : (version : Version) (value : List ℕ) → is_sent version value ≡ true → length value < 2 ^ 16
short_value version value valid =
    let tests = and_parts (carries_length version (length value)) (is_value value) valid in
    let bytes = and_parts (is_short 4096 value && list_all is_value_byte value) (is_utf8 value) tests.1 in
    let most = short 4096 value _ bytes.0 in
    omega (arith, most)

amount_again : (a : ℕ) (rest : List ℕ) → nat_le 4 (length (number_field a ++ rest)) ≡ true
amount_again a rest = le-leb 4 _ (omega arith)

-- a value that was written is read again
record IsValueAgain (version : Version) (value bytes rest : List ℕ) : Type 0 where
  whole : is_text_field version (is_sent version) bytes ≡ true
  value_is : text_of version bytes ≡ value
  behind : behind_text version bytes ≡ rest

value_again : (version : Version) (value rest : List ℕ) → is_sent version value ≡ true → IsValueAgain version value (text_field version value ++ rest) rest
value_again version value rest valid =
    let small = short_value version value valid in
    record { whole = text_whole version (is_sent version) value rest small valid; value_is = text_again version value rest small; behind = behind_again version value rest small }

pub argument_again : (version : Version) (kind : Kind) (act : Act) (rest : List ℕ) → IsTrue (has_act kind act) → IsArgument version act → IsAgain version act (verb_of act) (argument_field version act ++ rest) rest
argument_again version kind (acts.Add v) rest has valid = let t = value_again version v rest valid in record { whole = t.whole; act_is = ap acts.Add t.value_is; behind = t.behind }
argument_again version kind (acts.Rmv v) rest has valid = let t = value_again version v rest valid in record { whole = t.whole; act_is = ap acts.Rmv t.value_is; behind = t.behind }
argument_again version kind acts.Clear rest has valid = record { whole = refl; act_is = refl; behind = refl }
argument_again version kind acts.Enable rest has valid = record { whole = refl; act_is = refl; behind = refl }
argument_again version kind acts.Disable rest has valid = record { whole = refl; act_is = refl; behind = refl }
argument_again version kind (acts.Write v) rest has valid = let t = value_again version v rest valid in record { whole = t.whole; act_is = ap acts.Write t.value_is; behind = t.behind }
argument_again version kind (acts.Inc a) rest has valid = record { whole = amount_again a rest; act_is = ap acts.Inc (from_be_bytes-to_be_bytes_4 a valid); behind = refl }
argument_again version kind (acts.Dec a) rest has valid = record { whole = amount_again a rest; act_is = ap acts.Dec (from_be_bytes-to_be_bytes_4 a valid); behind = refl }
argument_again version kind (acts.Ins v place) rest has valid =
    let fields = place_field place ++ rest in
    let t = value_again version v fields valid.0 in
    let p = place_again place rest (names_place kind v place has) valid.1 in
    let regrouped : (text_field version v ++ place_field place) ++ rest ≡ text_field version v ++ fields = append_assoc (text_field version v) (place_field place) rest in
    let behind_is : behind_text version (text_field version v ++ fields) ≡ fields = t.behind in
    let again : IsAgain version (acts.Ins v place) Ins (text_field version v ++ fields) rest = record {
      whole = and_from _ _ t.whole (ap is_place_field behind_is ∙ p.whole);
      act_is = λ i. acts.Ins (t.value_is i) ((ap place_at behind_is ∙ p.place_is) i);
      behind = ap behind_place behind_is ∙ p.behind;
    } in
    subst (λ (b : List ℕ). IsAgain version (acts.Ins v place) Ins b rest) (sym regrouped) again
argument_again version kind (acts.Del id) rest has valid =
    let t = id_again id rest (names_element kind id has) valid in
    record { whole = t.whole; act_is = ap acts.Del t.id_is; behind = t.behind }
