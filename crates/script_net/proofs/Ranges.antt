-- What a line of a script asks for is in range: the members are of the store, the update is valid, the bytes are bytes.
use Rattle.std.proofs.Common.{◌≡◌, ℕ, ◌<◌, ◌≤◌, Bool, true, false, cond, nat_lt, nat_le, IsTrue, List, [], ◌∷◌, length, Option, Some, None, Result, Ok, Err, refl, subst, arith}
use Rattle.std.specs.Prelude.{IfOk, ok_or, is_some, All, ◌&&◌, ◌==◌, ◌%◌, codes, if◌then◌else◌}
use Rattle.std.specs.List.{slice_split}
use Rattle.std.specs.Result.{result_ok}
use Rattle.std.proofs.lemmas.List.{get_or_default}
use Rattle.std.proofs.lemmas.Bool.{and_parts, and_from, ltb-true, leb-true, lt-ltb}
use Rattle.hex.specs.Hex.{decode_of, decode_pairs}
use Rattle.hex.specs.declared.error.FromHexError.{FromHexError}
use Rattle.hex.specs.declared.error.FromHexError.TheVariants.{OddLength}
use Rattle.hex.proofs.HexLemmas.{decode_pairs-ok}
use Rattle.op_base.specs.Name.{is_key, is_value, kind_of, kind_part, key_part, same_text}
use Rattle.op_base.specs.Operation.{has_act, is_element}
use Rattle.op_base.specs.Reading.{object_with, where_true}
use Rattle.op_base.specs.Verb.{code_of}
use Rattle.op_base.specs.Valid.{is_valid_id, is_valid_place, is_valid_act, is_valid_update}
use Rattle.op_base.specs.declared.name.Kind.{Kind}
use Rattle.op_base.specs.declared.name.Kind.TheVariants as kind
use Rattle.op_base.specs.declared.name.ObjectId.{ObjectId}
use Rattle.op_base.specs.declared.operation.Act.{Act}
use Rattle.op_base.specs.declared.operation.Act.TheVariants as act
use Rattle.op_base.specs.declared.verb.Verb.{Verb}
use Rattle.op_base.specs.declared.verb.Verb.TheVariants as verbs
use Rattle.script_lang.specs.Commands.{do_command, do_words, ask_words, lone_list, give_words, resend_words, raw_words, settle_words, members_words, stop_words, lone_member, keyword_of, keyword_words, words_behind, command_words, command_of, line_in}
use Rattle.script_lang.specs.Lines.{bad_line, run_or_bad}
use Rattle.script_lang.specs.Fault.{◌>>=◌, most_line_bytes, number_of_fault}
use Rattle.script_lang.specs.Names.{below, member_of, object_in, is_list, list_in, is_point, element_from, element_in, place_in, value_in, bytes_in, amount_in, size_in}
use Rattle.script_lang.specs.Acts.{verb_in, act_in, kind_act, are_few, update_in}
use Rattle.script_lang.specs.Headers.{is_from_to}
use Rattle.script_lang.specs.Numbers.{number_of}
use Rattle.script_lang.specs.Words.{words_of, is_passed_over}
use Rattle.script_lang.specs.declared.fault.Fault.{Fault}
use Rattle.script_lang.specs.declared.fault.Fault.TheVariants as fault
use Rattle.script_lang.specs.declared.command.Command.{Command}
use Rattle.script_lang.specs.declared.command.Command.TheVariants as command
use Rattle.script_lang.specs.declared.line.LineOf.TheVariants as line
use Rattle.script_lang.specs.declared.command.Keyword.{Keyword}
use Rattle.script_lang.specs.declared.command.Keyword.TheVariants as keywords
use Rattle.script_lang.specs.declared.header.Mode.{Mode}

-- a command can be run in a store of n members
abbrev pub CanRun : ℕ → Command → Type 0
CanRun n (command.Do r update) = (r < n) × IsTrue (is_valid_update update)
CanRun n (command.Ask r object) = r < n
CanRun n (command.Beat r) = r < n
CanRun n (command.Give r k s) = (r < n) × (k < n)
CanRun n (command.Resend r k) = r < n
CanRun n (command.Raw r bytes) = (r < n) × All (λ b. b < 256) bytes
CanRun n command.Settle = Unit {0}
CanRun n (command.Members m) = (1 ≤ m) × (m ≤ 16)
CanRun n (command.Ids r object) = (r < n) × (object.kind ≡ kind.List)
CanRun n (command.Tombs r object) = (r < n) × (object.kind ≡ kind.List)
CanRun n (command.Log r) = r < n
CanRun n (command.Size r) = r < n
CanRun n (command.Stable r) = r < n
CanRun n (command.Seen r) = r < n
CanRun n (command.Noops r) = r < n
CanRun n (command.Lags r) = r < n
CanRun n (command.Stop r b) = r < n

-- ---- results that are read one behind another

module _ {A : Type 0} (P : A → Type 0) where
  -- of two results, by a test
  either : (b : Bool) (x y : Result A Fault) → IfOk x P → IfOk y P → IfOk (cond b x y) P
  either true x y p q = p
  either false x y p q = q

  -- a value where a test passes
  where_passed : (b : Bool) (x : A) (e : Fault) → (b ≡ true → P x) → IfOk (cond b (Ok x) (Err e)) P
  where_passed true x e p = p refl
  where_passed false x e p = tt

  where_some : (b : Bool) (x : A) (e : Fault) → (b ≡ true → P x) → IfOk (ok_or (cond b (Some x) None) e) P
  where_some true x e p = p refl
  where_some false x e p = tt

  where_made : (test : Bool) (make : IsTrue test → A) (e : Fault) → ((t : IsTrue test) → P (make t)) → IfOk (ok_or (where_true test make) e) P
  where_made true make e p = p refl
  where_made false make e p = tt

given : {A B : Type 0} (P : A → Type 0) (Q : B → Type 0) (x : Result A Fault) (f : A → Result B Fault) → IfOk x P → ((a : A) → P a → IfOk (f a) Q) → IfOk (x >>= f) Q
given P Q (Ok a) f p g = g a p
given P Q (Err e) f p g = tt

-- ---- words

below_n : (n : ℕ) (o : Option ℕ) → IfOk (below n o) (λ r. r < n)
below_n n None = tt
below_n n (Some r) = where_passed (λ r. r < n) (nat_lt r n) r fault.Member (ltb-true r n)

member : (n : ℕ) (word : List ℕ) → IfOk (member_of n word) (λ r. r < n)
member n word = below_n n (number_of word)

keyed : (k : Option Kind) (key : List ℕ) → IfOk (ok_or (object_with k key) fault.Object) (λ (o : ObjectId). IsTrue (is_key o.key))
keyed None key = tt
keyed (Some k) key = where_some (λ (o : ObjectId). IsTrue (is_key o.key)) (is_key key) (record { kind = k; key = key }) fault.Object (λ t. t)

object : (word : List ℕ) → IfOk (object_in word) (λ (o : ObjectId). IsTrue (is_key o.key))
object word = keyed (kind_of (kind_part word)) (key_part word)

value : (word : List ℕ) → IfOk (value_in word) (λ v. IsTrue (is_value v))
value word = where_passed (λ v. IsTrue (is_value v)) (is_value word) word fault.Value (λ t. t)

amount : (word : List ℕ) → IfOk (amount_in word) (λ a. IsTrue (nat_lt a 4294967296))
amount word = where_some (λ a. IsTrue (nat_lt a 4294967296)) _ _ fault.Number (λ t. (and_parts _ _ t).1)

size : (word : List ℕ) → IfOk (size_in word) (λ m. (1 ≤ m) × (m ≤ 16))
size word =
    given (λ a. IsTrue (nat_lt a 4294967296)) (λ m. (1 ≤ m) × (m ≤ 16)) (amount_in word) _ (amount word) (λ m small.
    where_passed (λ m. (1 ≤ m) × (m ≤ 16)) (is_from_to 1 16 m) m fault.Number (λ t. let both = and_parts (nat_le 1 m) (nat_le m 16) t in (leb-true 1 m both.0, leb-true m 16 both.1)))

-- ---- elements of lists

abbrev Small : ℕ → Type 0
Small a = IsTrue (nat_lt a 4294967296)

-- an id that an element can have has numbers of 32 bits, and of 8
valid_id : (epoch origin seq : ℕ) → Small epoch → Small seq → is_element (record { epoch = epoch; origin = origin; seq = seq }) ≡ true → IsTrue (is_valid_id (record { epoch = epoch; origin = origin; seq = seq }))
valid_id epoch origin seq e s is =
    let low = leb-true origin 15 (and_parts (nat_le origin 15) (nat_lt 0 seq) is).0 in
    and_from (nat_lt epoch 4294967296 && nat_lt origin 256) (nat_lt seq 4294967296) (and_from (nat_lt epoch 4294967296) (nat_lt origin 256) e (lt-ltb origin 256 (omega (arith, low)))) s

numbered : (words : List (List ℕ)) → IfOk (element_from words) (λ id. IsTrue (is_valid_id id))
numbered [] = tt
numbered (a ∷ []) = tt
numbered (a ∷ b ∷ []) = tt
numbered (e ∷ o ∷ s ∷ []) =
    given Small (λ id. IsTrue (is_valid_id id)) (amount_in e) _ (amount e) (λ e small.
    given Small (λ id. IsTrue (is_valid_id id)) (amount_in o) _ (amount o) (λ o any.
    given Small (λ id. IsTrue (is_valid_id id)) (amount_in s) _ (amount s) (λ s low.
    where_passed (λ id. IsTrue (is_valid_id id)) (is_element (record { epoch = e; origin = o; seq = s })) (record { epoch = e; origin = o; seq = s }) fault.Number (valid_id e o s small low))))
numbered (a ∷ b ∷ c ∷ d ∷ words) = tt

an_element : (word : List ℕ) → IfOk (element_in word) (λ id. IsTrue (is_valid_id id))
an_element word = numbered (slice_split is_point word)

a_place : (word : List ℕ) → IfOk (place_in word) (λ place. IsTrue (is_valid_place place))
a_place word =
    either (λ place. IsTrue (is_valid_place place)) (same_text word (codes "head")) (Ok None) (element_in word >>= λ id. Ok (Some id)) refl
    (given (λ id. IsTrue (is_valid_id id)) (λ place. IsTrue (is_valid_place place)) (element_in word) _ (an_element word) (λ id valid. valid))

-- ---- bytes in hexadecimal

-- what decodes is bytes
decoded_small : (is_odd : Bool) (word bytes : List ℕ) → (if is_odd then Err OddLength else decode_pairs 0 word) ≡ Ok bytes → All (λ b. b < 256) bytes
decoded_small true word bytes e = cc
decoded_small false word bytes e = λ k d l. omega (arith, (decode_pairs-ok 0 word bytes e).2 k, get_or_default bytes k d 0 l)

where_decoded : (r : Result (List ℕ) FromHexError) → ((bytes : List ℕ) → r ≡ Ok bytes → All (λ b. b < 256) bytes) → IfOk (ok_or (result_ok r) fault.Value) (All (λ b. b < 256))
where_decoded (Ok bytes) small = small bytes refl
where_decoded (Err e) small = tt

hexadecimal : (word : List ℕ) → IfOk (bytes_in word) (All (λ b. b < 256))
hexadecimal word = where_decoded (decode_of word) (decoded_small (length word % 2 == 1) word)

-- ---- updates

abbrev Valid : Act → Type 0
Valid a = IsTrue (is_valid_act a)

with_value : (argument : List ℕ) (make : List ℕ → Act) → ((v : List ℕ) → IsTrue (is_value v) → Valid (make v)) → IfOk (value_in argument >>= λ v. Ok (make v)) Valid
with_value argument make valid = given (λ v. IsTrue (is_value v)) Valid (value_in argument) _ (value argument) valid

with_amount : (argument : List ℕ) (make : ℕ → Act) → ((a : ℕ) → IsTrue (nat_lt a 4294967296) → Valid (make a)) → IfOk (amount_in argument >>= λ a. Ok (make a)) Valid
with_amount argument make valid = given (λ a. IsTrue (nat_lt a 4294967296)) Valid (amount_in argument) _ (amount argument) valid

put_is_valid : (word place : List ℕ) → IfOk (value_in word >>= λ v. place_in place >>= λ p. Ok (act.Ins v p)) Valid
put_is_valid word place =
    given (λ v. IsTrue (is_value v)) Valid (value_in word) _ (value word) (λ v t.
    given (λ p. IsTrue (is_valid_place p)) Valid (place_in place) _ (a_place place) (λ p valid. and_from (is_value v) (is_valid_place p) t valid))

-- an act that is read of a verb is valid
act_is_valid : (v : Verb) (arguments : List (List ℕ)) → IfOk (act_in v arguments) Valid
act_is_valid verbs.Add (word ∷ []) = with_value word act.Add (λ v t. t)
act_is_valid verbs.Rmv (word ∷ []) = with_value word act.Rmv (λ v t. t)
act_is_valid verbs.Enable [] = refl
act_is_valid verbs.Disable [] = refl
act_is_valid verbs.Write (word ∷ []) = with_value word act.Write (λ v t. t)
act_is_valid verbs.Inc (word ∷ []) = with_amount word act.Inc (λ a t. t)
act_is_valid verbs.Dec (word ∷ []) = with_amount word act.Dec (λ a t. t)
act_is_valid verbs.Ins (word ∷ place ∷ []) = put_is_valid word place
act_is_valid verbs.Del (id ∷ []) = given (λ e. IsTrue (is_valid_id e)) Valid (element_in id) _ (an_element id) (λ e valid. valid)
act_is_valid verbs.Clear [] = refl
act_is_valid v arguments = tt

some_verb : (r : Result Verb Fault) → IfOk r (λ v. Unit {0})
some_verb (Ok v) = tt
some_verb (Err e) = tt

update : (o word : List ℕ) (arguments : List (List ℕ)) → IfOk (update_in o word arguments) (λ u. IsTrue (is_valid_update u))
update o word arguments =
    given (λ (x : ObjectId). IsTrue (is_key x.key)) (λ u. IsTrue (is_valid_update u)) (object_in o) _ (object o) (λ x key.
    given (λ (v : Verb). Unit {0}) (λ u. IsTrue (is_valid_update u)) (verb_in word) _ (some_verb (verb_in word)) (λ v any.
    given Valid (λ u. IsTrue (is_valid_update u)) (kind_act x.kind v arguments) _
    (either Valid (is_some (code_of x.kind v)) (act_in v arguments) (Err fault.Operation) (act_is_valid v arguments) tt) (λ a valid.
    where_made (λ u. IsTrue (is_valid_update u)) (has_act x.kind a) _ fault.Operation (λ t. and_from (is_key x.key) (is_valid_act a) key valid))))

-- ---- commands

module _ (n : ℕ) where
  abbrev Below : ℕ → Type 0
  Below r = r < n

  does : (r o word : List ℕ) (arguments : List (List ℕ)) → IfOk (do_command n r o word arguments) (CanRun n)
  does r o word arguments =
      given Below (CanRun n) (member_of n r) _ (member n r) (λ r l.
      given (λ u. IsTrue (is_valid_update u)) (CanRun n) (update_in o word arguments) _ (update o word arguments) (λ u t. (l, t)))

  do_can_run : (words : List (List ℕ)) → IfOk (do_words n words) (CanRun n)
  do_can_run [] = tt
  do_can_run (a ∷ []) = tt
  do_can_run (a ∷ b ∷ []) = tt
  do_can_run (r ∷ o ∷ word ∷ arguments) = either (CanRun n) (are_few arguments) (do_command n r o word arguments) (Err fault.Words) (does r o word arguments) tt

  ask_can_run : (words : List (List ℕ)) → IfOk (ask_words n words) (CanRun n)
  ask_can_run [] = tt
  ask_can_run (a ∷ []) = tt
  ask_can_run (r ∷ o ∷ []) =
      given Below (CanRun n) (member_of n r) _ (member n r) (λ r l. given (λ (x : ObjectId). IsTrue (is_key x.key)) (CanRun n) (object_in o) _ (object o) (λ x t. l))
  ask_can_run (a ∷ b ∷ c ∷ words) = tt

  give_can_run : (words : List (List ℕ)) → IfOk (give_words n words) (CanRun n)
  give_can_run [] = tt
  give_can_run (a ∷ []) = tt
  give_can_run (a ∷ b ∷ []) = tt
  give_can_run (r ∷ k ∷ s ∷ []) =
      given Below (CanRun n) (member_of n r) _ (member n r) (λ r l. given Below (CanRun n) (member_of n k) _ (member n k) (λ k m.
      given (λ a. IsTrue (nat_lt a 4294967296)) (CanRun n) (amount_in s) _ (amount s) (λ s t. (l, m))))
  give_can_run (a ∷ b ∷ c ∷ d ∷ words) = tt

  resend_can_run : (words : List (List ℕ)) → IfOk (resend_words n words) (CanRun n)
  resend_can_run [] = tt
  resend_can_run (a ∷ []) = tt
  resend_can_run (r ∷ k ∷ []) =
      given Below (CanRun n) (member_of n r) _ (member n r) (λ r l. given Below (CanRun n) (member_of n k) _ (member n k) (λ k m. l))
  resend_can_run (a ∷ b ∷ c ∷ words) = tt

  raw_can_run : (words : List (List ℕ)) → IfOk (raw_words n words) (CanRun n)
  raw_can_run [] = tt
  raw_can_run (a ∷ []) = tt
  raw_can_run (r ∷ hex ∷ []) =
      given Below (CanRun n) (member_of n r) _ (member n r) (λ r l. given (All (λ b. b < 256)) (CanRun n) (bytes_in hex) _ (hexadecimal hex) (λ bytes small. (l, small)))
  raw_can_run (a ∷ b ∷ c ∷ words) = tt

  settle_can_run : (words : List (List ℕ)) → IfOk (settle_words words) (CanRun n)
  settle_can_run [] = tt
  settle_can_run (a ∷ words) = tt

  members_can_run : (words : List (List ℕ)) → IfOk (members_words words) (CanRun n)
  members_can_run [] = tt
  members_can_run (m ∷ []) = given (λ m. (1 ≤ m) × (m ≤ 16)) (CanRun n) (size_in m) _ (size m) (λ m within. within)
  members_can_run (a ∷ b ∷ words) = tt

  lone : (words : List (List ℕ)) → IfOk (lone_member n words) Below
  lone [] = tt
  lone (r ∷ []) = member n r
  lone (a ∷ b ∷ words) = tt

  -- a list is one of the kind of lists
  is_list-true : (k : Kind) → is_list k ≡ true → k ≡ kind.List
  is_list-true kind.AwSet e = cc
  is_list-true kind.RwSet e = cc
  is_list-true kind.EwFlag e = cc
  is_list-true kind.DwFlag e = cc
  is_list-true kind.MvReg e = cc
  is_list-true kind.Counter e = cc
  is_list-true kind.RCounter e = cc
  is_list-true kind.List e = refl

  a_list : (o : List ℕ) → IfOk (list_in o) (λ x. x.kind ≡ kind.List)
  a_list o = given (λ (x : ObjectId). IsTrue (is_key x.key)) (λ (x : ObjectId). x.kind ≡ kind.List) (object_in o) _ (object o)
      (λ x t. where_passed (λ (y : ObjectId). y.kind ≡ kind.List) (is_list x.kind) x fault.Object (is_list-true x.kind))

  listed : (words : List (List ℕ)) → IfOk (lone_list n words) (λ x. (x.0 < n) × (x.1.kind ≡ kind.List))
  listed [] = tt
  listed (a ∷ []) = tt
  listed (r ∷ o ∷ []) =
      given Below (λ (x : ℕ × ObjectId). (x.0 < n) × (x.1.kind ≡ kind.List)) (member_of n r) _ (member n r)
      (λ r l. given (λ (x : ObjectId). x.kind ≡ kind.List) (λ (x : ℕ × ObjectId). (x.0 < n) × (x.1.kind ≡ kind.List)) (list_in o) _ (a_list o) (λ x k. (l, k)))
  listed (a ∷ b ∷ c ∷ words) = tt

  stop_can_run : (words : List (List ℕ)) → IfOk (stop_words n words) (CanRun n)
  stop_can_run [] = tt
  stop_can_run (a ∷ []) = tt
  stop_can_run (r ∷ b ∷ []) =
      given Below (CanRun n) (member_of n r) _ (member n r) (λ r l. given (λ a. IsTrue (nat_lt a 4294967296)) (CanRun n) (amount_in b) _ (amount b) (λ b t. l))
  stop_can_run (a ∷ b ∷ c ∷ words) = tt

  lone_can_run : (make : ℕ → Command) → ((r : ℕ) → r < n → CanRun n (make r)) → (words : List (List ℕ)) → IfOk (lone_member n words >>= λ r. Ok (make r)) (CanRun n)
  lone_can_run make can words = given Below (CanRun n) (lone_member n words) _ (lone words) can

  list_can_run : (make : ℕ → ObjectId → Command) → ((r : ℕ) (object : ObjectId) → (r < n) × (object.kind ≡ kind.List) → CanRun n (make r object)) → (words : List (List ℕ))
      → IfOk (lone_list n words >>= λ asked. Ok (make asked.0 asked.1)) (CanRun n)
  list_can_run make can words = given (λ (x : ℕ × ObjectId). (x.0 < n) × (x.1.kind ≡ kind.List)) (CanRun n) (lone_list n words) _ (listed words) (λ x within. can x.0 x.1 within)

  -- the words behind each keyword
  keyword_can_run : (keyword : Keyword) (words : List (List ℕ)) → IfOk (keyword_words n keyword words) (CanRun n)
  keyword_can_run keywords.Do words = do_can_run words
  keyword_can_run keywords.Ask words = ask_can_run words
  keyword_can_run keywords.Ids words = list_can_run command.Ids (λ r object within. within) words
  keyword_can_run keywords.Tombs words = list_can_run command.Tombs (λ r object within. within) words
  keyword_can_run keywords.Beat words = lone_can_run command.Beat (λ r l. l) words
  keyword_can_run keywords.Give words = give_can_run words
  keyword_can_run keywords.Resend words = resend_can_run words
  keyword_can_run keywords.Raw words = raw_can_run words
  keyword_can_run keywords.Settle words = settle_can_run words
  keyword_can_run keywords.Members words = members_can_run words
  keyword_can_run keywords.Log words = lone_can_run command.Log (λ r l. l) words
  keyword_can_run keywords.Size words = lone_can_run command.Size (λ r l. l) words
  keyword_can_run keywords.Stable words = lone_can_run command.Stable (λ r l. l) words
  keyword_can_run keywords.Seen words = lone_can_run command.Seen (λ r l. l) words
  keyword_can_run keywords.Noops words = lone_can_run command.Noops (λ r l. l) words
  keyword_can_run keywords.Lags words = lone_can_run command.Lags (λ r l. l) words
  keyword_can_run keywords.Stop words = stop_can_run words

  behind_can_run : (keyword : Option Keyword) (words : List (List ℕ)) → IfOk (words_behind n keyword words) (CanRun n)
  behind_can_run None words = tt
  behind_can_run (Some keyword) words = keyword_can_run keyword words

  words_can_run : (mode : Mode) (words : List (List ℕ)) → IfOk (command_words mode n words) (CanRun n)
  words_can_run mode [] = tt
  words_can_run mode (word ∷ words) = behind_can_run (keyword_of mode word) words

  not_bad : (o : Option ℕ) (c : Command) → bad_line o ≡ line.Run c → CanRun n c
  not_bad None c e = cc
  not_bad (Some code) c e = cc

  runs : (passed : Bool) (x : Result Command Fault) (c : Command) → IfOk x (CanRun n) → cond passed line.Skip (run_or_bad x) ≡ line.Run c → CanRun n c
  runs true x c can e = cc
  runs false (Ok d) c can e = let same : d ≡ c = cc in subst (CanRun n) same can
  runs false (Err why) c can e = not_bad (number_of_fault why) c e

  -- a line that is read as a command can be run
  pub line_can_run : (mode : Mode) (bytes : List ℕ) (c : Command) → line_in mode n bytes ≡ line.Run c → CanRun n c
  line_can_run mode bytes c e =
      runs (is_passed_over bytes) (command_of mode n bytes) c
      (either (CanRun n) (nat_lt most_line_bytes (length bytes)) (Err fault.TooLong) (command_words mode n (words_of bytes)) tt (words_can_run mode (words_of bytes))) e
