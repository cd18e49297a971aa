-- The table of codes: which kind and verb each has, what argument, and which code an act has.
use Rattle.std.proofs.Common.{◌≡◌, ℕ, zero, suc, ◌+◌, ◌<◌, ◌≤◌, Bool, true, false, ◌&&◌, ◌||◌, List, length, drop, refl, ap, arith, inl, inr, subst}
use Rattle.std.specs.Prelude.{Option, Some, None, IsTrue, is_some, nat_lt, nat_le, ◌==◌, unwrap_or, if◌then◌else◌}
use Rattle.std.proofs.lemmas.Bool.{cases_lt, false≢true, and_parts}
use Rattle.op_base.specs.Operation.{act_code, has_act, is_element, is_place, verb_of}
use Rattle.op_base.specs.declared.name.Kind.{Kind}
use Rattle.op_base.specs.declared.name.Kind.TheVariants.{AwSet, RwSet, EwFlag, DwFlag, MvReg, Counter, RCounter}
use Rattle.op_base.specs.declared.name.Kind.TheVariants as kinds
use Rattle.op_base.specs.declared.operation.Act.{Act}
use Rattle.op_base.specs.declared.operation.Act.TheVariants as acts
use Rattle.op_base.specs.declared.operation.Op.{Op}
use Rattle.op_base.specs.declared.operation.Op.TheVariants as op
use Rattle.op_base.specs.declared.tag.ElementId.{ElementId}
use Rattle.op_base.specs.Code.{op_code}
use Rattle.op_base.specs.declared.verb.Verb.{Verb}
use Rattle.op_base.specs.declared.verb.Verb.TheVariants.{Ins, Del}
use Rattle.op_base.specs.Verb.{operation_of}
use Rattle.frame_codec.specs.declared.version.Version.{Version}
use Rattle.frame_codec.specs.Grammar.{is_sent}
use Rattle.frame_codec.specs.Fault.{byte_at, element_at, is_id_field, is_place_field, behind_text, is_text_field}
use Rattle.frame_codec.specs.Reading.{place_at, act_at, is_argument}

-- a fact of each of so many numbers, from i upwards
abbrev Each : (ℕ → Type 0) → ℕ → ℕ → Type 0
Each P i zero = Unit {0}
Each P i (suc k) = P i × Each P (suc i) k

each_at : (P : ℕ → Type 0) (i k c : ℕ) → i ≤ c → c < i + k → Each P i k → P c
each_at P i zero c low high each = absurd (omega arith)
each_at P i (suc k) c low high each =
    elim (cases_lt i c) [
      | inl more ↦ each_at P (suc i) k c (omega arith) (omega arith) each.1
      | inr same ↦ let e : i ≡ c = omega arith in subst P e each.0
    ]

-- a fact of each code from 1 to 22
each_code : (P : ℕ → Type 0) → Each P 1 22 → (code : ℕ) → 1 ≤ code → code ≤ 22 → P code
each_code P each code low high = each_at P 1 22 code low (omega arith) each

-- a place and an id that are whole can be had
place_passes : (bytes : List ℕ) → is_place_field bytes ≡ true → is_place (place_at bytes) ≡ true
place_passes bytes h = by (byte_at bytes 0 == 0) (and_parts (nat_lt 0 (length bytes)) _ h).1 where
  by : (b : Bool) → (b || (byte_at bytes 0 == 1 && is_id_field (drop 1 bytes))) ≡ true → is_place (if b then None else Some (element_at (drop 1 bytes))) ≡ true
  by true t = refl
  by false t = (and_parts (nat_le 9 (length (drop 1 bytes))) (is_element (element_at (drop 1 bytes))) (and_parts (byte_at bytes 0 == 1) (is_id_field (drop 1 bytes)) t).1).1

ins_code : (version : Version) (bytes : List ℕ) → is_argument version Ins bytes ≡ true → act_code kinds.List (act_at version Ins bytes) ≡ Some 20
ins_code version bytes h = ap (λ b. if b then Some 20 else None) (place_passes (behind_text version bytes) (and_parts (is_text_field version (is_sent version) bytes) _ h).1)

del_code : (version : Version) (bytes : List ℕ) → is_argument version Del bytes ≡ true → act_code kinds.List (act_at version Del bytes) ≡ Some 21
del_code version bytes h = ap (λ b. if b then Some 21 else None) (and_parts (nat_le 9 (length bytes)) (is_element (element_at bytes)) h).1

-- the act that is read for a code, where its argument is whole, has that code
pub row_code : (version : Version) (code : ℕ) → 1 ≤ code → code ≤ 22 → (bytes : List ℕ) → is_argument version (operation_of code).1 bytes ≡ true → act_code (operation_of code).0 (act_at version (operation_of code).1 bytes) ≡ Some code
row_code version = each_code (λ code. (bytes : List ℕ) → is_argument version (operation_of code).1 bytes ≡ true → act_code (operation_of code).0 (act_at version (operation_of code).1 bytes) ≡ Some code)
    (λ bs h. refl, (λ bs h. refl, (λ bs h. refl, (λ bs h. refl, (λ bs h. refl, (λ bs h. refl, (λ bs h. refl, (λ bs h. refl, (λ bs h. refl, (λ bs h. refl, (λ bs h. refl, (λ bs h. refl, (λ bs h. refl, (λ bs h. refl, (λ bs h. refl, (λ bs h. refl, (λ bs h. refl, (λ bs h. refl, (λ bs h. refl, (ins_code version, (del_code version, (λ bs h. refl, tt))))))))))))))))))))))

-- the code of an act has its kind and verb
pub record HasRow (kind : Kind) (act : Act) (code : ℕ) : Type 0 where
  pub least : 1 ≤ code
  pub most : code ≤ 22
  pub row : operation_of code ≡ (kind, verb_of act)

pub code_row : (kind : Kind) (act : Act) → IsTrue (has_act kind act) → HasRow kind act (unwrap_or (act_code kind act) 0)
code_row AwSet (acts.Add v) has = record { least = omega arith; most = omega arith; row = refl }
code_row AwSet (acts.Rmv v) has = record { least = omega arith; most = omega arith; row = refl }
code_row AwSet acts.Clear has = record { least = omega arith; most = omega arith; row = refl }
code_row RwSet (acts.Add v) has = record { least = omega arith; most = omega arith; row = refl }
code_row RwSet (acts.Rmv v) has = record { least = omega arith; most = omega arith; row = refl }
code_row RwSet acts.Clear has = record { least = omega arith; most = omega arith; row = refl }
code_row EwFlag acts.Enable has = record { least = omega arith; most = omega arith; row = refl }
code_row EwFlag acts.Disable has = record { least = omega arith; most = omega arith; row = refl }
code_row EwFlag acts.Clear has = record { least = omega arith; most = omega arith; row = refl }
code_row DwFlag acts.Enable has = record { least = omega arith; most = omega arith; row = refl }
code_row DwFlag acts.Disable has = record { least = omega arith; most = omega arith; row = refl }
code_row DwFlag acts.Clear has = record { least = omega arith; most = omega arith; row = refl }
code_row MvReg (acts.Write v) has = record { least = omega arith; most = omega arith; row = refl }
code_row MvReg acts.Clear has = record { least = omega arith; most = omega arith; row = refl }
code_row Counter (acts.Inc a) has = record { least = omega arith; most = omega arith; row = refl }
code_row Counter (acts.Dec a) has = record { least = omega arith; most = omega arith; row = refl }
code_row RCounter (acts.Inc a) has = record { least = omega arith; most = omega arith; row = refl }
code_row RCounter (acts.Dec a) has = record { least = omega arith; most = omega arith; row = refl }
code_row RCounter acts.Clear has = record { least = omega arith; most = omega arith; row = refl }
code_row kinds.List (acts.Ins v place) has = by (is_place place) has where
  by : (b : Bool) → is_some {T = ℕ} (if b then Some 20 else None) ≡ true → HasRow kinds.List (acts.Ins v place) (unwrap_or (if b then Some 20 else None) 0)
  by true t = record { least = omega arith; most = omega arith; row = refl }
  by false t = absurd (false≢true t)
code_row kinds.List (acts.Del id) has = by (is_element id) has where
  by : (b : Bool) → is_some {T = ℕ} (if b then Some 21 else None) ≡ true → HasRow kinds.List (acts.Del id) (unwrap_or (if b then Some 21 else None) 0)
  by true t = record { least = omega arith; most = omega arith; row = refl }
  by false t = absurd (false≢true t)
code_row kinds.List acts.Clear has = record { least = omega arith; most = omega arith; row = refl }
code_row kind act has = absurd (false≢true has)

-- no code is above the last
pub op_code_most : (o : Op) → op_code o ≤ 22
op_code_most op.NoOp = omega arith
op_code_most (op.Update u) = (code_row u.object.kind u.act u.of_kind).most

-- what an act of a kind names can be had
coded : (b : Bool) (code : ℕ) → is_some {T = ℕ} (if b then Some code else None) ≡ true → b ≡ true
coded true code t = refl
coded false code t = absurd (false≢true t)

pub names_place : (kind : Kind) (v : List ℕ) (place : Option ElementId) → IsTrue (has_act kind (acts.Ins v place)) → is_place place ≡ true
names_place kinds.List v place has = coded (is_place place) 20 has
names_place kind v place has = absurd (false≢true has)

pub names_element : (kind : Kind) (id : ElementId) → IsTrue (has_act kind (acts.Del id)) → is_element id ≡ true
names_element kinds.List id has = coded (is_element id) 21 has
names_element kind id has = absurd (false≢true has)

-- the kind of a row has the act that is read for it, where its argument is whole
pub row_has : (version : Version) (code : ℕ) (row : Kind × Verb) (bytes : List ℕ) (act : Act) → row ≡ operation_of code → 1 ≤ code → code ≤ 22 → is_argument version row.1 bytes ≡ true → act ≡ act_at version row.1 bytes → IsTrue (has_act row.0 act)
row_has version code row bytes act same low high whole is =
    let passes : is_argument version (operation_of code).1 bytes ≡ true = subst (λ (r : Kind × Verb). is_argument version r.1 bytes ≡ true) same whole in
    rw (is, same, row_code version code low high bytes passes) refl
