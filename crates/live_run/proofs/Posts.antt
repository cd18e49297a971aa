-- A post keeps what a courier's pass posted.
use Rattle.std.proofs.Common.{◌≡◌, ℕ, ◌==◌, Bool, true, false, List, [], ◌∷◌, ◌++◌, All, Result, Ok, Err, refl, sym, ap, ap₂, subst, ◌∙◌, if◌then◌else◌}
use Rattle.std.specs.Prelude.{OnOk, OnErr, IfSome, IfNone, Option, Some, None}
use Rattle.std.specs.List.{Contains}
use Rattle.std.proofs.Common.{◌<◌, length, get_or, slice_set, inl, inr, arith}
use Rattle.std.proofs.lemmas.Bool.{eqb-true, cases_eq}
use Rattle.std.proofs.lemmas.List.{append-nil, length-set, get_or-set_same, get_or-set_other, get_or_default}
use Rattle.std.proofs.lemmas.Option.{slice_get_within, get_or_from_slice_get}
use Rattle.live_run.specs.Mails.{WasPosted}
use Rattle.live_run.specs.Posting.{AreMails, MailsGrow, WasPostedAt}
use Rattle.std.proofs.lemmas.List.Elements.{All-nil, All-cons, All-head, All-tail, All-push}
use Rattle.causal_model.specs.declared.note.Note.{Note}
use Rattle.causal_model.specs.declared.note.Note.TheVariants as note
use Rattle.mailboxes.specs.Passes.{seen, IsOfTheSame}
use Rattle.mailboxes.specs.Seen.{BeginsWith, Posts, Takes, enrolled, numbers, line, posted}
use Rattle.mailboxes.specs.declared.mailbox.MailPass.{MailPass}
use Rattle.mailboxes.specs.declared.mailbox.Mailbox.{Mailbox}
use Rattle.mailboxes.specs.declared.seen.Line.{Line}
use Rattle.mailboxes.specs.declared.seen.Seen.{Seen}
use Rattle.live_run.specs.Workers.{IsMailDone}
use Rattle.live_run.specs.declared.letter.Letter.{Letter}

abbrev WasSent : List Note → Letter → Type 0
WasSent notes letter = Contains notes (note.Sent letter.message)

abbrev RollSent : List Note → List (Line Letter) → Type 0
RollSent notes roll = All (λ (l : Line Letter). All (WasSent notes) l.items) roll

by_of : (b : Bool) (k : ℕ) (x : Letter) (l : Line Letter) → (b ≡ true → k ≡ l.by) → (if b then line k (l.items ++ x ∷ []) else l).by ≡ l.by
by_of true k x l same = same refl
by_of false k x l same = refl

items_of_line : (notes : List Note) (b : Bool) (k : ℕ) (x : Letter) (l : Line Letter) → WasSent notes x → All (WasSent notes) l.items → All (WasSent notes) (if b then line k (l.items ++ x ∷ []) else l).items
items_of_line notes true k x l sent all = All-push (WasSent notes) l.items x all sent
items_of_line notes false k x l sent all = all

roll_sent : (notes : List Note) (k : ℕ) (x : Letter) (roll : List (Line Letter)) → WasSent notes x → RollSent notes roll → RollSent notes (enrolled k x roll)
roll_sent notes k x [] sent all = All-nil (λ (l : Line Letter). All (WasSent notes) l.items)
roll_sent notes k x (l ∷ roll) sent all =
    All-cons (λ (y : Line Letter). All (WasSent notes) y.items) (if l.by == k then line k (l.items ++ x ∷ []) else l) (enrolled k x roll)
    (items_of_line notes (l.by == k) k x l sent (All-head (λ (y : Line Letter). All (WasSent notes) y.items) l roll all))
    (roll_sent notes k x roll sent (All-tail (λ (y : Line Letter). All (WasSent notes) y.items) l roll all))

same_numbers : (k : ℕ) (x : Letter) (roll : List (Line Letter)) → numbers (enrolled k x roll) ≡ numbers roll
same_numbers k x [] = refl
same_numbers k x (l ∷ roll) = ap₂ (λ (n : ℕ) ns. n ∷ ns) (by_of (l.by == k) k x l (λ e. sym (eqb-true l.by k e))) (same_numbers k x roll)

-- a pass whose line is as before
mail_stays : (mailbox : Mailbox Letter) (old new : MailPass Letter) (number : ℕ) (notes : List Note) → IsOfTheSame old new → (seen new).number ≡ (seen old).number → (seen new).roll ≡ (seen old).roll
    → IsMailDone mailbox number notes old → IsMailDone mailbox number notes new
mail_stays mailbox old new number notes of same_number same_roll is = record {
  of = of ∙ is.of;
  fork = same_number ∙ is.fork;
  one_line = ap numbers same_roll ∙ is.one_line;
  was_sent = subst (RollSent notes) (sym same_roll) is.was_sent;
}

pub mail_kept : (mailbox : Mailbox Letter) (old new : MailPass Letter) (letter : Letter) (result : Result Unit Letter) (number : ℕ) (notes : List Note)
    → IsOfTheSame old new → OnOk result (Posts (seen old) letter (seen new)) → OnErr result (seen new ≡ seen old)
    → WasSent notes letter → IsMailDone mailbox number notes old → IsMailDone mailbox number notes new
mail_kept mailbox old new letter (Ok done) number notes of posts back sent is = record {
  of = of ∙ is.of;
  fork = ap (λ s. s.number) posts.becomes ∙ is.fork;
  one_line = ap (λ s. numbers s.roll) posts.becomes ∙ same_numbers (seen old).number letter (seen old).roll ∙ is.one_line;
  was_sent = subst (λ s. RollSent notes s.roll) (sym posts.becomes) (roll_sent notes (seen old).number letter (seen old).roll sent is.was_sent);
}
mail_kept mailbox old new letter (Err x) number notes of posts back sent is = mail_stays mailbox old new number notes of (ap (λ s. s.number) back) (ap (λ s. s.roll) back) is

-- taking keeps it too
pub mail_taken : (mailbox : Mailbox Letter) (old new : MailPass Letter) (result : Option Letter) (number : ℕ) (notes : List Note)
    → IsOfTheSame old new → IfSome result (λ letter. Takes (seen old) letter (seen new)) → IfNone result (seen new ≡ seen old) → IsMailDone mailbox number notes old → IsMailDone mailbox number notes new
mail_taken mailbox old new (Some letter) number notes of takes kept is = mail_stays mailbox old new number notes of (ap (λ s. s.number) takes.becomes) (ap (λ s. s.roll) takes.becomes) is
mail_taken mailbox old new None number notes of takes kept is = mail_stays mailbox old new number notes of (ap (λ s. s.number) kept) (ap (λ s. s.roll) kept) is

-- and what is taken was posted
pub taken_was_posted : (old new : Seen Letter) (result : Option Letter) → IfSome result (λ letter. Takes old letter new) → IfSome result (λ letter. WasPosted new.posted letter.message)
taken_was_posted old new None takes = takes
taken_was_posted old new (Some letter) takes =
    let p = posted takes.by letter in
    subst (λ l. WasPosted l letter.message) (sym (ap (λ (s : Seen Letter). s.posted) takes.becomes))
    (p, (takes.place, slice_get_within takes.list takes.place p takes.stands, get_or_from_slice_get takes.list takes.place p p takes.stands), refl)

-- a pass at a place among the others
pub posted_at : (number : ℕ) (notes : List Note) (boxes : List (Mailbox Letter)) (mails : List (MailPass Letter)) (x : ℕ) (box : Mailbox Letter) (old new : MailPass Letter) → x < length boxes
    → box ≡ get_or boxes x box → (IsMailDone box number notes (get_or mails x old) → IsMailDone box number notes new) → AreMails number notes boxes mails → AreMails number notes boxes (slice_set mails x new)
posted_at number notes boxes mails x box old new inside box_is step are = record {
  of_each = length-set mails x new ∙ are.of_each;
  each = λ y d e l. elim (cases_eq y x) [
    | inl same ↦
        let here = step (subst (λ (b : Mailbox Letter). IsMailDone b number notes (get_or mails x old)) (sym box_is) (are.each x box old inside)) in
        let box_there : box ≡ get_or boxes y d = box_is ∙ get_or_default boxes x box d inside ∙ ap (λ k. get_or boxes k d) (sym same) in
        let new_there : new ≡ get_or (slice_set mails x new) y e = sym (get_or-set_same mails x new e (omega (arith, inside, are.of_each))) ∙ ap (λ k. get_or (slice_set mails x new) k e) (sym same) in
        subst (λ (p : Mailbox Letter × MailPass Letter). IsMailDone p.0 number notes p.1) (λ i. (box_there i, new_there i)) here
    | inr other ↦ subst (IsMailDone (get_or boxes y d) number notes) (sym (get_or-set_other mails x y new e (λ e. other e))) (are.each y d e l)
  ];
}

-- the others have seen what they had
pub grow_at : (mails : List (MailPass Letter)) (x : ℕ) (old new : MailPass Letter) → x < length mails → BeginsWith (seen new).posted (seen (get_or mails x old)).posted → MailsGrow mails (slice_set mails x new)
grow_at mails x old new inside grows y e = elim (cases_eq y x) [
  | inl same ↦ subst (λ k. BeginsWith (seen (get_or (slice_set mails x new) k e)).posted (seen (get_or mails k e)).posted) (sym same)
      (subst (λ (p : MailPass Letter × MailPass Letter). BeginsWith (seen p.0).posted (seen p.1).posted) (λ i. (sym (get_or-set_same mails x new e inside) i, get_or_default mails x old e inside i)) grows)
  | inr other ↦ ([], ap (λ (p : MailPass Letter). (seen p).posted) (get_or-set_other mails x y new e (λ e. other e)) ∙ sym (append-nil (seen (get_or mails y e)).posted))
]

pub taken_at : (mails : List (MailPass Letter)) (x : ℕ) (new : MailPass Letter) (result : Option Letter) → x < length mails
    → IfSome result (λ letter. WasPosted (seen new).posted letter.message) → IfSome result (λ letter. WasPostedAt x (slice_set mails x new) letter.message)
taken_at mails x new None inside was = was
taken_at mails x new (Some letter) inside was = λ e. subst (λ (p : MailPass Letter). WasPosted (seen p).posted letter.message) (sym (get_or-set_same mails x new e inside)) was
