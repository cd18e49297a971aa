-- What a clause says of a mailbox and of a pass.
use Rattle.std.specs.Prelude.{◌≡◌, ℕ}
use Rattle.crossbeam_queue.specs.Passes.{view, ruled_capacity}
use Rattle.mailboxes.specs.declared.mailbox.MailPass.{MailPass}
use Rattle.mailboxes.specs.declared.mailbox.Mailbox.{Mailbox}
use Rattle.mailboxes.specs.declared.seen.Seen.{Seen}

module _ {T : Type 0} where
  -- what the pass has seen
  abbrev pub seen : MailPass T → Seen T
  seen p = (view p.pass).seen

  -- the pass is of this mailbox
  abbrev pub IsOf : Mailbox T → MailPass T → Type 0
  IsOf m p = p.pass.table_id ≡ m.queue.table.shared.table_id

  -- the pass is of the mailbox that it was of
  abbrev pub IsOfTheSame : MailPass T → MailPass T → Type 0
  IsOfTheSame old new = new.pass.table_id ≡ old.pass.table_id

  -- how many items the mailbox has room for
  abbrev pub capacity_of : Mailbox T → ℕ
  capacity_of m = ruled_capacity m.queue
