-- An outbox's fields: husks, and behind them the messages.
use Rattle.std.specs.Prelude.{◌≤◌, ◌*◌, ◌-◌, length, take, drop, vec_capacity, IsTrue, All, AllPairs}
use Rattle.op_base.specs.Message.{fits}
use Rattle.op_base.specs.declared.tag.TheConstants.{MOST_MEMBERS}
use Rattle.causal_model.specs.declared.room.TheConstants.{MOST_WINDOW}
use Rattle.outbox.specs.Sent.{Sent, ComesAfter, IsHusk, room_of}
use Rattle.outbox.specs.declared.outbox.Outbox.TheInside.{Inside}

-- the messages are what stands behind the husks
abbrev pub sent_of : Inside → Sent
sent_of o = record { n = o.n; w = o.w; messages = drop o.gone o.kept.items }

-- The messages fit the store, are of one origin with rising numbers and no more than there is room for. Twice so many have
-- room, husks among them.
pub record IsKept (o : Inside) : Type 0 where
  pub some : 1 ≤ o.n
  pub few : o.n ≤ MOST_MEMBERS
  pub window : 1 ≤ o.w
  pub narrow : o.w ≤ MOST_WINDOW
  pub room : 2 * room_of o.n o.w ≤ vec_capacity o.kept
  pub counted : o.gone ≤ length o.kept.items
  pub held : length o.kept.items - o.gone ≤ room_of o.n o.w
  pub husks : All IsHusk (take o.gone o.kept.items)
  pub fit : All (λ m. IsTrue (fits o.n m)) (drop o.gone o.kept.items)
  pub rise : AllPairs ComesAfter (drop o.gone o.kept.items)
