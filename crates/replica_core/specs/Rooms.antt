-- The room in which a replica begins an epoch.
use Rattle.std.specs.Prelude.{◌≡◌, ℕ, ◌*◌, [], Option, Some, None}
use Rattle.causal_model.specs.Covering.{store_keeps, store_covers}
use Rattle.causal_model.specs.State.{start}
use Rattle.tag_window.specs.History.{IsWindowOf}
use Rattle.causal_buffer.specs.Standing.{IsBufferOf}
use Rattle.polog.specs.Standing.{IsLogOf}
use Rattle.replica_core.specs.declared.epochs.EpochParts.{EpochParts}
use Rattle.replica_core.specs.declared.epochs.EpochRoom.{EpochRoom}

-- parts are those of member me of n, in a store with a window w, before there is a message
pub record AreParts (me n w : ℕ) (parts : EpochParts) : Type 0 where
  pub window : IsWindowOf n w me [] parts.window
  pub buffer : IsBufferOf w (start n me) parts.buffer
  pub log : IsLogOf store_keeps store_covers n me [] parts.log
  pub log_entries : parts.log.entries ≡ []
  pub log_room : parts.log.room ≡ n * w
  pub outbox : parts.outbox ≡ record { n = n; w = w; messages = [] }

-- new parts are those of member me of n; there are none only where the store had as many members
abbrev pub AreNewParts : ℕ → ℕ → ℕ → ℕ → Option EpochParts → Type 0
AreNewParts had me n w None = n ≡ had
AreNewParts had me n w (Some parts) = AreParts me n w parts

-- in a room a replica of a store that had so many members, with a window w, can go on as member me of n
abbrev pub IsRoomFor : ℕ → ℕ → ℕ → ℕ → EpochRoom → Type 0
IsRoomFor had me n w room = AreNewParts had me n w room.parts
