-- The fields of a replica that has no message yet.
use Rattle.std.proofs.Common.{◌≡◌, ℕ, ◌*◌, ◌<◌, ◌≤◌, false, [], List, length, refl, sym, ap, ◌∙◌, arith}
use Rattle.op_base.specs.Timestamp.{zero_tag}
use Rattle.op_base.specs.declared.name.ObjectId.{ObjectId}
use Rattle.causal_model.specs.Covering.{store_keeps, store_covers}
use Rattle.causal_model.specs.History.{no_history}
use Rattle.causal_model.specs.State.{start}
use Rattle.causal_model.proofs.Delivery.Begin.{counts-none}
use Rattle.causal_model.proofs.States.States.{start_is_state}
use Rattle.stability_matrix.specs.Rows.{Known}
use Rattle.stability_matrix.specs.Standing.{IsMatrixOf}
use Rattle.tag_window.specs.Window.{Window}
use Rattle.tag_window.specs.History.{IsWindowOf}
use Rattle.causal_buffer.specs.Buffer.{Buffer}
use Rattle.causal_buffer.specs.Standing.{IsBufferOf}
use Rattle.polog.specs.Value.{Log}
use Rattle.polog.specs.Standing.{IsLogOf}
use Rattle.stable_state.specs.Shelf.{Shelved}
use Rattle.stable_state.specs.Standing.{AreSettledOf}
use Rattle.outbox.specs.Sent.{Sent}
use Rattle.list_type.specs.Listed.{Listed, AreListsOf}
use Rattle.replica_core.specs.Insertions.{insertions}
use Rattle.replica_core.specs.Standing.{Fields, Standing}
use Rattle.replica_core.proofs.Stands.{within_none}

module _ (me n w limit : ℕ) (counts : List ℕ) (matrix : Known) (window : Window) (buffer : Buffer) (log : Log) (items : Shelved) (lists : Listed) (outbox : Sent) where
  -- fields in epoch 0, where no no-op is due
  abbrev pub first_fields : Fields
  first_fields = record { me = me; n = n; w = w; limit = limit; epoch = 0; counts = counts; matrix = matrix; window = window; buffer = buffer; log = log; items = items; lists = lists; outbox = outbox; due = false }

  pub starts : n ≤ 16 → me < n → counts ≡ zero_tag n → IsMatrixOf n me [] matrix → IsWindowOf n w me [] window → IsBufferOf w (start n me) buffer → IsLogOf store_keeps store_covers n me [] log → log.room ≡ n * w
      → AreSettledOf (no_history n me) items → AreListsOf (no_history n me) lists → ((object : ObjectId) → lists.kept object ≡ []) → log.entries ≡ [] → buffer.early ≡ [] → outbox ≡ record { n = n; w = w; messages = [] } → Standing first_fields (start n me)
  starts few member zeros of_matrix of_window of_buffer of_log room settled of_lists empty nothing none sent = record {
    is_state = start_is_state n w limit me few member;
    of_member = refl;
    of_store = refl;
    in_epoch = refl;
    counts = zeros ∙ sym (counts-none n);
    matrix = of_matrix;
    window = of_window;
    buffer = of_buffer;
    log = of_log;
    log_room = room;
    items = settled;
    items_room = omega (arith, ap length nothing, ap length none);
    lists = ∣ (of_lists, within_none 0 lists empty) ∣₁;
    lists_room = omega (arith, ap insertions none);
    outbox = sent;
    due = refl;
  }
