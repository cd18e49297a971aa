-- The fields of a replica that begins the next epoch.
use Rattle.std.proofs.Common.{◌≡◌, ℕ, ◌+◌, ◌*◌, ◌^◌, ◌<◌, false, IsTrue, [], List, length, refl, sym, ap, subst, ◌∙◌, arith}
use Rattle.std.proofs.lemmas.List.{length_push}
use Rattle.op_base.specs.Timestamp.{zero_tag}
use Rattle.op_base.specs.declared.name.ObjectId.{ObjectId}
use Rattle.causal_model.specs.History.{is_all_stable}
use Rattle.causal_model.specs.Journal.{regrouped}
use Rattle.causal_model.specs.Covering.{store_keeps, store_covers}
use Rattle.causal_model.specs.State.{State, start}
use Rattle.causal_model.specs.KeptElements.{KeptElement}
use Rattle.causal_model.proofs.Delivery.Begin.{counts-none}
use Rattle.causal_model.proofs.Lists.KeptOfOneMore.{regroup_keeps_lists}
use Rattle.causal_model.proofs.Events.Regrouping.{regroup_keeps_items}
use Rattle.causal_model.proofs.States.States.{regroup_keeps_state}
use Rattle.stability_matrix.specs.Rows.{Known}
use Rattle.stability_matrix.specs.Standing.{IsMatrixOf}
use Rattle.stable_state.specs.Shelf.{Shelved}
use Rattle.tag_window.specs.History.{IsWindowOf}
use Rattle.causal_buffer.specs.Standing.{IsBufferOf}
use Rattle.polog.specs.Value.{Log}
use Rattle.polog.specs.Standing.{IsLogOf}
use Rattle.list_type.specs.Listed.{Listed}
use Rattle.stable_state.proofs.Moves.{same_are_settled, settled_alike}
use Rattle.replica_core.specs.Insertions.{insertions}
use Rattle.replica_core.specs.Numbers.{are_numbers}
use Rattle.replica_core.specs.Rooms.{AreParts}
use Rattle.replica_core.specs.Standing.{Fields, Standing}
use Rattle.replica_core.specs.declared.epochs.EpochParts.{EpochParts}
use Rattle.replica_core.proofs.KeptLists.{lists_of, depths_of}
use Rattle.replica_core.proofs.Ranges.{AreNumbers-from_test}
use Rattle.replica_core.proofs.Stands.{few_messages_of, within_more, within_same}

module _ (f : Fields) (me n : ℕ) (counts : List ℕ) (matrix : Known) (parts : EpochParts) (items : Shelved) (lists : Listed) where
  -- fields in the next epoch, with new parts, where no no-op is due
  abbrev pub next_fields : Fields
  next_fields = record { me = me; n = n; w = f.w; limit = f.limit; epoch = f.epoch + 1; counts = counts; matrix = matrix; window = parts.window; buffer = parts.buffer; log = parts.log; items = items; lists = lists; outbox = parts.outbox; due = false }

  pub regroups : (s : State) → Standing f s → IsTrue (are_numbers me n f.w f.limit) → f.epoch < 65535 → IsTrue (is_all_stable s.history.present) → counts ≡ zero_tag n → IsMatrixOf n me [] matrix → AreParts me n f.w parts → items.items ≡ f.items.items → lists.kept ≡ f.lists.kept
      → Standing next_fields (regrouped n me s)
  regroups s stands tested early stable zeros of_matrix empty same same_lists =
      let numbers = AreNumbers-from_test me n f.w f.limit tested in
      record {
        is_state = regroup_keeps_state f.w f.limit n me s stands.is_state numbers.few numbers.member (subst (λ e. e < 65535) (sym stands.in_epoch) early) stable;
        of_member = refl;
        of_store = refl;
        in_epoch = length_push s.history.past s.history.present ∙ ap (λ e. e + 1) stands.in_epoch;
        counts = zeros ∙ sym (counts-none n);
        matrix = of_matrix;
        window = empty.window;
        buffer = record { members = empty.buffer.members; window = empty.buffer.window; early = empty.buffer.early };
        log = empty.log;
        log_room = empty.log_room;
        items = settled_alike s.history (regrouped n me s).history items (regroup_keeps_items n me s stable).2 (same_are_settled s.history f.items items same stands.items);
        items_room = omega (arith, ap length empty.log_entries, ap length empty.buffer.early);
        lists =
            let before = f.epoch * 2 ^ 24 + length s.history.present.messages in
            ∣ (λ object is_list. ap (λ (kept : ObjectId → List KeptElement). kept object) same_lists ∙ lists_of f s stands object is_list ∙ sym (regroup_keeps_lists n me s object stable is_list), within_more before ((f.epoch + 1) * 2 ^ 24 + 0) lists (omega (arith, few_messages_of f s stands numbers.most)) (within_same before f.lists lists same_lists (depths_of f s stands))) ∣₁;
        lists_room = omega (arith, ap insertions empty.buffer.early);
        outbox = empty.outbox;
        due = refl;
      }

-- the parts of fields that stand for a state, emptied, serve a member of as many
pub emptied_serve : (f : Fields) (s : State) (me : ℕ) (parts : EpochParts) → Standing f s → IsWindowOf (length f.window.held) f.window.w me [] parts.window → IsBufferOf f.buffer.w (start f.buffer.n me) parts.buffer
    → IsLogOf store_keeps store_covers f.log.n me [] parts.log → parts.log ≡ record { n = f.log.n; room = f.log.room; pushed = 0; entries = []; stripped = [] } → parts.outbox ≡ record { n = f.outbox.n; w = f.outbox.w; messages = [] }
    → AreParts me f.n f.w parts
emptied_serve f s me parts stands window buffer log log_is outbox = record {
  window = subst (λ n. IsWindowOf n f.w me [] parts.window) stands.window.entries (subst (λ w. IsWindowOf (length f.window.held) w me [] parts.window) stands.window.bound window);
  buffer = record { members = buffer.members ∙ stands.buffer.members ∙ stands.of_store; window = buffer.window ∙ stands.buffer.window; early = buffer.early };
  log = subst (λ n. IsLogOf store_keeps store_covers n me [] parts.log) stands.log.of_store log;
  log_entries = ap (λ (l : Log). l.entries) log_is;
  log_room = ap (λ (l : Log). l.room) log_is ∙ stands.log_room;
  outbox = outbox ∙ (λ i. record { n = (stands.outbox i).n; w = (stands.outbox i).w; messages = [] });
}
