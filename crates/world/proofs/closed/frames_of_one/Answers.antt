use Rattle.std.proofs.Common.{All, IsTrue, ◌∷◌, [], ◌++◌, map, List, ap, sym, subst, ◌∙◌, arith}
use Rattle.op_base.specs.Message.{fits}
use Rattle.op_base.specs.declared.message.Message.{Message}
use Rattle.causal_model.specs.declared.note.Note.{Note}
use Rattle.frame_codec.specs.Grammar.{frame_of}
use Rattle.frame_codec.specs.declared.version.Version.TheVariants.{Two}
use Rattle.world_model.specs.Journals.{sent_in}
use Rattle.world.proofs.Apart.{of_one, one_note_more, none_is_left}
use Rattle.world.proofs.Nodes.{epoch_is_low}
use Rattle.world.proofs.closed.frames_of_one.Goals as goal

pub loop-note-init : goal.loop-note-init
loop-note-init c = ap (λ l. l ++ map (frame_of Two c.args.node.now.inner.n c.args.node.now.inner.epoch) (sent_in c.notes-note-items.result.now)) c.new-row.ensures

pub put_frame-requires : goal.put_frame-requires
put_frame-requires c =
    let P : Message → Type 0 = λ m. IsTrue (fits c.args.node.now.inner.n m) in
    let notes = c.notes-note-items.result.now in
    let all = subst (λ (l : List Note). All P (sent_in l)) (sym c.notes-note-items.ensures) c.requires.fit in
    record { epoch = epoch_is_low c.args.node.now; fit = subst (λ (x : Note). All P (sent_in (x ∷ []))) (sym c.note-item.is) (of_one P notes c.loop-note.note-index c.note-item.result c.loop-note-test.true all) }

pub loop-note-preserved : goal.loop-note-preserved
loop-note-preserved c =
    one_note_more (frame_of Two c.args.node.now.inner.n c.args.node.now.inner.epoch) c.notes-note-items.result.now c.loop-note.note-index c.note-item.result c.loop-note.row.items c.put_frame.new.row.items c.loop-note-test.true c.note-item.is c.in_ok-put_frame.ensures c.loop-note.invariant

pub returns : goal.returns
returns c =
    let f = frame_of Two c.args.node.now.inner.n c.args.node.now.inner.epoch in
    none_is_left f c.notes-note-items.result.now c.loop-note.note-index c.loop-note.row.items (omega arith) c.loop-note.invariant
    ∙ ap (λ (l : List Note). map f (sent_in l)) c.notes-note-items.ensures
