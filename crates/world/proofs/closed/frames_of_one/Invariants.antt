use Rattle.std.proofs.Common.{◌≡◌, ◌++◌, drop, map}
use Rattle.frame_codec.specs.Grammar.{frame_of}
use Rattle.frame_codec.specs.declared.version.Version.TheVariants.{Two}
use Rattle.world_model.specs.Journals.{sent_in}
use Rattle.world.proofs.closed.frames_of_one.Given as goal

abbrev pub invariant-loop-note : goal.invariant-loop-note
invariant-loop-note l =
    let f = frame_of Two l.fn.node.inner.n l.fn.node.inner.epoch in
    l.row.items ++ map f (sent_in (drop l.note-index l.note-items)) ≡ map f (sent_in l.note-items)
