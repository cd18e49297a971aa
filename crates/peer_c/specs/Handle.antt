-- What a handle owns.
use Rattle.std.specs.Prelude.{Bool, true, false}
use base.Fml.{Fml, ftrue, fex}
use denote.RawPtr.{Ptr}
use Rattle.std.specs.declared.alloc.Global.{Global}
use Rattle.std.specs.contracts.impls.GlobalAllocator.TheImpl.{ghosts}
use Rattle.std_alloc.specs.Box.Ownership.{box_owns}
use Rattle.peer.specs.contracts.peer.Peer.{the_row}

-- the block of a peer at p, with the right to free it
abbrev pub peer_at : Ptr → Fml
peer_at p = fex Global (λ a. fex the_row.Denot (λ x. box_owns (ghosts.dealloc_token a) the_row p x))

-- that, where a handle is full
abbrev pub handle_owns : Bool → Ptr → Fml
handle_owns true p = peer_at p
handle_owns false p = ftrue
