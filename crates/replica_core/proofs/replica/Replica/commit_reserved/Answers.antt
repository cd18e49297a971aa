use Rattle.replica_core.proofs.replica.Replica.commit_reserved.Goals as goal

pub step-requires-clause-next : goal.step-requires-clause-next
step-requires-clause-next c = c.requires.ready.next

pub step-requires-clause-sender : goal.step-requires-clause-sender
step-requires-clause-sender c = (c.requires.ready.own, c.requires.ready.copy)

pub step-requires-clause-room : goal.step-requires-clause-room
step-requires-clause-room c = c.requires.ready.room.items

pub step-requires-clause-lists_room : goal.step-requires-clause-lists_room
step-requires-clause-lists_room c = c.requires.ready.room.lists
