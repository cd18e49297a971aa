use Rattle.live_run.proofs.Opened.{one_split, has_room}
use Rattle.live_run.proofs.opening.split_at.Goals as goal

pub split-requires-clause-room : goal.split-requires-clause-room
split-requires-clause-room c =
    let opened = c.requires.opened in
    has_room c.args.nodes.now c.args.openers.now opened.0 c.args.at c.index-openers-at.result c.requires.inside opened.1 opened.2

pub returns-clause-opened : goal.returns-clause-opened
returns-clause-opened c = λ jobs job are here. one_split c.args.nodes.now c.args.openers.now jobs job c.args.at c.index-openers-at.result c.split.new.opener c.requires.inside c.split.ensures.opener are here
