use Rattle.std.proofs.Common.{rules, ◌≢◌, ◌<◌, ◌≤◌, IsTrue, length, map, refl, ap, arith}
use Rattle.std.proofs.Props.{props}
use Rattle.std.proofs.Math.Logic.{∥∥₁_elim, ∥∥₁_map}
use Rattle.causal_model.specs.declared.outcome.Receive.TheVariants as receive
use Rattle.world_model.specs.Commands as world_command
use Rattle.world_model.specs.Honest.{IsHonest}
use Rattle.world_model.specs.World.{takes_frame, give_at}
use Rattle.world_model.specs.declared.outcome.Given.TheVariants as given
use Rattle.honest_worlds.proofs.Commands.{commands_keep_honest}
use Rattle.world.specs.Answers.{ShowsPlain}
use Rattle.world.specs.Honest.{is_fair_given}
use Rattle.world.proofs.Follow.{some_is_left, follows_keeps, follows_answers}
use Rattle.world.proofs.Honest.{give_is_fair}
use Rattle.world.proofs.Givings.{none_is_given, none_at_0, none_is_past, message_given, replies_give}
use Rattle.world.proofs.Nodes.{n_shown, size_shown}
use Rattle.world.proofs.Nodes.{member_shown}
use Rattle.world.proofs.Asking.{recorders_stay, asked_once}
use Rattle.world.proofs.world.World.give.Goals as goal

pub returns-then-seq-eq0-clause-answer : goal.returns-then-seq-eq0-clause-answer
returns-then-seq-eq0-clause-answer c plain shows =
    let nodes = c.args.self.now.nodes.items in
    none_is_given plain c.args.r c.args.k c.args.seq (ShowsPlain c.args.self.now) (none_at_0 nodes (map (λ row. row.items) c.args.self.now.sent.items) plain shows c.args.k c.requires.of c.args.seq c.if-seq-eq0.true) shows

pub returns-then-seq-len-clause-answer : goal.returns-then-seq-len-clause-answer
returns-then-seq-len-clause-answer c plain shows =
    let past : length c.index-frames.result.now.items < c.args.seq = search rules in
    none_is_given plain c.args.r c.args.k c.args.seq (ShowsPlain c.args.self.now)
    (none_is_past (λ row. row.items) c.args.self.now.nodes.items c.args.self.now.sent.items plain shows c.args.k c.index-frames.result.now c.requires.of c.index-frames.ensures c.args.seq past) shows

pub offer_frame-requires-clause-of : goal.offer_frame-requires-clause-of
offer_frame-requires-clause-of c =
    let nodes = c.args.self.now.nodes.items in
    let rows = map (λ row. row.items) c.args.self.now.sent.items in
    ∥∥₁_elim c.args.self.now.shows (search props) (λ x. omega (arith, c.requires.of, size_shown nodes rows x.0 x.1, n_shown nodes rows x.0 x.1 c.args.r c.index_mut.result.now (record { low = c.requires.to; at = c.index_mut.ensures.value })))

pub offer_frame-requires-clause-frame : goal.offer_frame-requires-clause-frame
offer_frame-requires-clause-frame c =
    let node = c.index_mut.result.now in
    let row = c.index-frames.result.now in
    let some : c.args.seq ≢ 0 = c.if-seq-eq0.false in
    let most : c.args.seq ≤ length row.items = search rules in
    let frame = c.at-frame.result.now in
    let is = c.at-frame.ensures frame in
    ∥∥₁_map c.args.self.now.shows (λ x.
    let one = message_given (λ row. row.items) c.args.self.now.nodes.items c.args.self.now.sent.items x.0 x.1 c.args.k row c.requires.of c.index-frames.ensures c.args.r node (record { low = c.requires.to; at = c.index_mut.ensures.value }) c.args.seq some most frame is in
    (one.0, one.1.is))

pub invariant_of-self-2 : goal.invariant_of-self-2
invariant_of-self-2 c =
    let node = c.index_mut.result.now in
    let row = c.index-frames.result.now in
    let some : c.args.seq ≢ 0 = c.if-seq-eq0.false in
    let most : c.args.seq ≤ length row.items = search rules in
    let frame = c.at-frame.result.now in
    let is = c.at-frame.ensures frame in
    record {
      shows = ∥∥₁_map c.args.self.now.shows (λ x.
          some_is_left (given.Got receive.NoMemory) takes_frame (give_at c.args.r c.args.k c.args.seq x.0) x.0 (given.Got c.offer_frame.result) _ (replies_give (λ row. row.items) c.args.self.now.nodes.items c.args.self.now.sent.items x.0 x.1 c.args.k row c.requires.of c.index-frames.ensures c.args.r node (record { low = c.requires.to; at = c.index_mut.ensures.value }) c.args.seq some most frame is
          c.offer_frame.new.node c.offer_frame.ensures.same c.offer_frame.result c.offer_frame.ensures.answer));
    }

pub returns-clause-answer : goal.returns-clause-answer
returns-clause-answer c plain shows =
    let node = c.index_mut.result.now in
    let row = c.index-frames.result.now in
    let some : c.args.seq ≢ 0 = c.if-seq-eq0.false in
    let most : c.args.seq ≤ length row.items = search rules in
    let frame = c.at-frame.result.now in
    let is = c.at-frame.ensures frame in
    replies_give (λ row. row.items) c.args.self.now.nodes.items c.args.self.now.sent.items plain shows c.args.k row c.requires.of c.index-frames.ensures c.args.r node (record { low = c.requires.to; at = c.index_mut.ensures.value }) c.args.seq some most frame is
    c.offer_frame.new.node c.offer_frame.ensures.same c.offer_frame.result c.offer_frame.ensures.answer

pub returns-then-seq-eq0-clause-fair : goal.returns-then-seq-eq0-clause-fair
returns-then-seq-eq0-clause-fair c old = refl

pub returns-then-seq-len-clause-fair : goal.returns-then-seq-len-clause-fair
returns-then-seq-len-clause-fair c old = refl

pub returns-clause-honest : goal.returns-clause-honest
returns-clause-honest c =
    follows_keeps (given.Got receive.NoMemory) (give_at c.args.r c.args.k c.args.seq) IsHonest (ShowsPlain c.args.self.now) _ (given.Got c.offer_frame.result) takes_frame
    (λ plain shows honest. (commands_keep_honest plain (world_command.gives c.args.r c.args.k c.args.seq) honest (member_shown c.args.self.now.nodes.items _ plain shows c.args.r c.requires.to) refl).0)
    (returns-clause-answer c)

pub returns-clause-fair : goal.returns-clause-fair
returns-clause-fair c =
    follows_answers (given.Got receive.NoMemory) (give_at c.args.r c.args.k c.args.seq) IsHonest (ShowsPlain c.args.self.now) _ (given.Got c.offer_frame.result) takes_frame (λ answer. IsTrue (is_fair_given answer)) refl
    (λ plain shows honest. give_is_fair plain c.args.r c.args.k c.args.seq honest (member_shown c.args.self.now.nodes.items _ plain shows c.args.r c.requires.to))
    (returns-clause-answer c)

pub returns-clause-untouched : goal.returns-clause-untouched
returns-clause-untouched c untaken other =
    recorders_stay c.args.self.now.nodes.items c.args.r c.index_mut.result.now c.offer_frame.new.node (record { low = c.requires.to; at = c.index_mut.ensures.value }) (c.offer_frame.ensures.untouched untaken (λ e. other (ap given.Got e)))

pub returns-clause-once : goal.returns-clause-once
returns-clause-once c =
    asked_once c.args.self.now.nodes.items c.args.r c.index_mut.result.now c.offer_frame.new.node (record { low = c.requires.to; at = c.index_mut.ensures.value }) c.offer_frame.ensures.once
