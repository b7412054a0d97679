use Rattle.std.proofs.Common.{◌∙◌}
use Rattle.command_text.specs.Tree.{command_view}
use Rattle.session.specs.Sharing.{held_at}
use Rattle.session.proofs.CallerLemmas.{awaits_clock}
use Rattle.hub.proofs.SeatLemmas.{other_followed}
use Rattle.hub.proofs.seat.answer_other.Goals as goal

pub returns-clause-other : goal.returns-clause-other
returns-clause-other g c =
    other_followed (command_view c.args.taken.now.command.now) (held_at c.args.desk.now) (held_at c.follow.new.desk) c.clear.new.self.items
    c.push_moved.new.out.items c.follow.new.out.items c.clear.ensures.items
    (c.in_ok-push_moved.ensures (held_at c.args.desk.now)
    (c.now.ensures ∙ awaits_clock (command_view c.args.taken.now.command.now) c.args.shared.now c.args.desk.now c.requires.behind))
    c.in_ok-follow.ensures.accepted c.requires.shared
