use Rattle.std.proofs.Common.{length, ◌-◌}
use Rattle.command_text.specs.Tree.{command_view}
use Rattle.hub.specs.Desks.{HaveFollowed}
use Rattle.hub.specs.Told.{held_users}
use Rattle.hub.proofs.TellingLemmas.{AreToldSoFar}
use Rattle.hub.proofs.answer.tell_all.Given as goal

abbrev pub invariant-seats : goal.invariant-seats
invariant-seats g l =
    AreToldSoFar l.initial.taken.sender.now l.initial.taken.own.now (command_view l.initial.taken.command.now) l.place (held_users l.initial.seats)
    (held_users l.seats) l.initial.out.items l.out.items
    × HaveFollowed l.place l.initial.taken.sender.now (command_view l.initial.taken.command.now) l.shared l.seats

abbrev pub decreases-seats : goal.decreases-seats
decreases-seats g l = length l.initial.seats - l.place
