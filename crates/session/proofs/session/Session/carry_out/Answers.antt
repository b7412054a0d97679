use Rattle.std.proofs.Common.{subst}
use Rattle.command_text.specs.Tree.{command_view}
use Rattle.line_meaning.specs.Step.{Held}
use Rattle.session.specs.State.{holds}
use Rattle.session.specs.Carried.{Carried, moment}
use Rattle.session.proofs.session.Session.carry_out.Goals as goal

pub returns-clause-carried : goal.returns-clause-carried
returns-clause-carried g c =
    subst (λ (h : Held). Carried (command_view c.args.command.now)
    (moment h c.args.out.now.items c.args.reads.now c.args.probes.now)
    (moment (holds c.carry_out.new.state) c.carry_out.new.out.items c.carry_out.new.reads c.carry_out.new.probes) c.carry_out.result)
    c.self.view_is c.carry_out.ensures.carried
