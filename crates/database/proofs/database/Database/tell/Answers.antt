use Rattle.std.proofs.Common.{subst, sym}
use Rattle.ftl_parser.specs.Tree.{query_view}
use Rattle.command_text.specs.Tree.{command_view}
use Rattle.line_meaning.specs.Looks.{looks_asked}
use Rattle.database.specs.Keeping.{world_of_database}
use Rattle.database.specs.Telling.{TakesAtMost, Tells, tally}
use Rattle.database.proofs.AskLemmas.{asks_tell}
use Rattle.database.proofs.database.Database.tell.Goals as goal

pub returns-in-Ask-clause-told : goal.returns-in-Ask-clause-told
returns-in-Ask-clause-told g c =
    let d = c.args.self.now in
    subst (λ command. Tells d (command_view command) c.args.out.now.items c.ask.new.out.items c.ask.result) (sym c.in-Ask.is)
    (asks_tell d c.in-Ask.span (query_view c.in-Ask.query) c.args.out.now.items c.ask.new.out.items c.ask.result c.ask.ensures.asked)

pub returns-in-Nearest-clause-told : goal.returns-in-Nearest-clause-told
returns-in-Nearest-clause-told g c =
    let d = c.args.self.now in
    subst (λ command. Tells d (command_view command) c.args.out.now.items c.tell_nearest.new.out.items c.tell_nearest.result) (sym c.in-Nearest.is)
    c.tell_nearest.ensures.answered

pub returns-in-Must-clause-told : goal.returns-in-Must-clause-told
returns-in-Must-clause-told g c =
    let d = c.args.self.now in
    subst (λ command. Tells d (command_view command) c.args.out.now.items c.tell_blurred.new.out.items c.tell_blurred.result) (sym c.in-Must.is)
    c.tell_blurred.ensures.answered

pub returns-in-May-clause-told : goal.returns-in-May-clause-told
returns-in-May-clause-told g c =
    let d = c.args.self.now in
    subst (λ command. Tells d (command_view command) c.args.out.now.items c.tell_blurred-in-May.new.out.items c.tell_blurred-in-May.result) (sym c.in-May.is)
    c.tell_blurred-in-May.ensures.answered

pub returns-in-Ask-clause-takes : goal.returns-in-Ask-clause-takes
returns-in-Ask-clause-takes g c =
    subst (λ command. TakesAtMost (looks_asked (world_of_database c.args.self.now) (command_view command))
    (tally c.args.out.now.items c.args.reads.now c.args.probes.now) (tally c.ask.new.out.items c.ask.new.reads c.ask.new.probes)) (sym c.in-Ask.is)
    c.ask.ensures.takes

pub returns-in-Must-clause-takes : goal.returns-in-Must-clause-takes
returns-in-Must-clause-takes g c =
    subst (λ command. TakesAtMost (looks_asked (world_of_database c.args.self.now) (command_view command))
    (tally c.args.out.now.items c.args.reads.now c.args.probes.now) (tally c.tell_blurred.new.out.items c.tell_blurred.new.reads c.tell_blurred.new.probes)) (sym c.in-Must.is)
    c.tell_blurred.ensures.takes

pub returns-in-May-clause-takes : goal.returns-in-May-clause-takes
returns-in-May-clause-takes g c =
    subst (λ command. TakesAtMost (looks_asked (world_of_database c.args.self.now) (command_view command))
    (tally c.args.out.now.items c.args.reads.now c.args.probes.now) (tally c.tell_blurred-in-May.new.out.items c.tell_blurred-in-May.new.reads c.tell_blurred-in-May.new.probes)) (sym c.in-May.is)
    c.tell_blurred-in-May.ensures.takes
