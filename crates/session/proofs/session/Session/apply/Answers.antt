use Rattle.std.proofs.Common.{◌≤◌, ◌+◌, sym, subst}
use Rattle.std.specs.Prelude.{Result, Ok, Err, IfErr}
use Rattle.command_text.specs.declared.reading.TheConstants.{LINE_LIMIT}
use Rattle.command_text.specs.declared.command.Command.{Command}
use Rattle.command_text.specs.declared.fault.CommandFault.{CommandFault}
use Rattle.command_text.specs.Line.{Explains}
use Rattle.command_text.specs.Tree.{command_view}
use Rattle.line_meaning.specs.Looks.{looks_of}
use Rattle.line_meaning.specs.Step.{Held, base}
use Rattle.session.specs.State.{holds}
use Rattle.outside.specs.Shelf.{Texts}
use Rattle.session.specs.declared.next.ApplyFault.TheVariants as apply_faults
use Rattle.session.specs.declared.next.Next.TheVariants as nexts
use Rattle.session.specs.Answers.{Applies}
use Rattle.session.specs.Filed.{IsApplied, SufficesFor}
use Rattle.session.proofs.AnswerLemmas.{applied_line, lacks_applies, looks_line, no_looks, refused_applies}
use Rattle.session.specs.Carried.{moment}
use Rattle.session.specs.Untold.{AppliesBySome}
use Rattle.session.proofs.UntoldLemmas.{applies_by_some, lacks_by_some, refused_by_some}
use Rattle.session.proofs.session.Session.apply.Goals as goal

pub returns-in-Err-Refused-clause-applies : goal.returns-in-Err-Refused-clause-applies
returns-in-Err-Refused-clause-applies g c =
    let line = c.args.line.now in
    let out = c.args.out.now.items in
    let r = c.in-Err-Refused.refusal in
    subst (λ (new : Held). Applies (g.F.Shelf.texts c.args.shelf.now) (g.F.Shelf.texts c.args.shelf.now) line c.args.self.now new out out (Ok (nexts.Refused r)))
    (sym c.self.view_is)
    (refused_applies (g.F.Shelf.texts c.args.shelf.now) line c.args.self.now out r
    (subst (Explains LINE_LIMIT line) c.in-Err-Refused.field-0-is
    (subst (λ (x : Result Command CommandFault). IfErr x (Explains LINE_LIMIT line)) c.in-Err-Refused.is c.read.ensures.cause)))

pub returns-in-Err-Refused-clause-most : goal.returns-in-Err-Refused-clause-most
returns-in-Err-Refused-clause-most g c = λ texts suffices. no_looks _ _

pub returns-in-Err-NoMemory-clause-applies : goal.returns-in-Err-NoMemory-clause-applies
returns-in-Err-NoMemory-clause-applies g c =
    let line = c.args.line.now in
    let out = c.args.out.now.items in
    subst (λ (new : Held). Applies (g.F.Shelf.texts c.args.shelf.now) (g.F.Shelf.texts c.args.shelf.now) line c.args.self.now new out out (Err apply_faults.NoMemory))
    (sym c.self.view_is)
    (lacks_applies (g.F.Shelf.texts c.args.shelf.now) line c.args.self.now out
    (subst (Explains LINE_LIMIT line) c.in-Err-NoMemory.field-0-is
    (subst (λ (x : Result Command CommandFault). IfErr x (Explains LINE_LIMIT line)) c.in-Err-NoMemory.is c.read.ensures.cause)))

pub returns-in-Err-NoMemory-clause-most : goal.returns-in-Err-NoMemory-clause-most
returns-in-Err-NoMemory-clause-most g c = λ texts suffices. no_looks _ _

pub apply_command-applied-requires-clause-legible : goal.apply_command-applied-requires-clause-legible
apply_command-applied-requires-clause-legible g c =
    c.read_commands_are_legible.ensures c.args.line.now (command_view c.in-Ok.command) c.in-Ok.ensures.ok

pub returns-clause-applies : goal.returns-clause-applies
returns-clause-applies g c =
    let told = g.F.Shelf.texts c.args.shelf.now in
    let left = g.F.Shelf.texts c.apply_command-applied.new.shelf in
    let command = command_view c.in-Ok.command in
    let new = holds c.apply_command-applied.new.state in
    let before = c.args.out.now.items in
    let after = c.apply_command-applied.new.out.items in
    applied_line c.args.line.now command c.in-Ok.ensures.ok told left c.args.self.now new before after c.apply_command-applied.result
    (subst (λ (old : Held). IsApplied told left command old new before after c.apply_command-applied.result) c.self.view_is c.apply_command-applied.ensures.answered.applied)

pub returns-clause-most : goal.returns-clause-most
returns-clause-most g c =
    looks_line c.args.line.now (command_view c.in-Ok.command) c.in-Ok.ensures.ok (g.F.Shelf.texts c.args.shelf.now) (g.F.Shelf.texts c.apply_command-applied.new.shelf)
    c.args.self.now (holds c.apply_command-applied.new.state) c.args.out.now.items c.apply_command-applied.new.out.items _ _
    (subst (λ (old : Held). (texts : Texts) → SufficesFor (g.F.Shelf.texts c.args.shelf.now) (command_view c.in-Ok.command) texts →
    c.apply_command-applied.new.reads ≤ c.args.reads.now + looks_of (base old texts) (command_view c.in-Ok.command)) c.self.view_is c.apply_command-applied.ensures.answered.most)

pub returns-in-Err-Refused-clause-some : goal.returns-in-Err-Refused-clause-some
returns-in-Err-Refused-clause-some g c =
    let line = c.args.line.now in
    let out = c.args.out.now.items in
    let reads = c.args.reads.now in
    let probes = c.args.probes.now in
    let r = c.in-Err-Refused.refusal in
    let told = g.F.Shelf.texts c.args.shelf.now in
    subst (λ (new : Held). AppliesBySome told line (moment c.args.self.now out reads probes) (moment new out reads probes) (Ok (nexts.Refused r)))
    (sym c.self.view_is)
    (refused_by_some told line (moment c.args.self.now out reads probes) r
    (subst (Explains LINE_LIMIT line) c.in-Err-Refused.field-0-is
    (subst (λ (x : Result Command CommandFault). IfErr x (Explains LINE_LIMIT line)) c.in-Err-Refused.is c.read.ensures.cause)))

pub returns-in-Err-NoMemory-clause-some : goal.returns-in-Err-NoMemory-clause-some
returns-in-Err-NoMemory-clause-some g c =
    let line = c.args.line.now in
    let out = c.args.out.now.items in
    let reads = c.args.reads.now in
    let probes = c.args.probes.now in
    let told = g.F.Shelf.texts c.args.shelf.now in
    subst (λ (new : Held). AppliesBySome told line (moment c.args.self.now out reads probes) (moment new out reads probes) (Err apply_faults.NoMemory))
    (sym c.self.view_is)
    (lacks_by_some told line (moment c.args.self.now out reads probes))

pub returns-clause-some : goal.returns-clause-some
returns-clause-some g c =
    let told = g.F.Shelf.texts c.args.shelf.now in
    let line = c.args.line.now in
    let new = holds c.apply_command-applied.new.state in
    subst (λ (old : Held). AppliesBySome told line (moment old c.args.out.now.items c.args.reads.now c.args.probes.now)
    (moment new c.apply_command-applied.new.out.items c.apply_command-applied.new.reads c.apply_command-applied.new.probes) c.apply_command-applied.result)
    c.self.view_is
    (applies_by_some _ _ line (command_view c.in-Ok.command) c.in-Ok.ensures.ok _ _ c.apply_command-applied.result
    c.apply_command-applied.ensures.answered c.apply_command-applied.ensures.some)
