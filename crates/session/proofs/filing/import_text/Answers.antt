use Rattle.std.proofs.Common.{◌≡◌, ◌≤◌, ◌+◌, Option, None, map, ◌∙◌, subst, Vec, Global}
use Rattle.std.specs.Prelude.{MatchOption, is_some}
use Rattle.command_text.specs.declared.command.Command.{Command}
use Rattle.command_text.specs.Tree.{command_view}
use Rattle.line_meaning.specs.Import.{journal_after_text}
use Rattle.session.specs.Rows.{journal_after_commands, looks_of_commands}
use Rattle.session.specs.Trial.{AreImported}
use Rattle.session.proofs.FileLemmas.{imported_looks, imported_taken}
use Rattle.session.proofs.filing.import_text.Goals as goal

pub enter_rows-entered-requires-clause-taken : goal.enter_rows-entered-requires-clause-taken
enter_rows-entered-requires-clause-taken g c =
    let journal = c.args.state.now.journal in
    let class = c.args.class.now in
    let text = c.args.text.now in
    let are = subst (λ (o : Option (Vec Command Global)). MatchOption o (journal_after_text journal class text ≡ None)
    (λ (v : Vec Command Global). AreImported class journal text v.items)) c.in-Ok-Some.field-0-is c.in-Ok-Some.ensures.found in
    (λ i. is_some (journal_after_commands (c.commands_in.ensures.same i) (map command_view (c.deref.ensures.value i))))
    ∙ imported_taken journal class text c.in-Ok-Some.commands.items are

pub returns-in-Ok-clause-most : goal.returns-in-Ok-clause-most
returns-in-Ok-clause-most g c = λ rows is.
    let journal = c.args.state.now.journal in
    let class = c.args.class.now in
    let text = c.args.text.now in
    let are = subst (λ (o : Option (Vec Command Global)). MatchOption o (journal_after_text journal class text ≡ None)
    (λ (v : Vec Command Global). AreImported class journal text v.items)) c.in-Ok-Some.field-0-is c.in-Ok-Some.ensures.found in
    subst (λ n. c.enter_rows-entered.new.reads ≤ c.args.reads.now + n)
    ((λ i. looks_of_commands (c.commands_in.ensures.same i) (map command_view (c.deref.ensures.value i)))
    ∙ imported_looks journal class text c.in-Ok-Some.commands.items are rows is) c.enter_rows-entered.ensures.reads.most

pub returns-in-Err-entered-clause-most : goal.returns-in-Err-entered-clause-most
returns-in-Err-entered-clause-most g c = λ rows is.
    let journal = c.args.state.now.journal in
    let class = c.args.class.now in
    let text = c.args.text.now in
    let are = subst (λ (o : Option (Vec Command Global)). MatchOption o (journal_after_text journal class text ≡ None)
    (λ (v : Vec Command Global). AreImported class journal text v.items)) c.in-Ok-Some.field-0-is c.in-Ok-Some.ensures.found in
    subst (λ n. c.enter_rows-entered.new.reads ≤ c.args.reads.now + n)
    ((λ i. looks_of_commands (c.commands_in.ensures.same i) (map command_view (c.deref.ensures.value i)))
    ∙ imported_looks journal class text c.in-Ok-Some.commands.items are rows is) c.enter_rows-entered.ensures.reads.most
