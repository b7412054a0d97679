use Rattle.std.proofs.Common.{None, Vec, Global}
use Rattle.object_rows.specs.declared.rows.ObjectRow.{ObjectRow}
use Rattle.command_text.specs.declared.command.Command.{Command}
use Rattle.line_meaning.proofs.ImportLemmas.{named_rows_are_printable}
use Rattle.session.proofs.FileLemmas.{class_known, imported_commands, rows_found}
use Rattle.session.proofs.RowLemmas.{imported_rows}
use Rattle.session.proofs.filing.commands_in.Goals as goal

pub rows_of-requires : goal.rows_of-requires
rows_of-requires c = record {
  known = class_known c.args.state.now.journal c.args.state.now.database c.requires.state.keeps c.args.class.now None c.requires.class.known;
}

pub commands_of-requires-clause-rows : goal.commands_of-requires-clause-rows
commands_of-requires-clause-rows c =
    let journal = c.args.state.now.journal in
    let class = c.args.class.now in
    let rows = c.in-Some.rows.items in
    let are = rows_found journal c.args.state.now.database c.requires.state.keeps class c.args.text.now
    (λ (v : Vec ObjectRow Global). v.items) c.in_ok-rows.field-0 c.in-Some.rows c.in-Some.is c.in_ok-rows.ensures in
    imported_rows class rows
    (named_rows_are_printable c.commands_are_printable.ensures journal class c.args.text.now rows c.requires.state.reached c.requires.class.name are)
    (c.imported_rows_may_be_loaded.ensures journal class c.args.text.now rows c.requires.state.reached c.requires.class.name are)

pub returns-clause-found : goal.returns-clause-found
returns-clause-found c =
    let journal = c.args.state.now.journal in
    let class = c.args.class.now in
    let rows = c.in-Some.rows.items in
    let are = rows_found journal c.args.state.now.database c.requires.state.keeps class c.args.text.now
    (λ (v : Vec ObjectRow Global). v.items) c.in_ok-rows.field-0 c.in-Some.rows c.in-Some.is c.in_ok-rows.ensures in
    imported_commands journal class c.args.text.now rows are
    (imported_rows class rows
    (named_rows_are_printable c.commands_are_printable.ensures journal class c.args.text.now rows c.requires.state.reached c.requires.class.name are)
    (c.imported_rows_may_be_loaded.ensures journal class c.args.text.now rows c.requires.state.reached c.requires.class.name are))
    (λ (v : Vec Command Global). v.items) c.commands_of.result c.commands_of.ensures.commands
