use Rattle.std.proofs.Common.{List, ℕ, ◌++◌, ap, ◌∙◌}
use Rattle.std.specs.Prelude.{unwrap_or}
use Rattle.ftl_lexer.specs.declared.buffer.TheConstants.{LEXER_LIMIT}
use Rattle.command_text.specs.Tree
use Rattle.command_text.specs.Tree.{command_view}
use Rattle.session.proofs.RowLemmas.{lines_is, row_short, write_kept}
use Rattle.session.proofs.importing.enter_row.Goals as goal

pub keep-requires-clause-legible : goal.keep-requires-clause-legible
keep-requires-clause-legible g c =
    let short = row_short (command_view c.args.command.now) c.requires.row.2 in
    record {
      printable = c.requires.row.0;
      canonical = ap (λ o. unwrap_or o Tree.Nothing)
          (c.canonical_lines_are_read_back.ensures.printed LEXER_LIMIT (command_view c.args.command.now) c.requires.row.0 short).command;
      short = short;
    }

pub keep-requires-clause-kept : goal.keep-requires-clause-kept
keep-requires-clause-kept g c = write_kept (command_view c.args.command.now) c.requires.row.1

pub returns-in-Ok-clause-told : goal.returns-in-Ok-clause-told
returns-in-Ok-clause-told g c =
    c.in-Ok.ensures.carries.accepted.said
    ∙ ap (λ (ls : List ℕ). c.args.out.now.items ++ ls) (lines_is c.args.state.now.journal (command_view c.args.command.now) c.requires.row.1)
