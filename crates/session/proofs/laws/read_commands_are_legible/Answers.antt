use Rattle.std.proofs.Common.{ap}
use Rattle.std.specs.Prelude.{unwrap_or}
use Rattle.command_text.specs.declared.reading.TheConstants.{LINE_LIMIT}
use Rattle.command_text.specs.Tree
use Rattle.session.proofs.laws.read_commands_are_legible.Goals as goal

pub returns : goal.returns
returns c = λ line command read. record {
  printable = c.read_commands_are_printable.ensures LINE_LIMIT line command read;
  canonical = ap (λ o. unwrap_or o Tree.Nothing) (c.canonical_lines_are_read_back.ensures.lines_read line command read).command;
  short = c.canonical_lines_are_short.ensures.limit LINE_LIMIT line command read;
}
