-- By the parts of the commands.
use Rattle.command_text.proofs.canonical.TextReads.{reads_what_is_printed}
use Rattle.command_text.proofs.canonical.TextAgain.{reads_again, reads_lines_again}
use Rattle.command_text.proofs.text_laws.canonical_lines_are_read_back.Goals as goal

pub returns-clause-printed : goal.returns-clause-printed
returns-clause-printed c = reads_what_is_printed

pub returns-clause-read : goal.returns-clause-read
returns-clause-read c = reads_again

pub returns-clause-lines_read : goal.returns-clause-lines_read
returns-clause-lines_read c = reads_lines_again
