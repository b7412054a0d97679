use Rattle.replica.proofs.PrintedLines.{reads}
use Rattle.replica.proofs.laws.what_is_printed_is_read.Goals as goal

pub returns : goal.returns
returns c = reads
