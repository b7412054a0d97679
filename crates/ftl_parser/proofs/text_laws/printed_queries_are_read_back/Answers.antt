-- By the parts of the tree.
use Rattle.ftl_parser.proofs.canonical.TextReads.{reads_what_is_printed, reads_again}
use Rattle.ftl_parser.proofs.text_laws.printed_queries_are_read_back.Goals as goal

pub returns-clause-printed : goal.returns-clause-printed
returns-clause-printed c = reads_what_is_printed

pub returns-clause-read : goal.returns-clause-read
returns-clause-read c = reads_again
