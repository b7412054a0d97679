-- By what the tokens tell.
use Rattle.ftl_parser.proofs.grammar.OneReading.{reads_one_query}
use Rattle.ftl_parser.proofs.text_laws.tokens_are_read_as_one_query.Goals as goal

pub returns : goal.returns
returns c = reads_one_query
