-- The first quote after the first byte is the last byte.
use Rattle.ftl_lexer.proofs.Fronts.{unquoted_parts}
use Rattle.ftl_lexer.proofs.quotes.unquoted.Goals as goal

pub returns-clause-whole : goal.returns-clause-whole
returns-clause-whole c = (unquoted_parts c.args.text.now c.requires).0

pub returns-clause-inside : goal.returns-clause-inside
returns-clause-inside c = (unquoted_parts c.args.text.now c.requires).1
