-- Each token of the line has the form of its kind.
use Rattle.std.proofs.Common.{sym, ◌∙◌}
use Rattle.ftl_lexer.proofs.Shapes.{lexeme_form}
use Rattle.ftl_lexer.proofs.buffer.Tokens.lexeme.Goals as goal

pub returns-clause-form : goal.returns-clause-form
returns-clause-form c = lexeme_form c.args.self.now c.args.i c.in_ok-token.token c.text.result.now (sym c.get.ensures ∙ c.in_ok-token.was) c.text.ensures
