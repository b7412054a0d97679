use Rattle.ftl_lexer.proofs.Longest as lemma
use Rattle.ftl_lexer.proofs.laws.tokens_are_tokens.Goals as goal

pub returns-clause-tokens : goal.returns-clause-tokens
returns-clause-tokens c = lemma.tokens_are_tokens
