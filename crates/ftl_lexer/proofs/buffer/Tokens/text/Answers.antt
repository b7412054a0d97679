-- The token that is stored lies in the line, and its bytes are the text.
use Rattle.std.proofs.Common.{ap, ◌∙◌}
use Rattle.ftl_lexer.specs.Tokens.{tokens_of}
use Rattle.ftl_lexer.proofs.Spans.{stored_span, stored_text}
use Rattle.ftl_lexer.proofs.buffer.Tokens.text.Goals as goal

pub part-requires-clause-ascend : goal.part-requires-clause-ascend
part-requires-clause-ascend c =
    (stored_span c.args.self.now c.self.inside.tokens.items c.args.i c.index-token.result.now
    (c.self.invariant.0 ∙ ap tokens_of c.self.view_is) c.index-token.ensures c.requires).0

pub part-requires-clause-within : goal.part-requires-clause-within
part-requires-clause-within c =
    rw (c.deref.ensures.value, c.self.view_is)
    (stored_span c.args.self.now c.self.inside.tokens.items c.args.i c.index-token.result.now
    (c.self.invariant.0 ∙ ap tokens_of c.self.view_is) c.index-token.ensures c.requires).1

pub returns : goal.returns
returns c =
    rw (c.part.ensures, c.deref.ensures.value, c.self.view_is)
    (stored_text c.args.self.now c.self.inside.tokens.items c.args.i c.index-token.result.now
    (c.self.invariant.0 ∙ ap tokens_of c.self.view_is) c.index-token.ensures c.requires)
