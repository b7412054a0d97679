-- What is read agrees with the line, and what stands after a fault agrees as before.
use Rattle.ftl_lexer.proofs.Rooms.{agree_after}
use Rattle.ftl_lexer.proofs.buffer.Tokens.read.Goals as goal

pub invariant_of-self : goal.invariant_of-self
invariant_of-self c =
    agree_after c.read_into.result c.args.line.now c.self.inside.line c.self.inside.tokens c.read_into.new.held c.read_into.new.tokens
    c.requires c.self.invariant c.read_into.ensures.ok c.read_into.ensures.stands
