-- The empty line has no tokens.
use Rattle.std.proofs.Common.{vec_capacity}
use Rattle.ftl_lexer.proofs.Rooms.{nothing_held}
use Rattle.ftl_lexer.proofs.buffer.Tokens.new.Goals as goal

pub invariant_of-result : goal.invariant_of-result
invariant_of-result c = nothing_held c.new.result.items c.new-2.result.items (vec_capacity c.new-2.result) c.new.ensures.items c.new-2.ensures.items
