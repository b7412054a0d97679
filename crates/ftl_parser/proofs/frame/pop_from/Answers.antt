use Rattle.std.proofs.Common.{◌≡◌, ◌<◌, Some, vec_len, arith, rules}
use Rattle.ftl_parser.proofs.reader.StackLemmas.{popped}
use Rattle.ftl_parser.proofs.frame.pop_from.Goals as goal

-- the topmost frame is the one that is looked at
pub returns-in-Some : goal.returns-in-Some
returns-in-Some c =
    let some : 0 < vec_len c.args.stack.now = search rules in
    let read = c.pop.ensures.value c.in-Some.top.now some in
    let is : c.pop.result ≡ Some c.in-Some.top.now = cc (read, c.in-Some.ensures.item.1, c.deref.ensures.value) in
    popped _ c.in-Some.top.now _ _ _ is c.pop.ensures.items (omega arith)
