use Rattle.atoms.proofs.RunLemmas.{inside_ends}
use Rattle.atoms.proofs.found.outside_of.Goals as goal

pub two_sides-requires-clause-first : goal.two_sides-requires-clause-first
two_sides-requires-clause-first c = (inside_ends c.args.span c.in-Some.inner c.args.run c.in-Some.is c.requires).0

pub two_sides-requires-clause-last : goal.two_sides-requires-clause-last
two_sides-requires-clause-last c = (inside_ends c.args.span c.in-Some.inner c.args.run c.in-Some.is c.requires).1
