use Rattle.std.proofs.lemmas.Bool.{iff_false}
use Rattle.relation.proofs.TableLemmas.{has_at-push, table_push}
use Rattle.relation.proofs.table.Relation.put.Goals as goal

pub invariant_of-self-2 : goal.invariant_of-self-2
invariant_of-self-2 g c =
    rw c.in_ok-push.ensures.items (table_push _ _ _ (record { key = c.args.key; set = c.args.set }) c.self.invariant c.self.view_is c.requires.above c.requires.inside c.requires.lies (iff_false c.is_empty.ensures c.if-is_empty.false))

pub returns-clause-ticks : goal.returns-clause-ticks
returns-clause-ticks g c =
    λ k t. rw (c.in_ok-push.ensures.items, ← c.self.view_is) (has_at-push g.S.TickSet.member _ (record { key = c.args.key; set = c.args.set }) k t)
