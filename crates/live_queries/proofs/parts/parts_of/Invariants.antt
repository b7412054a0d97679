use Rattle.std.proofs.Common.{◌+◌, ◌-◌, ◌≤◌, List, ◌++◌, length}
use Rattle.std.specs.Prelude.{All, sum_by}
use Rattle.formula.specs.Tree.{resolved_view}
use Rattle.meaning.specs.Reads.{query_reads}
use Rattle.object_store.specs.Contents.{catalog_of}
use Rattle.relation.specs.Frames.{domain_size}
use Rattle.atoms.specs.Asked.{told_world}
use Rattle.answers.specs.Objects.{AreOfItsClasses}
use Rattle.live_queries.specs.declared.parts.Part.{Part}
use Rattle.live_queries.specs.Written.{ArePartsOf}
use Rattle.live_queries.proofs.parts.parts_of.Given as goal

-- the relations so far and those of the rest are those of all, and so are the looks
abbrev pub invariant-singles : goal.invariant-singles
invariant-singles g l = record {
  domains : All (λ s. AreOfItsClasses (catalog_of l.judged.world.now.store.now) (resolved_view l.judged.query.now) s.domains) l.rest;
  made : (more : List Part) → ArePartsOf (told_world l.judged.world.now) (resolved_view l.judged.query.now) l.judged.w.lo l.judged.w.hi l.rest more
      → ArePartsOf (told_world l.judged.world.now) (resolved_view l.judged.query.now) l.judged.w.lo l.judged.w.hi l.singles (l.parts.items ++ more);
  least : l.fn.reads ≤ l.reads;
  most : l.reads + sum_by (λ s. query_reads (domain_size s.domains) (l.judged.w.hi + 1 - l.judged.w.lo) (resolved_view l.judged.query.now)) l.rest
      ≤ l.fn.reads + sum_by (λ s. query_reads (domain_size s.domains) (l.judged.w.hi + 1 - l.judged.w.lo) (resolved_view l.judged.query.now)) l.singles;
}

abbrev pub decreases-singles : goal.decreases-singles
decreases-singles g l = length l.rest
