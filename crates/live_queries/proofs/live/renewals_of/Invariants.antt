use Rattle.std.proofs.Common.{◌≡◌, ◌+◌, ◌≤◌, List, ◌++◌, length}
use Rattle.std.specs.Prelude.{All}
use Rattle.object_store.specs.Contents.{catalog_of}
use Rattle.atoms.specs.Asked.{told_world}
use Rattle.live_queries.specs.declared.fresh.Renewal.{Renewal}
use Rattle.live_queries.specs.Asked.{FitsWorld, HaveObjectsBefore, class_in}
use Rattle.live_queries.specs.Effort.{all_judged_reads}
use Rattle.live_queries.specs.Missed.{IsSightOf}
use Rattle.live_queries.specs.Prepared.{AreFreshFor, ArePrepared}
use Rattle.live_queries.proofs.live.renewals_of.Given as goal

-- what is prepared so far and for the rest is prepared for all, and so are the looks
abbrev pub invariant-queries : goal.invariant-queries
invariant-queries g l = record {
  fits : All (FitsWorld (told_world l.present.world.now)) l.rest;
  before : HaveObjectsBefore l.id (catalog_of l.present.world.now.store.now) l.rest;
  prepared : (more : List Renewal) → ArePrepared (class_in l.present.world.now.store.now l.id) l.rest more → ArePrepared (class_in l.present.world.now.store.now l.id) l.queries (l.made.renewals ++ more);
  fresh : (more : List Renewal) → AreFreshFor (told_world l.present.world.now) l.id (class_in l.present.world.now.store.now l.id) l.present.tick l.rest more
      → AreFreshFor (told_world l.present.world.now) l.id (class_in l.present.world.now.store.now l.id) l.present.tick l.queries (l.made.renewals ++ more);
  many : length l.made.renewals + length l.rest ≡ length l.queries;
  least : l.fn.reads ≤ l.reads;
  most : l.reads + all_judged_reads (catalog_of l.present.world.now.store.now) l.rest l.present.tick (class_in l.present.world.now.store.now l.id)
      ≤ l.fn.reads + all_judged_reads (catalog_of l.present.world.now.store.now) l.queries l.present.tick (class_in l.present.world.now.store.now l.id);
  sight : IsSightOf l.present.world.now.store.now l.id l.made.sight;
}

abbrev pub decreases-queries : goal.decreases-queries
decreases-queries g l = length l.rest
