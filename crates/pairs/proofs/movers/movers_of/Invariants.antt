use Rattle.std.proofs.Common.{◌≡◌, ◌+◌, ◌≤◌, map, take}
use Rattle.std.specs.Prelude.{All}
use Rattle.pairs.specs.Pairs.{IsMover}
use Rattle.pairs.specs.declared.movers.Mover.{Mover}
use Rattle.pairs.proofs.movers.movers_of.Given as goal

abbrev pub invariant-ids : goal.invariant-ids
invariant-ids g l = record {
  ids : map (λ (m : Mover). m.id) l.movers.items ≡ take l.id-index l.ids;
  movers : All (IsMover l.store l.w.lo l.w.hi) l.movers.items;
  least : l.initial.reads ≤ l.reads;
  most : l.reads ≤ l.initial.reads + l.id-index;
}
