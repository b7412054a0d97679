use Rattle.std.proofs.Common.{◌≡◌, take}
use Rattle.std.specs.List.{filter}
use Rattle.relation.specs.Key.{has_id}
use Rattle.narrowing.proofs.lists.common.Given as goal

abbrev pub invariant-ids : goal.invariant-ids
invariant-ids l = l.both.items ≡ filter (has_id l.others) (take l.id-index l.ids)
