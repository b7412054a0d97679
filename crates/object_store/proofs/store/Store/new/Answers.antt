-- A new store has no object, so that each horizon tells where each of them is.
use Rattle.std.proofs.Common.{rules}
use Rattle.object_store.proofs.PlaceLemmas.{all_placed}
use Rattle.object_store.proofs.store.Store.new.Goals as goal

pub invariant_of-result : goal.invariant_of-result
invariant_of-result c = record { kept = search rules; placed = all_placed c.new-5.result _ c.new-5.ensures (search rules) }
