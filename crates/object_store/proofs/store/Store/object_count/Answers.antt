use Rattle.std.proofs.Common.{arith}
use Rattle.std.proofs.lemmas.List.{length-map}
use Rattle.object_store.specs.ObjectView.{stored}
use Rattle.object_store.specs.Tables.{contents_of}
use Rattle.object_store.proofs.SizeLemmas.{few_objects}
use Rattle.object_store.proofs.store.Store.object_count.Goals as goal

pub overflow_cast-result : goal.overflow_cast-result
overflow_cast-result c =
    omega (arith, c.len.ensures.len, length-map c.self.inside.tables.objects.entries stored, few_objects (contents_of c.self.inside.tables) c.self.invariant.kept.sound)
