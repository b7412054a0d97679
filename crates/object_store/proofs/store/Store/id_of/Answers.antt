use Rattle.std.proofs.Common.{sym, arith}
use Rattle.object_store.specs.Tables.{contents_of}
use Rattle.object_store.proofs.SizeLemmas.{few_indexes}
use Rattle.object_store.proofs.store.Store.id_of.Goals as goal

pub overflow_cast-result : goal.overflow_cast-result
overflow_cast-result c =
    omega (arith, few_indexes (contents_of c.self.inside.tables) c.args.name.now c.in-Some.index c.self.invariant.kept.sound (sym c.in-Some.ensures.index))
