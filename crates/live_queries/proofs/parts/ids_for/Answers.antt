use Rattle.std.proofs.Common.{sym, subst}
use Rattle.std.specs.List.Sorted.{IsStrictlyIncreasing}
use Rattle.object_store.specs.Contents.{catalog_of}
use Rattle.answers.proofs.ObjectLemmas.{ids_ascend}
use Rattle.live_queries.proofs.parts.ids_for.Goals as goal

pub returns-clause-ascending : goal.returns-clause-ascending
returns-clause-ascending c =
    subst IsStrictlyIncreasing (sym c.class_names.ensures.told) (ids_ascend (catalog_of c.args.store.now) _)
