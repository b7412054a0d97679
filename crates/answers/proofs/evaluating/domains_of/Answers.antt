use Rattle.std.proofs.Common.{sym, subst}
use Rattle.std.specs.List.Sorted.{IsStrictlyIncreasing}
use Rattle.object_store.specs.Contents.{catalog_of}
use Rattle.answers.proofs.ObjectLemmas.{ids_ascend}
use Rattle.answers.proofs.evaluating.domains_of.Goals as goal

pub push-requires-clause-ascending : goal.push-requires-clause-ascending
push-requires-clause-ascending c =
    subst IsStrictlyIncreasing (sym c.class_names.ensures.told) (ids_ascend (catalog_of c.args.store.now) _)
