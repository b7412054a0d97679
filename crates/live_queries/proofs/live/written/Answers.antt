use Rattle.std.proofs.Common.{ℕ, ◌≤◌, List, length, sym, subst}
use Rattle.std.specs.List.Sorted.{IsStrictlyIncreasing}
use Rattle.object_store.specs.Contents.{catalog_of, ids_in}
use Rattle.answers.proofs.ObjectLemmas.{ids_ascend}
use Rattle.live_queries.proofs.MissedLemmas.{few_of_class}
use Rattle.live_queries.proofs.live.written.Goals as goal

pub place_among-requires-clause-ascending : goal.place_among-requires-clause-ascending
place_among-requires-clause-ascending c =
    subst IsStrictlyIncreasing (sym c.class_names-ids.ensures.told) (ids_ascend (catalog_of c.args.store.now) c.class_of-class.result)

pub place_among-requires-clause-other : goal.place_among-requires-clause-other
place_among-requires-clause-other c =
    subst (λ (xs : List ℕ). length xs ≤ c.object_count.result) (sym c.class_names-ids.ensures.ids)
    (subst (λ (n : ℕ). length (ids_in c.args.store.now.objects c.class_of-class.result) ≤ n) (sym c.object_count.ensures.value) (few_of_class c.args.store.now.objects c.class_of-class.result))
