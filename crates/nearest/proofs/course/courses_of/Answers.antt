use Rattle.std.proofs.Common.{ℕ, ◌<◌, List, length, sym, subst, arith}
use Rattle.std.specs.Prelude.{All}
use Rattle.nearest.proofs.RowLemmas.{ids_stored}
use Rattle.nearest.proofs.course.courses_of.Goals as goal

pub add_course-requires-clause-there : goal.add_course-requires-clause-there
add_course-requires-clause-there g c =
    let store = c.args.store.now in
    let AreStored : List ℕ → Type 0 = λ ids. All (λ id. id < length store.objects) ids in
    subst AreStored (sym c.class_names-id-items.ensures.ids) (ids_stored store c.args.class) c.objects.id-index 0 (omega arith)
