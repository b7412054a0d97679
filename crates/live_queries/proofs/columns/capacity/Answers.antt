use Rattle.std.proofs.Common.{ℕ, ◌≤◌, List, length, sym, ap, ◌∙◌, subst}
use Rattle.std.specs.Prelude.{slice_get}
use Rattle.history.specs.Catalog.{ClassInfo}
use Rattle.object_store.specs.Contents.{ids_in}
use Rattle.live_queries.proofs.columns.capacity.Goals as goal

pub returns-clause-room : goal.returns-clause-room
returns-clause-room c =
    subst (λ (n : ℕ). length (ids_in c.args.store.now.objects c.args.class) ≤ n) (sym c.capacity.ensures.value)
    (c.object_count.ensures.sound.objects.within c.args.class c.in-Some.class.now (ap (λ (ks : List ClassInfo). slice_get ks c.args.class) (sym c.schema.ensures) ∙ sym c.in-Some.ensures))
