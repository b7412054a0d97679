use Rattle.std.proofs.Common.{Some, None}
use Rattle.motion.specs.Timeline.{Epoch, state_at}
use Rattle.motion.specs.Cells.{changed}
use Rattle.std.specs.Option.{option_map}
use Rattle.object_store.proofs.EntryLemmas.{value_begun, put_ok, put_err}
use Rattle.object_store.proofs.objects.begin_at.Goals as goal

pub begin_with-requires-clause-after : goal.begin_with-requires-clause-after
begin_with-requires-clause-after c = value_begun c.args.objects.now.entries c.args.index c.index_mut-object.result.now c.args.now c.index_mut-object.ensures.value c.requires.after

pub returns-clause-ok : goal.returns-clause-ok
returns-clause-ok c =
    put_ok c.begin_with.result c.args.index (λ _. let p : Epoch = record { from = c.args.now; cells = Some c.args.cells.items } in p) c.args.objects.now.entries c.index_mut-object.result.now c.begin_with.new.self
    c.index_mut-object.ensures.value c.begin_with.ensures.ok c.begin_with.ensures.replaced

pub returns-clause-err : goal.returns-clause-err
returns-clause-err c =
    put_err c.begin_with.result c.args.index c.args.objects.now.entries c.index_mut-object.result.now c.begin_with.new.self
    c.index_mut-object.ensures.value c.begin_with.ensures.err
