use Rattle.std.proofs.Common.{Some, None}
use Rattle.motion.specs.Timeline.{Epoch, state_at}
use Rattle.motion.specs.Cells.{changed}
use Rattle.std.specs.Option.{option_map}
use Rattle.object_store.proofs.EntryLemmas.{value_begun, put_ok, put_err}
use Rattle.object_store.proofs.objects.write_at.Goals as goal

pub write-requires-clause-after : goal.write-requires-clause-after
write-requires-clause-after c = value_begun c.args.objects.now.entries c.args.index c.index_mut-object.result.now c.args.now c.index_mut-object.ensures.value c.requires.after

pub returns-clause-ok : goal.returns-clause-ok
returns-clause-ok c =
    put_ok c.write.result c.args.index (λ epochs. let p : Epoch = record { from = c.args.now; cells = option_map (changed c.args.now c.args.changes.now) (state_at epochs c.args.now) } in p) c.args.objects.now.entries c.index_mut-object.result.now c.write.new.self
    c.index_mut-object.ensures.value c.write.ensures.ok c.write.ensures.replaced

pub returns-clause-err : goal.returns-clause-err
returns-clause-err c =
    put_err c.write.result c.args.index c.args.objects.now.entries c.index_mut-object.result.now c.write.new.self
    c.index_mut-object.ensures.value c.write.ensures.err
