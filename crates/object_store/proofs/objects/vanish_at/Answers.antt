use Rattle.std.proofs.Common.{Some, None}
use Rattle.motion.specs.Timeline.{Epoch, state_at}
use Rattle.motion.specs.Cells.{changed}
use Rattle.std.specs.Option.{option_map}
use Rattle.object_store.proofs.EntryLemmas.{value_begun, put_ok, put_err}
use Rattle.object_store.proofs.objects.vanish_at.Goals as goal

pub vanish-requires-clause-after : goal.vanish-requires-clause-after
vanish-requires-clause-after c = value_begun c.args.objects.now.entries c.args.index c.index_mut-object.result.now c.args.now c.index_mut-object.ensures.value c.requires.after

pub returns-clause-ok : goal.returns-clause-ok
returns-clause-ok c =
    put_ok c.vanish.result c.args.index (λ _. let p : Epoch = record { from = c.args.now; cells = None } in p) c.args.objects.now.entries c.index_mut-object.result.now c.vanish.new.self
    c.index_mut-object.ensures.value c.vanish.ensures.ok c.vanish.ensures.replaced

pub returns-clause-err : goal.returns-clause-err
returns-clause-err c =
    put_err c.vanish.result c.args.index c.args.objects.now.entries c.index_mut-object.result.now c.vanish.new.self
    c.index_mut-object.ensures.value c.vanish.ensures.err
