use Rattle.std.proofs.Common.{rules, sym, subst, ◌∙◌}
use Rattle.std.specs.Prelude.{◌||◌}
use Rattle.std.proofs.lemmas.Fn.{filter_same}
use Rattle.object_store.specs.ObjectView.{objects_of}
use Rattle.object_store.specs.Placing.{is_in_class}
use Rattle.object_store.specs.Run.{is_in_run}
use Rattle.object_store.specs.Searching.{AreFrom}
use Rattle.object_store.proofs.AreaLemmas.{ids_ascend}
use Rattle.object_store.proofs.RunLemmas.{filter_either}
use Rattle.object_store.proofs.candidates.of_class.Goals as goal

pub run_of-run-requires : goal.run_of-run-requires
run_of-run-requires c = subst (AreFrom 0) (sym c.requires) (ids_ascend (objects_of c.args.among.now.objects.now.entries) c.args.among.now.class)

pub returns : goal.returns
returns c =
    let objects = objects_of c.args.among.now.objects.now.entries in
    let run = c.run_of-run.result in
    filter_same _ (λ id. is_in_run run id || is_in_class objects c.args.among.now.class id) _ (λ x b f' k. search rules) _ _ c.retain.ensures.filtered
    ∙ filter_either objects c.args.among.now.class c.args.among.now.own.now c.requires run c.args.numbers.items c.run_of-run.ensures
