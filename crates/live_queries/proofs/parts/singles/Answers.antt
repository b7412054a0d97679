use Rattle.std.proofs.Common.{◌++◌, sym, ap, ◌∙◌}
use Rattle.std.specs.List.{flat_map}
use Rattle.object_store.specs.Contents.{catalog_of}
use Rattle.live_queries.specs.Written.{single_for}
use Rattle.live_queries.proofs.NumberingLemmas.{between_no}
use Rattle.live_queries.proofs.PartLemmas.{one_more_variable}
use Rattle.live_queries.proofs.parts.singles.Goals as goal

pub variables-init : goal.variables-init
variables-init c =
    c.new-singles.ensures.items ∙ sym (ap (flat_map (single_for (catalog_of c.args.store.now) c.args.classes.now c.args.object.now.class c.args.object.now.id)) between_no)

pub variables-preserved : goal.variables-preserved
variables-preserved c =
    c.in_ok-add_single.ensures ∙ ap (λ ss. ss ++ single_for (catalog_of c.args.store.now) c.args.classes.now c.args.object.now.class c.args.object.now.id c.variables.variable) c.variables.invariant
    ∙ sym (one_more_variable (single_for (catalog_of c.args.store.now) c.args.classes.now c.args.object.now.class c.args.object.now.id) c.variables.variable)
