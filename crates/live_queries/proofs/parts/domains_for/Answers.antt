use Rattle.std.proofs.Common.{◌≡◌, ◌++◌, [], ◌∷◌, length, map, refl, sym, ap, ◌∙◌, arith}
use Rattle.object_store.specs.Contents.{catalog_of}
use Rattle.live_queries.specs.Written.{ids_for}
use Rattle.live_queries.proofs.NumberingLemmas.{between_no}
use Rattle.live_queries.proofs.PartLemmas.{one_more_domain, so_many}
use Rattle.live_queries.proofs.parts.domains_for.Goals as goal

pub variables-init : goal.variables-init
variables-init c =
    c.new-domains.ensures ∙ sym (ap (map (ids_for (catalog_of c.args.store.now) c.args.classes.now c.args.id c.args.variable)) between_no)

pub push-requires-clause-few : goal.push-requires-clause-few
push-requires-clause-few c =
    let many : length c.variables.domains ≡ c.variables.other =
    so_many (ids_for (catalog_of c.args.store.now) c.args.classes.now c.args.id c.args.variable) c.variables.other c.variables.domains c.variables.invariant in
    omega (arith, many, c.variables-test.true, c.requires)

pub variables-preserved : goal.variables-preserved
variables-preserved c =
    c.in_ok-push.ensures.ok
    ∙ (λ i. c.variables.invariant i ++ c.ids_for.ensures.value c.args.id refl i ∷ [])
    ∙ sym (one_more_domain (ids_for (catalog_of c.args.store.now) c.args.classes.now c.args.id c.args.variable) c.variables.other)
