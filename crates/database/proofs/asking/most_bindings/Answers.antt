use Rattle.std.proofs.Common.{◌≡◌, ◌*◌, ℕ, map, min, sym, ap, ◌∙◌, arith}
use Rattle.std.specs.Prelude.{◌-◌, ◌^◌}
use Rattle.std.proofs.Math.Nat.{mul_assoc}
use Rattle.ftl_parser.specs.declared.tree.FromPart.{FromPart}
use Rattle.ftl_typer.specs.Resolved.{class_place}
use Rattle.history.specs.Catalog.{capacity_of, product_of}
use Rattle.database.proofs.AskLemmas.{product_done, product_saturated}
use Rattle.database.proofs.asking.most_bindings.Goals as goal

pub parts-preserved : goal.parts-preserved
parts-preserved c =
    let cap = capacity_of c.args.schema.now in
    let place : FromPart → ℕ = λ part. class_place c.args.schema.now part.class in
    let left = product_of (map cap (map place c.in-Some.later.now)) in
    let own = cap (place c.in-Some.part.now) in
    let next : c.saturating_mul-bindings.result ≡ min (c.parts.bindings * own) (2 ^ 64 - 1)
    = c.saturating_mul-bindings.ensures ∙ ap (λ k. min (c.parts.bindings * k) (2 ^ 64 - 1)) (c.from.ensures ∙ c.capacity_of.ensures) in
    record {
      fits = omega (arith, next);
      all = ap (λ n. min (n * left) (2 ^ 64 - 1)) next
          ∙ product_saturated (c.parts.bindings * own) left (2 ^ 64 - 1)
          ∙ ap (λ n. min n (2 ^ 64 - 1)) (mul_assoc c.parts.bindings own left)
          ∙ ap (λ ps. min (c.parts.bindings * product_of (map cap (map place ps))) (2 ^ 64 - 1)) (sym c.in-Some.ensures.cases.0)
          ∙ c.parts.invariant.all;
    }

pub returns : goal.returns
returns c =
    product_done (λ (part : FromPart). class_place c.args.schema.now part.class) (capacity_of c.args.schema.now) c.parts.rest.now
    c.parts.bindings (2 ^ 64 - 1) _ c.in_default.ensures.cases c.parts.invariant.fits c.parts.invariant.all
