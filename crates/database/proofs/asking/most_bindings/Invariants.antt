use Rattle.std.proofs.Common.{◌≡◌, ◌*◌, ◌≤◌, length, map}
use Rattle.std.specs.Prelude.{◌-◌, ◌^◌, min}
use Rattle.ftl_typer.specs.Resolved.{class_place}
use Rattle.history.specs.Catalog.{capacity_of, product_of}
use Rattle.database.proofs.asking.most_bindings.Given as goal

-- the bindings of the parts so far and the product of those that are left make all
abbrev pub invariant-parts : goal.invariant-parts
invariant-parts l = record {
  fits : l.bindings ≤ 2 ^ 64 - 1;
  all :
      min (l.bindings * product_of (map (capacity_of l.schema) (map (λ part. class_place l.schema part.class) l.rest))) (2 ^ 64 - 1)
      ≡ min (product_of (map (capacity_of l.schema) (map (λ part. class_place l.schema part.class) l.parts))) (2 ^ 64 - 1);
}

abbrev pub decreases-parts : goal.decreases-parts
decreases-parts l = length l.rest
