use Rattle.std.proofs.Common.{◌≡◌, take, map}
use Rattle.ftl_parser.specs.declared.tree.FromPart.{FromPart}
use Rattle.ftl_typer.specs.Resolved.{class_place}
use Rattle.ftl_typer.proofs.building.build_classes.Given as goal

abbrev pub invariant-loop-part : goal.invariant-loop-part
invariant-loop-part l = l.classes ≡ map (λ (part : FromPart). class_place l.schema part.class) (take l.part-index l.parts)
