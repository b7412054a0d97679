-- What stands around a part of a query.
use Rattle.std.specs.Prelude.{List}
use Rattle.geometry.specs.Region.{Region}
use Rattle.history.specs.Catalog.{ClassInfo}
use Rattle.ftl_parser.specs.declared.tree.FromPart.{FromPart}
use Rattle.ftl_typer.specs.declared.values.Assigned.{Assigned}
use Rattle.ftl_typer.specs.Scope.{NameScope, scope_with}

-- the classes and regions that there are, the parts of FROM, and the value variables, the innermost last
pub record Context : Type 0 where
  pub classes : List ClassInfo
  pub regions : List Region
  pub from : List FromPart
  pub values : List Assigned

-- what names stand for there
unfoldable pub scope_in : Context → NameScope
scope_in a = scope_with a.classes a.regions a.from a.values
