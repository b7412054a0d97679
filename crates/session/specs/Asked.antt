-- The command by which a query is registered.
use Rattle.command_text.specs.Tree
use Rattle.command_text.specs.Tree.{CommandTree}
use Rattle.ftl_parser.specs.Tree.{query_view}
use Rattle.formula.specs.declared.kind.QueryKind.{QueryKind}
use Rattle.formula.specs.declared.kind.QueryKind.TheVariants.{Keep, Watch}
use Rattle.registry.specs.declared.registering.Request.{Request}

abbrev pub command_by : QueryKind → Request → CommandTree
command_by Watch r = Tree.Watch r.name.now r.span (query_view r.query.now)
command_by Keep r = Tree.Keep r.name.now r.span (query_view r.query.now)

abbrev pub request_command : Request → CommandTree
request_command r = command_by r.kind r
