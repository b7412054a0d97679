use Rattle.std.proofs.Common.{sym}
use Rattle.ftl_parser.specs.Piece.{pieces_from}
use Rattle.ftl_parser.proofs.reader.TableLemmas.{unmarked-token}
use Rattle.ftl_parser.proofs.scan.is_marked.Goals as goal

pub returns-in_default : goal.returns-in_default
returns-in_default c =
    sym (unmarked-token c.args.before c.args.kind c.args.bytes.now (pieces_from c.args.next c.args.tokens.now) c.in_default.not-Number)
