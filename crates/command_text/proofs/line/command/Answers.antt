use Rattle.std.proofs.Common.{Some, sym, ◌∙◌, ap}
use Rattle.command_text.specs.Piece.{piece_of}
use Rattle.command_text.specs.inner.Standing.{standing}
use Rattle.command_text.proofs.reader.LineLemmas.{blank_whole, begun_by_key, begun_by_name, nothing_begun, other_token}
use Rattle.command_text.proofs.line.command.Goals as goal

pub returns-in_default : goal.returns-in_default
returns-in_default c = blank_whole c.args.tokens.now (sym c.in_default.ensures.value)

pub returns-in-Key : goal.returns-in-Key
returns-in-Key c =
    begun_by_key c.args.tokens.now c.in-Key.code c.in-Some.text.now (standing c.args.tokens.now c.in-Some.at) c.by_key.result
    (sym c.in-Some.ensures.value ∙ ap (λ k. Some (piece_of k c.in-Some.text.now, standing c.args.tokens.now c.in-Some.at)) c.in-Key.is)
    c.by_key.ensures

pub returns-in-Name : goal.returns-in-Name
returns-in-Name c =
    begun_by_name c.args.tokens.now c.in-Some.text.now (standing c.args.tokens.now c.in-Some.at) c.by_name.result
    (sym c.in-Some.ensures.value ∙ ap (λ k. Some (piece_of k c.in-Some.text.now, standing c.args.tokens.now c.in-Some.at)) c.in-Name.is)
    c.by_name.ensures

pub returns-in_default-kind : goal.returns-in_default-kind
returns-in_default-kind c =
    nothing_begun c.args.tokens.now (piece_of c.in-Some.kind c.in-Some.text.now, standing c.args.tokens.now c.in-Some.at) c.bad_syntax.result
    (sym c.in-Some.ensures.value)
    (other_token c.in-Some.kind c.in-Some.text.now (standing c.args.tokens.now c.in-Some.at) c.bad_syntax.result
    c.in_default-kind.not-Key c.in_default-kind.not-Name c.bad_syntax.ensures)
