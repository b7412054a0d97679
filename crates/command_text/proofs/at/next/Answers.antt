use Rattle.std.proofs.Common.{◌≡◌, ◌≤◌, length, sym, arith}
use Rattle.std.proofs.lemmas.List.{length-map}
use Rattle.ftl_lexer.specs.declared.kinds.Token.{Token}
use Rattle.ftl_lexer.specs.Tokens.{lexemes, tokens_of, bytes_of_token}
use Rattle.command_text.proofs.reader.StandingLemmas.{next_some, next_past}
use Rattle.command_text.proofs.at.next.Goals as goal

pub returns-clause-value : goal.returns-clause-value
returns-clause-value c = sym (next_some c.args.tokens.now c.args.at _ (sym c.in_ok-kind.ensures.value))

pub returns-then-at-len-clause-value : goal.returns-then-at-len-clause-value
returns-then-at-len-clause-value c =
    let count : length (lexemes c.args.tokens.now) ≡ length (tokens_of c.args.tokens.now) =
    length-map (tokens_of c.args.tokens.now) (λ (t : Token). (t.kind, bytes_of_token c.args.tokens.now t)) in
    let value : c.len.result ≡ length (tokens_of c.args.tokens.now) = c.len.ensures.value in
    let past : c.len.result ≤ c.args.at.place = c.if-at-len.true in
    sym (next_past c.args.tokens.now c.args.at (omega (arith, count, value, past)))
