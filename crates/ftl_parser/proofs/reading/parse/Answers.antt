use Rattle.ftl_parser.proofs.Names.{sym, ◌∙◌, ap, subst, IsLawful, lexemes_from, first_too_large, Tree, spelled_view}
use Rattle.ftl_parser.proofs.reader.Judged.{large-explained, reads}
use Rattle.ftl_parser.proofs.canonical.TextShapes.{reads_lawful}
use Rattle.ftl_parser.proofs.reading.parse.Goals as goal

-- the size that is told is the first that passes its limit
pub returns-in-Some-first_too_large-clause-cause : goal.returns-in-Some-first_too_large-clause-cause
returns-in-Some-first_too_large-clause-cause c =
    large-explained c.args.from (lexemes_from c.args.from c.args.tokens.now) (spelled_view c.in_ok-query.query) c.in_ok-query.ensures
    c.in-Some-first_too_large.size (sym c.in_default.ensures)
    (sym (c.in-Some-first_too_large.ensures ∙ ap (λ long. first_too_large long (spelled_view c.in_ok-query.query)) c.has_long.ensures))

-- what is read is lawful
pub returns-clause-lawful : goal.returns-clause-lawful
returns-clause-lawful c =
    let lawful : IsLawful (spelled_view c.in_ok-query.query) =
    reads_lawful c.args.from c.args.tokens.now (spelled_view c.in_ok-query.query)
    (reads c.args.from (lexemes_from c.args.from c.args.tokens.now) (spelled_view c.in_ok-query.query) c.in_ok-query.ensures
    (sym c.in_default.ensures)
    (sym (c.in_default-first_too_large.ensures ∙ ap (λ long. first_too_large long (spelled_view c.in_ok-query.query)) c.has_long.ensures))) in
    subst (λ (f : Tree). IsLawful (record { targets = c.in_ok-query.query.targets; from = c.in_ok-query.query.from; formula = f }))
    (sym c.into_formula.ensures) lawful
