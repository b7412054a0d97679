use Rattle.std.proofs.Common.{ap, sym, ◌∙◌}
use Rattle.std.specs.List.{position}
use Rattle.std.specs.Str.{bytes_eq}
use Rattle.std.proofs.lemmas.Result.{err_from_is_err_and}
use Rattle.database.proofs.FileLemmas.{unknown_by}
use Rattle.database.proofs.database.Database.export_text.Goals as goal

pub returns-in_err-text-clause-cause : goal.returns-in_err-text-clause-cause
returns-in_err-text-clause-cause g c =
    let p = err_from_is_err_and c.from_residual.result c.from_residual.ensures.1 in
    rw (p.1, p.2)
    (ap unknown_by ((λ i. position (λ k. bytes_eq c.args.class.now k.name) (sym c.schema.ensures i)) ∙ sym c.class_of.ensures ∙ c.in-Some.is))
