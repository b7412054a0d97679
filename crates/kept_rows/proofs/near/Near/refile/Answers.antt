use Rattle.std.proofs.Common.{eqb, ap, ◌∙◌}
use Rattle.kept_rows.specs.Near.{may_have_tick}
use Rattle.kept_rows.proofs.NearLemmas.{any-here, near-when-empty}
use Rattle.kept_rows.proofs.near.Near.refile.Goals as goal

pub returns-then-is_empty-clause-here : goal.returns-then-is_empty-clause-here
returns-then-is_empty-clause-here c =
    any-here c.args.new (λ t. may_have_tick c.args.self.now c.args.number t)
    (λ t. near-when-empty c.args.self.now c.is_empty.result c.args.number t (c.is_empty.ensures ∙ ap (λ n. eqb n 0) c.args.self.now.cells.ok.0) c.if-is_empty.true)
