use Rattle.kept_rows.specs.declared.near.Near.{Near}
use Rattle.kept_rows.proofs.NearLemmas.{near-without-cells}
use Rattle.kept_rows.proofs.near.Near.file.Goals as goal

pub returns-then-number-eq-FREE-clause-others : goal.returns-then-number-eq-FREE-clause-others
returns-then-number-eq-FREE-clause-others c = λ n t e.
    let near : Near = record { width = c.args.self.now.width; has_long = c.args.self.now.has_long; cells = c.clear.new.self } in
    near-without-cells near n t c.clear.ensures.items
