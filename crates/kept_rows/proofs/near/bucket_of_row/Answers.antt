use Rattle.std.proofs.Common.{◌/◌, ◌+◌, ap, sym, ◌∙◌, max, arith}
use Rattle.tick_set.proofs.Between.{within_parts}
use Rattle.kept_rows.specs.Near.{bucket_at, may_have_number}
use Rattle.kept_rows.proofs.NearLemmas.{near-row}
use Rattle.kept_rows.proofs.near.bucket_of_row.Goals as goal

pub returns-clause-near : goal.returns-clause-near
returns-clause-near c = λ items has_long t len w m told.
    let parts = within_parts c.args.ends.lo c.args.ends.hi t w in
    near-row items c.args.width c.args.number c.args.ends.lo t parts.0 has_long c.args.size c.requires.size (omega (arith, c.requires.hi, parts.1))
    (ap (λ b. may_have_number items b c.args.number)
    (ap (λ n. bucket_at n (c.args.number / max c.args.width 1) c.args.size (c.args.ends.lo / c.args.size + 1)) len
    ∙ ap (λ n. bucket_at c.args.cells (c.args.number / n) c.args.size (c.args.ends.lo / c.args.size + 1)) (sym c.max.ensures)
    ∙ ap (λ n. bucket_at c.args.cells (c.args.number / c.max.result) c.args.size (n / c.args.size + 1)) (sym c.from.ensures)
    ∙ sym c.bucket_of.ensures.bucket) ∙ m) told
