use Rattle.std.proofs.Common.{arith, inl, inr}
use Rattle.std.proofs.lemmas.Bool.{both_ways, cases_lt}
use Rattle.kept_rows.specs.Rows.{row_has}
use Rattle.kept_rows.proofs.NearLemmas.{filed-more, row-past}
use Rattle.kept_rows.proofs.near.Near.new.Goals as goal

pub returns-then-pages-gt-MOST_PAGES : goal.returns-then-pages-gt-MOST_PAGES
returns-then-pages-gt-MOST_PAGES g c = c.none.ensures (row_has g.S.TickSet.member c.args.pages.now)

pub numbers-preserved : goal.numbers-preserved
numbers-preserved g c =
    filed-more (row_has g.S.TickSet.member c.args.pages.now) c.numbers.number c.numbers.near c.file.new.self c.ends_of_row-ends.result
    c.ends_of_row-ends.ensures.some c.ends_of_row-ends.ensures.none c.file.ensures.others c.file.ensures.here c.numbers.invariant

pub returns : goal.returns
returns g c = λ n t e.
    elim (cases_lt n c.numbers.number) [
      | inl l ↦ c.numbers.invariant n t l e
      | inr l ↦ absurd (both_ways (row_has g.S.TickSet.member c.args.pages.now n t) (row-past g.S.TickSet.member c.args.pages.now n t (omega (arith, l))) e)
    ]
