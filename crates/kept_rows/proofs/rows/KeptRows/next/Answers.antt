use Rattle.std.proofs.Common.{◌+◌, ◌*◌, ◌/◌, ◌%◌, refl, subst, inl, inr, arith}
use Rattle.std.proofs.lemmas.Bool.{cases_lt}
use Rattle.kept_rows.specs.Filled.{AreFilled}
use Rattle.kept_rows.specs.Listing.{HaveNone, IsNext}
use Rattle.kept_rows.specs.Rows.{row_has}
use Rattle.kept_rows.proofs.NextLemmas.{below-if, next-found, none-below, none-upto, past-if}
use Rattle.kept_rows.proofs.rows.KeptRows.next.Goals as goal

pub returns-in-Some-next-clause-some : goal.returns-in-Some-next-clause-some
returns-in-Some-next-clause-some g c =
    below-if c.number_below.result (c.pages.number / 16 * 16 + c.in-Some-next.found) c.args.to (IsNext (row_has g.S.TickSet.member c.args.self.now) c.args.from c.args.to) c.number_below.ensures
    (next-found g.S.TickSet.member c.args.self.now c.in-Some.page.now c.args.from c.args.to (c.pages.number / 16) (c.pages.number % 16) c.in-Some-next.found (c.pages.number / 16 * 16 + c.in-Some-next.found)
    c.in-Some.ensures.some.1 (omega (arith, c.pages.invariant.from)) (λ n t h k. c.pages.invariant.before n t h (omega (arith, k))) c.in-Some-next.ensures.some refl)

pub returns-in-Some-next-clause-none : goal.returns-in-Some-next-clause-none
returns-in-Some-next-clause-none g c =
    past-if c.number_below.result (c.pages.number / 16 * 16 + c.in-Some-next.found) c.args.to (HaveNone (row_has g.S.TickSet.member c.args.self.now) c.args.from c.args.to) c.number_below.ensures
    (none-below g.S.TickSet.member c.args.self.now c.in-Some.page.now c.args.from c.args.to (c.pages.number / 16) (c.pages.number % 16) c.in-Some-next.found
    c.in-Some.ensures.some.1 (λ n t h k. c.pages.invariant.before n t h (omega (arith, k))) c.in-Some-next.ensures.some)

pub pages-init : goal.pages-init
pages-init g c =
    let filled : AreFilled (row_has g.S.TickSet.member c.args.self.now) c.self.inside.filled =
    subst (λ xs. AreFilled (row_has g.S.TickSet.member xs) c.self.inside.filled) c.self.view_is c.self.invariant.3 in
    record {
      from = c.past_none-number.ensures.least;
      small = c.past_none-number.ensures.most;
      before = λ n t h k. c.past_none-number.ensures.none (row_has g.S.TickSet.member c.args.self.now) filled n t h k;
    }

pub pages-preserved : goal.pages-preserved
pages-preserved g c =
    let filled : AreFilled (row_has g.S.TickSet.member c.args.self.now) c.self.inside.filled =
    subst (λ xs. AreFilled (row_has g.S.TickSet.member xs) c.self.inside.filled) c.self.view_is c.self.invariant.3 in
    record {
      from = omega (arith, c.pages.invariant.from, c.past_none-number-in-Some.ensures.least);
      small = c.past_none-number-in-Some.ensures.most;
      before = λ n t h k.
          elim (cases_lt n (c.pages.number / 16 * 16 + 16)) [
            | inl l ↦
                none-upto g.S.TickSet.member c.args.self.now c.in-Some.page.now c.args.from (c.pages.number / 16) (c.pages.number % 16) 16
                c.in-Some.ensures.some.1 (omega arith) (λ m u i j. c.pages.invariant.before m u i (omega (arith, j)))
                (λ j u i _. c.in_default-next.ensures.none j u i) n t h l
            | inr l ↦ c.past_none-number-in-Some.ensures.none (row_has g.S.TickSet.member c.args.self.now) filled n t (omega (arith, l)) k
          ];
    }
