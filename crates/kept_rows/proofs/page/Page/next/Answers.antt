use Rattle.std.proofs.Common.{◌≡◌, ◌≤◌, true, false, length, sym, ◌∙◌, arith}
use Rattle.std.proofs.lemmas.Bool.{both_ways, not-false, not-true}
use Rattle.kept_rows.proofs.NextLemmas.{get-below, get-none, none-more, none-past, page-small, page_has-at}
use Rattle.kept_rows.proofs.page.Page.next.Goals as goal

pub returns-then-not-is_empty-clause-some : goal.returns-then-not-is_empty-clause-some
returns-then-not-is_empty-clause-some g c =
    let some : c.is_empty.result ≡ false = grind (arith, not-true, c.if-not-is_empty.true) in
    let few : length c.args.self.now ≤ 16 = page-small c.args.self.now c.in-Some.ensures.page in
    record {
      least = c.cells.invariant.from;
      below = omega (arith, few, get-below c.args.self.now c.cells.at c.in-Some.ticks.now (sym c.in-Some.ensures.value));
      before = c.cells.invariant.before;
      tick = λ none. both_ways c.is_empty.result some
          (c.is_empty.ensures.1 (λ t. sym (page_has-at g.S.TickSet.member c.args.self.now c.cells.at t c.in-Some.ticks.now (sym c.in-Some.ensures.value)) ∙ none t));
    }

pub cells-preserved : goal.cells-preserved
cells-preserved g c =
    let none : c.is_empty.result ≡ true = grind (arith, not-false, c.if-not-is_empty.false) in
    record {
      from = omega (arith, c.cells.invariant.from);
      before = none-more g.S.TickSet.member c.args.self.now c.args.from c.cells.at c.in-Some.ticks.now c.cells.invariant.before (sym c.in-Some.ensures.value) (c.is_empty.ensures.0 none);
    }

pub returns-clause-none : goal.returns-clause-none
returns-clause-none g c =
    none-past g.S.TickSet.member c.args.self.now c.args.from c.cells.at c.cells.invariant.before (get-none c.args.self.now c.cells.at (sym c.in_default.ensures.value))
