use Rattle.std.proofs.Common.{ap, sym, ◌∙◌}
use Rattle.std.proofs.lemmas.List.Elements.{All-head, All-rest}
use Rattle.kept_rows.specs.Rows.{row_has}
use Rattle.kept_rows.specs.Changes.{IsReady, rows_after, with_row}
use Rattle.kept_rows.proofs.ChangeLemmas.{after-alike, all-ready-stay}
use Rattle.kept_rows.proofs.change.Changes.commit.Goals as goal

pub put-requires-clause-page : goal.put-requires-clause-page
put-requires-clause-page g c =
    (All-head (IsReady g.S.TickSet.member c.changes.kept) c.in-Some.change c.next.new.self.rest.items (rw c.in-Some.ensures.steps.0 at c.changes.invariant.ready)).page

pub put-requires-clause-blank : goal.put-requires-clause-blank
put-requires-clause-blank g c =
    (All-head (IsReady g.S.TickSet.member c.changes.kept) c.in-Some.change c.next.new.self.rest.items (rw c.in-Some.ensures.steps.0 at c.changes.invariant.ready)).blank

pub changes-preserved : goal.changes-preserved
changes-preserved g c = record {
  next = tt;
  finite = tt;
  ready = all-ready-stay g.S.TickSet.member c.changes.kept c.put.new.self c.put.ensures.len c.put.ensures.made c.next.new.self.rest.items
      (All-rest (IsReady g.S.TickSet.member c.changes.kept) c.in-Some.change c.next.new.self.rest.items c.changes.change-iterator.rest.items c.in-Some.ensures.steps.0 c.changes.invariant.ready);
  len = c.put.ensures.len ∙ c.changes.invariant.len;
  rows = λ n t.
      after-alike g.S.TickSet.member c.next.new.self.rest.items (row_has g.S.TickSet.member c.put.new.self) (with_row g.S.TickSet.member c.in-Some.change (row_has g.S.TickSet.member c.changes.kept)) c.put.ensures.rows n t
      ∙ ap (λ xs. rows_after g.S.TickSet.member xs (row_has g.S.TickSet.member c.changes.kept) n t) (sym c.in-Some.ensures.steps.0)
      ∙ c.changes.invariant.rows n t;
}
