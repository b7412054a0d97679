use Rattle.std.proofs.Common.{◌≡◌}
use Rattle.std.specs.List.{AllByRecursion}
use Rattle.session.specs.Rows.{IsImportedRow}
use Rattle.session.specs.Trial.{IsStack, IsTrial, TellsTrial, bottom}
use Rattle.session.proofs.trying.try_rows.Given as goal

-- the rows so far are taken, and the rest is judged after them
abbrev pub invariant-rows : goal.invariant-rows
invariant-rows l = record {
  next : goal.iterator-rows.can_next l.row-iterator;
  finite : goal.iterator-rows.is_finite l.row-iterator;
  rows : AllByRecursion (IsImportedRow l.class) l.row-iterator.rest.items;
  told : TellsTrial l.journal l.database l.trial;
  trial : IsTrial l.class l.journal l.fn.rows.items l.row-iterator.rest.items l.trial;
  stack : IsStack l.trial.changes.items l.database;
  back : bottom l.trial.changes.items l.database ≡ l.fn.database;
}
