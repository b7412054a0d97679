use Rattle.std.proofs.Common.{◌≡◌, ◌+◌, ◌≤◌, true, List, inr, map, sym, ap, subst, arith}
use Rattle.std.proofs.lemmas.Result.{err_from_is_err_and}
use Rattle.std.specs.Prelude.{is_some}
use Rattle.std.specs.List.{AllByRecursion}
use Rattle.command_text.specs.declared.command.Command.{Command}
use Rattle.command_text.specs.Journal.{Accepted}
use Rattle.command_text.specs.Tree.{command_view}
use Rattle.line_meaning.specs.Import.{with_entry}
use Rattle.reply_text.specs.Begins.{Begins}
use Rattle.reply_text.proofs.BeginLemmas.{begins_more, begins_through}
use Rattle.session.specs.Rows.{AreEntered, HasFirstCommands, HaveWrittenLines, IsRowCommand, journal_after_commands, looks_of_commands}
use Rattle.session.proofs.EnterLemmas.{one_more_entered, one_more_written, some_entered}
use Rattle.session.proofs.KeepLemmas.{keeps_through}
use Rattle.session.proofs.RowLemmas.{next_taken}
use Rattle.session.proofs.importing.enter_rows.Goals as goal

pub returns-in_err-enter_row-clause-begins : goal.returns-in_err-enter_row-clause-begins
returns-in_err-enter_row-clause-begins g c =
    let before = c.args.out.now.items in
    let w = c.rows.invariant.written in
    begins_through before c.rows.out.items c.enter_row.new.out.items (subst (Begins before) (sym w.out) (begins_more before w.said))
    c.enter_row.ensures.spends.within.begins

pub rows-preserved : goal.rows-preserved
rows-preserved g c =
    let start = c.args.state.now.journal in
    let cs = map command_view c.args.commands.now in
    let j = c.rows.state.journal in
    let new = c.enter_row.new.state.journal in
    let one = command_view c.in-Some.command.now in
    let later = map command_view c.in-Some.later.now in
    let before = c.args.out.now.items in
    let left = c.in-Some.ensures.cases.0 in
    let is : new ≡ with_entry j one = c.in_ok-enter_row.ensures.entered in
    let taken = next_taken j one later
    (subst (λ (xs : List Command). is_some (journal_after_commands j (map command_view xs)) ≡ true) left c.rows.invariant.taken) in
    let written = subst (λ (xs : List Command). HaveWrittenLines start cs j (map command_view xs) before c.rows.out.items) left c.rows.invariant.written in
    let most : c.rows.reads + looks_of_commands j (map command_view c.rows.rest.now) ≤ c.args.reads.now + looks_of_commands start cs = c.rows.invariant.most in
    let looks = ap (λ (xs : List Command). looks_of_commands j (map command_view xs)) left in
    let next = ap (λ (k : List Accepted). looks_of_commands k later) is in
    let row = c.enter_row.ensures.spends.within.most in
    let least = c.enter_row.ensures.spends.within.least in
    let was = c.rows.invariant.least in
    record {
      state = c.enter_row.ensures.state;
      indexes = keeps_through _ _ _ c.rows.invariant.indexes c.enter_row.ensures.indexes;
      rows = (subst (λ (xs : List Command). AllByRecursion IsRowCommand (map command_view xs)) left c.rows.invariant.rows).1;
      taken = subst (λ (k : List Accepted). is_some (journal_after_commands k later) ≡ true) (sym is) taken.1;
      entered = subst (λ (k : List Accepted). AreEntered start cs k later) (sym is)
          (one_more_entered start cs j one later taken.0
          (subst (λ (xs : List Command). AreEntered start cs j (map command_view xs)) left c.rows.invariant.entered));
      room = c.in_ok-enter_row.ensures.room;
      written = subst (λ (k : List Accepted). HaveWrittenLines start cs k later before c.enter_row.new.out.items) (sym is)
          (one_more_written start cs j one later before c.rows.out.items c.enter_row.new.out.items written
          c.in_ok-enter_row.ensures.told);
      least = omega (arith, least, was);
      most = omega (arith, most, looks, next, row);
    }

pub returns-in_err-enter_row-clause-indexes : goal.returns-in_err-enter_row-clause-indexes
returns-in_err-enter_row-clause-indexes g c = keeps_through _ _ _ c.rows.invariant.indexes c.enter_row.ensures.indexes

pub returns-in_err-enter_row-clause-entered : goal.returns-in_err-enter_row-clause-entered
returns-in_err-enter_row-clause-entered g c =
    let start = c.args.state.now.journal in
    let cs = map command_view c.args.commands.now in
    let j = c.rows.state.journal in
    let one = command_view c.in-Some.command.now in
    let later = map command_view c.in-Some.later.now in
    let left = c.in-Some.ensures.cases.0 in
    let entered = subst (λ (xs : List Command). AreEntered start cs j (map command_view xs)) left c.rows.invariant.entered in
    let p = err_from_is_err_and c.from_residual-in_err-enter_row.result c.from_residual-in_err-enter_row.ensures.1 in
    rw p.1
    (inr (subst (λ (k : List Accepted). HasFirstCommands start cs k) (sym c.in_err-enter_row.ensures.err) (some_entered start cs j one later entered)))
