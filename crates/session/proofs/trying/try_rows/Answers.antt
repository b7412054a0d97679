use Rattle.std.proofs.Common.{◌+◌, ap, ◌∙◌, arith}
use Rattle.std.specs.Prelude.{Ok}
use Rattle.session.proofs.TrialLemmas.{rest_each, row_taken, trial_off, trial_on}
use Rattle.session.proofs.trying.try_rows.Goals as goal

pub returns-then-not-branch-clause-not_all : goal.returns-then-not-branch-clause-not_all
returns-then-not-branch-clause-not_all c = λ _.
    trial_off c.args.class c.args.journal.now c.args.rows.items c.in-Some.row c.next.new.self.rest.items c.rows.row-iterator.rest.items c.in-Some.ensures.steps.0
    c.rows.trial c.try_command-tried.new.trial c.add.new.self c.rows.database c.try_command-tried.new.database
    c.rows.invariant.told c.rows.invariant.rows c.rows.invariant.trial c.row_command-command.result c.row_command-command.ensures
    c.try_command-tried.new.line.items (c.len.result + 1) (omega (arith, c.len.ensures)) c.try_command-tried.result c.add.result
    c.try_command-tried.ensures c.add.ensures (c.in_ok-add.was ∙ ap Ok c.if-not-branch.true)

pub rows-preserved : goal.rows-preserved
rows-preserved c =
    let start = c.args.journal.now in
    let rest = c.next.new.self.rest.items in
    let left-is = c.in-Some.ensures.steps.0 in
    let is = c.in_ok-add.was ∙ ap Ok c.if-not-branch.false in
    let next = row_taken c.args.class start c.args.rows.items c.in-Some.row rest c.rows.row-iterator.rest.items left-is
    c.rows.trial c.try_command-tried.new.trial c.add.new.self c.rows.database c.try_command-tried.new.database
    c.rows.invariant.told c.rows.invariant.rows c.rows.invariant.trial c.row_command-command.result c.row_command-command.ensures
    c.try_command-tried.new.line.items (c.len.result + 1) (omega (arith, c.len.ensures)) c.try_command-tried.result c.add.result
    c.try_command-tried.ensures c.add.ensures is in
    record {
      next = tt;
      finite = tt;
      rows = rest_each c.args.class start c.args.rows.items c.in-Some.row rest c.rows.row-iterator.rest.items left-is
          c.rows.trial c.try_command-tried.new.trial c.add.new.self c.rows.database c.try_command-tried.new.database
          c.rows.invariant.told c.rows.invariant.rows c.rows.invariant.trial c.row_command-command.result c.row_command-command.ensures;
      told = next.told;
      trial = trial_on c.args.class start c.args.rows.items c.in-Some.row rest c.rows.row-iterator.rest.items left-is
          c.rows.trial c.try_command-tried.new.trial c.add.new.self c.rows.database c.try_command-tried.new.database
          c.rows.invariant.told c.rows.invariant.rows c.rows.invariant.trial c.row_command-command.result c.row_command-command.ensures
          c.try_command-tried.new.line.items (c.len.result + 1) (omega (arith, c.len.ensures)) c.try_command-tried.result c.add.result
          c.try_command-tried.ensures c.add.ensures is;
      stack = next.stack c.rows.invariant.stack;
      back = next.back ∙ c.rows.invariant.back;
    }
