use Rattle.std.proofs.Common.{ap, arith}
use Rattle.command_text.specs.Tree.{command_view}
use Rattle.session.specs.Followed.{object_of_change}
use Rattle.session.proofs.FollowLemmas.{changed_accepted, changed_looks, objects_before, still_fit}
use Rattle.session.proofs.RowLemmas.{write_probes}
use Rattle.session.proofs.keeping.tell_write.Goals as goal

pub renew-requires-clause-accepted : goal.renew-requires-clause-accepted
renew-requires-clause-accepted g c =
    changed_accepted c.args.state.now (command_view c.args.command.now) c.args.changed.now.before c.args.changed.now.change c.requires.changed c.requires.reached

pub renew-requires-clause-fits : goal.renew-requires-clause-fits
renew-requires-clause-fits g c =
    still_fit c.args.state.now (command_view c.args.command.now) c.args.changed.now.before c.args.changed.now.change c.requires.changed
    c.in-Object.done.id (ap object_of_change c.in-Object.is) c.queries_go_on_fitting_worlds.ensures

pub renew-requires-clause-before : goal.renew-requires-clause-before
renew-requires-clause-before g c =
    objects_before c.args.state.now (command_view c.args.command.now) c.args.changed.now.before c.args.changed.now.change c.requires.changed
    c.in-Object.done.id (ap object_of_change c.in-Object.is) c.requires.write

pub returns-in_err-fresh-in-Object-clause-spends : goal.returns-in_err-fresh-in-Object-clause-spends
returns-in_err-fresh-in-Object-clause-spends g c = record {
  within = record {
    begins = c.in_err-fresh-in-Object.ensures.takes.begins;
    least = c.in_err-fresh-in-Object.ensures.takes.least;
    most = omega (
      arith,
      c.in_err-fresh-in-Object.ensures.takes.most,
      changed_looks c.args.state.now (command_view c.args.command.now) c.args.changed.now.before c.args.changed.now.change c.requires.changed
          c.in-Object.done.id (ap object_of_change c.in-Object.is) c.requires.write,
    );
  };
  plain = write_probes (command_view c.args.command.now) _ _ c.requires.write;
}

pub returns-in_ok-fresh-in-Object-clause-spends : goal.returns-in_ok-fresh-in-Object-clause-spends
returns-in_ok-fresh-in-Object-clause-spends g c = record {
  within = record {
    begins = c.in_ok-fresh-in-Object.ensures.takes.begins;
    least = c.in_ok-fresh-in-Object.ensures.takes.least;
    most = omega (
      arith,
      c.in_ok-fresh-in-Object.ensures.takes.most,
      changed_looks c.args.state.now (command_view c.args.command.now) c.args.changed.now.before c.args.changed.now.change c.requires.changed
          c.in-Object.done.id (ap object_of_change c.in-Object.is) c.requires.write,
    );
  };
  plain = write_probes (command_view c.args.command.now) _ _ c.requires.write;
}
