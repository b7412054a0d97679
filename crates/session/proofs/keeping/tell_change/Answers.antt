use Rattle.std.proofs.Common.{ap}
use Rattle.command_text.specs.Tree.{command_view}
use Rattle.line_meaning.specs.Journal.{regions_of, writes_of}
use Rattle.session.proofs.FollowLemmas.{still_before, still_current, still_entered}
use Rattle.session.proofs.keeping.tell_change.Goals as goal

pub pass-requires : goal.pass-requires
pass-requires g c =
    record {
      stood = record {
        upto = still_before c.args.state.now (command_view c.args.command.now) c.args.changed.now.before c.args.changed.now.change c.requires.changed;
        entered = still_entered c.args.state.now (command_view c.args.command.now) c.args.changed.now.before c.args.changed.now.change c.requires.changed;
        current = still_current c.args.state.now (command_view c.args.command.now) c.args.changed.now.before c.args.changed.now.change c.requires.changed
            (ap (λ x. writes_of c.args.changed.now.before (command_view x)) c.in-Tick.is) (ap (λ x. regions_of (command_view x)) c.in-Tick.is);
      };
    }
