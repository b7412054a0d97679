use Rattle.command_text.specs.Tree.{command_view}
use Rattle.database.proofs.ReadyLemmas.{is_ready}
use Rattle.session.proofs.CarriedLemmas.{told_by, told_looks}
use Rattle.session.proofs.KnownLemmas.{accepted_told, shown}
use Rattle.session.proofs.answer.tell_lines.Goals as goal

pub tell-requires-clause-accepted : goal.tell-requires-clause-accepted
tell-requires-clause-accepted g c = accepted_told c.args.state.now.journal c.args.state.now.database c.requires.state.keeps c.requires.state.reached

pub tell-requires-in_default : goal.tell-requires-in_default
tell-requires-in_default g c = record {
  command = record {
    telling = c.requires.telling.telling;
    other = shown c.args.command.now c.requires.telling.telling c.in_default.not-Show;
    ready = is_ready (command_view c.args.command.now) c.requires.telling.printable;
  };
  timely = c.requires.state.keeps.timely;
  accepted = accepted_told c.args.state.now.journal c.args.state.now.database c.requires.state.keeps c.requires.state.reached;
}

pub returns-in_ok-tell-in_default : goal.returns-in_ok-tell-in_default
returns-in_ok-tell-in_default g c =
    let journal = c.args.state.now.journal in
    let d = c.args.state.now.database in
    record {
      told = told_by journal d c.requires.state.keeps c.args.command.now c.requires.telling.telling c.in_default.not-List c.in_default.not-Show
          _ _ c.in_ok-tell-in_default.ensures.told.0 c.in_ok-tell-in_default.ensures.told.1;
      stopped = tt;
      spends = record {
        within = told_looks journal d c.requires.state.keeps c.args.command.now c.requires.telling.telling _ _ c.in_ok-tell-in_default.ensures.takes;
        plain = c.in_ok-tell-in_default.ensures.plain;
      };
      free = record { unread = tt; unprobed = tt };
    }
