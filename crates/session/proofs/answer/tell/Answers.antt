use Rattle.std.proofs.Common.{◌≡◌, sym, subst}
use Rattle.std.proofs.lemmas.Result.{err_from_is_err_and}
use Rattle.command_text.specs.declared.fault.CommandFault.TheVariants as stops
use Rattle.command_text.specs.Tree.{command_view}
use Rattle.reply_text.specs.Begins.{Begins}
use Rattle.session.proofs.CarriedLemmas.{told_ends, told_lacks}
use Rattle.session.proofs.answer.tell.Goals as goal

pub returns-clause-carries : goal.returns-clause-carries
returns-clause-carries g c = record {
  accepted = told_ends c.args.state.now.journal (command_view c.args.command.now) c.requires.telling.telling
      _ _ c.in_ok-tell_lines.ensures.told _ c.make_room.ensures.same;
  stopped = tt;
  spends = record {
    within = record {
      begins = subst (Begins c.args.out.now.items) (sym c.make_room.ensures.same) c.in_ok-tell_lines.ensures.spends.within.begins;
      least = c.in_ok-tell_lines.ensures.spends.within.least;
      most = c.in_ok-tell_lines.ensures.spends.within.most;
    };
    plain = c.in_ok-tell_lines.ensures.spends.plain;
  };
  free = record { unread = tt; unprobed = tt };
}

pub returns-in_err-make_room-clause-carries : goal.returns-in_err-make_room-clause-carries
returns-in_err-make_room-clause-carries g c =
    let p = err_from_is_err_and c.from_residual-in_err-make_room.result c.from_residual-in_err-make_room.ensures.1 in
    let none : p.0 ≡ stops.NoMemory = p.2 in
    rw (p.1, none) (record {
      accepted = tt;
      stopped = told_lacks c.args.state.now.journal (command_view c.args.command.now) c.requires.telling.telling
          _ _ c.in_ok-tell_lines.ensures.told;
      spends = record {
        within = record {
          begins = subst (Begins c.args.out.now.items) (sym c.make_room.ensures.same) c.in_ok-tell_lines.ensures.spends.within.begins;
          least = c.in_ok-tell_lines.ensures.spends.within.least;
          most = c.in_ok-tell_lines.ensures.spends.within.most;
        };
        plain = c.in_ok-tell_lines.ensures.spends.plain;
      };
      free = record { unread = λ no. absurd no; unprobed = λ no. absurd no };
    })
