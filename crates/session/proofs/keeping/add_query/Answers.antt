use Rattle.std.proofs.Common.{◌≡◌, [], ◌∷◌, ◌++◌, refl, sym, ap, ◌∙◌, subst, arith}
use Rattle.std.proofs.lemmas.Result.{err_from_is_err_and}
use Rattle.command_text.specs.declared.fault.CommandFault.TheVariants as stops
use Rattle.command_text.specs.Journal.{spelled}
use Rattle.command_text.specs.Shape.{IsPrintable}
use Rattle.command_text.specs.Tree.{command_view}
use Rattle.reply_text.specs.Begins.{Begins}
use Rattle.session.proofs.CarriedLemmas.{stopped_at_once}
use Rattle.database.specs.Written.{writes_object}
use Rattle.session.proofs.KeepLemmas.{keeps_line, request_writes}
use Rattle.session.proofs.KnownLemmas.{accepted_told, same_state}
use Rattle.session.proofs.QueryLemmas.{asked_again, asked_done, asked_full, asked_lacks, asked_looks, asked_plain, asked_state, asked_stopped, request_ready}
use Rattle.session.proofs.keeping.add_query.Goals as goal

pub judge-requires-clause-asked : goal.judge-requires-clause-asked
judge-requires-clause-asked g c =
    let ready = request_ready c.args.request.now (subst IsPrintable c.requires.is c.requires.legible.printable) in
    record { lawful = ready.1; now = c.requires.state.keeps.timely.in_range; reach = ready.0 }

pub returns-in_err-resolved-clause-carries : goal.returns-in_err-resolved-clause-carries
returns-in_err-resolved-clause-carries g c =
    let p = err_from_is_err_and c.from_residual.result c.from_residual.ensures.1 in
    rw (p.1, p.2)
    (stopped_at_once _ _ _
    (asked_stopped c.args.state.now c.requires.state (command_view c.args.command.now) c.args.request.now c.requires.is _ c.in_err-resolved.ensures.cause))

pub returns-in_err-admit-clause-carries : goal.returns-in_err-admit-clause-carries
returns-in_err-admit-clause-carries g c =
    let p = err_from_is_err_and c.from_residual-in_err-admit.result c.from_residual-in_err-admit.ensures.1 in
    rw (p.1, p.2)
    (stopped_at_once _ _ _
    (asked_full c.args.state.now c.requires.state (command_view c.args.command.now) c.args.request.now c.requires.is c.in_ok-resolved.ensures.judged.right
    c.admit.new.line.items _ c.in_err-admit.ensures))

pub register-requires-clause-span : goal.register-requires-clause-span
register-requires-clause-span g c = (request_ready c.args.request.now (subst IsPrintable c.requires.is c.requires.legible.printable)).0

pub register-requires-clause-accepted : goal.register-requires-clause-accepted
register-requires-clause-accepted g c = accepted_told c.args.state.now.journal c.args.state.now.database c.requires.state.keeps c.requires.state.reached

pub returns-in_err-register-clause-carries : goal.returns-in_err-register-clause-carries
returns-in_err-register-clause-carries g c =
    let p = err_from_is_err_and c.from_residual-in_err-register.result c.from_residual-in_err-register.ensures.1 in
    let none : p.0 ≡ stops.NoMemory = p.2 in
    rw (p.1, none) (record {
      accepted = tt;
      stopped = asked_lacks c.args.state.now c.requires.state (command_view c.args.command.now) c.args.request.now c.requires.is
          c.in_ok-resolved.ensures.judged.right c.args.state.now.journal stops.NoMemory refl refl;
      spends = record {
        within = record {
          begins = c.in_err-register.ensures.takes.begins;
          least = c.in_err-register.ensures.takes.least;
          most = omega (
            arith,
            c.in_err-register.ensures.takes.most,
            asked_looks c.args.state.now c.requires.state (command_view c.args.command.now) c.args.request.now c.requires.is,
          );
        };
        plain = asked_plain c.args.state.now c.requires.state (command_view c.args.command.now) c.args.request.now c.requires.is _ _;
      };
      free = record { unread = λ no. absurd no; unprobed = λ no. absurd no };
    })

pub returns-in-Ok-clause-state : goal.returns-in-Ok-clause-state
returns-in-Ok-clause-state g c =
    asked_state c.args.state.now c.requires.state (command_view c.args.command.now) c.args.request.now c.requires.is c.in_ok-resolved.ensures.judged.right
    _ c.in_ok-admit.ensures _ c.clock-now.ensures spelled c.requires.legible.canonical _ c.in_ok-resolved.ensures.judged.query _ c.in_ok-register.ensures.registers.added
    _ c.requires.legible.printable c.requires.legible.short
    (subst (λ line. c.enter.new.journal ≡ c.args.state.now.journal ++ (c.clock-now.result, spelled line) ∷ []) c.deref.ensures.value
    c.in-Ok.ensures.entered) refl refl

pub returns-in-Ok-clause-carries : goal.returns-in-Ok-clause-carries
returns-in-Ok-clause-carries g c = record {
  accepted = asked_done c.args.state.now c.requires.state (command_view c.args.command.now) c.args.request.now c.requires.is
      c.in_ok-resolved.ensures.judged.right
      _ c.in_ok-admit.ensures _ c.clock-now.ensures spelled c.requires.legible.canonical
      _ _ _
      (subst (λ line. c.enter.new.journal ≡ c.args.state.now.journal ++ (c.clock-now.result, spelled line) ∷ []) c.deref.ensures.value
      c.in-Ok.ensures.entered) (c.in-Ok.ensures.same ∙ c.in_ok-register.ensures.registers.told);
  stopped = tt;
  spends = record {
    within = record {
      begins = subst (Begins c.args.out.now.items) (sym c.in-Ok.ensures.same) c.in_ok-register.ensures.takes.begins;
      least = c.in_ok-register.ensures.takes.least;
      most = omega (
        arith,
        c.in_ok-register.ensures.takes.most,
        asked_looks c.args.state.now c.requires.state (command_view c.args.command.now) c.args.request.now c.requires.is,
      );
    };
    plain = asked_plain c.args.state.now c.requires.state (command_view c.args.command.now) c.args.request.now c.requires.is _ _;
  };
  free = record { unread = tt; unprobed = tt };
}

pub returns-in-Err-clause-state : goal.returns-in-Err-clause-state
returns-in-Err-clause-state g c =
    same_state c.args.state.now _ c.in-Err.ensures.err refl
    (c.drop_query.ensures.others
    ∙ asked_again c.args.state.now c.requires.state (command_view c.args.command.now) c.args.request.now c.requires.is c.in_ok-resolved.ensures.judged.right
    _ c.in_ok-admit.ensures _ c.clock-now.ensures spelled c.requires.legible.canonical _ c.in_ok-resolved.ensures.judged.query _ c.in_ok-register.ensures.registers.added)
    c.requires.state

pub returns-in-Err-clause-carries : goal.returns-in-Err-clause-carries
returns-in-Err-clause-carries g c = record {
  accepted = tt;
  stopped = asked_lacks c.args.state.now c.requires.state (command_view c.args.command.now) c.args.request.now c.requires.is
      c.in_ok-resolved.ensures.judged.right _ _ c.in-Err.ensures.err refl;
  spends = record {
    within = record {
      begins = subst (Begins c.args.out.now.items) (sym c.in-Err.ensures.same) c.in_ok-register.ensures.takes.begins;
      least = c.in_ok-register.ensures.takes.least;
      most = omega (
        arith,
        c.in_ok-register.ensures.takes.most,
        asked_looks c.args.state.now c.requires.state (command_view c.args.command.now) c.args.request.now c.requires.is,
      );
    };
    plain = asked_plain c.args.state.now c.requires.state (command_view c.args.command.now) c.args.request.now c.requires.is _ _;
  };
  free = record { unread = λ no. absurd no; unprobed = λ no. absurd no };
}

pub returns-in-Ok-clause-indexes : goal.returns-in-Ok-clause-indexes
returns-in-Ok-clause-indexes g c =
    keeps_line c.args.state.now _ c.clock-now.result c.admit.new.line.items (command_view c.args.command.now)
    (ap writes_object c.requires.is ∙ request_writes c.args.request.now) (ap spelled c.in_ok-admit.ensures.0 ∙ c.requires.legible.canonical)
    (subst (λ line. c.enter.new.journal ≡ c.args.state.now.journal ++ (c.clock-now.result, spelled line) ∷ []) c.deref.ensures.value
    c.in-Ok.ensures.entered) refl refl
