use Rattle.session.proofs.LoadLemmas.{all_taken, none_left}
use Rattle.session.proofs.loading.replay_commands.Goals as goal

pub returns-clause-loads : goal.returns-clause-loads
returns-clause-loads g c = (
  all_taken c.args.text.now c.commands.session c.commands.reader c.commands.invariant.fault c.commands.invariant.same
      (none_left c.commands.reader c.next_command.new.reader c.in_ok-loaded.field-0 c.in_default.not-Some c.in_ok-loaded.ensures.ok),
  c.commands.invariant.none,
)
