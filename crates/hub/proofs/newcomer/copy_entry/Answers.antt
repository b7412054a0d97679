use Rattle.std.proofs.Common.{sym, ◌∙◌}
use Rattle.command_text.specs.Tree.{command_view}
use Rattle.hub.proofs.ReplayLemmas.{push_few, push_short}
use Rattle.hub.proofs.newcomer.copy_entry.Goals as goal

pub push-requires-clause-few : goal.push-requires-clause-few
push-requires-clause-few c =
    push_few c.args.copy.now c.args.line.now (command_view c.in-Ok.command) c.requires.line c.in-Ok.ensures.ok (sym c.is_data.ensures ∙ c.if-is_data.true)
    c.requires.accepted

pub push-requires-clause-short : goal.push-requires-clause-short
push-requires-clause-short c =
    push_short c.args.copy.now c.args.line.now (command_view c.in-Ok.command) c.requires.line c.in-Ok.ensures.ok (sym c.is_data.ensures ∙ c.if-is_data.true)
    c.requires.accepted
