-- A group without a line feed is passed.
use Rattle.std.proofs.Common.{sym, ◌∙◌}
use Rattle.users.specs.declared.tag.TheConstants.{GROUP}
use Rattle.users.proofs.GroupLemmas.{past_group}
use Rattle.users.proofs.tag.after_groups.Goals as goal

pub groups-preserved : goal.groups-preserved
groups-preserved c =
    past_group GROUP c.args.bytes.now c.groups.rest.now c.in-Some.group.now c.in-Some.later.now
    c.groups.invariant c.in-Some.ensures.cases (sym c.has_feed.ensures ∙ c.if-has_feed.false)
