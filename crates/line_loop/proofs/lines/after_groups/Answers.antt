-- A group without a line feed is passed.
use Rattle.std.proofs.Common.{◌==◌, sym, ◌∙◌}
use Rattle.line_loop.specs.Lines.{line_feed_byte}
use Rattle.line_loop.specs.declared.lines.TheConstants.{GROUP}
use Rattle.line_loop.proofs.GroupLemmas.{past_group}
use Rattle.line_loop.proofs.lines.after_groups.Goals as goal

pub groups-preserved : goal.groups-preserved
groups-preserved c =
    past_group GROUP (λ byte. byte == line_feed_byte) c.args.bytes.now c.groups.rest.now c.in-Some.group.now c.in-Some.later.now
    c.groups.invariant c.in-Some.ensures.cases (sym c.has_line_feed.ensures ∙ c.if-has_line_feed.false)
