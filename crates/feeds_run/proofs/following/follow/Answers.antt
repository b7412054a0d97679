use Rattle.std.proofs.Common.{refl, ◌∙◌}
use Rattle.feeds_run.proofs.FollowLemmas.{heard_runs, told_runs}
use Rattle.feeds_run.proofs.following.follow.Goals as goal

pub returns-in-Done : goal.returns-in-Done
returns-in-Done g c =
    told_runs c.args.limit c.args.name.now _ _ c.into_replica.result _ _ _ _ _ c.into_replica.ensures
    (record {
      is_silent = c.new-follower.ensures ∙ c.in-Ok.ensures;
      none_before = refl;
      none_after = refl;
      cause = c.in-Done.ensures.cause;
      taken = c.in-Done.ensures.taken;
      ends = c.in-Done.ensures.ends;
    })
    c.tell_heard-in-Done.ensures

pub returns-in_default-run_lines : goal.returns-in_default-run_lines
returns-in_default-run_lines g c =
    heard_runs c.args.limit c.args.name.now _ _ _ _ c.run_lines.result c.feed_status.result c.in_default-run_lines.not-Done c.feed_status.ensures
    (record {
      is_silent = c.new-follower.ensures ∙ c.in-Ok.ensures;
      none_before = refl;
      none_after = refl;
      cause = c.run_lines.ensures.cause;
      taken = c.run_lines.ensures.taken;
      ends = c.run_lines.ensures.ends;
    })
