use Rattle.std.proofs.Common.{Some, refl, ap, ◌∙◌}
use Rattle.hub.specs.Machine.{leaves}
use Rattle.feeds_run.proofs.ShareLemmas.{answered_runs}
use Rattle.feeds_run.proofs.sharing.share.Goals as goal

pub returns : goal.returns
returns g c =
    answered_runs leaves c.args.limit _ _ _ _ c.run_lines-ending.result c.feed_status.result c.users_hear_their_views.ensures.view c.feed_status.ensures
    (record {
      is_empty = c.new-users.ensures.hub ∙ ap Some c.new.ensures;
      none_before = refl;
      none_after = refl;
      cause = c.run_lines-ending.ensures.cause;
      taken = c.run_lines-ending.ensures.taken;
      ends = c.run_lines-ending.ensures.ends;
    })
