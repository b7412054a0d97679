use Rattle.std.proofs.Common.{ap, sym, ◌∙◌}
use Rattle.feeds_run.specs.Words.{feed_words_view}
use Rattle.feeds_run.proofs.EndLemmas.{bad_runs}
use Rattle.feeds_run.proofs.running.run_feeds_limited.Goals as goal

pub returns-in-Bad : goal.returns-in-Bad
returns-in-Bad g c =
    bad_runs c.args.limit _ _ _ _ c.tell.result (sym c.words_of.ensures ∙ ap feed_words_view c.in-Bad.is) c.tell.ensures
