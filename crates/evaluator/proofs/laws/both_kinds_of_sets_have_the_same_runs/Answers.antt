use Rattle.std.proofs.Common.{sym, ◌∙◌}
use Rattle.tick_set.specs.TickList.{has as has_tick}
use Rattle.tick_set.specs.Runs.{spans_have}
use Rattle.tick_set.proofs.RunLemmas.{pairs_same}
use Rattle.relation.specs.Rows.{table_has}
use Rattle.evaluator.proofs.laws.both_kinds_of_sets_have_the_same_runs.Goals as goal

pub returns : goal.returns
returns c domains lo hi variables holds listed spanned these those b inside runs others are also =
    pairs_same (table_has has_tick listed b) (table_has spans_have spanned b) runs others are also
    (λ t. these.ticks b inside t ∙ sym (those.ticks b inside t))
