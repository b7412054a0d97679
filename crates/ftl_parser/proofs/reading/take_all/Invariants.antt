use Rattle.ftl_parser.specs.inner.Views.{kept_view}
use Rattle.ftl_parser.proofs.reader.RunLemmas.{GoesOn}
use Rattle.ftl_parser.proofs.reading.take_all.Given as goal

abbrev pub invariant-loop-at : goal.invariant-loop-at
invariant-loop-at l = GoesOn l.tokens l.from l.at (kept_view l.kept l.state)
