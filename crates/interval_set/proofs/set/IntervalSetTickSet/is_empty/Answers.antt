use Rattle.interval_set.proofs.SpanLemmas.{none_iff}
use Rattle.interval_set.proofs.set.IntervalSetTickSet.is_empty.Goals as goal

pub returns : goal.returns
returns c = rw (c.is_empty.ensures, ← c.self.view_is) (none_iff c.self.inside.spans.items _ c.self.inside.spans.ok.0)
