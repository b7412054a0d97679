use Rattle.line_meaning.proofs.LoadingLemmas.{cut_is_bad, uncut_is_loaded}
use Rattle.line_meaning.proofs.laws.cut_sessions_are_bad.Goals as goal

pub returns-clause-cut : goal.returns-clause-cut
returns-clause-cut c = cut_is_bad c.cut_texts_are_bad.ensures.cut

pub returns-clause-feed : goal.returns-clause-feed
returns-clause-feed c = uncut_is_loaded c.cut_texts_are_bad.ensures.feed c.saved_texts_are_loaded.ensures
