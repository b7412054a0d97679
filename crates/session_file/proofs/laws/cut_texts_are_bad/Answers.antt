use Rattle.session_file.proofs.CutLemmas.{cut_texts, last_feed, texts_without_end}
use Rattle.session_file.proofs.laws.cut_texts_are_bad.Goals as goal

pub returns-clause-cut : goal.returns-clause-cut
returns-clause-cut c = cut_texts c.canonical_lines_are_read_back.ensures.lines

pub returns-clause-feed : goal.returns-clause-feed
returns-clause-feed c = last_feed c.canonical_lines_are_read_back.ensures.lines

pub returns-clause-end : goal.returns-clause-end
returns-clause-end c = texts_without_end
