use Rattle.session_file.proofs.SavedLemmas.{loads_what_is_saved}
use Rattle.session_file.proofs.laws.saved_texts_are_loaded.Goals as goal

pub returns : goal.returns
returns c = loads_what_is_saved c.canonical_lines_are_read_back.ensures.lines c.canonical_lines_are_read_back.ensures.printed
