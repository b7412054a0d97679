use Rattle.kept_rows.proofs.LawLemmas.{stays_exact}
use Rattle.kept_rows.proofs.laws.a_refresh_keeps_rows_exact.Goals as goal

pub returns : goal.returns
returns c = stays_exact
