use Rattle.meaning.proofs.AbsenceLemmas.{no_value_where_absent, value_has_kind}
use Rattle.meaning.proofs.laws.terms_have_values_of_their_kinds.Goals as goal

pub returns : goal.returns
returns c = record {
  none = no_value_where_absent;
  kind = value_has_kind;
  reachable = λ c classes h t states v k there class state. (states v k there class state).kinds;
}
