use Rattle.std.proofs.Common.{refl}
use Rattle.line_meaning.proofs.examples.registered_queries_are_refused.Goals as goal

pub returns : goal.returns
returns c = record {
  taken = refl;
  unknown_before_taken = refl;
  dropped_is_free = refl;
  too_long = refl;
  unknown_shown = refl;
  unknown_dropped = refl;
  known_dropped = refl;
}
