use Rattle.std.proofs.Common.{◌+◌, min}
use Rattle.tick_set.proofs.CallerLemmas.{some_is_until, all_is_not_some}
use Rattle.tick_set.proofs.laws.derived_operators_are_derived.Goals as goal

pub returns : goal.returns
returns c = record {
  eventually = λ g e t. some_is_until g t e t;
  eventually_within = λ c g e t. some_is_until g t (min (t + c) e) t;
  eventually_after = λ c g e t. some_is_until g (t + c) e t;
  always = λ g e t. all_is_not_some g t e;
  always_for = λ c g e t. all_is_not_some g t (min (t + c) e);
}
