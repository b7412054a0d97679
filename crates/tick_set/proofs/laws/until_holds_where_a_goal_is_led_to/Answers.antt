use Rattle.tick_set.proofs.UntilLemmas.{until_in_iff}
use Rattle.tick_set.proofs.laws.until_holds_where_a_goal_is_led_to.Goals as goal

pub returns : goal.returns
returns c = until_in_iff
