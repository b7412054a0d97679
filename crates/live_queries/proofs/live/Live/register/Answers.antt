use Rattle.std.proofs.Common.{◌<◌, List, length, sym, subst}
use Rattle.formula.specs.declared.limits.TheConstants.{QUERY_LIMIT}
use Rattle.live_queries.specs.Kept.{KeptQuery}
use Rattle.live_queries.proofs.MadeLemmas.{one_more_kept}
use Rattle.live_queries.proofs.live.Live.register.Goals as goal

pub invariant_of-self-2 : goal.invariant_of-self-2
invariant_of-self-2 g c =
    one_more_kept c.self.inside.queries.items c.push.new.self.items c.in_ok-added.added c.self.invariant c.in_ok-added.ensures.kept
    (subst (λ (ks : List KeptQuery). length ks < QUERY_LIMIT) (sym c.self.view_is) c.requires.few) c.in_ok-push.ensures.items
