use Rattle.std.proofs.Common.{◌≡◌, List, ◌++◌, ◌∷◌, [], sym, ap, ◌∙◌}
use Rattle.live_queries.specs.declared.fresh.Renewal.{Renewal}
use Rattle.live_queries.specs.declared.fresh.Touched.{Touched}
use Rattle.live_queries.specs.Untouched.{or_untouched, spread}
use Rattle.live_queries.proofs.SpreadLemmas.{one_touched}
use Rattle.live_queries.proofs.fresh.Renewals.add.Goals as goal

pub returns-in_ok-push-in-Some-clause-added : goal.returns-in_ok-push-in-Some-clause-added
returns-in_ok-push-in-Some-clause-added c =
    ap (λ (ts : List Touched). spread ts 0) c.in_ok-push-in-Some.ensures.items
    ∙ one_touched c.self.inside.touched.items (record { passed = c.self.inside.rest; renewal = c.in-Some.renewal })
    ∙ ap (λ (rs : List Renewal). rs ++ c.in-Some.renewal ∷ []) c.self.view_is
    ∙ ap (λ r. c.args.self.now ++ or_untouched r ∷ []) (sym c.in-Some.is)

pub returns-in-None-clause-added : goal.returns-in-None-clause-added
returns-in-None-clause-added c = c.pass.ensures ∙ ap (λ r. c.args.self.now ++ or_untouched r ∷ []) (sym c.in-None.is)
