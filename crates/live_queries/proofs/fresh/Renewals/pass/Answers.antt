use Rattle.std.proofs.Common.{◌≡◌, ◌≤◌, ◌+◌, List, ◌++◌, ◌∷◌, [], length, refl, ap, ◌∙◌, arith}
use Rattle.formula.specs.declared.limits.TheConstants.{QUERY_LIMIT}
use Rattle.live_queries.specs.declared.fresh.Renewal.{Renewal}
use Rattle.live_queries.specs.Untouched.{spread, untouched}
use Rattle.live_queries.proofs.SpreadLemmas.{one_untouched, rest_within}
use Rattle.live_queries.proofs.fresh.Renewals.pass.Goals as goal

pub overflow_add-self : goal.overflow_add-self
overflow_add-self c =
    let within : c.self.inside.rest ≤ length (spread c.self.inside.touched.items c.self.inside.rest) = rest_within c.self.inside.touched.items c.self.inside.rest in
    let same : length (spread c.self.inside.touched.items c.self.inside.rest) ≡ length c.args.self.now = ap length c.self.view_is in
    let limit : QUERY_LIMIT ≡ 256 = refl in
    record { fits = omega (arith, within, same, limit, c.requires) }

pub returns : goal.returns
returns c =
    one_untouched c.self.inside.touched.items c.self.inside.rest (c.self.inside.rest + 1) (omega arith)
    ∙ ap (λ (rs : List Renewal). rs ++ untouched ∷ []) c.self.view_is
