use Rattle.std.proofs.Common.{ℕ, ◌<◌, Bool, List, sym, ap, ◌∙◌, subst}
use Rattle.std.specs.Prelude.{All}
use Rattle.kept_rows.specs.Listing.{lines_upto, passing_of, target_has}
use Rattle.live_queries.specs.Current.{row_at}
use Rattle.live_queries.specs.Kept.{KeptQuery}
use Rattle.live_queries.specs.Told.{target_count, target_width}
use Rattle.live_queries.proofs.QueryLemmas.{passings_numbered}
use Rattle.live_queries.proofs.query.LiveQuery.passings.Goals as goal

pub returns-clause-value : goal.returns-clause-value
returns-clause-value c =
    c.in_ok-passings.ensures
    ∙ (λ i. lines_upto (passing_of (target_has (ap row_at c.self.view_is i) ((c.self.invariant.2 ∙ ap target_width c.self.view_is) i))
    (ap (λ (x : KeptQuery). x.expiry) c.self.view_is i) c.args.before c.args.now) ((c.self.invariant.1 ∙ ap target_count c.self.view_is) i))

pub returns-clause-below : goal.returns-clause-below
returns-clause-below c =
    subst (λ (lines : List (ℕ × Bool)). All (λ p. p.0 < target_count c.args.self.now) lines)
    (sym (c.in_ok-passings.ensures
    ∙ (λ i. lines_upto (passing_of (target_has (ap row_at c.self.view_is i) ((c.self.invariant.2 ∙ ap target_width c.self.view_is) i))
    (ap (λ (x : KeptQuery). x.expiry) c.self.view_is i) c.args.before c.args.now) ((c.self.invariant.1 ∙ ap target_count c.self.view_is) i))))
    (passings_numbered c.args.self.now c.args.self.now.expiry c.args.before c.args.now)
