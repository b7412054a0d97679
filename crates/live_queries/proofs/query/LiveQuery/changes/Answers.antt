use Rattle.std.proofs.Common.{ℕ, ◌*◌, ◌<◌, List, sym, ap, ◌∙◌, subst}
use Rattle.std.specs.Prelude.{All}
use Rattle.tick_set.specs.Runs.{spans_have}
use Rattle.kept_rows.specs.Changes.{AreRising, rows_after}
use Rattle.kept_rows.specs.Listing.{lines_upto, target_has}
use Rattle.kept_rows.specs.Moves.{Moved, move_of}
use Rattle.live_queries.specs.Current.{row_at}
use Rattle.live_queries.specs.Told.{target_count, target_width}
use Rattle.live_queries.proofs.QueryLemmas.{moves_numbered, target_numbers}
use Rattle.live_queries.proofs.query.LiveQuery.changes.Goals as goal

pub moves-requires : goal.moves-requires
moves-requires c =
    subst (λ (n : ℕ). AreRising n c.args.changes.now)
    (sym ((λ i. (c.self.invariant.1 ∙ ap target_count c.self.view_is) i * (c.self.invariant.2 ∙ ap target_width c.self.view_is) i) ∙ target_numbers c.args.self.now))
    c.requires

pub returns-clause-value : goal.returns-clause-value
returns-clause-value c =
    c.in_ok-found.ensures
    ∙ (λ i. lines_upto (move_of (target_has (ap row_at c.self.view_is i) ((c.self.invariant.2 ∙ ap target_width c.self.view_is) i))
    (target_has (rows_after spans_have c.args.changes.now (ap row_at c.self.view_is i)) ((c.self.invariant.2 ∙ ap target_width c.self.view_is) i))
    c.args.window.lo c.args.window.hi c.args.now) ((c.self.invariant.1 ∙ ap target_count c.self.view_is) i))

pub returns-clause-below : goal.returns-clause-below
returns-clause-below c =
    subst (λ (lines : List Moved). All (λ m. m.target < target_count c.args.self.now) lines)
    (sym (c.in_ok-found.ensures
    ∙ (λ i. lines_upto (move_of (target_has (ap row_at c.self.view_is i) ((c.self.invariant.2 ∙ ap target_width c.self.view_is) i))
    (target_has (rows_after spans_have c.args.changes.now (ap row_at c.self.view_is i)) ((c.self.invariant.2 ∙ ap target_width c.self.view_is) i))
    c.args.window.lo c.args.window.hi c.args.now) ((c.self.invariant.1 ∙ ap target_count c.self.view_is) i))))
    (moves_numbered _ _ c.args.window.lo c.args.window.hi c.args.now (target_count c.args.self.now))
