use Rattle.std.proofs.Common.{◌≡◌, ℕ, ◌<◌, List, sym, ap, ◌∙◌, subst, inl, inr, arith}
use Rattle.std.specs.Prelude.{All}
use Rattle.std.proofs.lemmas.Bool.{cases_lt, false≢true}
use Rattle.kept_rows.specs.Listing.{line_of, lines_upto, target_has}
use Rattle.meaning.specs.Registered.{first_tick}
use Rattle.live_queries.specs.Current.{row_at}
use Rattle.live_queries.specs.Kept.{IsKeptQuery, KeptQuery}
use Rattle.live_queries.specs.Told.{target_count, target_width}
use Rattle.live_queries.proofs.QueryLemmas.{late_lines, lines_numbered}
use Rattle.live_queries.proofs.query.LiveQuery.lines.Goals as goal

pub returns-in_default-clause-value : goal.returns-in_default-clause-value
returns-in_default-clause-value c =
    let k : KeptQuery = c.args.self.now in
    let is : IsKeptQuery k = subst IsKeptQuery c.self.view_is c.self.invariant.0 in
    let expiry : c.self.inside.expiry ≡ k.expiry = ap (λ (x : KeptQuery). x.expiry) c.self.view_is in
    c.new-in_default.ensures.items
    ∙ sym (late_lines k c.args.now (elim (cases_lt k.expiry (first_tick k.kind k.entry c.args.now)) [
      | inl late ↦ late
      | inr there ↦ absurd (false≢true (c.in_default.ensures.valid.1 (omega (arith, there, c.first_tick.ensures, expiry), omega (arith, is.last, expiry))))
    ]))

pub returns-clause-value : goal.returns-clause-value
returns-clause-value c =
    c.in_ok-lines.ensures
    ∙ (λ i. lines_upto (line_of (target_has (ap row_at c.self.view_is i) ((c.self.invariant.2 ∙ ap target_width c.self.view_is) i))
    ((c.in-Some.ensures.ends.0 ∙ c.first_tick.ensures) i) ((c.in-Some.ensures.ends.1 ∙ ap (λ (x : KeptQuery). x.expiry) c.self.view_is) i))
    ((c.self.invariant.1 ∙ ap target_count c.self.view_is) i))

pub returns-clause-below : goal.returns-clause-below
returns-clause-below c =
    subst (λ (lines : List (ℕ × List (ℕ × ℕ))). All (λ line. line.0 < target_count c.args.self.now) lines)
    (sym (c.in_ok-lines.ensures
    ∙ (λ i. lines_upto (line_of (target_has (ap row_at c.self.view_is i) ((c.self.invariant.2 ∙ ap target_width c.self.view_is) i))
    ((c.in-Some.ensures.ends.0 ∙ c.first_tick.ensures) i) ((c.in-Some.ensures.ends.1 ∙ ap (λ (x : KeptQuery). x.expiry) c.self.view_is) i))
    ((c.self.invariant.1 ∙ ap target_count c.self.view_is) i)))) (lines_numbered c.args.self.now c.args.now)
