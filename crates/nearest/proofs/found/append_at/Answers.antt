use Rattle.std.proofs.Common.{◌≡◌, ℕ, ◌<◌, ◌&&◌, ◌||◌, length, set, ap, ◌∙◌}
use Rattle.std.specs.Prelude.{◌==◌}
use Rattle.std.proofs.lemmas.List.{get_or_default}
use Rattle.tick_set.specs.Runs.{spans_have}
use Rattle.nearest.specs.Found.{runs_at}
use Rattle.nearest.proofs.FoundLemmas.{runs_set}
use Rattle.nearest.proofs.found.append_at.Goals as goal
use Rattle.exact.proofs.Items.{on_ok}

pub returns-clause-runs : goal.returns-clause-runs
returns-clause-runs c =
    let old = c.args.found.now.items in
    let index = c.args.index in
    let more = c.args.runs.now in
    let new = c.append_all.new.runs in
    on_ok c.append_all.result ((t : ℕ) → spans_have new t ≡ (spans_have c.index_mut.result.now t || spans_have more t))
    ((i t : ℕ) → i < length old → spans_have (runs_at (set old index new) i) t ≡ (spans_have (runs_at old i) t || ((index == i) && spans_have more t)))
    (λ added i t inside.
    runs_set old index i t new more c.requires.index
    (λ u. added u ∙ ap (λ runs. spans_have runs u || spans_have more u) (c.index_mut.ensures.value ∙ get_or_default old index _ _ c.requires.index)))
    c.append_all.ensures
