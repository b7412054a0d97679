use Rattle.std.proofs.Common.{◌≡◌, ◌≤◌, ℕ, true, ap, subst, ◌∙◌}
use Rattle.history.specs.History.{cells_at}
use Rattle.object_store.specs.Areas.{is_told}
use Rattle.object_store.specs.Contents.{Contents, history_of}
use Rattle.object_store.specs.Tables.{contents_of}
use Rattle.object_store.proofs.NumberLemmas.{cells_at_index}
use Rattle.object_store.proofs.store.Store.whereabouts.Goals as goal

pub returns : goal.returns
returns c =
    let s : Contents = contents_of c.self.inside.tables in
    subst (λ (s : Contents). (t : ℕ) → c.args.w.lo ≤ t → t ≤ c.args.w.hi → is_told c.whereabouts.result t (cells_at (history_of s) c.args.id t) ≡ true) c.self.view_is
    (λ t from to. ap (is_told c.whereabouts.result t) (cells_at_index s c.args.id t c.self.invariant.kept.sound) ∙ c.whereabouts.ensures t from to)
