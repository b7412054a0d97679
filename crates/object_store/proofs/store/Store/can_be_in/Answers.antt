use Rattle.std.proofs.Common.{◌≡◌, ◌≤◌, ℕ, false, ap, subst, ◌∙◌}
use Rattle.history.specs.History.{cells_at}
use Rattle.object_store.specs.Areas.{is_in_area}
use Rattle.object_store.specs.Contents.{Contents, history_of}
use Rattle.object_store.specs.Tables.{contents_of}
use Rattle.object_store.proofs.NumberLemmas.{cells_at_index}
use Rattle.object_store.proofs.store.Store.can_be_in.Goals as goal

pub returns-else-w-self : goal.returns-else-w-self
returns-else-w-self c never =
    let s : Contents = contents_of c.self.inside.tables in
    subst (λ (s : Contents). (t : ℕ) → c.args.w.lo ≤ t → t ≤ c.args.w.hi → is_in_area c.args.area.now t (cells_at (history_of s) c.args.id t) ≡ false) c.self.view_is
    (λ t from to. ap (is_in_area c.args.area.now t) (cells_at_index s c.args.id t c.self.invariant.kept.sound) ∙ c.may_come.ensures never t from to)
