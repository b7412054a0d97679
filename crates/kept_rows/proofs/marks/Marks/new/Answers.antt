use Rattle.std.proofs.Common.{◌∙◌}
use Rattle.kept_rows.specs.Rows.{row_has}
use Rattle.kept_rows.proofs.SlotLemmas.{pages_pushed}
use Rattle.kept_rows.proofs.marks.Marks.new.Goals as goal

pub pages-preserved : goal.pages-preserved
pages-preserved g c =
    pages_pushed (row_has g.S.TickSet.member c.args.pages.now) c.pages.marks.items c.push.new.self.items c.slots_of_page.result c.len-at.result c.in_ok-push.ensures.items
    (c.len-at.ensures ∙ c.pages.marks.ok.0) c.pages.invariant c.slots_of_page.ensures
