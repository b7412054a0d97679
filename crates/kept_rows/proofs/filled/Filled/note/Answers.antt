use Rattle.std.proofs.Common.{◌≡◌, ◌/◌, true, length, ap, sym, ◌∙◌}
use Rattle.std.specs.Prelude.{slice_index_or}
use Rattle.std.specs.Vec.{with_items}
use Rattle.std.proofs.lemmas.List.{with_items_is}
use Rattle.kept_rows.proofs.FilledLemmas.{group-set}
use Rattle.kept_rows.proofs.filled.Filled.note.Goals as goal

pub returns-then-has_ticks : goal.returns-then-has_ticks
returns-then-has_ticks c =
    let groups : (with_items c.args.self.now.groups c.set_at.new.flags).items ≡ c.set_at.new.flags =
    with_items_is c.args.self.now.groups c.set_at.new.flags (c.set_at.ensures.len ∙ ap length c.deref_mut.ensures.value ∙ sym c.args.self.now.groups.ok.0) in
    λ rows ticks filled none n t e.
    group-set rows ticks c.args.number c.args.self.now.groups.items c.set_at.new.flags c.set_at.ensures.here
    (λ i f g. sym (ap (λ xs. slice_index_or xs i true) c.deref_mut.ensures.value) ∙ c.set_at.ensures.others i f g)
    filled n t (sym (ap (λ xs. slice_index_or xs (n / 1024) true) groups) ∙ e)
