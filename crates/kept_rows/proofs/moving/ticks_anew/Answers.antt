use Rattle.std.proofs.Common.{Bool, Bor, ap, ◌∙◌}
use Rattle.std.specs.List.{list_any}
use Rattle.kept_rows.specs.declared.change.Change.{Change}
use Rattle.kept_rows.proofs.MoveLemmas.{any-ended}
use Rattle.kept_rows.proofs.moving.ticks_anew.Goals as goal

pub returns : goal.returns
returns g c = λ t.
    let has : Bor g.row.S.Denot → Bool = (λ set. g.S.TickSet.member set.now t) in
    let changed : Change g.row.S.Denot → Bool = (λ x. g.S.TickSet.member x.ticks t) in
    c.in_ok-ticks.ensures t ∙ ap (λ xs. list_any has xs) c.deref.ensures.value
    ∙ any-ended changed c.changes.rest.now (list_any has c.changes.sets.items) (list_any changed c.args.group.now) c.in_default.ensures.cases (c.changes.invariant t)
