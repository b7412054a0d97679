use Rattle.std.proofs.Common.{◌≡◌, ℕ, List, true, ap, sym, subst, ◌∙◌}
use Rattle.std.specs.Prelude.{slice_index_or}
use Rattle.kept_rows.specs.Near.{is_cell}
use Rattle.kept_rows.proofs.NearLemmas.{is_cell-at, take-others}
use Rattle.kept_rows.proofs.near.take_out.Goals as goal

pub returns-clause-others : goal.returns-clause-others
returns-clause-others c =
    let at : ℕ = c.in-Some-cell_of.at in
    let was : slice_index_or c.args.cells.now.items at 0 ≡ c.args.number = ap (λ xs. slice_index_or xs at 0) (sym c.deref-2.ensures.value) ∙ c.in-Some-cell_of.ensures.some.2 in
    let room : is_cell c.args.cells.now.items c.args.bucket 4294967295 ≡ true =
    subst (λ (xs : List ℕ). is_cell xs c.args.bucket 4294967295 ≡ true) c.deref.ensures.value
    (is_cell-at c.deref.result.now c.args.bucket 4294967295 c.in-Some.field-0 c.in-Some.ensures.some.0 c.in-Some.ensures.some.1 c.in-Some.ensures.some.2) in
    take-others c.args.cells.now.items c.write_cell.new.cells.items c.args.bucket at c.args.number c.write_cell.ensures.others
    c.in-Some-cell_of.ensures.some.0 c.in-Some-cell_of.ensures.some.1 was room
