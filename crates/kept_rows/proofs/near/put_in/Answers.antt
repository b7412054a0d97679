use Rattle.std.proofs.Common.{◌≡◌, ℕ, ap, sym, ◌∙◌}
use Rattle.std.specs.Prelude.{slice_index_or}
use Rattle.kept_rows.proofs.NearLemmas.{cell-there, put-here, put-others}
use Rattle.kept_rows.proofs.near.put_in.Goals as goal

pub returns-in-Some-clause-others : goal.returns-in-Some-clause-others
returns-in-Some-clause-others c =
    let at : ℕ = c.in-Some.at in
    let free : slice_index_or c.args.cells.now.items at 0 ≡ 4294967295 = ap (λ xs. slice_index_or xs at 0) (sym c.deref.ensures.value) ∙ c.in-Some.ensures.some.2 in
    put-others c.args.cells.now.items c.write_cell.new.cells.items c.args.bucket at c.args.number c.write_cell.ensures.others free
    (c.write_cell.ensures.here (cell-there c.args.cells.now.items at 4294967294 free)) c.requires.number

pub returns-in-Some-clause-here : goal.returns-in-Some-clause-here
returns-in-Some-clause-here c =
    let at : ℕ = c.in-Some.at in
    let free : slice_index_or c.args.cells.now.items at 0 ≡ 4294967295 = ap (λ xs. slice_index_or xs at 0) (sym c.deref.ensures.value) ∙ c.in-Some.ensures.some.2 in
    put-here c.args.cells.now.items c.write_cell.new.cells.items c.args.bucket at c.args.number c.write_cell.ensures.others
    c.in-Some.ensures.some.0 c.in-Some.ensures.some.1 (c.write_cell.ensures.here (cell-there c.args.cells.now.items at 4294967294 free))
