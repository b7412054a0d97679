use Rattle.std.proofs.Common.{◌≡◌, false, sym, ap, ◌∙◌}
use Rattle.std.specs.Prelude.{nat_le}
use Rattle.std.specs.Option.{option_map_or}
use Rattle.plane.specs.Boxes.{last_covered}
use Rattle.kept_indexes.proofs.FindLemmas.{index_there, no_index}
use Rattle.kept_indexes.proofs.judging.is_lasting.Goals as goal

pub returns-in-Some : goal.returns-in-Some
returns-in-Some c =
    let found = sym c.place_of.ensures ∙ c.in-Some.is in
    ap (nat_le c.args.now) (c.last.ensures.value ∙ ap last_covered c.grid.ensures)
    ∙ sym (ap (λ o. option_map_or (λ e. nat_le c.args.now (last_covered e.grid)) o false) (index_there c.args.kept.now c.args.at c.in-Some.place c.index-kept-place.result found))

pub returns-in-None : goal.returns-in-None
returns-in-None c =
    sym (ap (λ o. option_map_or (λ e. nat_le c.args.now (last_covered e.grid)) o false) (no_index c.args.kept.now c.args.at (sym c.place_of.ensures ∙ c.in-None.is)))
