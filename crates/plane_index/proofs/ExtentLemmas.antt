-- The values of a cell over ticks, and the strips that a state covers in a slice.
use Rattle.std.proofs.Common.{◌≡◌, ℕ, ◌+◌, ◌<◌, ◌≤◌, max, ℤ, Option, None, Some, List, refl, sym, ap, ◌∙◌, arith}
use Rattle.std.specs.List.{filter_map}
use Rattle.std.specs.Option.{option_map}
use Rattle.std.proofs.lemmas.Int.{ints}
use Rattle.tick_set.specs.Ticks.{between}
use Rattle.motion.specs.Dynamic.{Dynamic, value_at}
use Rattle.motion.specs.Range.{IsRange}
use Rattle.motion.specs.declared.cell.Cell.{Cell}
use Rattle.motion.specs.declared.cell.Cell.TheVariants as cells
use Rattle.plane.specs.Boxes.{Grid, box_of, slice_first, slice_last, strips_of}
use Rattle.plane_index.specs.Lines.{AreValuesOf, box_as, number_of_cell}
use Rattle.plane_index.specs.States.{strips_by_state}
use Rattle.plane_index.specs.declared.state.State.{State}
use Rattle.plane_index.proofs.ValueLemmas.{box_between, no_box}

-- ---- cells

pub no_tick : (cell : Option Cell) (from until : ℕ) → until < from → AreValuesOf cell from until None
no_tick cell from until none = no_box (number_of_cell cell) from (until + 1) (λ t after before. absurd (omega arith))

pub of_none : (from until : ℕ) → AreValuesOf None from until None
of_none from until = no_box (number_of_cell None) from (until + 1) (λ t after before. refl)

pub of_text : (text : List ℕ) (from until : ℕ) → AreValuesOf (Some (cells.Text text)) from until None
of_text text from until = no_box (number_of_cell (Some (cells.Text text))) from (until + 1) (λ t after before. refl)

pub of_number : (n : ℤ) (from until : ℕ) → from ≤ until → AreValuesOf (Some (cells.Num n)) from until (Some (n, n))
of_number n from until some =
    box_between (number_of_cell (Some (cells.Num n))) (λ t. n) from (until + 1) n n (omega arith) (λ t after before. refl)
    (record {
      at_least = λ t after before. omega (arith, ints);
      at_most = λ t after before. omega (arith, ints);
      least_reached = (from, omega arith, omega arith, refl);
      greatest_reached = (from, omega arith, omega arith, refl);
    })

pub of_vector : (v : Dynamic) (from until : ℕ) (least greatest : ℤ) → from ≤ until → IsRange v from until least greatest →
    AreValuesOf (Some (cells.Dyn v)) from until (Some (least, greatest))
of_vector v from until least greatest some range =
    box_between (number_of_cell (Some (cells.Dyn v))) (value_at v) from (until + 1) least greatest (omega arith) (λ t after before. refl)
    (record {
      at_least = λ t after before. range.at_least t after (omega arith);
      at_most = λ t after before. range.at_most t after (omega arith);
      least_reached = (let (t, after, before, e) = range.least_reached in (t, after, omega arith, e));
      greatest_reached = (let (t, after, before, e) = range.greatest_reached in (t, after, omega arith, e));
    })

-- ---- states

in_turn : (width : ℤ) (found : Option (ℤ × ℤ)) → option_map (strips_of width) (option_map box_as found) ≡ option_map (λ b. strips_of width (box_as b)) found
in_turn width None = refl
in_turn width (Some b) = refl

pub covered : (p : State) (g : Grid) (s from until : ℕ) (found : Option (ℤ × ℤ)) → from ≡ max (slice_first g s) p.from → until ≡ slice_last g s →
    AreValuesOf p.cell from until found → strips_by_state p g s ≡ option_map (λ b. strips_of g.width (box_as b)) found
covered p g s from until found begins ends are =
    (λ i. option_map (strips_of g.width) (box_of (filter_map (number_of_cell p.cell) (between (sym begins i) (sym ends i + 1)))))
    ∙ ap (option_map (strips_of g.width)) are
    ∙ in_turn g.width found
