-- Objects that move along one line throughout.
use Rattle.std.proofs.Common.{◌≡◌, ℕ, zero, suc, ◌+◌, ◌-◌, ◌<◌, ◌≤◌, Bool, true, false, Option, None, Some, is_some, List, [], ◌∷◌, map, refl, sym, ap, ◌∙◌, arith}
use Rattle.std.specs.Prelude.{◌==◌, IfSome, option_and_then, option_map, unwrap_or, if◌then◌else◌}
use Rattle.std.specs.List.{reduce}
use Rattle.std.proofs.lemmas.Bool.{false≢true}
use Rattle.std.proofs.lemmas.Bool.Decides.{nat_tests}
use Rattle.std.proofs.lemmas.List.Sums.{sum_by-cons}
use Rattle.fixed_point.specs.declared.number.Point.{Point}
use Rattle.formula.specs.declared.tree.RSigned.{RSigned}
use Rattle.formula.specs.declared.tree.RTerm.{RTerm}
use Rattle.formula.specs.declared.value.Env.{Env}
use Rattle.formula.specs.declared.value.Value.{Value}
use Rattle.formula.specs.declared.value.Value.TheVariants as values
use Rattle.linear_crossing.specs.declared.quad.Line.{Line}
use Rattle.linear_crossing.specs.Moving.{position_after}
use Rattle.linear_crossing.specs.Zones.{line_at}
use Rattle.motion.specs.declared.cell.Cell.{Cell}
use Rattle.motion.specs.declared.cell.Cell.TheVariants as cells
use Rattle.motion.specs.Dynamic.{Dynamic, value_at}
use Rattle.courses.specs.Parts.{piece_count, pieces_of_all}
use Rattle.courses.specs.Places.{place_at, place_of}
use Rattle.motion.specs.Timeline.{Epoch, epoch_at, state_at}
use Rattle.motion.specs.Cells.{dynamic_of}
use Rattle.meaning.specs.Atom.{dynamic_in, place_by, position_in}
use Rattle.meaning.specs.Trace.{Trace}
use Rattle.meaning.specs.Value.{cell_in, cell_value, factor_value, plus, signed_value, term_value, unit_value}
use Rattle.atoms.specs.declared.terms.Course.{Course}
use Rattle.atoms.specs.declared.terms.Course.TheVariants as courses
use Rattle.atoms.specs.declared.trends.Trend.{Trend}
use Rattle.atoms.specs.Courses.{coordinate, course_value, value_along}
use Rattle.atoms.specs.Parts.{beside, trace_by}
use Rattle.atoms.proofs.PlaceLemmas.{same_place}

place_there : (epoch : Option Epoch) (t : ℕ) → position_in t (option_and_then (λ p. p.cells) epoch) ≡ option_and_then (λ p. place_of p t) epoch
place_there None t = refl
place_there (Some p) t = same_place p t

-- the place of a variable is that of its timeline
pub place_beside : (variables : List ℕ) (timelines : List (List Epoch)) (v t : ℕ) (epochs : List Epoch) → Some epochs ≡ beside variables timelines v →
    position_in t (trace_by variables timelines v t) ≡ place_at epochs t
place_beside variables timelines v t epochs is =
    ap (λ (o : Option (List Epoch)). position_in t (option_and_then (λ e. state_at e t) o)) (sym is) ∙ place_there (epoch_at epochs t) t

counted_at : (same : Bool) (first epochs : List Epoch) (rest : Option (List Epoch)) (lo hi more : ℕ) → 0 < piece_count epochs lo hi →
    Some epochs ≡ (if same then Some first else rest) → (Some epochs ≡ rest → 0 < more) → 0 < piece_count first lo hi + more
counted_at true first epochs rest lo hi more some is later =
    let e : epochs ≡ first = cc in
    let n : piece_count epochs lo hi ≡ piece_count first lo hi = ap (λ z. piece_count z lo hi) e in
    omega (arith, n, some)
counted_at false first epochs rest lo hi more some is later = omega (arith, later is)

-- where one timeline has a piece, all of them have
pub counted_beside : (variables : List ℕ) (timelines : List (List Epoch)) (v lo hi : ℕ) (epochs : List Epoch) → Some epochs ≡ beside variables timelines v →
    0 < piece_count epochs lo hi → 0 < pieces_of_all timelines lo hi
counted_beside [] timelines v lo hi epochs is some = cc
counted_beside (u ∷ variables) [] v lo hi epochs is some = cc
counted_beside (u ∷ variables) (first ∷ timelines) v lo hi epochs is some =
    rw (sum_by-cons (λ (e : List Epoch). piece_count e lo hi) first timelines)
    (counted_at (u == v) first epochs (beside variables timelines v) lo hi (pieces_of_all timelines lo hi) some is
    (λ later. counted_beside variables timelines v lo hi epochs later some))

-- the same of a line that is told
pub counted_line : (line : Option Line) (some all : ℕ) → IfSome line (λ l. 0 < some) → (0 < some → 0 < all) → IfSome line (λ l. 0 < all)
counted_line None some all there on = there
counted_line (Some l) some all there on = on there

-- ---- a coordinate is the value of its attribute

module _ (t : ℕ) (p : Point) where
  x_by : (u : Dynamic) (y : Option Dynamic) → place_by (Some u) y t ≡ Some p → value_at u t ≡ p.x
  x_by u None is = absurd (false≢true (ap is_some is))
  x_by u (Some v) is = cc

  x_in : (x : Option Cell) (y : Option Dynamic) → place_by (option_and_then dynamic_of x) y t ≡ Some p →
      option_map (λ cell. cell_value cell t) x ≡ Some (values.Num p.x)
  x_in None y is = absurd (false≢true (ap is_some is))
  x_in (Some (cells.Num n)) y is = absurd (false≢true (ap is_some is))
  x_in (Some (cells.Text s)) y is = absurd (false≢true (ap is_some is))
  x_in (Some (cells.Dyn u)) y is = ap (λ n. Some (values.Num n)) (x_by u y is)

  y_in : (x : Option Dynamic) (y : Option Cell) → place_by x (option_and_then dynamic_of y) t ≡ Some p →
      option_map (λ cell. cell_value cell t) y ≡ Some (values.Num p.y)
  y_in None y is = absurd (false≢true (ap is_some is))
  y_in (Some u) None is = absurd (false≢true (ap is_some is))
  y_in (Some u) (Some (cells.Num n)) is = absurd (false≢true (ap is_some is))
  y_in (Some u) (Some (cells.Text s)) is = absurd (false≢true (ap is_some is))
  y_in (Some u) (Some (cells.Dyn v)) is = cc

  coordinate_in : (there : Option (List Cell)) (a : ℕ) (value : Value) → position_in t there ≡ Some p →
      Some value ≡ option_map values.Num (coordinate p a) → option_map (λ cell. cell_value cell t) (cell_in there a) ≡ Some value
  coordinate_in there zero value placed is = x_in (cell_in there 0) (dynamic_in there 1) placed ∙ sym is
  coordinate_in there (suc zero) value placed is = y_in (dynamic_in there 0) (cell_in there 1) placed ∙ sym is
  coordinate_in there (suc (suc a)) value placed is =
      let first : (suc (suc a) == 0) ≡ false = grind (arith, nat_tests) in
      let second : (suc (suc a) == 1) ≡ false = grind (arith, nat_tests) in
      let none : coordinate p (suc (suc a)) ≡ None = λ i. if first i then Some p.x else if second i then Some p.y else None in
      absurd (false≢true (ap (λ o. is_some (option_map values.Num o)) (sym none) ∙ ap is_some (sym is)))

-- the attribute of an index goes by its coordinate along the line
pub course_along : (course : Option Course) (state : ℕ → Option (List Cell)) (l : Line) (a lo hi : ℕ) →
    ((t : ℕ) → lo ≤ t → t ≤ hi → position_in t (state t) ≡ Some (position_after l (t - lo))) →
    ((s t : ℕ) → s ≤ t → value_along course s t ≡ option_map values.Num (coordinate (position_after l (t - s)) a)) →
    IfSome course (λ x. (t : ℕ) → lo ≤ t → t ≤ hi → option_map (λ cell. cell_value cell t) (cell_in (state t) a) ≡ Some (course_value lo t x))
course_along None state l a lo hi places along = tt
course_along (Some x) state l a lo hi places along =
    λ t from up_to. coordinate_in t (position_after l (t - lo)) (state t) a (course_value lo t x) (places t from up_to) (along lo t from)

-- ---- a term of one factor

pub value_of_one : (h : Trace) (q : RTerm) (x : Env) (t : ℕ) (factor : RSigned) (unit : Value) → q.factors ≡ factor ∷ [] →
    unit_value h x factor.unit t ≡ Some unit → term_value h q x t ≡ signed_value factor.minus factor.times unit
value_of_one h q x t factor unit one is =
    ap (λ factors. unwrap_or (reduce plus (map (factor_value h x t) factors)) None) one
    ∙ ap (option_and_then (signed_value factor.minus factor.times)) is

pub number_of_one : (values_at : ℕ → Option Value) (lo hi : ℕ) (course : Option Course) (trend : Trend) → course ≡ Some (courses.Number trend) →
    ((t : ℕ) → lo ≤ t → t ≤ hi → values_at t ≡ value_along course lo t) →
    (t : ℕ) → lo ≤ t → t ≤ hi → values_at t ≡ Some (values.Num (line_at trend.rise trend.start lo t))
number_of_one values_at lo hi course trend is along t from up_to = along t from up_to ∙ ap (λ (o : Option Course). value_along o lo t) is
