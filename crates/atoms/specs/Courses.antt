-- What a term has in a part: a text that stays, or a number that moves along a line.
use Rattle.std.specs.Prelude.{ℕ, ◌*◌, ◌^◌, ◌≤◌, ◌==◌, ℤ, unsigned_abs, ⊤, Option, None, Some, option_map, if◌then◌else◌}
use Rattle.fixed_point.specs.declared.number.Point.{Point}
use Rattle.linear_crossing.specs.Zones.{line_at}
use Rattle.formula.specs.declared.value.Value.{Value}
use Rattle.formula.specs.declared.value.Value.TheVariants as values
use Rattle.atoms.specs.declared.trends.Trend.{Trend}
use Rattle.atoms.specs.declared.terms.Course.{Course}
use Rattle.atoms.specs.declared.terms.Course.TheVariants as courses

-- the value at tick t of a part that begins at tick lo
abbrev pub course_value : ℕ → ℕ → Course → Value
course_value lo t (courses.Number m) = values.Num (line_at m.rise m.start lo t)
course_value lo t (courses.Text s) = values.Text s

-- the value where there is one
abbrev pub value_along : Option Course → ℕ → ℕ → Option Value
value_along course lo t = option_map (course_value lo t) course

-- how large a trend of so many factors is, where a factor is at most 10^6 times a unit
pub record IsTrendOf (factors : ℕ) (m : Trend) : Type 0 where
  pub rise : unsigned_abs m.rise ≤ factors * 10 ^ 12
  pub start : unsigned_abs m.start ≤ factors * 10 ^ 24

abbrev pub IsCourseOf : ℕ → Course → Type 0
IsCourseOf factors (courses.Number m) = IsTrendOf factors m
IsCourseOf factors (courses.Text s) = ⊤

-- a unit rises by at most 10^6 a tick, and begins within 10^18
pub record IsUnitTrend (m : Trend) : Type 0 where
  pub rise : unsigned_abs m.rise ≤ 10 ^ 6
  pub start : unsigned_abs m.start ≤ 10 ^ 18

abbrev pub IsUnitCourse : Course → Type 0
IsUnitCourse (courses.Number m) = IsUnitTrend m
IsUnitCourse (courses.Text s) = ⊤

-- x and y as the coordinates of the indices 0 and 1
abbrev pub coordinate : Point → ℕ → Option ℤ
coordinate p a = if a == 0 then Some p.x else if a == 1 then Some p.y else None
