-- States that differ in their indexes alone.
use Rattle.std.specs.Prelude.{◌≡◌}
use Rattle.line_meaning.specs.Step.{Base}

-- the same journal, and the same texts of the shelf
pub record AreAlike (b d : Base) : Type 0 where
  pub journal : b.held.journal ≡ d.held.journal
  pub texts : b.texts ≡ d.texts
