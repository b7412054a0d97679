-- Chains of readers, and parts that take a token at least.
use Rattle.std.proofs.Common.{◌≡◌, ◌<◌, Bool, true, false, length, Some, None}
use Rattle.std.specs.Prelude.{if◌then◌else◌}
use Rattle.command_text.specs.inner.Reading.{Reader, Read}

-- a test that was passed leaves what was read
pub passed : {A : Type 0} (b : Bool) (x y : A) → (if b then Some x else None) ≡ Some y → x ≡ y
passed true x y e = cc
passed false x y e = absurd (cc)

-- each part of this kind takes a token at least
pub record Shortens {A : Type 0} (part : Reader → Read A) : Type 0 where
  pub fewer : (s later : Reader) (x : A) → part s ≡ Some (x, later) → length later.rest < length s.rest
