-- A parabola that opens upwards, which is convex.
use Rattle.std.specs.Prelude.{ℕ, ℤ, pos, ◌+ℤ◌, ◌*ℤ◌}

-- a k^2 + b k + c
abbrev pub parabola : ℕ → ℤ → ℤ → ℕ → ℤ
parabola a b c k = pos a *ℤ (pos k *ℤ pos k) +ℤ b *ℤ pos k +ℤ c
