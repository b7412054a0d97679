-- Writes to the cells of an epoch.
use Rattle.std.proofs.Common.{◌≡◌, ℕ, zero, suc, ◌<◌, ◌≤◌, List, [], ◌∷◌, length, get_or, set, refl, ap, arith}
use Rattle.motion.specs.declared.cell.Cell.{Cell}
use Rattle.motion.specs.declared.cell.Given.{Given}
use Rattle.motion.specs.Cells.{set_at, written}

-- a write at an index that is there
pub set_at-within : (cells : List Cell) (s index : ℕ) (given : Given) (cell : Cell) → index < length cells → cell ≡ get_or cells index cell
    → set cells index (written s cell given) ≡ set_at s cells index given
set_at-within [] s index given cell within is = absurd (omega arith)
set_at-within (first ∷ cells) s zero given cell within is = ap (λ now. written s now given ∷ cells) is
set_at-within (first ∷ cells) s (suc index) given cell within is = ap (λ later. first ∷ later) (set_at-within cells s index given cell (omega arith) is)

-- and at one that isn't
pub set_at-past : (cells : List Cell) (s index : ℕ) (given : Given) → length cells ≤ index → cells ≡ set_at s cells index given
set_at-past [] s index given past = refl
set_at-past (first ∷ cells) s zero given past = absurd (omega arith)
set_at-past (first ∷ cells) s (suc index) given past = ap (λ later. first ∷ later) (set_at-past cells s index given (omega arith))
