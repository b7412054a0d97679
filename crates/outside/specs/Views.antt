-- What contracts see of the objects in memory.
use Rattle.std.specs.Prelude.{ℕ, List}
use Rattle.outside.specs.Plan.{FailurePlan}

-- the bytes left, how many a read moves at most, and the calls that fail
pub record SourceView : Type 0 where
  pub left : List ℕ
  pub cut : ℕ
  pub plan : FailurePlan

-- the bytes written, how many a write moves at most, and the calls that fail
pub record SinkView : Type 0 where
  pub written : List ℕ
  pub cut : ℕ
  pub plan : FailurePlan

-- the names with their texts, and the calls that fail
pub record ShelfView : Type 0 where
  pub entries : List (List ℕ × List ℕ)
  pub plan : FailurePlan
