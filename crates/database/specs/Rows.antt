-- The rows of an answer, as they are printed.
use Rattle.std.specs.Prelude.{ℕ, Bool, nat_lt}
use Rattle.std.specs.List.{list_all}
use Rattle.meaning.specs.Answer.{Row}

-- the objects of a row are some of so many
abbrev pub has_objects : ℕ → Row → Bool
has_objects count row = list_all (λ id. nat_lt id count) row.key
