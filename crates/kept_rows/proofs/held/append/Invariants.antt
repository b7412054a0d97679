use Rattle.std.proofs.Common.{◌≡◌, ◌+◌, ◌++◌, map, take}
use Rattle.kept_rows.proofs.held.append.Given as goal

abbrev pub invariant-numbers : goal.invariant-numbers
invariant-numbers l = l.made.items ≡ l.fn.made.items ++ map (λ d. l.base + d) (take l.number-index l.numbers)
