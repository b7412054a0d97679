use Rattle.std.proofs.Common.{◌≡◌, ◌++◌, length, map}
use Rattle.line_meaning.specs.Journal.{attribute_of}
use Rattle.database.proofs.objects.attributes.Given as goal

-- those that are made and those that are left make all
abbrev pub invariant-attributes : goal.invariant-attributes
invariant-attributes l = l.made.items ++ map attribute_of l.rest ≡ map attribute_of l.attrs

abbrev pub decreases-attributes : goal.decreases-attributes
decreases-attributes l = length l.rest
