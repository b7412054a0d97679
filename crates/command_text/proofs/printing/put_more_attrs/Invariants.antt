use Rattle.std.proofs.Common.{◌≡◌, ◌++◌, length}
use Rattle.std.specs.List.{flat_map}
use Rattle.command_text.specs.Text.{next_attr_text}
use Rattle.command_text.proofs.printing.put_more_attrs.Given as goal

-- what was written and what is left to write make the whole
abbrev pub invariant-attrs : goal.invariant-attrs
invariant-attrs l = l.out.items ++ flat_map next_attr_text l.rest ≡ l.fn.out.items ++ flat_map next_attr_text l.attrs

abbrev pub decreases-attrs : goal.decreases-attrs
decreases-attrs l = length l.rest
