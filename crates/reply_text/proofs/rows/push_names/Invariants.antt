use Rattle.std.proofs.Common.{◌≡◌, ◌++◌, length}
use Rattle.std.specs.List.{flat_map}
use Rattle.line_meaning.specs.Reply.{name_text}
use Rattle.reply_text.specs.Begins.{Begins}
use Rattle.reply_text.proofs.rows.push_names.Given as goal

-- what was written and what the names that are left spell make the whole
abbrev pub invariant-names : goal.invariant-names
invariant-names l = record {
  whole : l.out.items ++ flat_map name_text l.rest ≡ l.fn.out.items ++ flat_map name_text l.names;
  begins : Begins l.fn.out.items l.out.items;
}

abbrev pub decreases-names : goal.decreases-names
decreases-names l = length l.rest
