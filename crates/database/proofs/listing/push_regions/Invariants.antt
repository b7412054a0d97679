use Rattle.std.proofs.Common.{◌≡◌, ◌++◌, take}
use Rattle.std.specs.List.{flat_map}
use Rattle.line_meaning.specs.Reply.{region_line}
use Rattle.reply_text.specs.Begins.{Begins}
use Rattle.database.proofs.listing.push_regions.Given as goal

-- the lines of the regions so far
abbrev pub invariant-regions : goal.invariant-regions
invariant-regions l = record {
  whole : l.out.items ≡ l.fn.out.items ++ flat_map region_line (take l.number l.regions);
  begins : Begins l.fn.out.items l.out.items;
}
