use Rattle.std.proofs.Common.{◌≡◌, ◌++◌, take}
use Rattle.std.specs.List.{enumerate_from, flat_map}
use Rattle.object_store.specs.Contents.{catalog_of}
use Rattle.line_meaning.specs.Reply.{class_line}
use Rattle.reply_text.specs.Begins.{Begins}
use Rattle.database.proofs.listing.push_classes.Given as goal

-- the lines of the classes so far
abbrev pub invariant-classes : goal.invariant-classes
invariant-classes l = record {
  whole : l.out.items ≡ l.fn.out.items ++ flat_map (class_line (catalog_of l.store)) (take l.number (enumerate_from 0 l.store.classes));
  begins : Begins l.fn.out.items l.out.items;
}
