use Rattle.std.proofs.Common.{◌≡◌, true, ◌++◌, length}
use Rattle.std.specs.List.{list_all}
use Rattle.object_store.specs.Contents.{catalog_of}
use Rattle.reply_text.specs.Begins.{Begins}
use Rattle.registry.specs.Moves.{names_objects, told_moves_text}
use Rattle.registry.proofs.telling.push_moves.Given as goal

-- what was written and the lines of what is left make the whole
abbrev pub invariant-moves : goal.invariant-moves
invariant-moves l = record {
  whole : l.out.items ++ told_moves_text (catalog_of l.store) l.rest ≡ l.fn.out.items ++ told_moves_text (catalog_of l.store) l.moves;
  begins : Begins l.fn.out.items l.out.items;
  there : list_all (names_objects (length (catalog_of l.store).objects)) l.rest ≡ true;
}

abbrev pub decreases-moves : goal.decreases-moves
decreases-moves l = length l.rest
