use Rattle.std.proofs.Common.{sym, ◌∙◌}
use Rattle.object_store.proofs.Lists.{position-map}
use Rattle.line_meaning.specs.Indexed.{is_of}
use Rattle.kept_indexes.specs.Kept.{entry_of}
use Rattle.kept_indexes.proofs.judging.place_of.Goals as goal

pub returns : goal.returns
returns c = c.place_in.ensures ∙ sym (position-map (is_of c.args.at) entry_of c.args.kept.now)
