use Rattle.std.proofs.Common.{◌∙◌}
use Rattle.object_store.proofs.EntryLemmas.{index_is_of}
use Rattle.object_store.proofs.objects.index_of.Goals as goal

pub returns-clause-index : goal.returns-clause-index
returns-clause-index c = c.get_index_of.ensures.index ∙ index_is_of c.args.name.now c.args.objects.now.entries
