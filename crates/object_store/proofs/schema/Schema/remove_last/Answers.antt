use Rattle.std.proofs.Common.{◌∙◌}
use Rattle.object_store.proofs.ClassLemmas.{AreKeyed-take, values_of-take_last}
use Rattle.object_store.proofs.schema.Schema.remove_last.Goals as goal

pub invariant_of-self : goal.invariant_of-self
invariant_of-self c = rw c.truncate.ensures.entries (AreKeyed-take _ c.self.inside.classes.entries c.self.invariant)

pub returns : goal.returns
returns c =
    rw (← c.self.view_is, c.truncate.ensures.entries, c.len-count.ensures.len) (values_of-take_last c.self.inside.classes.entries)
