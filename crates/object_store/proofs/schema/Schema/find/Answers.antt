use Rattle.std.proofs.Common.{◌∙◌}
use Rattle.object_store.proofs.ClassLemmas.{position_keyed, value_at, lookup_keyed}
use Rattle.object_store.proofs.schema.Schema.find.Goals as goal

pub returns-in-Some-clause-number : goal.returns-in-Some-clause-number
returns-in-Some-clause-number c =
    rw (← c.self.view_is) (c.in-Some.ensures.index ∙ position_keyed c.args.name.now c.self.inside.classes.entries c.self.invariant)

pub returns-in-Some-clause-at : goal.returns-in-Some-clause-at
returns-in-Some-clause-at c =
    rw (← c.self.view_is) (value_at c.self.inside.classes.entries _ _ c.in-Some.ensures.entry)

pub returns-in-Some-clause-class : goal.returns-in-Some-clause-class
returns-in-Some-clause-class c =
    rw (← c.self.view_is) (c.in-Some.ensures.value ∙ lookup_keyed c.args.name.now c.self.inside.classes.entries c.self.invariant)

pub returns-in-None-clause-number : goal.returns-in-None-clause-number
returns-in-None-clause-number c =
    rw (← c.self.view_is) (c.in-None.ensures.index ∙ position_keyed c.args.name.now c.self.inside.classes.entries c.self.invariant)

pub returns-in-None-clause-class : goal.returns-in-None-clause-class
returns-in-None-clause-class c =
    rw (← c.self.view_is) (c.in-None.ensures.value ∙ lookup_keyed c.args.name.now c.self.inside.classes.entries c.self.invariant)
