use Rattle.std.proofs.Common.{◌∙◌, ap, map}
use Rattle.line_meaning.specs.Journal.{attribute_of}
use Rattle.database.proofs.AttemptLemmas.{class_carries}
use Rattle.database.proofs.objects.class.Goals as goal

pub returns-in-Ok : goal.returns-in-Ok
returns-in-Ok c =
    class_carries c.args.name c.args.capacity c.args.point c.args.attrs.now c.deref.result.now c.args.database.now c.add_class.new.self
    (c.deref.ensures.value ∙ c.in_ok-attrs.ensures ∙ ap (map attribute_of) c.items.ensures)
    c.in-Ok.ensures.accepted c.requires.timely.in_range c.requires.timely.written c.in-Ok.ensures.ok c.in-Ok.ensures.stands c.in-Ok.ensures.spare c.in-Ok.ensures.undo
