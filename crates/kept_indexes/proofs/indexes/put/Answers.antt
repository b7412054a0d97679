use Rattle.std.proofs.Common.{◌++◌, ◌∷◌, [], sym, subst, ap, ◌∙◌}
use Rattle.std.specs.List.{position}
use Rattle.line_meaning.specs.Indexed.{is_of}
use Rattle.kept_indexes.specs.Kept.{entries}
use Rattle.kept_indexes.specs.Making.{IsPut}
use Rattle.kept_indexes.proofs.MakeLemmas.{put_in, put_last}
use Rattle.kept_indexes.proofs.indexes.put.Goals as goal

pub returns-in-Some-clause-ok : goal.returns-in-Some-clause-ok
returns-in-Some-clause-ok c =
    put_in c.args.at c.args.new c.args.kept.now.items c.in-Some.place
    (ap (λ kept. position (is_of c.args.at) (entries kept)) (sym c.deref.ensures.value) ∙ sym c.place_of.ensures ∙ c.in-Some.is)

pub returns-in_ok-push-in-None-clause-ok : goal.returns-in_ok-push-in-None-clause-ok
returns-in_ok-push-in-None-clause-ok c =
    subst (λ items. IsPut c.args.at c.args.new c.args.kept.now.items items) (sym c.in_ok-push-in-None.ensures.items)
    (put_last c.args.at c.args.new c.args.kept.now.items
    (ap (λ kept. position (is_of c.args.at) (entries kept)) (sym c.deref.ensures.value) ∙ sym c.place_of.ensures ∙ c.in-None.is))
