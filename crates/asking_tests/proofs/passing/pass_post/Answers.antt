-- The writes, one after the other.
use Rattle.std.proofs.Common.{[], ◌∷◌, ◌∙◌}
use Rattle.std.specs.Prelude.{codes}
use Rattle.history.specs.History.{history}
use Rattle.history.specs.Write.{Insert, Remove}
use Rattle.meaning.specs.ExampleParts.{car_class, post_class}
use Rattle.asking_tests.proofs.passing.pass_post.Goals as goal

pub returns : goal.returns
returns c =
    let classes = c.in_ok-add_class-2.ensures (car_class ∷ []) (c.in_ok-add_class.ensures [] c.requires.empty) in
    let first = Insert 0 (codes "car") (codes "a") c.args.car [] in
    let second = Insert 0 (codes "post") (codes "b") c.args.post [] in
    let objects = c.in_ok-insert-2.ensures (car_class ∷ post_class ∷ first ∷ []) (c.in_ok-insert.ensures (car_class ∷ post_class ∷ []) classes) in
    c.in_ok-remove.ensures (car_class ∷ post_class ∷ first ∷ second ∷ []) objects
    ∙ (λ i. history
    (car_class
    ∷ post_class
    ∷ Insert 0 (codes "car") (codes "a") (c.requires.car i) []
    ∷ Insert 0 (codes "post") (codes "b") (c.requires.post i) []
    ∷ Remove 25 (codes "b")
    ∷ []))
