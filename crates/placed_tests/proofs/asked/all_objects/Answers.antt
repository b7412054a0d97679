-- The domains are the objects of the classes.
use Rattle.std.proofs.Common.{List, ℕ, sym, subst}
use Rattle.formula.specs.Tree.{resolved_view}
use Rattle.narrowing.specs.Narrowed.{AreOfClasses}
use Rattle.object_store.specs.Contents.{catalog_of}
use Rattle.answers.proofs.ObjectLemmas.{domains_are_of_classes}
use Rattle.placed_tests.proofs.asked.all_objects.Goals as goal

pub returns : goal.returns
returns c =
    let q = resolved_view c.args.query.now in
    let are = domains_are_of_classes (catalog_of c.args.store.now) q in
    subst (λ (d : List (List ℕ)). AreOfClasses c.args.store.now q d) (sym c.in_ok-domains.ensures)
    (record { many = are.many; each = are.each })
