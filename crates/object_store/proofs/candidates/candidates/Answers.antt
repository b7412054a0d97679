use Rattle.std.proofs.Common.{◌≡◌, List, ℕ, [], Some, sym, ap, subst, ◌∙◌}
use Rattle.std.specs.Option.{option_map}
use Rattle.places.specs.Places.{near_in}
use Rattle.object_store.specs.Contents.{ids_in}
use Rattle.object_store.specs.ObjectView.{objects_of}
use Rattle.object_store.specs.Placing.{patch_of}
use Rattle.object_store.specs.Searching.{IsNowhere, IsSearched}
use Rattle.object_store.proofs.ToldLemmas.{told}
use Rattle.object_store.proofs.candidates.candidates.Goals as goal

pub returns-in-Some : goal.returns-in-Some
returns-in-Some c =
    let objects = objects_of c.args.among.now.objects.now.entries in
    let area = c.args.area.now in
    let is : near_in c.args.places.now c.args.w.lo c.args.w.hi (patch_of area) ≡ Some c.in-Some.numbers.items =
    sym (ap (near_in c.args.places.now c.args.w.lo c.args.w.hi) c.patch-patch.ensures) ∙ sym c.in_ok-numbers.ensures ∙ ap (option_map (λ v. v.items)) c.in-Some.is
    in
    subst (λ (ids : List ℕ). IsSearched (IsNowhere objects area c.args.w.lo c.args.w.hi) (ids_in objects c.args.among.now.class) ids []) (sym c.of_class.ensures)
    (told c.args.places.now objects c.args.among.now.class area c.args.w.lo c.args.w.hi c.in-Some.numbers.items c.requires.placed is)
