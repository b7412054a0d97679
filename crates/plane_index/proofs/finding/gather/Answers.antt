use Rattle.std.proofs.Common.{◌<◌, [], ◌∷◌, ◌++◌, length, refl, sym, ap, ◌∙◌, arith}
use Rattle.std.specs.Prelude.{slice_index, if◌then◌else◌}
use Rattle.std.proofs.lemmas.List.{length-set}
use Rattle.plane_index.specs.Index.{fresh_at}
use Rattle.plane_index.proofs.FindLemmas.{few_more, gathered, nothing_found, place_more}
use Rattle.plane_index.proofs.finding.gather.Goals as goal

pub places-init : goal.places-init
places-init c = record {
  up_to = omega arith;
  few = omega arith;
  room = refl;
  found = nothing_found (slice_index c.args.ids.now) (fresh_at c.args.marks.now);
}

pub places-preserved : goal.places-preserved
places-preserved c =
    let now = c.places.invariant in
    let place = c.places.place in
    let count = c.places.count in
    let test = c.places-test.true in
    let marked = fresh_at c.args.marks.now place in
    let id = slice_index c.args.ids.now place in
    let all = c.requires.room in
    let room = now.room in
    let few = now.few in
    let below : count < length c.places.found = omega (arith, test, all, room, few) in
    record {
      up_to = omega (arith, test);
      few = few_more c.one_if-count.result count place marked c.one_if-count.ensures few;
      room = length-set c.places.found count id ∙ room;
      found =
          gathered c.places.found count c.one_if-count.result id marked below c.one_if-count.ensures
          ∙ ap (λ xs. xs ++ (if marked then id ∷ [] else [])) now.found
          ∙ sym (place_more (slice_index c.args.ids.now) (fresh_at c.args.marks.now) place);
    }
