use Rattle.live_queries.proofs.PlaceLemmas.{at_place, place_found, place_missing}
use Rattle.live_queries.proofs.objects.place_of.Goals as goal

pub returns-then-is_at : goal.returns-then-is_at
returns-then-is_at c =
    let there = c.is_at.ensures c.if-is_at.true in
    at_place c.args.ids.now c.requires.ascending c.args.likely c.args.id there.0 there.1

pub returns-in-Ok : goal.returns-in-Ok
returns-in-Ok c = place_found c.args.ids.now c.requires.ascending c.args.id c.in-Ok.place c.in-Ok.ensures.position

pub returns-in-Err : goal.returns-in-Err
returns-in-Err c = place_missing c.args.ids.now c.requires.ascending c.args.id _ c.args.other c.in-Err.ensures.position c.requires.other
