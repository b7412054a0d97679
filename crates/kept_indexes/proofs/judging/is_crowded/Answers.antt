use Rattle.std.proofs.Common.{arith}
use Rattle.std.proofs.lemmas.Bool.Decides.{nat_tests}
use Rattle.kept_indexes.proofs.FindLemmas.{crowded}
use Rattle.kept_indexes.proofs.judging.is_crowded.Goals as goal

pub returns-then-kept-ge-INDEX_LIMIT : goal.returns-then-kept-ge-INDEX_LIMIT
returns-then-kept-ge-INDEX_LIMIT c =
    let many = c.if-kept-ge-INDEX_LIMIT.true in
    crowded c.args.kept.now c.args.at c.place_of.result c.is_none.result (grind (arith, nat_tests, many)) c.place_of.ensures c.is_none.ensures
