-- A new store has no write.
use Rattle.std.proofs.Common.{ap}
use Rattle.object_store.specs.Contents.{history_of}
use Rattle.asking_tests.proofs.passing.passed_post_of.Goals as goal

pub pass_post-requires-clause-empty : goal.pass_post-requires-clause-empty
pass_post-requires-clause-empty c = ap history_of c.new-store.ensures
