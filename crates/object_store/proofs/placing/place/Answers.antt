use Rattle.std.proofs.Common.{arith}
use Rattle.object_store.specs.Tables.{contents_of}
use Rattle.object_store.proofs.SizeLemmas.{few_objects}
use Rattle.object_store.proofs.placing.place.Goals as goal

pub push_patches-requires-clause-few : goal.push_patches-requires-clause-few
push_patches-requires-clause-few c = omega (arith, few_objects (contents_of c.args.tables.now) c.requires.kept.sound)
