use Rattle.std.proofs.Common.{subst}
use Rattle.object_store.specs.Placing.{IsPlaced}
use Rattle.object_store.proofs.along.patches_along.Goals as goal

pub returns : goal.returns
returns c = λ epochs told. record {
  short = subst (λ upto. IsPlaced c.args.from upto c.way_to.result epochs) c.upto.ensures (c.way_to.ensures epochs told);
  middle = subst (λ upto. IsPlaced c.args.from upto c.way_to-2.result epochs) c.upto-2.ensures (c.way_to-2.ensures epochs told);
  long = subst (λ upto. IsPlaced c.args.from upto c.way_to-3.result epochs) c.upto-3.ensures (c.way_to-3.ensures epochs told);
  longest = subst (λ upto. IsPlaced c.args.from upto c.way_to-4.result epochs) c.upto-4.ensures (c.way_to-4.ensures epochs told);
}
