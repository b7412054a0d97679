use Rattle.std.proofs.Common.{subst}
use Rattle.motion.specs.Timeline.{restored, StandsAsLeft}
use Rattle.object_store.proofs.EntryLemmas.{value_there, set_at_index}
use Rattle.object_store.proofs.objects.take_back_at.Goals as goal

pub take_back-requires : goal.take_back-requires
take_back-requires c =
    let at = value_there c.args.objects.now.entries c.args.index c.index_mut-object.result.now c.index_mut-object.ensures.value in
    subst (λ epochs. StandsAsLeft epochs c.args.replaced) at.epochs (c.requires.left at.object at.there)

pub returns : goal.returns
returns c =
    set_at_index c.args.objects.now.entries c.args.index c.index_mut-object.result.now c.take_back.new.self
    (λ epochs. restored epochs c.args.replaced) c.index_mut-object.ensures.value c.take_back.ensures
