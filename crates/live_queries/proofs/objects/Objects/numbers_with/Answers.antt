use Rattle.std.proofs.Common.{refl}
use Rattle.live_queries.proofs.PlaceLemmas.{variable_added}
use Rattle.live_queries.proofs.objects.Objects.numbers_with.Goals as goal

pub returns-then-takes : goal.returns-then-takes
returns-then-takes c =
    variable_added c.args.takes c.if-takes.true _ c.args.self.now c.self.view_is c.args.id _ c.self.invariant.0 c.requires.ascending refl refl refl
