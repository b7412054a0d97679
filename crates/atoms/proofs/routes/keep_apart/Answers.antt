use Rattle.atoms.specs.Routes.{place_along}
use Rattle.atoms.proofs.RouteLemmas.{past_on_x, past_on_y}
use Rattle.atoms.proofs.routes.keep_apart.Goals as goal

pub returns-then-keep_past : goal.returns-then-keep_past
returns-then-keep_past c = λ is t from up_to least.
    past_on_x c.args.c (place_along c.args.first.now t) (place_along c.args.second.now t) least (c.keep_past.ensures c.if-keep_past.true t from up_to)

pub returns : goal.returns
returns c = λ is t from up_to least.
    past_on_y c.args.c (place_along c.args.first.now t) (place_along c.args.second.now t) least (c.keep_past-2.ensures is t from up_to)
