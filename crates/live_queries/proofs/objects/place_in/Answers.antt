use Rattle.live_queries.proofs.NumberedLemmas.{place_there}
use Rattle.live_queries.proofs.objects.place_in.Goals as goal

pub returns-clause-below : goal.returns-clause-below
returns-clause-below c = (place_there c.args.ids.now c.args.id c.place_among.result c.requires.there c.place_among.ensures).0

pub returns-clause-object : goal.returns-clause-object
returns-clause-object c = (place_there c.args.ids.now c.args.id c.place_among.result c.requires.there c.place_among.ensures).1
