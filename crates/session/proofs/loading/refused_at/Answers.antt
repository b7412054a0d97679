use Rattle.std.proofs.Common.{◌∙◌}
use Rattle.session.proofs.LoadLemmas.{faultless}
use Rattle.session.proofs.loading.refused_at.Goals as goal

pub returns-in-Ok : goal.returns-in-Ok
returns-in-Ok c = faultless c.args.text.now c.in-Ok.ensures.ok ∙ c.requires
