use Rattle.session.proofs.TrialLemmas.{none_told}
use Rattle.session.proofs.trying.commands_of.Goals as goal

pub try_rows-tried-requires-clause-told : goal.try_rows-tried-requires-clause-told
try_rows-tried-requires-clause-told c =
    none_told c.args.journal.now c.args.database.now c.new-trial.result c.new-trial.ensures.commands c.new-trial.ensures.bytes c.new-trial.ensures.short
    c.requires.keeps
