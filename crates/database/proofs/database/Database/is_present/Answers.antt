use Rattle.std.proofs.Common.{◌∙◌, sym}
use Rattle.database.proofs.FileLemmas.{absent_by, present_by}
use Rattle.database.proofs.database.Database.is_present.Goals as goal

pub returns-in-Some : goal.returns-in-Some
returns-in-Some c =
    c.present.ensures.later c.args.self.now.clock c.requires.timely.written
    ∙ present_by c.args.self.now.store c.args.name.now c.args.self.now.clock c.in-Some.id (sym c.id_of.ensures ∙ c.in-Some.is)

pub returns-in-None : goal.returns-in-None
returns-in-None c = absent_by c.args.self.now.store c.args.name.now c.args.self.now.clock (sym c.id_of.ensures ∙ c.in-None.is)
