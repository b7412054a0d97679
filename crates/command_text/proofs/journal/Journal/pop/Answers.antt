use Rattle.std.proofs.Common.{sym}
use Rattle.command_text.specs.inner.JournalParts.{accepted}
use Rattle.command_text.proofs.JournalLemmas.{kept_removed}
use Rattle.command_text.proofs.journal.Journal.pop.Goals as goal

pub invariant_of-self : goal.invariant_of-self
invariant_of-self c =
    (kept_removed c.self.inside.kept.items c.take_last-kept.new.kept.items c.self.inside.text.items
    c.truncate.new.self.items c.take_last-kept.result c.args.self.now
    c.self.invariant (sym c.self.view_is) c.take_last-kept.ensures c.truncate.ensures.items).0

pub returns : goal.returns
returns c = (
  accepted c.self.inside.text.items c.take_last-kept.result,
  (kept_removed c.self.inside.kept.items c.take_last-kept.new.kept.items c.self.inside.text.items
      c.truncate.new.self.items c.take_last-kept.result c.args.self.now
      c.self.invariant (sym c.self.view_is) c.take_last-kept.ensures c.truncate.ensures.items).1,
)
