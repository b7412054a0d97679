use Rattle.command_text.proofs.JournalLemmas.{text_bytes}
use Rattle.command_text.proofs.journal.Journal.bytes.Goals as goal

-- the text is the lines with their line feeds
pub returns-clause-value : goal.returns-clause-value
returns-clause-value c =
    let told = text_bytes c.self.inside.kept.items c.self.inside.text.items c.self.invariant.lines in
    let view = c.self.view_is in
    let len = c.len.ensures in
    cc
