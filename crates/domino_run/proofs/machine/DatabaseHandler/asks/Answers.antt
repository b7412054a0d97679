use Rattle.domino_run.proofs.AskLemmas.{asks_not, trimmed_is}
use Rattle.domino_run.proofs.machine.DatabaseHandler.asks.Goals as goal

pub returns : goal.returns
returns g c context now told state none fails =
    asks_not c.args.line.now c.trim_ascii_start-command.result.now c.starts_with-saves.result c.starts_with-imports.result
    c.starts_with-exports.result (c.lines_begin_with_their_words.ensures c.args.line.now)
    (trimmed_is c.args.line.now c.trim_ascii_start-command.result.now c.trim_ascii_start-command.ensures.value)
    c.starts_with-saves.ensures.value c.starts_with-imports.ensures.value c.starts_with-exports.ensures.value none fails.1.asks
