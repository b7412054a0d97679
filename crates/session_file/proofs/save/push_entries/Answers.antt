use Rattle.std.proofs.Common.{◌∙◌, ◌≤◌, ◌^◌, ap, sym, slice_get, option_map, arith}
use Rattle.command_text.specs.Journal.{ticks_of}
use Rattle.session_file.proofs.TextLemmas.{told_is, text_more, clock_more, ticks_of_entry}
use Rattle.session_file.proofs.save.push_entries.Goals as goal

pub entries-preserved : goal.entries-preserved
entries-preserved g c =
    let journal = c.args.journal.now in
    let i = c.entries.i in
    let line = c.unwrap.result.1.now in
    let told = told_is (slice_get journal i) c.unwrap.result.0 line (ap (option_map (λ e. (e.0, e.1.now))) (sym c.unwrap.ensures) ∙ c.entry.ensures.value) in
    let most : ticks_of told.0.1 ≤ 10 ^ 9 = omega (arith, ticks_of_entry journal i told.0 told.1, c.requires) in
    let ticks = c.ticks_of_line-ticks.ensures.ticks told.0.1 told.2 most in
    record {
      text = c.in_ok-push_line.ensures ∙ text_more journal i told.0 line c.args.text.now.items c.entries.text.items told.1 told.2 c.entries.invariant.text;
      ticks = omega (arith, c.entries.invariant.ticks, ticks, clock_more journal i told.0 told.1);
      reads = omega (arith, c.entry.ensures.step, c.entries.invariant.reads);
    }
