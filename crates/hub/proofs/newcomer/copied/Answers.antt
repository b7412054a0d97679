use Rattle.std.proofs.Common.{◌<◌, length, arith}
use Rattle.hub.proofs.ReplayLemmas.{copied_all, few_places, inside, line_fits, line_more, line_taken}
use Rattle.hub.proofs.newcomer.copied.Goals as goal

pub copy_entry-requires-clause-line : goal.copy_entry-requires-clause-line
copy_entry-requires-clause-line g c =
    line_fits c.args.journal.now c.requires c.entries.place _ c.in-Some.line.now c.in-Some.ensures.value c.canonical_lines_are_read_back.ensures.printed

pub copy_entry-requires-clause-accepted : goal.copy_entry-requires-clause-accepted
copy_entry-requires-clause-accepted g c =
    line_taken c.args.journal.now c.requires c.entries.place _ c.in-Some.line.now c.in-Some.ensures.value c.canonical_lines_are_read_back.ensures.printed
    c.entries.copy c.entries.invariant

pub overflow_add-place : goal.overflow_add-place
overflow_add-place g c =
    let few = few_places c.args.journal.now c.requires c.entries.place _ c.in-Some.line.now c.in-Some.ensures.value in
    omega arith

pub entries-smaller : goal.entries-smaller
entries-smaller g c =
    let within : c.entries.place < length c.args.journal.now = inside c.args.journal.now c.requires c.entries.place _ c.in-Some.line.now c.in-Some.ensures.value in
    omega arith

pub entries-preserved : goal.entries-preserved
entries-preserved g c =
    line_more c.args.journal.now c.requires c.entries.place _ c.in-Some.line.now c.in-Some.ensures.value c.canonical_lines_are_read_back.ensures.printed
    c.entries.copy c.copy_entry.new.copy c.entries.invariant c.in_ok-copy_entry.ensures

pub returns : goal.returns
returns g c = copied_all c.args.journal.now c.entries.place c.entries.copy c.entries.invariant c.in_default.ensures.value
