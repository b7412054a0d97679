use Rattle.std.proofs.Common.{◌≡◌, ◌+◌, ◌≤◌, length, sym, ◌∙◌, ap, arith}
use Rattle.command_text.specs.Journal.{bytes_of}
use Rattle.command_text.specs.declared.journal.TheConstants.{MOST_BYTES}
use Rattle.command_text.proofs.JournalLemmas.{kept_either, told_either, text_bytes}
use Rattle.command_text.proofs.journal.Journal.push.Goals as goal

pub add_line-requires : goal.add_line-requires
add_line-requires c =
    let bytes : length c.self.inside.text.items ≡ bytes_of c.args.self.now =
    text_bytes c.self.inside.kept.items c.self.inside.text.items c.self.invariant.lines ∙ ap bytes_of c.self.view_is in
    let short : bytes_of c.args.self.now + length c.args.line.now + 1 ≤ MOST_BYTES = c.requires.short in
    omega (arith, bytes, short)

pub invariant_of-self : goal.invariant_of-self
invariant_of-self c =
    kept_either c.add_line.result c.self.inside.kept.items c.add_line.new.kept.items c.self.inside.text.items
    c.add_line.new.text.items c.args.line.now c.args.tick c.args.self.now
    c.self.invariant (sym c.self.view_is) c.requires.few c.requires.short c.requires.line c.add_line.ensures.kept c.add_line.ensures.text c.add_line.ensures.err

pub returns-clause-ok : goal.returns-clause-ok
returns-clause-ok c =
    told_either c.add_line.result c.self.inside.kept.items c.add_line.new.kept.items c.self.inside.text.items
    c.add_line.new.text.items c.args.line.now c.args.tick c.args.self.now
    c.self.invariant (sym c.self.view_is) c.requires.few c.requires.short c.requires.line c.add_line.ensures.kept c.add_line.ensures.text
