use Rattle.std.proofs.Common.{List, ap, subst, sym, ◌∙◌}
use Rattle.command_text.specs.Tree.{command_view}
use Rattle.line_meaning.specs.Indexed.{IndexEntry}
use Rattle.kept_indexes.specs.Kept.{entries}
use Rattle.session.specs.Carried.{moment}
use Rattle.session.specs.Filed.{IsAnswered, IsBySome}
use Rattle.session.proofs.LiftLemmas.{answered_lifts, by_some_lifts, filing_is_plain}
use Rattle.line_meaning.specs.Role.{is_filing}
use Rattle.session.proofs.AnswerLemmas.{not_filing}
use Rattle.session.proofs.UntoldLemmas.{plain_is_no_import}
use Rattle.session.proofs.session.apply_command.Goals as goal

pub file-requires-clause-filing : goal.file-requires-clause-filing
file-requires-clause-filing g c = record {
  printable = c.requires.legible.printable;
  asks = ap is_filing (sym c.role_of.ensures ∙ c.in-Filing.is);
}

pub carry_out-requires-clause-command : goal.carry_out-requires-clause-command
carry_out-requires-clause-command g c = record {
  legible = c.requires.legible;
  plain = ap is_filing (sym c.role_of.ensures) ∙ not_filing c.role_of.result c.in_default.not-Filing;
}

pub returns-in-Ok-clause-some : goal.returns-in-Ok-clause-some
returns-in-Ok-clause-some g c = λ import.
    plain_is_no_import _ (ap is_filing (sym c.role_of.ensures) ∙ not_filing c.role_of.result c.in_default.not-Filing) import

pub returns-in-Err-clause-some : goal.returns-in-Err-clause-some
returns-in-Err-clause-some g c = λ import.
    plain_is_no_import _ (ap is_filing (sym c.role_of.ensures) ∙ not_filing c.role_of.result c.in_default.not-Filing) import

pub returns-in-Filing-clause-indexed : goal.returns-in-Filing-clause-indexed
returns-in-Filing-clause-indexed g c = c.file.ensures.indexes.right c.requires.indexed

pub returns-in-Filing-clause-answered : goal.returns-in-Filing-clause-answered
returns-in-Filing-clause-answered g c =
    let command = command_view c.args.command.now in
    let told = g.F.Shelf.texts c.args.shelf.now in
    let left = g.F.Shelf.texts c.file.new.shelf in
    let old = c.args.state.now in
    let new = c.file.new.state in
    subst (λ (ks : List IndexEntry). IsAnswered told left command
    (moment (record { journal = old.journal; indexes = entries old.indexes }) c.args.out.now.items c.args.reads.now c.args.probes.now)
    (moment (record { journal = new.journal; indexes = ks }) c.file.new.out.items c.file.new.reads c.file.new.probes) c.file.result)
    (sym c.file.ensures.indexes.entries)
    (answered_lifts command (filing_is_plain command (ap is_filing (sym c.role_of.ensures ∙ c.in-Filing.is))) (entries old.indexes) old.journal new.journal
    told left _ _ c.file.result c.file.ensures.answered)

pub returns-in-Filing-clause-some : goal.returns-in-Filing-clause-some
returns-in-Filing-clause-some g c = λ import.
    let command = command_view c.args.command.now in
    let told = g.F.Shelf.texts c.args.shelf.now in
    let old = c.args.state.now in
    let new = c.file.new.state in
    subst (λ (ks : List IndexEntry). IsBySome told command
    (moment (record { journal = old.journal; indexes = entries old.indexes }) c.args.out.now.items c.args.reads.now c.args.probes.now)
    (moment (record { journal = new.journal; indexes = ks }) c.file.new.out.items c.file.new.reads c.file.new.probes) c.file.result)
    (sym c.file.ensures.indexes.entries)
    (by_some_lifts command (filing_is_plain command (ap is_filing (sym c.role_of.ensures ∙ c.in-Filing.is))) (entries old.indexes) old.journal new.journal
    told _ _ c.file.result (c.file.ensures.some import))
