use Rattle.std.proofs.Common.{List, sym, subst, ◌∙◌}
use Rattle.std.proofs.lemmas.Result.{err_from_is_err_and}
use Rattle.line_meaning.specs.Indexed.{IndexEntry}
use Rattle.line_meaning.specs.Step.{held}
use Rattle.command_text.specs.Tree.{command_view}
use Rattle.kept_indexes.specs.Kept.{entries}
use Rattle.session.specs.declared.state.State.{State}
use Rattle.session.specs.Carried.{CarriesOut, moment}
use Rattle.session.specs.State.{IsState, KeepsIndexes}
use Rattle.session.proofs.CarriedLemmas.{accepted_as, stopped_as}
use Rattle.session.proofs.LiftLemmas.{carries_lifts, role_is_plain}
use Rattle.session.proofs.answer.perform.Goals as goal

pub perform_plain-requires-clause-other : goal.perform_plain-requires-clause-other
perform_plain-requires-clause-other g c = role_is_plain _ (λ is. c.in_default.not-Indexing (c.role_of.ensures ∙ is))

pub perform_plain-requires-clause-state : goal.perform_plain-requires-clause-state
perform_plain-requires-clause-state g c = subst (λ (s : State). IsState s.journal s) (sym c.prepare_for.ensures) c.requires.state

pub returns-in_default-clause-indexed : goal.returns-in_default-clause-indexed
returns-in_default-clause-indexed g c =
    let kept = subst (λ (s : State). KeepsIndexes s c.perform_plain.new.state) c.prepare_for.ensures c.perform_plain.ensures.indexes in
    kept.right c.requires.indexed

pub returns-in_default-clause-carries : goal.returns-in_default-clause-carries
returns-in_default-clause-carries g c =
    let command = command_view c.args.command.now in
    let old = c.args.state.now in
    let new = c.perform_plain.new.state in
    let kept = subst (λ (s : State). KeepsIndexes s new) c.prepare_for.ensures c.perform_plain.ensures.indexes in
    let carries = subst (λ (s : State). CarriesOut command (moment (held s.journal) c.args.out.now.items c.args.reads.now c.args.probes.now)
    (moment (held new.journal) c.perform_plain.new.out.items c.perform_plain.new.reads c.perform_plain.new.probes) c.perform_plain.result)
    c.prepare_for.ensures c.perform_plain.ensures.carries in
    subst (λ (ks : List IndexEntry). CarriesOut command (moment (record { journal = old.journal; indexes = entries old.indexes }) c.args.out.now.items c.args.reads.now c.args.probes.now)
    (moment (record { journal = new.journal; indexes = ks }) c.perform_plain.new.out.items c.perform_plain.new.reads c.perform_plain.new.probes) c.perform_plain.result)
    (sym kept.entries)
    (carries_lifts command (role_is_plain _ (λ is. c.in_default.not-Indexing (c.role_of.ensures ∙ is))) (entries old.indexes) old.journal new.journal _ _
    c.perform_plain.result carries)

pub returns-in_ok-on_indexes-in-Indexing-clause-carries : goal.returns-in_ok-on_indexes-in-Indexing-clause-carries
returns-in_ok-on_indexes-in-Indexing-clause-carries g c =
    accepted_as _ _ _ _ _ (c.in_ok-on_indexes-in-Indexing.ensures.carries c.args.probes.now)

pub returns-in_err-on_indexes-in-Indexing-clause-carries : goal.returns-in_err-on_indexes-in-Indexing-clause-carries
returns-in_err-on_indexes-in-Indexing-clause-carries g c =
    let p = err_from_is_err_and c.from_residual.result c.from_residual.ensures.1 in
    rw (p.1, p.2) (stopped_as _ _ _ _ (c.in_err-on_indexes-in-Indexing.ensures.carries c.args.probes.now))
