use Rattle.std.proofs.Common.{List, sym, ap, ◌∙◌, subst}
use Rattle.database.specs.declared.change.Change.{Change}
use Rattle.database.specs.declared.database.Database.{Database}
use Rattle.session.specs.Trial.{IsStack, bottom}
use Rattle.session.proofs.TrialLemmas.{bottom_last, stack_last}
use Rattle.session.proofs.trying.take_back.Goals as goal

pub take_back-requires : goal.take_back-requires
take_back-requires c =
    (stack_last c.pop.new.self.items c.in-Some.change c.changes.database
    (subst (λ (cs : List Change). IsStack cs c.changes.database) c.in-Some.ensures.items c.changes.invariant.stack)).0

pub changes-preserved : goal.changes-preserved
changes-preserved c =
    let left = c.pop.new.self.items in
    let change = c.in-Some.change in
    let d = c.changes.database in
    let two = stack_last left change d (subst (λ (cs : List Change). IsStack cs d) c.in-Some.ensures.items c.changes.invariant.stack) in
    record {
      stack = subst (λ (x : Database). IsStack left x) (sym c.take_back.ensures) two.1;
      back = ap (bottom left) c.take_back.ensures ∙ sym (bottom_last left change d)
          ∙ ap (λ (cs : List Change). bottom cs d) (sym c.in-Some.ensures.items) ∙ c.changes.invariant.back;
    }
