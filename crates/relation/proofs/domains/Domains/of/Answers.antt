use Rattle.std.proofs.Common.{◌≡◌, ℕ, List, sym, subst, arith}
use Rattle.std.specs.List.Sorted.{IsStrictlyIncreasing}
use Rattle.std.proofs.lemmas.Grind.{common_steps}
use Rattle.relation.specs.Key.{ids_of_variable}
use Rattle.relation.proofs.domains.Domains.of.Goals as goal

pub returns-clause-ascending : goal.returns-clause-ascending
returns-clause-ascending c =
    let same : c.items.result.now ≡ ids_of_variable c.args.self.now c.args.var = grind (arith, common_steps) in
    subst IsStrictlyIncreasing (sym same)
    (subst (λ (lists : List (List ℕ)). IsStrictlyIncreasing (ids_of_variable lists c.args.var)) c.self.view_is (c.self.invariant.domains.ascending c.args.var))
