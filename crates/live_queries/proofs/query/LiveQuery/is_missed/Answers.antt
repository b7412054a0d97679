use Rattle.std.proofs.Common.{ℕ, ◌≤◌, ap, sym, ◌∙◌, subst, arith}
use Rattle.std.specs.Prelude.{nat_le}
use Rattle.std.proofs.lemmas.Bool.{not-false, not-true}
use Rattle.std.proofs.lemmas.Bool.Decides.{nat_tests}
use Rattle.narrowing.specs.Needed.{Fails, told}
use Rattle.live_queries.specs.Kept.{IsKeptQuery, KeptQuery}
use Rattle.live_queries.proofs.MissedLemmas.{missed}
use Rattle.live_queries.proofs.query.LiveQuery.is_missed.Goals as goal

pub returns-clause-fresh : goal.returns-clause-fresh
returns-clause-fresh c misses =
    let s = c.args.write.now.present.world.now.store.now in
    let lo = c.first_judged.result in
    missed s c.args.write.now.present.world.now.regions.now c.args.write.now.object.now c.requires.written c.args.write.now.present.tick lo c.args.self.now
    (subst IsKeptQuery c.self.view_is c.self.invariant.0) (c.has_clear_row.ensures (grind (arith, not-false, not-true, c.if-not-has_clear_row.false)))
    c.requires.before.0 c.requires.before.1 c.requires.before.2
    (subst (λ (y : KeptQuery). c.args.write.now.present.tick ≤ y.expiry) c.self.view_is (grind (arith, nat_tests, c.if-self-now.false)))
    (λ t h. c.first_judged.ensures.judged t (subst (λ (n : ℕ). n ≤ t) (sym c.judged_from-judged.ensures.value) h)
    ∙ ap (λ (y : KeptQuery). nat_le y.entry t) c.self.view_is)
    (λ b its. subst (λ (y : KeptQuery). Fails (told s c.args.write.now.present.world.now.regions.now b) lo y.expiry y.query.formula) c.self.view_is
    (c.misses.ensures.fails misses b its))
