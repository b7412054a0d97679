use Rattle.std.proofs.Common.{◌≡◌, true, ℤ, ◌-ℤ◌, sym, subst, ◌∙◌, arith}
use Rattle.std.specs.Prelude.{int_lt}
use Rattle.std.proofs.lemmas.Int.{ints}
use mir.Syntax.{w64}
use mir.Val.{to_z, of_z}
use Rattle.pairs.proofs.FarLemmas.{past_above, past_below}
use Rattle.pairs.proofs.reach.Reach.is_past.Goals as goal

pub returns-then-is_wider : goal.returns-then-is_wider
returns-then-is_wider c = λ e m n inside there.
    let gap : to_z w64 (of_z w64 c.apart.result) ≡ c.args.other.now.least -ℤ c.args.self.now.greatest = omega (arith, ints) in
    past_above c.args.c c.args.other.now.least c.args.self.now.greatest m n
    (subst (λ (z : ℤ). int_lt c.args.c z ≡ true) gap (sym c.is_wider.ensures ∙ c.if-is_wider.true)) there.0 inside.1

pub returns : goal.returns
returns c = λ e m n inside there.
    let gap : to_z w64 (of_z w64 c.apart-2.result) ≡ c.args.self.now.least -ℤ c.args.other.now.greatest = omega (arith, ints) in
    past_below c.args.c c.args.self.now.least c.args.other.now.greatest m n
    (subst (λ (z : ℤ). int_lt c.args.c z ≡ true) gap (sym c.is_wider-2.ensures ∙ e)) inside.0 there.1
