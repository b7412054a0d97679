use Rattle.std.proofs.Common.{◌≡◌, ◌&&◌, not, ◌∙◌}
use Rattle.tick_set.specs.Runs.{pairs}
use Rattle.tick_set.specs.Ticks.{within}
use Rattle.kept_rows.specs.Moves.{difference, if_moved}
use Rattle.kept_rows.proofs.moving.move_if_any.Goals as goal

pub returns : goal.returns
returns g c = λ p q lo hi of-gained of-lost.
    let gained : pairs c.in_ok-gained.gained.items ≡ difference q p lo hi =
    c.runs_are_those_of_the_list.ensures.within (g.S.TickSet.member c.args.changed.now.gained) (λ t. q t && not (p t)) lo hi c.in_ok-gained.gained.items c.in_ok-gained.ensures of-gained in
    let lost : pairs c.in_ok-lost.lost.items ≡ difference p q lo hi =
    c.runs_are_those_of_the_list.ensures.within (g.S.TickSet.member c.args.changed.now.lost) (λ t. p t && not (q t)) lo hi c.in_ok-lost.lost.items c.in_ok-lost.ensures of-lost in
    let enters : c.has-enters.result ≡ (within lo hi c.args.now && (q c.args.now && not (p c.args.now))) = c.has-enters.ensures.has ∙ of-gained c.args.now in
    let leaves : c.has-leaves.result ≡ (within lo hi c.args.now && (p c.args.now && not (q c.args.now))) = c.has-leaves.ensures.has ∙ of-lost c.args.now in
    c.line_if_any.ensures
    ∙ (λ i. if_moved (record { target = c.args.target; gained = gained i; lost = lost i; enters = enters i; leaves = leaves i }) (gained i) (lost i))
