use Rattle.std.proofs.Common.{◌≡◌, take, drop, length, length-drop, sym, ◌∙◌, arith}
use Rattle.ftl_typer.specs.Context.{scope_in}
use Rattle.ftl_typer.proofs.StepLemmas.{targets_end}
use Rattle.ftl_typer.proofs.heads.note_targets.Goals as goal

pub returns : goal.returns
returns c =
    let targets = c.args.targets.now in
    let at = c.loop-at.at in
    let none : length (drop at targets) ≡ 0 = simp length-drop (omega arith) in
    sym (targets_end (scope_in c.args.scope.now) at (take at targets) (drop at targets) c.loop-at.found none) ∙ c.loop-at.invariant
