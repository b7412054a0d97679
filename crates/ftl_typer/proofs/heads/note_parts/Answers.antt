use Rattle.std.proofs.Common.{◌≡◌, ◌+◌, take, drop, length, length-drop, sym, ap, ◌∙◌, arith}
use Rattle.ftl_typer.specs.declared.found.FaultKind.TheVariants.{UnknownName, NameTaken}
use Rattle.ftl_typer.specs.Fault.{fault_if}
use Rattle.ftl_typer.specs.First.{found_after}
use Rattle.ftl_typer.proofs.StepLemmas.{part_step, parts_end}
use Rattle.ftl_typer.proofs.heads.note_parts.Goals as goal

pub loop-nth-preserved : goal.loop-nth-preserved
loop-nth-preserved c =
    let class = ap (λ wrong. found_after c.loop-nth.found (fault_if wrong UnknownName c.loop-nth.place)) c.is_missing-missing.ensures in
    let variable = ap (λ wrong. found_after c.note_if.new.self (fault_if wrong NameTaken (c.loop-nth.place + 1))) c.has_variable-twice.ensures in
    record {
      found =
          part_step c.args.schema.now c.args.parts.now c.loop-nth.nth c.loop-nth.place c.index-parts-nth.result
          c.loop-nth.found c.note_if.new.self c.note_if-in-loop-nth.new.self
          (omega arith) c.index-parts-nth.is (c.note_if.ensures ∙ class) (c.note_if-in-loop-nth.ensures ∙ variable)
          ∙ c.loop-nth.invariant.found;
      place = omega arith;
    }

pub returns : goal.returns
returns c =
    let parts = c.args.parts.now in
    let nth = c.loop-nth.nth in
    let none : length (drop nth parts) ≡ 0 = simp length-drop (omega arith) in
    sym (parts_end c.args.schema.now c.loop-nth.place (take nth parts) (drop nth parts) c.loop-nth.found none) ∙ c.loop-nth.invariant.found
