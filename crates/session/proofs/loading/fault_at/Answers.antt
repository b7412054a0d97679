use Rattle.std.proofs.Common.{◌+◌, ap, ◌∙◌, subst, sym, arith}
use Rattle.session_file.specs.declared.fault.FileFault.TheVariants as faults
use Rattle.session_file.specs.Reading.{ExplainsReading, reading_of}
use Rattle.line_meaning.specs.Loading.{BadLine}
use Rattle.session.proofs.LoadLemmas.{faulty, few_lines}
use Rattle.session.proofs.loading.fault_at.Goals as goal

pub overflow_add-result : goal.overflow_add-result
overflow_add-result c = omega (arith, few_lines c.args.text.now)

pub returns-in-BadHeader : goal.returns-in-BadHeader
returns-in-BadHeader c =
    faulty c.args.text.now faults.BadHeader (subst (ExplainsReading (reading_of c.args.text.now)) c.in-BadHeader.is c.requires)

pub returns-in-BadLine : goal.returns-in-BadLine
returns-in-BadLine c =
    faulty c.args.text.now (faults.BadLine c.in-BadLine.number) (subst (ExplainsReading (reading_of c.args.text.now)) c.in-BadLine.is c.requires)

pub returns-in-NoEnd : goal.returns-in-NoEnd
returns-in-NoEnd c =
    faulty c.args.text.now faults.NoEnd (subst (ExplainsReading (reading_of c.args.text.now)) c.in-NoEnd.is c.requires)
    ∙ ap (λ n. BadLine (n + 1)) (sym c.line_count.ensures)
