use Rattle.command_text.proofs.grammar.DerivedLines.{answers_spelled, faults_told}
use Rattle.command_text.proofs.reader.LineLemmas.{comment_read, whole_read, whole_explained}
use Rattle.command_text.proofs.reading.LineReader.read.Goals as goal

pub returns-then-comment-clause-ok : goal.returns-then-comment-clause-ok
returns-then-comment-clause-ok c =
    comment_read c.args.limit c.args.line.now c.begin.new.tokens c.in_ok-comment.comment c.in_ok-comment.ensures.ok c.if-comment.true

pub returns-clause-ok : goal.returns-clause-ok
returns-clause-ok c =
    whole_read c.args.limit c.args.line.now c.begin.new.tokens c.in_ok-comment.comment c.command.result c.in_ok-comment.ensures.ok
    c.if-comment.false c.command.ensures

pub returns-clause-spelled : goal.returns-clause-spelled
returns-clause-spelled c =
    answers_spelled c.args.limit c.args.line.now c.command.result
    (whole_read c.args.limit c.args.line.now c.begin.new.tokens c.in_ok-comment.comment c.command.result c.in_ok-comment.ensures.ok
    c.if-comment.false c.command.ensures)

pub returns-clause-cause : goal.returns-clause-cause
returns-clause-cause c =
    whole_explained c.args.limit c.args.line.now c.begin.new.tokens c.in_ok-comment.comment c.command.result c.in_ok-comment.ensures.ok
    c.if-comment.false c.command.ensures

pub returns-clause-refused : goal.returns-clause-refused
returns-clause-refused c =
    faults_told c.args.limit c.args.line.now c.command.result
    (whole_explained c.args.limit c.args.line.now c.begin.new.tokens c.in_ok-comment.comment c.command.result c.in_ok-comment.ensures.ok
    c.if-comment.false c.command.ensures)
