use Rattle.std.proofs.Common.{◌≡◌, ◌≤◌, ◌+◌, ◌++◌, get_or, set, sym, ap, subst, ◌∙◌, arith}
use Rattle.std.proofs.lemmas.Result.{err_from_is_err_and}
use Rattle.command_text.specs.Journal.{clock}
use Rattle.line_meaning.specs.Journal.{world}
use Rattle.line_meaning.specs.Reply.{rows_text}
use Rattle.kept_indexes.specs.Kept.{AreIndexes, entries}
use Rattle.kept_indexes.specs.Making.{IsPlace}
use Rattle.kept_indexes.proofs.AnswerLemmas.{entries_seen, entries_stay, indexes_right, looks_are, not_refused, rows_are}
use Rattle.kept_indexes.proofs.indexes.Indexes.range.Goals as goal

pub returns-in_err-answer-in-Ok-clause-err : goal.returns-in_err-answer-in-Ok-clause-err
returns-in_err-answer-in-Ok-clause-err g c =
    let p = err_from_is_err_and c.from_residual.result c.from_residual.ensures.1 in
    rw p.1
    (ap (λ ks. entries (set ks c.in-Ok.place c.answer.new.kept)) c.self.view_is ∙ entries_stay c.args.journal.now c.args.database.now c.requires.keeps c.args.self.now c.args.range.now c.in-Ok.place c.index_mut.result.now
    (subst (λ ks. IsPlace ks c.args.database.now c.args.range.now c.in-Ok.place) (c.deref.ensures.value ∙ c.self.view_is) c.in-Ok.ensures)
    (c.index_mut.ensures.value ∙ ap (λ ks. get_or ks c.in-Ok.place c.index_mut.result.now) c.self.view_is)
    c.answer.new.kept c.in_err-answer-in-Ok.ensures.err)

pub returns-in_err-answer-in-Ok-clause-answered : goal.returns-in_err-answer-in-Ok-clause-answered
returns-in_err-answer-in-Ok-clause-answered g c =
    let p = err_from_is_err_and c.from_residual.result c.from_residual.ensures.1 in
    rw (p.1, p.2)
    (not_refused c.args.journal.now c.args.database.now c.requires.keeps c.args.self.now c.args.range.now c.in-Ok.place c.index_mut.result.now
    (subst (λ ks. IsPlace ks c.args.database.now c.args.range.now c.in-Ok.place) (c.deref.ensures.value ∙ c.self.view_is) c.in-Ok.ensures)
    (c.index_mut.ensures.value ∙ ap (λ ks. get_or ks c.in-Ok.place c.index_mut.result.now) c.self.view_is))

pub returns-in_err-answer-in-Ok-clause-reads : goal.returns-in_err-answer-in-Ok-clause-reads
returns-in_err-answer-in-Ok-clause-reads g c = record {
  least = omega arith;
  most = (subst (λ n. c.answer.new.reads ≤ c.args.reads.now + n) (looks_are c.args.journal.now c.args.database.now c.requires.keeps c.args.self.now c.args.range.now c.in-Ok.place c.index_mut.result.now
      (subst (λ ks. IsPlace ks c.args.database.now c.args.range.now c.in-Ok.place) (c.deref.ensures.value ∙ c.self.view_is) c.in-Ok.ensures)
      (c.index_mut.ensures.value ∙ ap (λ ks. get_or ks c.in-Ok.place c.index_mut.result.now) c.self.view_is))
      c.answer.ensures.reads.most);
}

pub returns-in_ok-answer-in-Ok-clause-indexes : goal.returns-in_ok-answer-in-Ok-clause-indexes
returns-in_ok-answer-in-Ok-clause-indexes g c =
    subst (λ ks. AreIndexes c.args.journal.now c.args.database.now.store (set ks c.in-Ok.place c.answer.new.kept)) (sym c.self.view_is)
    (indexes_right c.args.journal.now c.args.database.now c.requires.keeps c.args.self.now c.args.range.now c.in-Ok.place c.index_mut.result.now
    (subst (λ ks. IsPlace ks c.args.database.now c.args.range.now c.in-Ok.place) (c.deref.ensures.value ∙ c.self.view_is) c.in-Ok.ensures)
    (c.index_mut.ensures.value ∙ ap (λ ks. get_or ks c.in-Ok.place c.index_mut.result.now) c.self.view_is)
    c.answer.new.kept c.answer.ensures.right c.requires.indexes)

pub returns-in_ok-answer-in-Ok-clause-entries : goal.returns-in_ok-answer-in-Ok-clause-entries
returns-in_ok-answer-in-Ok-clause-entries g c =
    ap (λ ks. entries (set ks c.in-Ok.place c.answer.new.kept)) c.self.view_is ∙ entries_seen c.args.journal.now c.args.database.now c.requires.keeps c.args.self.now c.args.range.now c.in-Ok.place c.index_mut.result.now
    (subst (λ ks. IsPlace ks c.args.database.now c.args.range.now c.in-Ok.place) (c.deref.ensures.value ∙ c.self.view_is) c.in-Ok.ensures)
    (c.index_mut.ensures.value ∙ ap (λ ks. get_or ks c.in-Ok.place c.index_mut.result.now) c.self.view_is)
    c.answer.new.kept c.in_ok-answer-in-Ok.ensures.entry

pub returns-in_ok-answer-in-Ok-clause-answered : goal.returns-in_ok-answer-in-Ok-clause-answered
returns-in_ok-answer-in-Ok-clause-answered g c = (
  not_refused c.args.journal.now c.args.database.now c.requires.keeps c.args.self.now c.args.range.now c.in-Ok.place c.index_mut.result.now
      (subst (λ ks. IsPlace ks c.args.database.now c.args.range.now c.in-Ok.place) (c.deref.ensures.value ∙ c.self.view_is) c.in-Ok.ensures)
      (c.index_mut.ensures.value ∙ ap (λ ks. get_or ks c.in-Ok.place c.index_mut.result.now) c.self.view_is),
  c.in_ok-answer-in-Ok.ensures.rows
      ∙ ap (λ rows. c.args.out.now.items ++ rows_text (world c.args.journal.now).history.catalog (clock c.args.journal.now) rows)
      (rows_are c.args.journal.now c.args.database.now c.requires.keeps c.args.self.now c.args.range.now c.in-Ok.place c.index_mut.result.now
      (subst (λ ks. IsPlace ks c.args.database.now c.args.range.now c.in-Ok.place) (c.deref.ensures.value ∙ c.self.view_is) c.in-Ok.ensures)
      (c.index_mut.ensures.value ∙ ap (λ ks. get_or ks c.in-Ok.place c.index_mut.result.now) c.self.view_is)),
)

pub returns-in_ok-answer-in-Ok-clause-reads : goal.returns-in_ok-answer-in-Ok-clause-reads
returns-in_ok-answer-in-Ok-clause-reads g c = record {
  least = omega arith;
  most = (subst (λ n. c.answer.new.reads ≤ c.args.reads.now + n) (looks_are c.args.journal.now c.args.database.now c.requires.keeps c.args.self.now c.args.range.now c.in-Ok.place c.index_mut.result.now
      (subst (λ ks. IsPlace ks c.args.database.now c.args.range.now c.in-Ok.place) (c.deref.ensures.value ∙ c.self.view_is) c.in-Ok.ensures)
      (c.index_mut.ensures.value ∙ ap (λ ks. get_or ks c.in-Ok.place c.index_mut.result.now) c.self.view_is))
      c.answer.ensures.reads.most);
}
