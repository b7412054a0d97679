use Rattle.std.proofs.Common.{ℕ, List, Some, ap, refl, false, subst, ◌∙◌}
use Rattle.std.specs.Prelude.{Ok}
use Rattle.outside.specs.Shelf.{texts_of}
use Rattle.session.specs.Answers.{Applies}
use Rattle.session.specs.declared.next.Next.TheVariants as nexts
use Rattle.line_meaning.specs.Step.{base}
use Rattle.domino_run.proofs.AnswerLemmas.{looks_within}
use Rattle.domino_run.proofs.SummaryLemmas.{accepted_counts, refused_counts}
use Rattle.domino_run.proofs.summary.answer.Goals as goal

pub returns-in_ok-push_refusal-in-Ok-Refused-clause-answers : goal.returns-in_ok-push_refusal-in-Ok-Refused-clause-answers
returns-in_ok-push_refusal-in-Ok-Refused-clause-answers g c =
    refused_counts _ _ _ _ _ _ c.apply.result
    (subst (λ (o : List ℕ). Applies (Some (texts_of c.args.shelf.now)) (Some (texts_of c.apply.new.shelf)) c.args.line.now c.args.session.now
    c.apply.new.self o c.apply.new.out.items c.apply.result) c.requires c.apply.ensures.applies)
    c.in-Ok-Refused.refusal c.push_refusal.new.out.items (c.in-Ok-Refused.is ∙ ap Ok c.in-Ok-Refused.field-0-is)
    (c.in_ok-push_refusal-in-Ok-Refused.ensures.ok)

pub returns-in-Ok-Silent-clause-answers : goal.returns-in-Ok-Silent-clause-answers
returns-in-Ok-Silent-clause-answers g c =
    accepted_counts _ _ _ _ _ _ c.apply.result
    (subst (λ (o : List ℕ). Applies (Some (texts_of c.args.shelf.now)) (Some (texts_of c.apply.new.shelf)) c.args.line.now c.args.session.now
    c.apply.new.self o c.apply.new.out.items c.apply.result) c.requires c.apply.ensures.applies)
    nexts.Silent tt (c.in-Ok-Silent.is ∙ ap Ok c.in-Ok-Silent.field-0-is)

pub returns-in-Ok-Accepted-clause-answers : goal.returns-in-Ok-Accepted-clause-answers
returns-in-Ok-Accepted-clause-answers g c =
    accepted_counts _ _ _ _ _ _ c.apply.result
    (subst (λ (o : List ℕ). Applies (Some (texts_of c.args.shelf.now)) (Some (texts_of c.apply.new.shelf)) c.args.line.now c.args.session.now
    c.apply.new.self o c.apply.new.out.items c.apply.result) c.requires c.apply.ensures.applies)
    nexts.Accepted tt (c.in-Ok-Accepted.is ∙ ap Ok c.in-Ok-Accepted.field-0-is)

pub returns-in-Ok-Quit-clause-answers : goal.returns-in-Ok-Quit-clause-answers
returns-in-Ok-Quit-clause-answers g c =
    accepted_counts _ _ _ _ _ _ c.apply.result
    (subst (λ (o : List ℕ). Applies (Some (texts_of c.args.shelf.now)) (Some (texts_of c.apply.new.shelf)) c.args.line.now c.args.session.now
    c.apply.new.self o c.apply.new.out.items c.apply.result) c.requires c.apply.ensures.applies)
    nexts.Quit tt (c.in-Ok-Quit.is ∙ ap Ok c.in-Ok-Quit.field-0-is)

pub returns-in_ok-push_refusal-in-Ok-Refused-clause-looks : goal.returns-in_ok-push_refusal-in-Ok-Refused-clause-looks
returns-in_ok-push_refusal-in-Ok-Refused-clause-looks g c =
    looks_within (Some (texts_of c.args.shelf.now)) (Some (texts_of c.apply.new.shelf)) c.args.line.now c.args.session.now
    c.apply.new.self false c.args.reply.now.items c.apply.new.out.items c.apply.result c.apply.ensures.applies
    c.args.counters.now.reads c.apply.new.reads c.apply.ensures.most c.apply.ensures.unread
    (record { base = base c.args.session.now (texts_of c.args.shelf.now); ended = false }) refl

pub returns-in_err-push_refusal-in-Ok-Refused-clause-looks : goal.returns-in_err-push_refusal-in-Ok-Refused-clause-looks
returns-in_err-push_refusal-in-Ok-Refused-clause-looks g c =
    looks_within (Some (texts_of c.args.shelf.now)) (Some (texts_of c.apply.new.shelf)) c.args.line.now c.args.session.now
    c.apply.new.self false c.args.reply.now.items c.apply.new.out.items c.apply.result c.apply.ensures.applies
    c.args.counters.now.reads c.apply.new.reads c.apply.ensures.most c.apply.ensures.unread
    (record { base = base c.args.session.now (texts_of c.args.shelf.now); ended = false }) refl

pub returns-in-Ok-Silent-clause-looks : goal.returns-in-Ok-Silent-clause-looks
returns-in-Ok-Silent-clause-looks g c =
    looks_within (Some (texts_of c.args.shelf.now)) (Some (texts_of c.apply.new.shelf)) c.args.line.now c.args.session.now
    c.apply.new.self false c.args.reply.now.items c.apply.new.out.items c.apply.result c.apply.ensures.applies
    c.args.counters.now.reads c.apply.new.reads c.apply.ensures.most c.apply.ensures.unread
    (record { base = base c.args.session.now (texts_of c.args.shelf.now); ended = false }) refl

pub returns-in-Ok-Accepted-clause-looks : goal.returns-in-Ok-Accepted-clause-looks
returns-in-Ok-Accepted-clause-looks g c =
    looks_within (Some (texts_of c.args.shelf.now)) (Some (texts_of c.apply.new.shelf)) c.args.line.now c.args.session.now
    c.apply.new.self false c.args.reply.now.items c.apply.new.out.items c.apply.result c.apply.ensures.applies
    c.args.counters.now.reads c.apply.new.reads c.apply.ensures.most c.apply.ensures.unread
    (record { base = base c.args.session.now (texts_of c.args.shelf.now); ended = false }) refl

pub returns-in-Ok-Quit-clause-looks : goal.returns-in-Ok-Quit-clause-looks
returns-in-Ok-Quit-clause-looks g c =
    looks_within (Some (texts_of c.args.shelf.now)) (Some (texts_of c.apply.new.shelf)) c.args.line.now c.args.session.now
    c.apply.new.self false c.args.reply.now.items c.apply.new.out.items c.apply.result c.apply.ensures.applies
    c.args.counters.now.reads c.apply.new.reads c.apply.ensures.most c.apply.ensures.unread
    (record { base = base c.args.session.now (texts_of c.args.shelf.now); ended = false }) refl

pub returns-in-Err-NoMemory-clause-looks : goal.returns-in-Err-NoMemory-clause-looks
returns-in-Err-NoMemory-clause-looks g c =
    looks_within (Some (texts_of c.args.shelf.now)) (Some (texts_of c.apply.new.shelf)) c.args.line.now c.args.session.now
    c.apply.new.self false c.args.reply.now.items c.apply.new.out.items c.apply.result c.apply.ensures.applies
    c.args.counters.now.reads c.apply.new.reads c.apply.ensures.most c.apply.ensures.unread
    (record { base = base c.args.session.now (texts_of c.args.shelf.now); ended = false }) refl
