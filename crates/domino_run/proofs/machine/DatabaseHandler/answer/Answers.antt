use Rattle.std.proofs.Common.{◌≡◌, ◌||◌, Bool, true, false, refl, ap, ◌∙◌}
use Rattle.std.specs.Prelude.{Ok, Err}
use Rattle.session.specs.declared.next.Next.TheVariants as nexts
use Rattle.domino_run.proofs.AnswerLemmas.{accepted, looks_within, memory_failed, refused_answers, refused_cause, shelf_failed}
use Rattle.domino_run.proofs.machine.DatabaseHandler.answer.Goals as goal

or_false : (x : Bool) → x ≡ (x || false)
or_false true = refl
or_false false = refl

or_true : (x : Bool) → true ≡ (x || true)
or_true true = refl
or_true false = refl

pub returns-in-Ok-Silent-clause-step : goal.returns-in-Ok-Silent-clause-step
returns-in-Ok-Silent-clause-step g c s start =
    accepted (g.F.Shelf.texts c.args.shelf.now) (g.F.Shelf.texts c.apply.new.shelf) c.args.line.now c.args.self.now.session
    c.apply.new.self c.args.self.now.ended c.args.out.now.items c.apply.new.out.items c.apply.result c.apply.ensures.applies
    nexts.Silent c.args.self.now.ended tt
    (c.in-Ok-Silent.is ∙ ap Ok c.in-Ok-Silent.field-0-is) (or_false c.args.self.now.ended) s start

pub returns-in-Ok-Accepted-clause-step : goal.returns-in-Ok-Accepted-clause-step
returns-in-Ok-Accepted-clause-step g c s start =
    accepted (g.F.Shelf.texts c.args.shelf.now) (g.F.Shelf.texts c.apply.new.shelf) c.args.line.now c.args.self.now.session
    c.apply.new.self c.args.self.now.ended c.args.out.now.items c.apply.new.out.items c.apply.result c.apply.ensures.applies
    nexts.Accepted c.args.self.now.ended tt
    (c.in-Ok-Accepted.is ∙ ap Ok c.in-Ok-Accepted.field-0-is) (or_false c.args.self.now.ended) s start

pub returns-in-Ok-Quit-clause-step : goal.returns-in-Ok-Quit-clause-step
returns-in-Ok-Quit-clause-step g c s start =
    accepted (g.F.Shelf.texts c.args.shelf.now) (g.F.Shelf.texts c.apply.new.shelf) c.args.line.now c.args.self.now.session
    c.apply.new.self c.args.self.now.ended c.args.out.now.items c.apply.new.out.items c.apply.result c.apply.ensures.applies
    nexts.Quit true tt
    (c.in-Ok-Quit.is ∙ ap Ok c.in-Ok-Quit.field-0-is) (or_true c.args.self.now.ended) s start

pub returns-in-Ok-Refused-clause-step : goal.returns-in-Ok-Refused-clause-step
returns-in-Ok-Refused-clause-step g c s start =
    refused_answers (g.F.Shelf.texts c.args.shelf.now) (g.F.Shelf.texts c.apply.new.shelf) c.args.line.now c.args.self.now.session
    c.apply.new.self c.args.self.now.ended c.args.out.now.items c.apply.new.out.items c.apply.result c.apply.ensures.applies
    c.in-Ok-Refused.refusal c.push_refusal.result c.push_refusal.new.out.items
    (c.in-Ok-Refused.is ∙ ap Ok c.in-Ok-Refused.field-0-is) c.push_refusal.ensures.ok c.push_refusal.ensures.err s start

pub returns-in-Ok-Refused-clause-cause : goal.returns-in-Ok-Refused-clause-cause
returns-in-Ok-Refused-clause-cause g c =
    refused_cause (g.F.Shelf.faults c.args.shelf.now) (g.F.Shelf.faults c.apply.new.shelf) c.apply.result c.in-Ok-Refused.refusal
    c.push_refusal.result c.apply.ensures.cause (c.in-Ok-Refused.is ∙ ap Ok c.in-Ok-Refused.field-0-is) c.push_refusal.ensures.err

pub returns-in-Err-ShelfFault-clause-step : goal.returns-in-Err-ShelfFault-clause-step
returns-in-Err-ShelfFault-clause-step g c s start =
    shelf_failed (g.F.Shelf.texts c.args.shelf.now) (g.F.Shelf.texts c.apply.new.shelf) c.args.line.now c.args.self.now.session
    c.apply.new.self c.args.self.now.ended c.args.out.now.items c.apply.new.out.items c.apply.result c.apply.ensures.applies
    (c.in-Err-ShelfFault.is ∙ ap Err c.in-Err-ShelfFault.field-0-is) s start

pub returns-in-Err-NoMemory-clause-step : goal.returns-in-Err-NoMemory-clause-step
returns-in-Err-NoMemory-clause-step g c s start =
    memory_failed (g.F.Shelf.texts c.args.shelf.now) (g.F.Shelf.texts c.apply.new.shelf) c.args.line.now c.args.self.now.session
    c.apply.new.self c.args.self.now.ended c.args.out.now.items c.apply.new.out.items c.apply.result c.apply.ensures.applies
    (c.in-Err-NoMemory.is ∙ ap Err c.in-Err-NoMemory.field-0-is) s start

pub returns-in-Ok-Silent-clause-spends : goal.returns-in-Ok-Silent-clause-spends
returns-in-Ok-Silent-clause-spends g c s start =
    looks_within (g.F.Shelf.texts c.args.shelf.now) (g.F.Shelf.texts c.apply.new.shelf) c.args.line.now c.args.self.now.session
    c.apply.new.self c.args.self.now.ended c.args.out.now.items c.apply.new.out.items c.apply.result c.apply.ensures.applies
    c.args.self.now.counters.reads c.apply.new.reads c.apply.ensures.most c.apply.ensures.unread s start

pub returns-in-Ok-Accepted-clause-spends : goal.returns-in-Ok-Accepted-clause-spends
returns-in-Ok-Accepted-clause-spends g c s start =
    looks_within (g.F.Shelf.texts c.args.shelf.now) (g.F.Shelf.texts c.apply.new.shelf) c.args.line.now c.args.self.now.session
    c.apply.new.self c.args.self.now.ended c.args.out.now.items c.apply.new.out.items c.apply.result c.apply.ensures.applies
    c.args.self.now.counters.reads c.apply.new.reads c.apply.ensures.most c.apply.ensures.unread s start

pub returns-in-Ok-Quit-clause-spends : goal.returns-in-Ok-Quit-clause-spends
returns-in-Ok-Quit-clause-spends g c s start =
    looks_within (g.F.Shelf.texts c.args.shelf.now) (g.F.Shelf.texts c.apply.new.shelf) c.args.line.now c.args.self.now.session
    c.apply.new.self c.args.self.now.ended c.args.out.now.items c.apply.new.out.items c.apply.result c.apply.ensures.applies
    c.args.self.now.counters.reads c.apply.new.reads c.apply.ensures.most c.apply.ensures.unread s start

pub returns-in-Ok-Refused-clause-spends : goal.returns-in-Ok-Refused-clause-spends
returns-in-Ok-Refused-clause-spends g c s start =
    looks_within (g.F.Shelf.texts c.args.shelf.now) (g.F.Shelf.texts c.apply.new.shelf) c.args.line.now c.args.self.now.session
    c.apply.new.self c.args.self.now.ended c.args.out.now.items c.apply.new.out.items c.apply.result c.apply.ensures.applies
    c.args.self.now.counters.reads c.apply.new.reads c.apply.ensures.most c.apply.ensures.unread s start

pub returns-in-Err-ShelfFault-clause-spends : goal.returns-in-Err-ShelfFault-clause-spends
returns-in-Err-ShelfFault-clause-spends g c s start =
    looks_within (g.F.Shelf.texts c.args.shelf.now) (g.F.Shelf.texts c.apply.new.shelf) c.args.line.now c.args.self.now.session
    c.apply.new.self c.args.self.now.ended c.args.out.now.items c.apply.new.out.items c.apply.result c.apply.ensures.applies
    c.args.self.now.counters.reads c.apply.new.reads c.apply.ensures.most c.apply.ensures.unread s start

pub returns-in-Err-NoMemory-clause-spends : goal.returns-in-Err-NoMemory-clause-spends
returns-in-Err-NoMemory-clause-spends g c s start =
    looks_within (g.F.Shelf.texts c.args.shelf.now) (g.F.Shelf.texts c.apply.new.shelf) c.args.line.now c.args.self.now.session
    c.apply.new.self c.args.self.now.ended c.args.out.now.items c.apply.new.out.items c.apply.result c.apply.ensures.applies
    c.args.self.now.counters.reads c.apply.new.reads c.apply.ensures.most c.apply.ensures.unread s start
