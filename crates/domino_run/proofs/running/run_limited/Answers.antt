use Rattle.std.proofs.Common.{◌≤◌, ◌+◌, refl, ap, subst, sym, ◌∙◌}
use Rattle.run_ends.specs.Whole.{Says, Answers}
use Rattle.domino_run.specs.Whole.{plan_of, started}
use Rattle.domino_run.specs.Ends.{allows_status}
use Rattle.domino_run.specs.Looks.{LooksWithin, looks_of_input}
use Rattle.run_ends.specs.declared.status.Status.TheVariants.{BadWords, Done}
use Rattle.domino_run.specs.Words.{words_view}
use Rattle.domino_run.proofs.RunLemmas.{answered_runs, answers_input, nothing_done, said_runs}
use Rattle.domino_run.proofs.running.run_limited.Goals as goal

pub returns-in-Plain : goal.returns-in-Plain
returns-in-Plain g c =
    let is = sym c.words_of.ensures ∙ ap words_view c.in-Plain.is in
    answered_runs _ c.new-session.result c.args.limit _ _ c.args.counters.reads c.args.counters.reads _ _ _ _ (ap answers_input is) refl refl
    (λ texts told. ap (λ w. plan_of w texts) is ∙ ap (λ h. Answers (started h texts)) (sym c.new-session.ensures))
    (λ bytes texts told within.
    subst (λ w. LooksWithin w c.args.limit bytes texts c.args.counters.reads c.answer_lines.result.counters.reads) (sym is)
    (subst (λ h. c.answer_lines.result.counters.reads ≤ c.args.counters.reads + looks_of_input (started h texts) c.args.limit bytes) c.new-session.ensures within))
    c.answer_lines.ensures

pub returns-in-Bad : goal.returns-in-Bad
returns-in-Bad g c =
    let is = sym c.words_of.ensures ∙ ap words_view c.in-Bad.is in
    said_runs c.args.limit _ _ _ _ _ c.args.counters.reads c.args.counters.reads c.say.result
    (record {
      saying = refl;
      may = ap (λ w. allows_status w BadWords) is;
      plan = λ texts told. ap (λ w. plan_of w texts) is;
      within = λ bytes texts told. subst (λ w. LooksWithin w c.args.limit bytes texts c.args.counters.reads c.args.counters.reads) (sym is) refl;
    })
    (record { source_stays = refl; shelf_stays = refl; left_stays = refl; texts_stay = refl }) c.say.ensures

pub returns-in-Ok : goal.returns-in-Ok
returns-in-Ok g c =
    let is = sym c.words_of.ensures ∙ ap words_view c.in-Generated.is in
    said_runs c.args.limit _ _ _ _ _ c.args.counters.reads c.summary.new.counters.reads c.say-in-Ok.result
    (record {
      saying = refl;
      may = ap (λ w. allows_status w Done) is;
      plan = λ texts told. ap (λ w. plan_of w texts) is ∙ ap (λ said. Says said Done) (sym (c.deref.ensures.value ∙ c.in-Ok.ensures.text));
      within = λ bytes texts told.
          subst (λ w. LooksWithin w c.args.limit bytes texts c.args.counters.reads c.summary.new.counters.reads) (sym is) c.summary.ensures.looks;
    })
    (record { source_stays = refl; shelf_stays = refl; left_stays = refl; texts_stay = refl }) c.say-in-Ok.ensures

pub returns-in-Err : goal.returns-in-Err
returns-in-Err g c =
    let is = sym c.words_of.ensures ∙ ap words_view c.in-Generated.is in
    nothing_done c.args.limit _ _ _ c.args.counters.reads c.summary.new.counters.reads refl
    (λ bytes texts told.
    subst (λ w. LooksWithin w c.args.limit bytes texts c.args.counters.reads c.summary.new.counters.reads) (sym is) c.summary.ensures.looks)
