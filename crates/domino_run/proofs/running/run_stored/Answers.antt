use Rattle.std.proofs.Common.{refl, ap, sym, ◌∙◌}
use Rattle.run_ends.specs.Whole.{Says}
use Rattle.domino_run.specs.declared.opening.OpenFault.TheVariants as faults
use Rattle.run_ends.specs.declared.status.Status.TheVariants.{BadSession}
use Rattle.domino_run.proofs.RunLemmas.{answered_runs, counts_of, fetch_failed, nothing_done, opened_within, opens_of, said_runs, same_seen, stored_within}
use Rattle.domino_run.proofs.running.run_stored.Goals as goal

pub returns-in-Ok : goal.returns-in-Ok
returns-in-Ok g c =
    answered_runs _ c.in-Ok.session c.args.limit _ _ _ _ _ _ _ _ refl c.in-Ok.ensures.cause c.in-Ok.ensures.unchanged
    (λ texts told. c.in-Ok.ensures.opens texts told) (λ bytes texts told lines.
    stored_within c.args.name.now c.in-Ok.session c.args.limit bytes texts _ _ _ (c.in-Ok.ensures.most texts told)
    (c.in-Ok.ensures.opens texts told) lines) c.answer_lines.ensures

pub returns-in-Ok-bad_session : goal.returns-in-Ok-bad_session
returns-in-Ok-bad_session g c =
    said_runs c.args.limit _ _ _ _ _ _ _ c.say.result
    (record {
      saying = refl;
      may = refl;
      plan = λ texts told.
          opens_of texts c.args.name.now c.in-Err-BadSession.field-0 (faults.BadSession c.in-Err-BadSession.number)
          c.in-Err-BadSession.field-0-is (c.in-Err-BadSession.ensures.opens texts told)
          ∙ ap (λ said. Says said BadSession) (sym (c.deref.ensures.value ∙ c.in-Ok-bad_session.ensures));
      within = λ bytes texts told. opened_within _ _ _ _ (c.in-Err-BadSession.ensures.most texts told);
    })
    (record {
      source_stays = refl;
      shelf_stays = counts_of _ _ c.in-Err-BadSession.field-0 (faults.BadSession c.in-Err-BadSession.number)
          c.in-Err-BadSession.field-0-is c.in-Err-BadSession.ensures.cause;
      left_stays = refl;
      texts_stay = c.in-Err-BadSession.ensures.unchanged;
    }) c.say.ensures

pub returns-in-Err : goal.returns-in-Err
returns-in-Err g c =
    nothing_done c.args.limit _ _ _ _ _ (same_seen _ _ _
    (counts_of _ _ c.in-Err-BadSession.field-0 (faults.BadSession c.in-Err-BadSession.number)
    c.in-Err-BadSession.field-0-is c.in-Err-BadSession.ensures.cause) c.in-Err-BadSession.ensures.unchanged) (λ bytes texts told. opened_within _ _ _ _ (c.in-Err-BadSession.ensures.most texts told))

pub returns-in-Err-NoMemory : goal.returns-in-Err-NoMemory
returns-in-Err-NoMemory g c =
    nothing_done c.args.limit _ _ _ _ _ (same_seen _ _ _
    (counts_of _ _ c.in-Err-NoMemory.field-0 faults.NoMemory c.in-Err-NoMemory.field-0-is
    c.in-Err-NoMemory.ensures.cause) c.in-Err-NoMemory.ensures.unchanged) (λ bytes texts told. opened_within _ _ _ _ (c.in-Err-NoMemory.ensures.most texts told))

pub returns-in-Err-ShelfFault : goal.returns-in-Err-ShelfFault
returns-in-Err-ShelfFault g c =
    fetch_failed c.args.limit c.args.name.now _ _ _ _ (
      counts_of _ _ c.in-Err-ShelfFault.field-0 faults.ShelfFault c.in-Err-ShelfFault.field-0-is
          c.in-Err-ShelfFault.ensures.cause,
      refl,
      refl,
    ) refl refl c.in-Err-ShelfFault.ensures.unchanged c.in-Err-ShelfFault.ensures.most
