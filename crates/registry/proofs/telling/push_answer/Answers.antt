use Rattle.std.proofs.Common.{ℕ, List, ◌++◌, append-nil, length, map, sym, ap, ◌∙◌}
use Rattle.std.specs.List.{list_all}
use Rattle.std.specs.Option.{option_map}
use Rattle.object_store.specs.Contents.{catalog_of, object_info}
use Rattle.line_meaning.specs.Reply.{rows_text}
use Rattle.live_queries.specs.Told.{answer_of, query_named}
use Rattle.database.specs.Rows.{has_objects}
use Rattle.registry.proofs.AnswerLemmas.{nothing_told, rows_below, rows_of_name, rows_told}
use Rattle.registry.proofs.telling.push_answer.Goals as goal

pub push_rows-requires : goal.push_rows-requires
push_rows-requires c =
    let live = c.args.live.now in
    let name = c.args.name.now in
    let told = (rw c.in-Some.is at c.in_ok-rows.ensures) ∙ ap (λ now. option_map (λ k. answer_of k now) (query_named live name)) c.clock.ensures in
    (λ i. list_all (has_objects (length (map object_info (c.store.ensures i).objects))) (c.deref.ensures.value i))
    ∙ rows_below c.args.database.now live name c.in-Some.rows.items (rows_of_name live name c.args.database.now.clock c.in-Some.rows.items told)
    c.requires.stand c.are_kept.ensures.each

pub returns-in_ok-push_rows-in-Some-clause-ok : goal.returns-in_ok-push_rows-in-Some-clause-ok
returns-in_ok-push_rows-in-Some-clause-ok c =
    let live = c.args.live.now in
    let name = c.args.name.now in
    let told = (rw c.in-Some.is at c.in_ok-rows.ensures) ∙ ap (λ now. option_map (λ k. answer_of k now) (query_named live name)) c.clock.ensures in
    c.in_ok-push_rows-in-Some.ensures.ok
    ∙ (λ i. c.args.out.now.items ++ rows_text (catalog_of (c.store.ensures i)) (c.clock-in-Some.ensures i) (c.deref.ensures.value i))
    ∙ ap (λ (text : List ℕ). c.args.out.now.items ++ text)
    (rows_told c.args.database.now live name c.in-Some.rows.items (rows_of_name live name c.args.database.now.clock c.in-Some.rows.items told)
    c.requires.stand c.are_kept.ensures.each c.current_queries_tell_their_answers.ensures.answer)

pub returns-in-None-clause-ok : goal.returns-in-None-clause-ok
returns-in-None-clause-ok c =
    let live = c.args.live.now in
    let name = c.args.name.now in
    sym (append-nil c.args.out.now.items)
    ∙ ap (λ (text : List ℕ). c.args.out.now.items ++ text)
    (nothing_told c.args.database.now live name
    ((rw c.in-None.is at c.in_ok-rows.ensures) ∙ ap (λ now. option_map (λ k. answer_of k now) (query_named live name)) c.clock.ensures))
