use Rattle.std.proofs.Common.{◌+◌, ◌++◌, length, sym, ap, ◌∙◌, refl}
use Rattle.std.specs.List.{list_all}
use Rattle.std.proofs.lemmas.Result.{err_from_is_err_and}
use Rattle.object_store.specs.Contents.{catalog_of, history_of}
use Rattle.nearest.specs.Rows.{told_near}
use Rattle.line_meaning.specs.Reply.{rows_text}
use Rattle.database.specs.Keeping.{world_of_database}
use Rattle.database.specs.Rows.{has_objects}
use Rattle.database.proofs.NearLemmas.{found_refusal, found_rows, none_of}
use Rattle.database.proofs.RowLemmas.{near_has_objects}
use Rattle.database.proofs.near.tell_nearest.Goals as goal

pub returns-in-Some-refusal_of-clause-answered : goal.returns-in-Some-refusal_of-clause-answered
returns-in-Some-refusal_of-clause-answered g c =
    let d = c.args.database.now in
    let q = c.args.sought.now in
    let found = c.in-Some.found in
    sym (found_refusal d.store q.object.now q.class.now found.to found.class c.in-Some.ensures.0 c.in-Some.ensures.1 d.clock q.span)
    ∙ sym c.refusal_of.ensures
    ∙ c.in-Some-refusal_of.is

pub returns-in_err-rows-clause-answered : goal.returns-in_err-rows-clause-answered
returns-in_err-rows-clause-answered g c =
    let d = c.args.database.now in
    let q = c.args.sought.now in
    let found = c.in-Some.found in
    let p = err_from_is_err_and c.from_residual.result c.from_residual.ensures.1 in
    rw (p.1, p.2)
    (sym (found_refusal d.store q.object.now q.class.now found.to found.class c.in-Some.ensures.0 c.in-Some.ensures.1 d.clock q.span)
    ∙ sym c.refusal_of.ensures
    ∙ none_of c.refusal_of.result c.in_default-refusal_of.not-Some)

pub push_near-requires : goal.push_near-requires
push_near-requires g c =
    let d = c.args.database.now in
    let q = c.args.sought.now in
    ap (list_all (has_objects (length (catalog_of d.store).objects))) (ap told_near c.deref.ensures.value ∙ c.in_ok-rows.ensures.rows)
    ∙ near_has_objects (history_of d.store) c.in-Some.found.class c.in-Some.found.to q.k d.clock (d.clock + q.span)

pub returns-in_err-push_near-clause-answered : goal.returns-in_err-push_near-clause-answered
returns-in_err-push_near-clause-answered g c =
    let d = c.args.database.now in
    let q = c.args.sought.now in
    let found = c.in-Some.found in
    let p = err_from_is_err_and c.from_residual-in_err-push_near.result c.from_residual-in_err-push_near.ensures.1 in
    rw (p.1, p.2)
    (sym (found_refusal d.store q.object.now q.class.now found.to found.class c.in-Some.ensures.0 c.in-Some.ensures.1 d.clock q.span)
    ∙ sym c.refusal_of.ensures
    ∙ none_of c.refusal_of.result c.in_default-refusal_of.not-Some)

pub returns-clause-answered : goal.returns-clause-answered
returns-clause-answered g c =
    let d = c.args.database.now in
    let q = c.args.sought.now in
    let found = c.in-Some.found in (
      sym (found_refusal d.store q.object.now q.class.now found.to found.class c.in-Some.ensures.0 c.in-Some.ensures.1 d.clock q.span)
          ∙ sym c.refusal_of.ensures
          ∙ none_of c.refusal_of.result c.in_default-refusal_of.not-Some,
      c.in_ok-push_near.ensures.ok
          ∙ ap (λ rows. c.args.out.now.items ++ rows_text (catalog_of d.store) d.clock rows)
          (ap told_near c.deref.ensures.value
          ∙ c.in_ok-rows.ensures.rows
          ∙ sym (found_rows d.store q.object.now q.class.now found.to found.class c.in-Some.ensures.0 c.in-Some.ensures.1 (world_of_database d) d.clock q.span q.k refl)),
    )
