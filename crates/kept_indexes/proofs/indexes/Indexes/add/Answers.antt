use Rattle.std.proofs.Common.{◌≡◌, None, Some, sym, ap, subst, ◌∙◌}
use Rattle.std.proofs.lemmas.Result.{err_from_is_err_and}
use Rattle.object_store.specs.Contents.{catalog_of}
use Rattle.line_meaning.specs.Indexed.{column, index_refusal}
use Rattle.database.specs.Keeping.{clock_of}
use Rattle.database.proofs.NearLemmas.{none_of}
use Rattle.kept_indexes.specs.Kept.{AreRight, IsRight, entries}
use Rattle.kept_indexes.proofs.MakeLemmas.{new_right}
use Rattle.kept_indexes.proofs.indexes.Indexes.add.Goals as goal

pub returns-in_err-index-clause-stopped : goal.returns-in_err-index-clause-stopped
returns-in_err-index-clause-stopped c =
    let p = err_from_is_err_and c.from_residual.result c.from_residual.ensures.1 in
    rw (p.1, p.2)
    (ap (index_refusal (catalog_of c.args.database.now.store) (entries c.args.self.now) (clock_of c.args.database.now))
    ((λ i. column (catalog_of (sym c.store.ensures i)) c.args.class.now c.args.attr.now) ∙ sym c.column_of.ensures ∙ c.in-Some.is)
    ∙ (λ i. index_refusal (catalog_of c.args.database.now.store) (entries ((sym c.self.view_is ∙ sym c.deref.ensures.value) i)) (clock_of c.args.database.now) (Some c.in-Some.at))
    ∙ sym c.index_refusal.ensures ∙ none_of c.index_refusal.result c.in_default-index_refusal.not-Some)

pub returns-in_err-make_room-clause-stopped : goal.returns-in_err-make_room-clause-stopped
returns-in_err-make_room-clause-stopped c =
    let p = err_from_is_err_and c.from_residual-in_err-make_room.result c.from_residual-in_err-make_room.ensures.1 in
    rw (p.1, p.2)
    (ap (index_refusal (catalog_of c.args.database.now.store) (entries c.args.self.now) (clock_of c.args.database.now))
    ((λ i. column (catalog_of (sym c.store.ensures i)) c.args.class.now c.args.attr.now) ∙ sym c.column_of.ensures ∙ c.in-Some.is)
    ∙ (λ i. index_refusal (catalog_of c.args.database.now.store) (entries ((sym c.self.view_is ∙ sym c.deref.ensures.value) i)) (clock_of c.args.database.now) (Some c.in-Some.at))
    ∙ sym c.index_refusal.ensures ∙ none_of c.index_refusal.result c.in_default-index_refusal.not-Some)

pub returns-in_err-put-clause-stopped : goal.returns-in_err-put-clause-stopped
returns-in_err-put-clause-stopped c =
    let p = err_from_is_err_and c.from_residual-in_err-put.result c.from_residual-in_err-put.ensures.1 in
    rw (p.1, p.2)
    (ap (index_refusal (catalog_of c.args.database.now.store) (entries c.args.self.now) (clock_of c.args.database.now))
    ((λ i. column (catalog_of (sym c.store.ensures i)) c.args.class.now c.args.attr.now) ∙ sym c.column_of.ensures ∙ c.in-Some.is)
    ∙ (λ i. index_refusal (catalog_of c.args.database.now.store) (entries ((sym c.self.view_is ∙ sym c.deref.ensures.value) i)) (clock_of c.args.database.now) (Some c.in-Some.at))
    ∙ sym c.index_refusal.ensures ∙ none_of c.index_refusal.result c.in_default-index_refusal.not-Some)

pub returns-clause-right : goal.returns-clause-right
returns-clause-right c = λ journal tick right.
    c.in_ok-put.ensures.ok.right journal c.args.database.now.store (subst (AreRight journal c.args.database.now.store) (sym c.self.view_is) right)
    (new_right journal c.args.database.now.store c.in_ok-index.index
    (ap (λ g. g.from) (c.in_ok-index.ensures.grid ∙ c.new-grid.ensures) ∙ c.clock.ensures ∙ sym tick)
    (c.in_ok-index.ensures.right c.args.database.now.store))
