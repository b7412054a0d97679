use Rattle.std.proofs.Common.{◌≡◌, false, sym, ap, ◌∙◌, arith}
use Rattle.std.specs.List.{list_any}
use Rattle.std.specs.Str.{bytes_eq}
use Rattle.formula.specs.Tree.{ResolvedQuery, resolved_view}
use Rattle.object_store.specs.Contents.{catalog_of}
use Rattle.ftl_parser.specs.Tree.{query_view}
use Rattle.line_meaning.specs.Ask.{query_in}
use Rattle.history.specs.Catalog.{most_bindings}
use Rattle.live_queries.specs.Registering.{AddsQuery}
use Rattle.database.specs.Keeping.{clock_of, world_of_database}
use Rattle.registry.specs.Registers.{info_for}
use Rattle.registry.specs.Standing.{known_of}
use Rattle.registry.proofs.AddedLemmas.{added_told, same_adds, still_stand, taken_away}
use Rattle.registry.proofs.JudgeLemmas.{right_is}
use Rattle.registry.proofs.NameLemmas.{registered_is}
use Rattle.registry.proofs.registering.register.Goals as goal

pub register-requires-clause-size : goal.register-requires-clause-size
register-requires-clause-size g c =
    let d = c.args.database.now in
    let r = c.args.request.now in
    let q = query_view r.query.now in
    let few = (right_is (known_of d c.args.live.now) r.name.now r.span q c.requires.judged.right).size in
    let same : most_bindings (catalog_of c.store-store.result.now).classes c.args.resolved.classes
    ≡ most_bindings (catalog_of d.store).classes (query_in (world_of_database d) q).classes
    = (λ i. most_bindings (catalog_of (c.store-store.ensures i)).classes c.args.resolved.classes)
    ∙ ap (λ (r : ResolvedQuery). most_bindings (catalog_of d.store).classes r.classes) c.requires.judged.query in
    omega (arith, same, few)

pub push_answer-requires : goal.push_answer-requires
push_answer-requires g c =
    let d = c.args.database.now in
    let r = c.args.request.now in
    record {
      stand = still_stand d r.name.now r.kind r.span (resolved_view c.args.resolved) c.args.live.now c.register.new.self
          (same_adds d c.store-store.result.now c.regions-regions.result.now c.clock-now.result r.kind r.name.now r.span (resolved_view c.args.resolved)
          c.args.live.now c.register.new.self c.store-store.ensures c.regions-regions.ensures c.clock-now.ensures c.in_ok-register.ensures.ok)
          c.requires.stand;
    }

pub returns-in-Ok-clause-registers : goal.returns-in-Ok-clause-registers
returns-in-Ok-clause-registers g c =
    let d = c.args.database.now in
    let r = c.args.request.now in
    let q = query_view r.query.now in
    let live = c.args.live.now in
    let untaken : list_any (λ k. bytes_eq r.name.now k.name) live ≡ false
    = sym (registered_is live r.name.now) ∙ (right_is (known_of d live) r.name.now r.span q c.requires.judged.right).untaken in
    let adds : AddsQuery (world_of_database d) (clock_of d) (info_for r.kind (clock_of d) r.name.now r.span) (resolved_view c.args.resolved) live c.register.new.self
    = same_adds d c.store-store.result.now c.regions-regions.result.now c.clock-now.result r.kind r.name.now r.span (resolved_view c.args.resolved)
    live c.register.new.self c.store-store.ensures c.regions-regions.ensures c.clock-now.ensures c.in_ok-register.ensures.ok in
    record {
      added = adds;
      told = added_told d r.name.now r.kind r.span (resolved_view c.args.resolved) live c.register.new.self adds
          untaken q c.requires.judged.query c.args.out.now.items c.push_answer.new.out.items c.in-Ok.ensures.ok;
      err = tt;
    }

pub returns-in-Err-clause-registers : goal.returns-in-Err-clause-registers
returns-in-Err-clause-registers g c =
    let d = c.args.database.now in
    let r = c.args.request.now in
    let q = query_view r.query.now in
    let live = c.args.live.now in
    let untaken : list_any (λ k. bytes_eq r.name.now k.name) live ≡ false
    = sym (registered_is live r.name.now) ∙ (right_is (known_of d live) r.name.now r.span q c.requires.judged.right).untaken in
    record {
      added = tt;
      told = tt;
      err = c.drop_query.ensures.others
          ∙ taken_away d r.name.now r.kind r.span (resolved_view c.args.resolved) live c.register.new.self
          (same_adds d c.store-store.result.now c.regions-regions.result.now c.clock-now.result r.kind r.name.now r.span (resolved_view c.args.resolved)
          live c.register.new.self c.store-store.ensures c.regions-regions.ensures c.clock-now.ensures c.in_ok-register.ensures.ok)
          untaken;
    }
