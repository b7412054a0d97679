use Rattle.std.proofs.Common.{◌≡◌, ℕ, ◌&&◌, not, true, List, [], ◌∷◌, length, get_or, slice_index, refl, ap, subst, arith, ◌∙◌, sym}
use Rattle.std.specs.List.{flat_map, list_all}
use Rattle.std.proofs.lemmas.Bool.{and_from}
use Rattle.std.proofs.lemmas.List.{take_all}
use Rattle.tick_set.specs.Ticks.{within}
use Rattle.relation.specs.Key.{has_id, key_below, key_in}
use Rattle.relation.specs.Rows.{Table}
use Rattle.relation.proofs.UnionLemmas.{among_itself}
use Rattle.evaluator.specs.inner.Filled.{IsFilled, keys_behind}
use Rattle.evaluator.proofs.AtomLemmas.{known_one}
use Rattle.evaluator.proofs.FillingLemmas.{block_above, filled_all, filled_block, filled_none, filled_put, fits_inside, fits_lies}
use Rattle.evaluator.proofs.KeyLemmas.{keys_more, keys_none}
use Rattle.evaluator.proofs.full.rows_of_absence.Goals as goal

pub empty-away-requires-clause-known : goal.empty-away-requires-clause-known
empty-away-requires-clause-known g c = known_one c.args.watched.now.var (length c.args.d.now) c.requires.known

pub ids-init : goal.ids-init
ids-init g c = record {
  rows = filled_none g.S.TickSet.member (λ k t. within c.args.watched.now.window.lo c.args.watched.now.window.hi t && not (g.I.Interpreter.present c.args.watched.now.source.now (slice_index k 0) t)) c.empty-away.result;
  least = omega arith;
  most = omega arith;
}

pub absence-requires : goal.absence-requires
absence-requires g c =
    let id = get_or c.of-id-items.result.now c.ids.id-index 0 in
    c.requires.objects id (subst (λ (z : List ℕ). has_id z id ≡ true) c.of-id-items.ensures.value (among_itself c.of-id-items.result.now c.ids.id-index 0 (omega (arith, c.ids-test.true))))

pub put-requires-clause-above : goal.put-requires-clause-above
put-requires-clause-above g c =
    subst (λ (k : List ℕ). list_all (λ r. key_below r.key k) c.ids.away.rows ≡ true) (sym c.key_of.ensures)
    (block_above g.S.TickSet.member (λ k t. within c.args.watched.now.window.lo c.args.watched.now.window.hi t && not (g.I.Interpreter.present c.args.watched.now.source.now (slice_index k 0) t))
    ([] ∷ []) c.of-id-items.result.now c.ids.id-index 0 c.empty-away.result c.ids.away (omega (arith, c.ids-test.true))
    (ap (λ (r : Table g.row.S.Denot). r.rows) c.empty-away.ensures) c.of-id-items.ensures.ascending c.ids.invariant.rows)

pub put-requires-clause-inside : goal.put-requires-clause-inside
put-requires-clause-inside g c =
    let id = get_or c.of-id-items.result.now c.ids.id-index 0 in
    let own = subst (λ (z : List ℕ). has_id z id ≡ true) c.of-id-items.ensures.value (among_itself c.of-id-items.result.now c.ids.id-index 0 (omega (arith, c.ids-test.true))) in
    let inside : key_in c.args.d.now (c.args.watched.now.var ∷ []) (id ∷ []) ≡ true = and_from _ _ own refl in
    subst (λ (k : List ℕ). key_in c.ids.away.domains c.ids.away.vars k ≡ true) (sym c.key_of.ensures)
    (fits_inside c.empty-away.result c.ids.away c.ids.invariant.rows.head (c.args.watched.now.var ∷ []) c.args.d.now c.args.watched.now.window.lo c.args.watched.now.window.hi c.empty-away.ensures (id ∷ []) inside)

pub put-requires-clause-lies : goal.put-requires-clause-lies
put-requires-clause-lies g c =
    fits_lies c.empty-away.result c.ids.away c.ids.invariant.rows.head (c.args.watched.now.var ∷ []) c.args.d.now c.args.watched.now.window.lo c.args.watched.now.window.hi c.empty-away.ensures
    g.S.TickSet.member c.in_ok-ticks.ticks (λ t. not (g.I.Interpreter.present c.args.watched.now.source.now (get_or c.of-id-items.result.now c.ids.id-index 0) t)) c.in_ok-ticks.ensures.ticks

pub ids-preserved : goal.ids-preserved
ids-preserved g c =
    let id = get_or c.of-id-items.result.now c.ids.id-index 0 in
    let truth = λ (k : List ℕ) (t : ℕ). within c.args.watched.now.window.lo c.args.watched.now.window.hi t && not (g.I.Interpreter.present c.args.watched.now.source.now (slice_index k 0) t) in
    record {
      rows = filled_block g.S.TickSet.member truth ([] ∷ []) c.of-id-items.result.now c.ids.id-index 0 c.empty-away.result c.ids.away c.put.new.self (omega (arith, c.ids-test.true)) c.ids.invariant.rows
          (subst (λ (k : List ℕ). IsFilled g.S.TickSet.member truth (k ∷ []) c.ids.away c.put.new.self) c.key_of.ensures
          (filled_put g.S.TickSet.member truth c.key_of.result c.in_ok-ticks.ticks c.ids.away c.put.new.self
          (λ t. c.in_ok-ticks.ensures.ticks t ∙ ap (λ (k : List ℕ). truth k t) (sym c.key_of.ensures)) c.in_ok-put.ensures.head c.in_ok-put.ensures.ticks c.in_ok-put.ensures.keys));
      least = (let h = c.ids.invariant.least in let l = c.in_ok-ticks.ensures.reads.least in omega (arith, h, l));
      most = (let h = c.ids.invariant.most in let l = c.in_ok-ticks.ensures.reads.most in omega (arith, h, l));
    }

pub returns-clause-rows : goal.returns-clause-rows
returns-clause-rows g c =
    let ids = c.of-id-items.result.now in
    let truth = λ (k : List ℕ) (t : ℕ). within c.args.watched.now.window.lo c.args.watched.now.window.hi t && not (g.I.Interpreter.present c.args.watched.now.source.now (slice_index k 0) t) in
    filled_all g.S.TickSet.member truth c.args.d.now (c.args.watched.now.var ∷ []) c.args.watched.now.window.lo c.args.watched.now.window.hi (λ b t. not (g.I.Interpreter.present c.args.watched.now.source.now (b c.args.watched.now.var) t))
    (flat_map (λ id. keys_behind id ([] ∷ [])) ids) c.empty-away.result c.ids.away
    (subst (λ (z : List ℕ). IsFilled g.S.TickSet.member truth (flat_map (λ id. keys_behind id ([] ∷ [])) z) c.empty-away.result c.ids.away) (take_all c.ids.id-index ids (omega (arith, c.ids-test.false))) c.ids.invariant.rows)
    c.empty-away.ensures (keys_more c.args.d.now c.args.watched.now.var [] ([] ∷ []) ids c.of-id-items.ensures.value c.of-id-items.ensures.ascending (keys_none c.args.d.now))
    (known_one c.args.watched.now.var (length c.args.d.now) c.requires.known) (λ b is_in t. refl)

pub returns-in_err-ticks-clause-reads : goal.returns-in_err-ticks-clause-reads
returns-in_err-ticks-clause-reads g c = record {
  least = (let h = c.ids.invariant.least in let l = c.in_err-ticks.ensures.reads.least in omega (arith, h, l));
  most = (let h = c.ids.invariant.most in
      let m = c.in_err-ticks.ensures.reads.most in
      let e = ap length c.of-id-items.ensures.value in
      let l = c.ids-test.true in
      omega (arith, h, m, e, l));
}

pub returns-in_err-put-clause-reads : goal.returns-in_err-put-clause-reads
returns-in_err-put-clause-reads g c = record {
  least = (let h = c.ids.invariant.least in let l = c.in_ok-ticks.ensures.reads.least in omega (arith, h, l));
  most = (let h = c.ids.invariant.most in
      let m = c.in_ok-ticks.ensures.reads.most in
      let e = ap length c.of-id-items.ensures.value in
      let l = c.ids-test.true in
      omega (arith, h, m, e, l));
}

pub returns-clause-reads : goal.returns-clause-reads
returns-clause-reads g c = record {
  least = c.ids.invariant.least;
  most = (let h = c.ids.invariant.most in
      let e = ap length c.of-id-items.ensures.value in
      let l = c.ids.auto.id-index-end in
      omega (arith, h, e, l));
}
