use Rattle.std.proofs.Common.{◌≡◌, ℕ, ◌&&◌, not, true, List, [], ◌∷◌, length, get_or, slice_index, ap, subst, arith, ◌∙◌, sym}
use Rattle.std.specs.Prelude.{unwrap_or}
use Rattle.std.proofs.lemmas.List.{length-map, take_all}
use Rattle.std.proofs.lemmas.Option.{unwrap_or-slice_get}
use Rattle.tick_set.specs.Ticks.{within}
use Rattle.relation.specs.Key.{has_id, ids_of_variable, key_in}
use Rattle.relation.specs.Rows.{Table}
use Rattle.evaluator.specs.inner.Filled.{IsFilled}
use Rattle.evaluator.proofs.AwayLemmas.{at_above, away_all, filled_at, key_here, keys_at, own_first, rows_keys}
use Rattle.evaluator.proofs.FillingLemmas.{at_key, filled_put, fits_inside}
use Rattle.evaluator.proofs.full.absence_of_rows.Goals as goal

pub absence-requires : goal.absence-requires
absence-requires g c =
    let rows = c.args.rows.now in
    let keys = keys_at rows in
    let key = c.unwrap-key.result in
    let are = rows_keys rows c.args.d.now c.args.watched.now.var c.args.watched.now.window.lo c.args.watched.now.window.hi c.requires.frame c.requires.one c.rows_stand_in_order.ensures.keys c.of.result.now c.of.ensures.value c.of.ensures.ascending in
    let many : length keys ≡ length rows.rows = length-map rows.rows (λ r. r.key) in
    let at : key ≡ get_or keys c.places.place key = key_here (λ r. r.key) rows.rows c.places.place key (sym c.key_at.ensures ∙ c.unwrap-key.ensures) in
    let inside = at_key (key_in c.args.d.now (c.args.watched.now.var ∷ [])) keys c.places.place key are.inside (omega (arith, many, c.places-test.true, c.len-place-end.ensures)) in
    let own = own_first c.args.d.now c.args.watched.now.var key (subst (λ (k : List ℕ). key_in c.args.d.now (c.args.watched.now.var ∷ []) k ≡ true) (sym at) inside) in
    let same : c.unwrap_or.result ≡ slice_index key 0 = c.unwrap_or.ensures ∙ ap (λ o. unwrap_or o 0) c.get.ensures ∙ unwrap_or-slice_get key 0 0 in
    c.requires.objects c.unwrap_or.result (subst (λ (id : ℕ). has_id (ids_of_variable c.args.d.now c.args.watched.now.var) id ≡ true) (sym same) own)

pub put-requires-clause-above : goal.put-requires-clause-above
put-requires-clause-above g c =
    let rows = c.args.rows.now in
    let keys = keys_at rows in
    let key = c.unwrap-key.result in
    let are = rows_keys rows c.args.d.now c.args.watched.now.var c.args.watched.now.window.lo c.args.watched.now.window.hi c.requires.frame c.requires.one c.rows_stand_in_order.ensures.keys c.of.result.now c.of.ensures.value c.of.ensures.ascending in
    let many : length keys ≡ length rows.rows = length-map rows.rows (λ r. r.key) in
    let at : key ≡ get_or keys c.places.place key = key_here (λ r. r.key) rows.rows c.places.place key (sym c.key_at.ensures ∙ c.unwrap-key.ensures) in
    at_above g.S.TickSet.member (λ k t. within c.args.watched.now.window.lo c.args.watched.now.window.hi t && not (g.I.Interpreter.present c.args.watched.now.source.now (slice_index k 0) t))
    keys c.places.place key c.empty-away.result c.places.away (omega (arith, many, c.places-test.true, c.len-place-end.ensures)) at c.places.invariant.rows
    (ap (λ (r : Table g.row.S.Denot). r.rows) c.empty-away.ensures) are.ascend

pub put-requires-clause-inside : goal.put-requires-clause-inside
put-requires-clause-inside g c =
    let rows = c.args.rows.now in
    let keys = keys_at rows in
    let key = c.unwrap-key.result in
    let are = rows_keys rows c.args.d.now c.args.watched.now.var c.args.watched.now.window.lo c.args.watched.now.window.hi c.requires.frame c.requires.one c.rows_stand_in_order.ensures.keys c.of.result.now c.of.ensures.value c.of.ensures.ascending in
    let many : length keys ≡ length rows.rows = length-map rows.rows (λ r. r.key) in
    let at : key ≡ get_or keys c.places.place key = key_here (λ r. r.key) rows.rows c.places.place key (sym c.key_at.ensures ∙ c.unwrap-key.ensures) in
    let inside = at_key (key_in c.args.d.now (c.args.watched.now.var ∷ [])) keys c.places.place key are.inside (omega (arith, many, c.places-test.true, c.len-place-end.ensures)) in
    fits_inside c.empty-away.result c.places.away c.places.invariant.rows.head (c.args.watched.now.var ∷ []) c.args.d.now c.args.watched.now.window.lo c.args.watched.now.window.hi c.empty-away.ensures key
    (subst (λ (k : List ℕ). key_in c.args.d.now (c.args.watched.now.var ∷ []) k ≡ true) (sym at) inside)

pub places-preserved : goal.places-preserved
places-preserved g c =
    let rows = c.args.rows.now in
    let keys = keys_at rows in
    let key = c.unwrap-key.result in
    let truth = λ (k : List ℕ) (t : ℕ). within c.args.watched.now.window.lo c.args.watched.now.window.hi t && not (g.I.Interpreter.present c.args.watched.now.source.now (slice_index k 0) t) in
    let many : length keys ≡ length rows.rows = length-map rows.rows (λ r. r.key) in
    let at : key ≡ get_or keys c.places.place key = key_here (λ r. r.key) rows.rows c.places.place key (sym c.key_at.ensures ∙ c.unwrap-key.ensures) in
    let same : c.unwrap_or.result ≡ slice_index key 0 = c.unwrap_or.ensures ∙ ap (λ o. unwrap_or o 0) c.get.ensures ∙ unwrap_or-slice_get key 0 0 in
    record {
      rows = filled_at g.S.TickSet.member truth keys c.places.place key c.empty-away.result c.places.away (omega (arith, many, c.places-test.true, c.len-place-end.ensures)) at c.places.invariant.rows c.put.new.self
          (filled_put g.S.TickSet.member truth key c.in_ok-ticks.ticks c.places.away c.put.new.self
          (λ t. c.in_ok-ticks.ensures.ticks t ∙ ap (λ (id : ℕ). within c.args.watched.now.window.lo c.args.watched.now.window.hi t && not (g.I.Interpreter.present c.args.watched.now.source.now id t)) same)
          c.in_ok-put.ensures.head c.in_ok-put.ensures.ticks c.in_ok-put.ensures.keys);
      least = (let h = c.places.invariant.least in let l = c.in_ok-ticks.ensures.reads.least in omega (arith, h, l));
      most = (let h = c.places.invariant.most in let l = c.in_ok-ticks.ensures.reads.most in omega (arith, h, l));
    }

pub returns-clause-ticks : goal.returns-clause-ticks
returns-clause-ticks g c =
    let rows = c.args.rows.now in
    let keys = keys_at rows in
    let truth = λ (k : List ℕ) (t : ℕ). within c.args.watched.now.window.lo c.args.watched.now.window.hi t && not (g.I.Interpreter.present c.args.watched.now.source.now (slice_index k 0) t) in
    let many : length keys ≡ length rows.rows = length-map rows.rows (λ r. r.key) in
    away_all g.S.TickSet.member (g.I.Interpreter.present c.args.watched.now.source.now) c.args.d.now c.args.watched.now.var c.args.watched.now.window.lo c.args.watched.now.window.hi rows c.empty-away.result c.places.away
    (subst (λ (ks : List (List ℕ)). IsFilled g.S.TickSet.member truth ks c.empty-away.result c.places.away) (take_all c.places.place keys (omega (arith, many, c.places-test.false, c.len-place-end.ensures))) c.places.invariant.rows)
    c.empty-away.ensures c.requires.one

pub returns-in_err-ticks-clause-reads : goal.returns-in_err-ticks-clause-reads
returns-in_err-ticks-clause-reads g c = record {
  least = omega arith;
  most = (let rows = c.args.rows.now in
      let are = rows_keys rows c.args.d.now c.args.watched.now.var c.args.watched.now.window.lo c.args.watched.now.window.hi c.requires.frame c.requires.one c.rows_stand_in_order.ensures.keys c.of.result.now c.of.ensures.value c.of.ensures.ascending in
      let many : length (keys_at rows) ≡ length rows.rows = length-map rows.rows (λ r. r.key) in
      let few = are.few in
      let h = c.places.invariant.most in
      let m = c.in_err-ticks.ensures.reads.most in
      omega (arith, h, m, few, many, c.places-test.true, c.len-place-end.ensures));
}

pub returns-in_err-put-clause-reads : goal.returns-in_err-put-clause-reads
returns-in_err-put-clause-reads g c = record {
  least = omega arith;
  most = (let rows = c.args.rows.now in
      let are = rows_keys rows c.args.d.now c.args.watched.now.var c.args.watched.now.window.lo c.args.watched.now.window.hi c.requires.frame c.requires.one c.rows_stand_in_order.ensures.keys c.of.result.now c.of.ensures.value c.of.ensures.ascending in
      let many : length (keys_at rows) ≡ length rows.rows = length-map rows.rows (λ r. r.key) in
      let few = are.few in
      let h = c.places.invariant.most in
      let m = c.in_ok-ticks.ensures.reads.most in
      omega (arith, h, m, few, many, c.places-test.true, c.len-place-end.ensures));
}

pub returns-clause-reads : goal.returns-clause-reads
returns-clause-reads g c = record {
  least = omega arith;
  most = (let rows = c.args.rows.now in
      let are = rows_keys rows c.args.d.now c.args.watched.now.var c.args.watched.now.window.lo c.args.watched.now.window.hi c.requires.frame c.requires.one c.rows_stand_in_order.ensures.keys c.of.result.now c.of.ensures.value c.of.ensures.ascending in
      let many : length (keys_at rows) ≡ length rows.rows = length-map rows.rows (λ r. r.key) in
      let few = are.few in
      let h = c.places.invariant.most in
      omega (arith, h, few, many, c.places.auto.place-end, c.len-place-end.ensures));
}
