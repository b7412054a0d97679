use Rattle.std.proofs.Common.{◌≡◌, ℕ, ◌+◌, ◌*◌, ◌≤◌, true, List, [], ◌∷◌, length, get_or, sym, ap, subst, arith, ◌∙◌}
use Rattle.std.specs.List.{flat_map, list_all}
use Rattle.std.proofs.lemmas.List.{nil_from_length, take_all}
use Rattle.formula.specs.Tree.{formula_view}
use Rattle.formula.specs.Variables.{has_variable}
use Rattle.meaning.specs.Reads.{choices}
use Rattle.meaning.specs.Satisfaction.{sat}
use Rattle.relation.specs.Frames.{domain_size}
use Rattle.formula.specs.Resolved.{are_distinct}
use Rattle.relation.specs.Key.{are_known, has_id, key_in}
use Rattle.relation.specs.Rows.{Table}
use Rattle.relation.proofs.UnionLemmas.{among_itself}
use Rattle.evaluator.specs.Keys.{AreKeys}
use Rattle.evaluator.specs.Rows.{AreRowsWhere}
use Rattle.evaluator.specs.inner.ByBinding.{holds_at, reads_here}
use Rattle.evaluator.specs.inner.Filled.{IsFilled, keys_behind}
use Rattle.evaluator.proofs.ByKeyLemmas.{by_blocks, by_keys, key_says}
use Rattle.evaluator.proofs.FillingLemmas.{block_above, filled_all, filled_block, first_inside}
use Rattle.evaluator.proofs.KeyLemmas.{keys_more, keys_none}
use Rattle.evaluator.proofs.ReadLemmas.{block_step, one_of}
use Rattle.evaluator.proofs.VariableLemmas.{distinct_variables, few_variables, known_variables}
use Rattle.evaluator.proofs.by_key.rows_by_key.Goals as goal
use Rattle.exact.proofs.Naturals.{at_most_in_turn}

pub empty-made-requires-clause-few : goal.empty-made-requires-clause-few
empty-made-requires-clause-few g c = subst (λ (vs : List ℕ). length vs ≤ 4) (sym c.requires.vars) (few_variables (λ v. has_variable v (formula_view c.args.scene.now.formula.now)))

pub empty-made-requires-clause-known : goal.empty-made-requires-clause-known
empty-made-requires-clause-known g c =
    subst (λ (vs : List ℕ). are_known c.args.d.now vs ≡ true) (sym c.requires.vars)
    (known_variables c.args.d.now (λ v. has_variable v (formula_view c.args.scene.now.formula.now)) (λ v l h. c.requires.over v h))

pub empty-made-requires-clause-distinct : goal.empty-made-requires-clause-distinct
empty-made-requires-clause-distinct g c =
    subst (λ (vs : List ℕ). are_distinct vs ≡ true) (sym c.requires.vars) (distinct_variables (λ v. has_variable v (formula_view c.args.scene.now.formula.now)))

pub put_row-requires-clause-over : goal.put_row-requires-clause-over
put_row-requires-clause-over g c = λ v h. (let o = c.requires.over v h in omega (arith, o, c.len.ensures.count, c.len.ensures.few))

pub returns-in_err-put_row-clause-reads : goal.returns-in_err-put_row-clause-reads
returns-in_err-put_row-clause-reads g c = record {
  least = omega arith;
  most = (by_keys c.args.d.now c.args.scene.now.window.lo c.args.scene.now.window.hi c.args.scene.now.variables.now (formula_view c.args.scene.now.formula.now) c.requires.vars c.requires.alike c.args.reads.now c.put_row.new.reads 1 1 (one_of _ _ _ c.in_err-put_row.ensures.reads.most) (omega arith)
      (sym (ap (choices (domain_size c.args.d.now)) (nil_from_length c.args.scene.now.variables.now c.in_default.ensures.cases))));
}

pub returns-in_default-clause-rows : goal.returns-in_default-clause-rows
returns-in_default-clause-rows g c =
    let f = formula_view c.args.scene.now.formula.now in
    let vars = c.args.scene.now.variables.now in
    let j = g.I.Interpreter.interpretation c.args.scene.now.source.now in
    let known = known_variables c.args.d.now (λ v. has_variable v f) (λ v l h. c.requires.over v h) in
    subst (λ (vs : List ℕ). AreRowsWhere g.S.TickSet.member c.args.d.now c.args.scene.now.window.lo c.args.scene.now.window.hi vs (λ b. sat (j b) f c.args.scene.now.values.now c.args.scene.now.window.hi) c.put_row.new.made) c.requires.vars
    (filled_all g.S.TickSet.member (holds_at j vars c.args.scene.now.window.lo c.args.scene.now.window.hi f c.args.scene.now.values.now) c.args.d.now vars c.args.scene.now.window.lo c.args.scene.now.window.hi (λ b. sat (j b) f c.args.scene.now.values.now c.args.scene.now.window.hi) ([] ∷ []) c.empty-made.result c.put_row.new.made
    (subst (λ (k : List ℕ). IsFilled g.S.TickSet.member (holds_at j vars c.args.scene.now.window.lo c.args.scene.now.window.hi f c.args.scene.now.values.now) (k ∷ []) c.empty-made.result c.put_row.new.made) c.new-key.ensures c.in_ok-put_row.ensures.rows)
    c.empty-made.ensures (subst (λ (vs : List ℕ). AreKeys c.args.d.now vs ([] ∷ [])) (sym (nil_from_length c.args.scene.now.variables.now c.in_default.ensures.cases)) (keys_none c.args.d.now)) (subst (λ (vs : List ℕ). are_known c.args.d.now vs ≡ true) (sym c.requires.vars) known)
    (λ b is_in t. key_says j (λ p q a e x u. g.met.I.Interpreter.atom_sees c.args.scene.now.source.now p q a e x u) (λ p q a e x u. g.met.I.Interpreter.term_sees c.args.scene.now.source.now p q a e x u)
    f (λ v h. (let o = c.requires.over v h in omega (arith, o, c.len.ensures.count, c.len.ensures.few))) vars c.requires.vars c.args.scene.now.values.now c.args.scene.now.window.lo c.args.scene.now.window.hi b t))

pub returns-in_default-clause-reads : goal.returns-in_default-clause-reads
returns-in_default-clause-reads g c = record {
  least = omega arith;
  most = (by_keys c.args.d.now c.args.scene.now.window.lo c.args.scene.now.window.hi c.args.scene.now.variables.now (formula_view c.args.scene.now.formula.now) c.requires.vars c.requires.alike c.args.reads.now c.put_row.new.reads 1 1 (one_of _ _ _ c.in_ok-put_row.ensures.reads.most) (omega arith)
      (sym (ap (choices (domain_size c.args.d.now)) (nil_from_length c.args.scene.now.variables.now c.in_default.ensures.cases))));
}

pub put_rows-requires-clause-over : goal.put_rows-requires-clause-over
put_rows-requires-clause-over g c = λ v h. (let o = c.requires.over v h in omega (arith, o, c.len.ensures.count, c.len.ensures.few))

pub put_rows-requires-clause-inside : goal.put_rows-requires-clause-inside
put_rows-requires-clause-inside g c =
    let are = subst (AreKeys c.args.d.now c.in-Some.rest.now) (sym c.items-later.ensures) c.in_ok-keys.ensures in
    let id = get_or c.of-id-items.result.now c.ids.id-index 0 in
    let own = subst (λ (z : List ℕ). has_id z id ≡ true) c.of-id-items.ensures.value (among_itself c.of-id-items.result.now c.ids.id-index 0 (omega (arith, c.ids-test.true))) in
    let domains : c.ids.made.domains ≡ c.args.d.now = c.ids.invariant.rows.head.domains ∙ ap (λ (r : Table g.row.S.Denot). r.domains) c.empty-made.ensures in
    (λ i. list_all (λ key. key_in (domains i) (c.in-Some.ensures.cases.0 i) (id ∷ key)) c.items-later.result.now)
    ∙ first_inside c.args.d.now c.in-Some.first.now c.in-Some.rest.now id c.items-later.result.now own are.inside

pub put_rows-requires-clause-above : goal.put_rows-requires-clause-above
put_rows-requires-clause-above g c =
    block_above g.S.TickSet.member (holds_at (g.I.Interpreter.interpretation c.args.scene.now.source.now) c.args.scene.now.variables.now c.args.scene.now.window.lo c.args.scene.now.window.hi (formula_view c.args.scene.now.formula.now) c.args.scene.now.values.now)
    c.items-later.result.now c.of-id-items.result.now c.ids.id-index 0 c.empty-made.result c.ids.made (omega (arith, c.ids-test.true))
    (ap (λ (r : Table g.row.S.Denot). r.rows) c.empty-made.ensures) c.of-id-items.ensures.ascending c.ids.invariant.rows

pub returns-in_err-put_rows-clause-reads : goal.returns-in_err-put_rows-clause-reads
returns-in_err-put_rows-clause-reads g c = record {
  least = omega arith;
  most = (let are = subst (AreKeys c.args.d.now c.in-Some.rest.now) (sym c.items-later.ensures) c.in_ok-keys.ensures in
      let cost = reads_here c.args.scene.now.window.lo c.args.scene.now.window.hi (formula_view c.args.scene.now.formula.now) in
      by_blocks c.args.d.now c.args.scene.now.window.lo c.args.scene.now.window.hi c.args.scene.now.variables.now (formula_view c.args.scene.now.formula.now) c.requires.vars c.requires.alike c.args.reads.now c.put_rows.new.reads (c.ids.id-index + 1) (length c.of-id-items.result.now) (length c.items-later.result.now)
      (block_step c.args.reads.now c.ids.reads c.put_rows.new.reads c.ids.id-index (length c.items-later.result.now) cost c.ids.invariant.most c.in_err-put_rows.ensures.reads.most) (omega (arith, c.ids-test.true))
      ((λ i. length (c.of-id-items.ensures.value i) * are.count i) ∙ sym (ap (choices (domain_size c.args.d.now)) c.in-Some.ensures.cases.0)));
}

pub ids-preserved : goal.ids-preserved
ids-preserved g c =
    let id = get_or c.of-id-items.result.now c.ids.id-index 0 in
    let truth = holds_at (g.I.Interpreter.interpretation c.args.scene.now.source.now) c.args.scene.now.variables.now c.args.scene.now.window.lo c.args.scene.now.window.hi (formula_view c.args.scene.now.formula.now) c.args.scene.now.values.now in
    let cost = reads_here c.args.scene.now.window.lo c.args.scene.now.window.hi (formula_view c.args.scene.now.formula.now) in
    record {
      rows = filled_block g.S.TickSet.member truth c.items-later.result.now c.of-id-items.result.now c.ids.id-index 0 c.empty-made.result c.ids.made c.put_rows.new.made (omega (arith, c.ids-test.true)) c.ids.invariant.rows
          c.in_ok-put_rows.ensures.rows;
      least = at_most_in_turn _ _ _ c.ids.invariant.least c.in_ok-put_rows.ensures.reads.least;
      most = block_step c.args.reads.now c.ids.reads c.put_rows.new.reads c.ids.id-index (length c.items-later.result.now) cost c.ids.invariant.most c.in_ok-put_rows.ensures.reads.most;
    }

pub returns-clause-rows : goal.returns-clause-rows
returns-clause-rows g c =
    let are = subst (AreKeys c.args.d.now c.in-Some.rest.now) (sym c.items-later.ensures) c.in_ok-keys.ensures in
    let f = formula_view c.args.scene.now.formula.now in
    let vars = c.args.scene.now.variables.now in
    let j = g.I.Interpreter.interpretation c.args.scene.now.source.now in
    let later = c.items-later.result.now in
    let ids = c.of-id-items.result.now in
    let truth = holds_at j vars c.args.scene.now.window.lo c.args.scene.now.window.hi f c.args.scene.now.values.now in
    let known = known_variables c.args.d.now (λ v. has_variable v f) (λ v l h. c.requires.over v h) in
    subst (λ (vs : List ℕ). AreRowsWhere g.S.TickSet.member c.args.d.now c.args.scene.now.window.lo c.args.scene.now.window.hi vs (λ b. sat (j b) f c.args.scene.now.values.now c.args.scene.now.window.hi) c.ids.made) c.requires.vars
    (filled_all g.S.TickSet.member truth c.args.d.now vars c.args.scene.now.window.lo c.args.scene.now.window.hi (λ b. sat (j b) f c.args.scene.now.values.now c.args.scene.now.window.hi) (flat_map (λ id. keys_behind id later) ids) c.empty-made.result c.ids.made
    (subst (λ (z : List ℕ). IsFilled g.S.TickSet.member truth (flat_map (λ id. keys_behind id later) z) c.empty-made.result c.ids.made) (take_all c.ids.id-index ids (omega (arith, c.ids-test.false))) c.ids.invariant.rows)
    c.empty-made.ensures
    (subst (λ (vs : List ℕ). AreKeys c.args.d.now vs (flat_map (λ id. keys_behind id later) ids)) (sym c.in-Some.ensures.cases.0)
    (keys_more c.args.d.now c.in-Some.first.now c.in-Some.rest.now later ids c.of-id-items.ensures.value c.of-id-items.ensures.ascending are))
    (subst (λ (vs : List ℕ). are_known c.args.d.now vs ≡ true) (sym c.requires.vars) known)
    (λ b is_in t. key_says j (λ p q a e x u. g.met.I.Interpreter.atom_sees c.args.scene.now.source.now p q a e x u) (λ p q a e x u. g.met.I.Interpreter.term_sees c.args.scene.now.source.now p q a e x u)
    f (λ v h. (let o = c.requires.over v h in omega (arith, o, c.len.ensures.count, c.len.ensures.few))) vars c.requires.vars c.args.scene.now.values.now c.args.scene.now.window.lo c.args.scene.now.window.hi b t))

pub returns-clause-reads : goal.returns-clause-reads
returns-clause-reads g c = record {
  least = omega arith;
  most = (let are = subst (AreKeys c.args.d.now c.in-Some.rest.now) (sym c.items-later.ensures) c.in_ok-keys.ensures in
      by_blocks c.args.d.now c.args.scene.now.window.lo c.args.scene.now.window.hi c.args.scene.now.variables.now (formula_view c.args.scene.now.formula.now) c.requires.vars c.requires.alike c.args.reads.now c.ids.reads c.ids.id-index (length c.of-id-items.result.now) (length c.items-later.result.now) c.ids.invariant.most
      (let l : c.ids.id-index ≤ length c.of-id-items.result.now = c.ids.auto.id-index-end in omega (arith, l))
      ((λ i. length (c.of-id-items.ensures.value i) * are.count i) ∙ sym (ap (choices (domain_size c.args.d.now)) c.in-Some.ensures.cases.0)));
}
