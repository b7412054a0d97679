use Rattle.std.proofs.Common.{◌≡◌, ℕ, ◌+◌, ◌*◌, ◌<◌, ◌≤◌, ◌&&◌, Bool, true, List, [], ◌∷◌, length, map, get_or, refl, sym, ap, subst, ◌∙◌, arith}
use Rattle.std.specs.Prelude.{All, nat_lt}
use Rattle.std.specs.List.{flat_map, list_all}
use Rattle.std.proofs.lemmas.List.{take_all}
use Rattle.tick_set.specs.Runs.{spans_have}
use Rattle.tick_set.specs.Ticks.{within}
use Rattle.relation.specs.Key.{are_known, has_id, key_below, key_in}
use Rattle.relation.proofs.UnionLemmas.{among_itself}
use Rattle.evaluator.specs.Keys.{AreKeys}
use Rattle.evaluator.specs.inner.Filled.{IsFilled, keys_behind}
use Rattle.evaluator.proofs.FillingLemmas.{block_above, filled_all, filled_block, first_inside}
use Rattle.evaluator.proofs.KeyLemmas.{keys_more}
use Rattle.pairs.specs.Pairs.{IsMover, atom_at, holds_in, keys_of}
use Rattle.pairs.specs.declared.movers.Mover.{Mover}
use Rattle.pairs.proofs.PairLemmas.{first_within, key_says, one_round, own_keys, rounds_within}
use Rattle.pairs.proofs.rows.rows_of_pairs.Goals as goal

pub movers_of-requires : goal.movers_of-requires
movers_of-requires g c = λ k d l.
    let id = get_or c.of.result.now k d in
    c.requires.stored 1 id (subst (λ (z : List ℕ). has_id z id ≡ true) c.of.ensures.value (among_itself c.of.result.now k d l))

pub empty-made-requires-clause-known : goal.empty-made-requires-clause-known
empty-made-requires-clause-known g c = subst (λ (n : ℕ). (nat_lt 0 n && (nat_lt 1 n && true)) ≡ true) (sym c.requires.two) refl

pub mover_of-one-requires : goal.mover_of-one-requires
mover_of-one-requires g c =
    let id = get_or c.of-id-items.result.now c.ids.id-index 0 in
    c.requires.stored 0 id (subst (λ (z : List ℕ). has_id z id ≡ true) c.of-id-items.ensures.value (among_itself c.of-id-items.result.now c.ids.id-index 0 (omega (arith, c.ids-test.true))))

pub put_near-requires-clause-movers : goal.put_near-requires-clause-movers
put_near-requires-clause-movers g c =
    let scene = c.args.scene.now in
    subst (All (IsMover scene.world.store.now scene.w.lo scene.w.hi)) (sym c.as_slice-others.ensures.value) c.in_ok-movers.ensures.movers

pub put_near-requires-clause-inside : goal.put_near-requires-clause-inside
put_near-requires-clause-inside g c =
    let others = c.as_slice-others.result.now in
    let d = c.args.d.now in
    let are : AreKeys d (1 ∷ []) (keys_of others) =
    own_keys d c.of.result.now others (ap (map (λ (m : Mover). m.id)) c.as_slice-others.ensures.value ∙ c.in_ok-movers.ensures.ids) c.of.ensures.value c.of.ensures.ascending in
    let id = get_or c.of-id-items.result.now c.ids.id-index 0 in
    let own = subst (λ (z : List ℕ). has_id z id ≡ true) c.of-id-items.ensures.value (among_itself c.of-id-items.result.now c.ids.id-index 0 (omega (arith, c.ids-test.true))) in
    let domains : c.ids.made.domains ≡ d = c.ids.invariant.rows.head.domains ∙ ap (λ r. r.domains) c.empty-made.ensures in
    (λ i. list_all (λ key. key_in (domains i) (0 ∷ 1 ∷ []) (c.mover_of-one.ensures.id i ∷ key)) (keys_of others))
    ∙ first_inside d 0 (1 ∷ []) id (keys_of others) own are.inside

pub put_near-requires-clause-ascend : goal.put_near-requires-clause-ascend
put_near-requires-clause-ascend g c =
    let others = c.as_slice-others.result.now in
    (own_keys c.args.d.now c.of.result.now others (ap (map (λ (m : Mover). m.id)) c.as_slice-others.ensures.value ∙ c.in_ok-movers.ensures.ids) c.of.ensures.value
    c.of.ensures.ascending).ascend

pub put_near-requires-clause-above : goal.put_near-requires-clause-above
put_near-requires-clause-above g c =
    subst (λ (id : ℕ). list_all (λ r. key_below r.key (id ∷ [])) c.ids.made.rows ≡ true) (sym c.mover_of-one.ensures.id)
    (block_above spans_have (holds_in c.args.scene.now) (keys_of c.as_slice-others.result.now) c.of-id-items.result.now c.ids.id-index 0 c.empty-made.result c.ids.made
    (omega (arith, c.ids-test.true)) (ap (λ r. r.rows) c.empty-made.ensures) c.of-id-items.ensures.ascending c.ids.invariant.rows)

pub returns-in_err-movers-clause-reads : goal.returns-in_err-movers-clause-reads
returns-in_err-movers-clause-reads g c = record {
  least = omega arith;
  most = first_within c.args.d.now c.of.result.now c.of.ensures.value _ _ c.in_err-movers.ensures.reads.most;
}

pub returns-in_err-put_near-clause-reads : goal.returns-in_err-put_near-clause-reads
returns-in_err-put_near-clause-reads g c = record {
  least = omega arith;
  most = (let others = c.as_slice-others.result.now in
      rounds_within c.args.d.now c.of-id-items.result.now c.of.result.now others c.of-id-items.ensures.value c.of.ensures.value
      (ap (map (λ (m : Mover). m.id)) c.as_slice-others.ensures.value ∙ c.in_ok-movers.ensures.ids)
      c.args.reads.now c.movers_of.new.reads c.put_near.new.reads (c.ids.id-index + 1) c.in_ok-movers.ensures.reads.most
      (one_round c.movers_of.new.reads c.ids.reads c.mover_of-one.new.reads c.put_near.new.reads c.ids.id-index (length others) c.ids.invariant.most c.mover_of-one.ensures.step
      c.in_err-put_near.ensures.reads.most)
      (omega (arith, c.ids-test.true)));
}

pub ids-preserved : goal.ids-preserved
ids-preserved g c =
    let others = c.as_slice-others.result.now in
    let truth = holds_in c.args.scene.now in
    record {
      rows = filled_block spans_have truth (keys_of others) c.of-id-items.result.now c.ids.id-index 0 c.empty-made.result c.ids.made c.put_near.new.made
          (omega (arith, c.ids-test.true)) c.ids.invariant.rows
          (subst (λ (id : ℕ). IsFilled spans_have truth (keys_behind id (keys_of others)) c.ids.made c.put_near.new.made) c.mover_of-one.ensures.id c.in_ok-put_near.ensures.rows);
      least = (let l = c.ids.invariant.least in let m = c.mover_of-one.ensures.step in let n = c.in_ok-put_near.ensures.reads.least in omega (arith, l, m, n));
      most = one_round c.movers_of.new.reads c.ids.reads c.mover_of-one.new.reads c.put_near.new.reads c.ids.id-index (length others) c.ids.invariant.most
          c.mover_of-one.ensures.step c.in_ok-put_near.ensures.reads.most;
    }

pub returns-clause-rows : goal.returns-clause-rows
returns-clause-rows g c =
    let scene = c.args.scene.now in
    let s = scene.world.store.now in
    let regions = scene.world.regions.now in
    let others = c.as_slice-others.result.now in
    let d = c.args.d.now in
    let ids = c.of-id-items.result.now in
    let truth = holds_in scene in
    let are : AreKeys d (1 ∷ []) (keys_of others) =
    own_keys d c.of.result.now others (ap (map (λ (m : Mover). m.id)) c.as_slice-others.ensures.value ∙ c.in_ok-movers.ensures.ids) c.of.ensures.value c.of.ensures.ascending in
    let known : are_known d (0 ∷ 1 ∷ []) ≡ true = subst (λ (n : ℕ). (nat_lt 0 n && (nat_lt 1 n && true)) ≡ true) (sym c.requires.two) refl in
    filled_all spans_have truth d (0 ∷ 1 ∷ []) scene.w.lo scene.w.hi (atom_at s regions scene.distance.atom.now) (flat_map (λ id. keys_behind id (keys_of others)) ids)
    c.empty-made.result c.ids.made
    (subst (λ (z : List ℕ). IsFilled spans_have truth (flat_map (λ id. keys_behind id (keys_of others)) z) c.empty-made.result c.ids.made)
    (take_all c.ids.id-index ids (omega (arith, c.ids-test.false))) c.ids.invariant.rows)
    c.empty-made.ensures
    (keys_more d 0 (1 ∷ []) (keys_of others) ids c.of-id-items.ensures.value c.of-id-items.ensures.ascending are) known
    (λ b is_in t. ap (λ (h : Bool). within scene.w.lo scene.w.hi t && h) (key_says scene.distance c.requires.can.distance s regions b t))

pub returns-clause-reads : goal.returns-clause-reads
returns-clause-reads g c = record {
  least = omega arith;
  most = (let others = c.as_slice-others.result.now in
      rounds_within c.args.d.now c.of-id-items.result.now c.of.result.now others c.of-id-items.ensures.value c.of.ensures.value
      (ap (map (λ (m : Mover). m.id)) c.as_slice-others.ensures.value ∙ c.in_ok-movers.ensures.ids)
      c.args.reads.now c.movers_of.new.reads c.ids.reads c.ids.id-index c.in_ok-movers.ensures.reads.most c.ids.invariant.most
      (let l : c.ids.id-index ≤ length c.of-id-items.result.now = c.ids.auto.id-index-end in omega (arith, l)));
}
