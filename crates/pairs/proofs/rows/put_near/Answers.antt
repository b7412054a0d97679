use Rattle.std.proofs.Common.{◌≡◌, ℕ, ◌<◌, List, [], ◌∷◌, length, get_or, ap, ◌∙◌, arith}
use Rattle.tick_set.specs.Runs.{spans_have}
use Rattle.relation.specs.Key.{key_in}
use Rattle.evaluator.proofs.FillingLemmas.{at_key, filled_next, next_above}
use Rattle.pairs.specs.Pairs.{holds_in, keys_of}
use Rattle.pairs.proofs.PairLemmas.{as_many_keys, each_twice, key_at}
use Rattle.pairs.proofs.rows.put_near.Goals as goal

pub put_unless_apart-requires-clause-inside : goal.put_unless_apart-requires-clause-inside
put_unless_apart-requires-clause-inside g c =
    let movers = c.args.beside.now.others.now in
    let domains = c.args.made.now.domains in
    let id = c.args.beside.now.one.now.id in
    let m = c.other-item.result in
    let i = c.others.other-index in
    let many = as_many_keys movers in
    let l : i < length movers = omega (arith, c.others-test.true) in
    let k : i < length (keys_of movers) = omega (arith, l, many) in
    (λ j. key_in (c.others.invariant.rows.head.domains j) (0 ∷ 1 ∷ []) (id ∷ m.id ∷ []))
    ∙ ap (λ (key : List ℕ). key_in domains (0 ∷ 1 ∷ []) (id ∷ key)) (key_at movers i m l c.other-item.is)
    ∙ at_key (λ (key : List ℕ). key_in domains (0 ∷ 1 ∷ []) (id ∷ key)) (keys_of movers) i (m.id ∷ []) c.requires.inside k

pub put_unless_apart-requires-clause-above : goal.put_unless_apart-requires-clause-above
put_unless_apart-requires-clause-above g c =
    let movers = c.args.beside.now.others.now in
    let m = c.other-item.result in
    let i = c.others.other-index in
    let many = as_many_keys movers in
    let l : i < length movers = omega (arith, c.others-test.true) in
    let k : i < length (keys_of movers) = omega (arith, l, many) in
    next_above spans_have (holds_in c.args.scene.now) c.args.beside.now.one.now.id (keys_of movers) i (m.id ∷ []) c.args.made.now c.others.made k (key_at movers i m l c.other-item.is)
    c.requires.above c.requires.ascend c.others.invariant.rows

pub others-preserved : goal.others-preserved
others-preserved g c =
    let movers = c.args.beside.now.others.now in
    let m = c.other-item.result in
    let i = c.others.other-index in
    let many = as_many_keys movers in
    let l : i < length movers = omega (arith, c.others-test.true) in
    let k : i < length (keys_of movers) = omega (arith, l, many) in
    record {
      rows = filled_next spans_have (holds_in c.args.scene.now) c.args.beside.now.one.now.id (keys_of movers) i (m.id ∷ []) c.args.made.now c.others.made c.put_unless_apart.new.made k
          (key_at movers i m l c.other-item.is) c.others.invariant.rows c.in_ok-put_unless_apart.ensures.rows;
      least = (let l = c.others.invariant.least in let m = c.in_ok-put_unless_apart.ensures.reads.least in omega (arith, l, m));
      most = each_twice c.args.reads.now c.others.reads c.put_unless_apart.new.reads i c.others.invariant.most c.in_ok-put_unless_apart.ensures.reads.most;
    }
