use Rattle.std.proofs.Common.{◌≡◌, ℕ, ◌<◌, ◌∷◌, true, List, length, map, sym, ap, subst, arith, ◌∙◌, nat_lt}
use Rattle.std.specs.List.{flat_map, list_all}
use Rattle.evaluator.specs.Keys.{AreKeys}
use Rattle.evaluator.proofs.KeyLemmas.{keys_more, keys_short}
use Rattle.evaluator.proofs.keys.+keys_of.Goals as goal

pub keys_with-requires : goal.keys_with-requires
keys_with-requires t c =
    let longer = ap length c.in-Some.ensures.cases.0 in
    let few : length c.in-Some.vars.now < 4 = omega (arith, longer, c.requires.few) in
    subst (λ (keys : List (List ℕ)). list_all (λ key. nat_lt (length key) 4) keys ≡ true) (sym c.items.ensures)
    (keys_short c.args.d.now c.in-Some.vars.now 4 c.in_ok-later.later few c.in_ok-later.ensures.inside)

pub returns : goal.returns
returns t c =
    let later = c.in_ok-later.later in
    let ids = c.of.result.now in
    let made = c.in_ok-keys.ensures ∙ ap (λ (keys : List (List ℕ)). flat_map (λ id. map (λ key. id ∷ key) keys) ids) c.items.ensures in
    subst (λ (vs : List ℕ). AreKeys c.args.d.now vs c.in_ok-keys.keys) (sym c.in-Some.ensures.cases.0)
    (subst (λ (keys : List (List ℕ)). AreKeys c.args.d.now (c.in-Some.var.now ∷ c.in-Some.vars.now) keys) (sym made)
    (keys_more c.args.d.now c.in-Some.var.now c.in-Some.vars.now later ids c.of.ensures.value c.of.ensures.ascending c.in_ok-later.ensures))
