use Rattle.std.proofs.Common.{◌≡◌, length, get_or, map, ap, arith, ◌∙◌, sym}
use Rattle.std.specs.Prelude.{slice_index, unwrap_or}
use Rattle.std.proofs.lemmas.List.{length-map, take_all}
use Rattle.std.proofs.lemmas.Option.{unwrap_or-slice_get}
use Rattle.evaluator.proofs.AwayLemmas.{key_here, keys_at}
use Rattle.evaluator.proofs.ColumnLemmas.{first_more}
use Rattle.evaluator.proofs.column.first_objects.Goals as goal

pub places-preserved : goal.places-preserved
places-preserved g c =
    let rows = c.args.rows.now in
    let keys = keys_at rows in
    let key = c.unwrap-key.result in
    let many : length keys ≡ length rows.rows = length-map rows.rows (λ r. r.key) in
    let at : key ≡ get_or keys c.places.place key = key_here (λ r. r.key) rows.rows c.places.place key (sym c.key_at.ensures ∙ c.unwrap-key.ensures) in
    let same : c.unwrap_or.result ≡ slice_index key 0 = c.unwrap_or.ensures ∙ ap (λ o. unwrap_or o 0) c.get.ensures ∙ unwrap_or-slice_get key 0 0 in
    record {
      items = c.in_ok-push.ensures.items ∙ first_more keys c.places.place key c.unwrap_or.result _ (omega (arith, many, c.places-test.true, c.len-place-end.ensures)) at same c.places.invariant.items;
    }

pub returns : goal.returns
returns g c =
    let keys = keys_at c.args.rows.now in
    let many : length keys ≡ length c.args.rows.now.rows = length-map c.args.rows.now.rows (λ r. r.key) in
    c.places.invariant.items ∙ ap (map (λ k. slice_index k 0)) (take_all c.places.place keys (omega (arith, many, c.places-test.false, c.len-place-end.ensures)))
