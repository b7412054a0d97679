use Rattle.std.proofs.Common.{ℕ, ◌-◌, ◌&&◌, Bool}
use Rattle.linear_crossing.specs.Moving.{position_after}
use Rattle.tick_set.specs.Ticks.{within}
use Rattle.worlds.specs.Apart.{distance_compares_by, farthest_square, nearest_square}
use Rattle.worlds.specs.Blurred.{distance_holds_by}
use Rattle.blur.specs.Added.{Adds}
use Rattle.blur.specs.Asked.{comparison}
use Rattle.blur.proofs.AddedLemmas.{adds_as}
use Rattle.blur.proofs.PartLemmas.{apart_along, none_added, second_unseen}
use Rattle.blur.proofs.parts.add_distance_part.Goals as goal
use Rattle.courses.specs.CommonParts.{place_in}
use Rattle.exact.proofs.Items.{on_ok}

pub returns-in-Some-line_in : goal.returns-in-Some-line_in
returns-in-Some-line_in c =
    let common = c.args.common.now in
    let span = common.span in
    let part = c.window.result in
    let error = c.args.blur.error in
    let by = comparison c.args.blur.sure in
    let op = c.args.compared.now.op in
    let from = λ (t : ℕ). position_after c.in-Some.from (t - part.lo) in
    let to = λ (t : ℕ). position_after c.in-Some-line_in.to (t - part.lo) in
    let old = c.args.runs.now in
    let new = c.add_apart.new.runs in
    let found : ℕ → Bool = λ t. within part.lo part.hi t && distance_compares_by by op c.args.compared.now.c (nearest_square error (from t) (to t)) (farthest_square error (from t) (to t)) in
    let test : ℕ → Bool = λ t. within span.lo span.hi t && distance_holds_by by error op c.args.compared.now.c (place_in common 0 t) (place_in common 1 t) in
    on_ok c.add_apart.result (Adds found old new) (Adds test old new)
    (adds_as found test old new
    (apart_along span.lo span.hi part.lo part.hi c.window.ensures.0 c.window.ensures.1 c.line_in.result c.line_in-in-Some.result c.in-Some.from c.in-Some-line_in.to
    (place_in common 0) (place_in common 1) c.line_in.ensures.places c.line_in-in-Some.ensures.places c.in-Some.is c.in-Some-line_in.is by error op c.args.compared.now.c))
    c.add_apart.ensures

pub returns-in-None-line_in : goal.returns-in-None-line_in
returns-in-None-line_in c =
    let common = c.args.common.now in
    let span = common.span in
    let by = comparison c.args.blur.sure in
    none_added span.lo span.hi (λ t. distance_holds_by by c.args.blur.error c.args.compared.now.op c.args.compared.now.c (place_in common 0 t) (place_in common 1 t)) c.args.runs.now
    (second_unseen span.lo span.hi c.line_in-in-Some.result (place_in common 0) (place_in common 1) c.line_in-in-Some.ensures.places c.in-None-line_in.is
    by c.args.blur.error c.args.compared.now.op c.args.compared.now.c)
