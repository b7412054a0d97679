use Rattle.std.proofs.Common.{◌≤◌, [], ◌∷◌, arith}
use Rattle.distance_crossing.proofs.Pairwise.{begins, begins_later, close_of_four, close_of_three, few_together, four_together, inside, list_of_four, list_of_three, next_runs, none_is, none_runs, none_together, three_together}
use Rattle.distance_crossing.proofs.sphere.together.Goals as goal

pub returns-in_err-near-clause-runs : goal.returns-in_err-near-clause-runs
returns-in_err-near-clause-runs g c =
    none_is _ _ c.from_residual.ensures (none_together c.args.r c.args.lines.now c.args.w c.requires.lines.count c.in_err-near.ensures.runs)

pub three_together-requires-clause-close : goal.three_together-requires-clause-close
three_together-requires-clause-close g c =
    close_of_three c.args.r c.args.lines.now c.args.w c.in_ok-near.near c.in_ok-near.ensures.runs c.p-item.result c.q-item.result c.s-item.result
    (list_of_three c.args.lines.now c.p-item.result c.q-item.result c.s-item.result c.in-len3.len_at_least c.in-len3.len_below c.p-item.is c.q-item.is c.s-item.is)

pub returns-in-len3-clause-runs : goal.returns-in-len3-clause-runs
returns-in-len3-clause-runs g c =
    three_together c.args.r c.args.lines.now c.args.w c.requires.lines.count c.p-item.result c.q-item.result c.s-item.result _
    (list_of_three c.args.lines.now c.p-item.result c.q-item.result c.s-item.result c.in-len3.len_at_least c.in-len3.len_below c.p-item.is c.q-item.is c.s-item.is)
    (next_runs _ _ c.in_ok-near.near _ c.in_ok-near.ensures.runs c.three_together.ensures)

pub three_together-requires-in-len4-clause-close : goal.three_together-requires-in-len4-clause-close
three_together-requires-in-len4-clause-close g c = λ t e.
    (close_of_four c.args.r c.args.lines.now c.args.w c.in_ok-near.near c.in_ok-near.ensures.runs c.p-item-then-lines-lt5.result c.q-item-then-lines-lt5.result c.s-item-then-lines-lt5.result c.u-item.result
    (list_of_four c.args.lines.now c.p-item-then-lines-lt5.result c.q-item-then-lines-lt5.result c.s-item-then-lines-lt5.result c.u-item.result
    c.in-len4.len_at_least c.in-len4.len_below c.p-item-then-lines-lt5.is c.q-item-then-lines-lt5.is c.s-item-then-lines-lt5.is c.u-item.is) t e).pqs

pub three_together-requires-in-len4-2-clause-close : goal.three_together-requires-in-len4-2-clause-close
three_together-requires-in-len4-2-clause-close g c = λ t e.
    (close_of_four c.args.r c.args.lines.now c.args.w c.in_ok-near.near c.in_ok-near.ensures.runs c.p-item-then-lines-lt5.result c.q-item-then-lines-lt5.result c.s-item-then-lines-lt5.result c.u-item.result
    (list_of_four c.args.lines.now c.p-item-then-lines-lt5.result c.q-item-then-lines-lt5.result c.s-item-then-lines-lt5.result c.u-item.result
    c.in-len4.len_at_least c.in-len4.len_below c.p-item-then-lines-lt5.is c.q-item-then-lines-lt5.is c.s-item-then-lines-lt5.is c.u-item.is) t (inside _ c.in_ok-near.near c.in_ok-span-in-len4.span c.in_ok-span-in-len4.ensures t e)).pqu

pub three_together-requires-in-len4-3-clause-from : goal.three_together-requires-in-len4-3-clause-from
three_together-requires-in-len4-3-clause-from g c =
    let first : c.args.w.lo ≤ c.in_ok-near.near.lo = begins c.args.w _ c.in_ok-near.near c.in_ok-near.ensures.runs in
    let second : c.in_ok-near.near.lo ≤ c.in_ok-span-in-len4.span.lo = begins_later _ c.in_ok-near.near c.in_ok-span-in-len4.span c.in_ok-span-in-len4.ensures in
    let third : c.in_ok-span-in-len4.span.lo ≤ c.in_ok-span-in-len4-2.span.lo = begins_later _ c.in_ok-span-in-len4.span c.in_ok-span-in-len4-2.span c.in_ok-span-in-len4-2.ensures in
    omega arith

pub three_together-requires-in-len4-3-clause-close : goal.three_together-requires-in-len4-3-clause-close
three_together-requires-in-len4-3-clause-close g c = λ t e.
    (close_of_four c.args.r c.args.lines.now c.args.w c.in_ok-near.near c.in_ok-near.ensures.runs c.p-item-then-lines-lt5.result c.q-item-then-lines-lt5.result c.s-item-then-lines-lt5.result c.u-item.result
    (list_of_four c.args.lines.now c.p-item-then-lines-lt5.result c.q-item-then-lines-lt5.result c.s-item-then-lines-lt5.result c.u-item.result
    c.in-len4.len_at_least c.in-len4.len_below c.p-item-then-lines-lt5.is c.q-item-then-lines-lt5.is c.s-item-then-lines-lt5.is c.u-item.is) t (inside _ c.in_ok-near.near c.in_ok-span-in-len4.span c.in_ok-span-in-len4.ensures t (inside _ c.in_ok-span-in-len4.span c.in_ok-span-in-len4-2.span c.in_ok-span-in-len4-2.ensures t e))).psu

pub three_together-requires-in-len4-4-clause-from : goal.three_together-requires-in-len4-4-clause-from
three_together-requires-in-len4-4-clause-from g c =
    let first : c.args.w.lo ≤ c.in_ok-near.near.lo = begins c.args.w _ c.in_ok-near.near c.in_ok-near.ensures.runs in
    let second : c.in_ok-near.near.lo ≤ c.in_ok-span-in-len4.span.lo = begins_later _ c.in_ok-near.near c.in_ok-span-in-len4.span c.in_ok-span-in-len4.ensures in
    let third : c.in_ok-span-in-len4.span.lo ≤ c.in_ok-span-in-len4-2.span.lo = begins_later _ c.in_ok-span-in-len4.span c.in_ok-span-in-len4-2.span c.in_ok-span-in-len4-2.ensures in
    let fourth : c.in_ok-span-in-len4-2.span.lo ≤ c.in_ok-span-in-len4-3.span.lo = begins_later _ c.in_ok-span-in-len4-2.span c.in_ok-span-in-len4-3.span c.in_ok-span-in-len4-3.ensures in
    omega arith

pub three_together-requires-in-len4-4-clause-close : goal.three_together-requires-in-len4-4-clause-close
three_together-requires-in-len4-4-clause-close g c = λ t e.
    (close_of_four c.args.r c.args.lines.now c.args.w c.in_ok-near.near c.in_ok-near.ensures.runs c.p-item-then-lines-lt5.result c.q-item-then-lines-lt5.result c.s-item-then-lines-lt5.result c.u-item.result
    (list_of_four c.args.lines.now c.p-item-then-lines-lt5.result c.q-item-then-lines-lt5.result c.s-item-then-lines-lt5.result c.u-item.result
    c.in-len4.len_at_least c.in-len4.len_below c.p-item-then-lines-lt5.is c.q-item-then-lines-lt5.is c.s-item-then-lines-lt5.is c.u-item.is) t (inside _ c.in_ok-near.near c.in_ok-span-in-len4.span c.in_ok-span-in-len4.ensures t (inside _ c.in_ok-span-in-len4.span c.in_ok-span-in-len4-2.span c.in_ok-span-in-len4-2.ensures t (inside _ c.in_ok-span-in-len4-2.span c.in_ok-span-in-len4-3.span c.in_ok-span-in-len4-3.ensures t e)))).qsu

pub returns-in_err-span-in-len4-clause-runs : goal.returns-in_err-span-in-len4-clause-runs
returns-in_err-span-in-len4-clause-runs g c =
    none_is _ _ c.from_residual-in_err-span-in-len4.ensures
    (four_together c.args.r c.args.lines.now c.args.w c.requires.lines.count c.p-item-then-lines-lt5.result c.q-item-then-lines-lt5.result c.s-item-then-lines-lt5.result c.u-item.result []
    (list_of_four c.args.lines.now c.p-item-then-lines-lt5.result c.q-item-then-lines-lt5.result c.s-item-then-lines-lt5.result c.u-item.result
    c.in-len4.len_at_least c.in-len4.len_below c.p-item-then-lines-lt5.is c.q-item-then-lines-lt5.is c.s-item-then-lines-lt5.is c.u-item.is)
    (none_runs _ _ (none_runs _ _ (none_runs _ _ (next_runs _ _ c.in_ok-near.near [] c.in_ok-near.ensures.runs c.in_err-span-in-len4.ensures)))))

pub returns-in_err-span-in-len4-2-clause-runs : goal.returns-in_err-span-in-len4-2-clause-runs
returns-in_err-span-in-len4-2-clause-runs g c =
    none_is _ _ c.from_residual-in_err-span-in-len4-2.ensures
    (four_together c.args.r c.args.lines.now c.args.w c.requires.lines.count c.p-item-then-lines-lt5.result c.q-item-then-lines-lt5.result c.s-item-then-lines-lt5.result c.u-item.result []
    (list_of_four c.args.lines.now c.p-item-then-lines-lt5.result c.q-item-then-lines-lt5.result c.s-item-then-lines-lt5.result c.u-item.result
    c.in-len4.len_at_least c.in-len4.len_below c.p-item-then-lines-lt5.is c.q-item-then-lines-lt5.is c.s-item-then-lines-lt5.is c.u-item.is)
    (none_runs _ _ (none_runs _ _ (next_runs _ _ c.in_ok-span-in-len4.span [] (next_runs _ _ c.in_ok-near.near (c.in_ok-span-in-len4.span ∷ []) c.in_ok-near.ensures.runs c.in_ok-span-in-len4.ensures) c.in_err-span-in-len4-2.ensures))))

pub returns-in_err-span-in-len4-3-clause-runs : goal.returns-in_err-span-in-len4-3-clause-runs
returns-in_err-span-in-len4-3-clause-runs g c =
    none_is _ _ c.from_residual-in_err-span-in-len4-3.ensures
    (four_together c.args.r c.args.lines.now c.args.w c.requires.lines.count c.p-item-then-lines-lt5.result c.q-item-then-lines-lt5.result c.s-item-then-lines-lt5.result c.u-item.result []
    (list_of_four c.args.lines.now c.p-item-then-lines-lt5.result c.q-item-then-lines-lt5.result c.s-item-then-lines-lt5.result c.u-item.result
    c.in-len4.len_at_least c.in-len4.len_below c.p-item-then-lines-lt5.is c.q-item-then-lines-lt5.is c.s-item-then-lines-lt5.is c.u-item.is)
    (none_runs _ _ (next_runs _ _ c.in_ok-span-in-len4-2.span [] (next_runs _ _ c.in_ok-span-in-len4.span (c.in_ok-span-in-len4-2.span ∷ []) (next_runs _ _ c.in_ok-near.near (c.in_ok-span-in-len4.span ∷ []) c.in_ok-near.ensures.runs c.in_ok-span-in-len4.ensures) c.in_ok-span-in-len4-2.ensures) c.in_err-span-in-len4-3.ensures)))

pub returns-in_ok-span-in-len4-3-clause-runs : goal.returns-in_ok-span-in-len4-3-clause-runs
returns-in_ok-span-in-len4-3-clause-runs g c =
    four_together c.args.r c.args.lines.now c.args.w c.requires.lines.count c.p-item-then-lines-lt5.result c.q-item-then-lines-lt5.result c.s-item-then-lines-lt5.result c.u-item.result _
    (list_of_four c.args.lines.now c.p-item-then-lines-lt5.result c.q-item-then-lines-lt5.result c.s-item-then-lines-lt5.result c.u-item.result
    c.in-len4.len_at_least c.in-len4.len_below c.p-item-then-lines-lt5.is c.q-item-then-lines-lt5.is c.s-item-then-lines-lt5.is c.u-item.is)
    (next_runs _ _ c.in_ok-span-in-len4-3.span _ (next_runs _ _ c.in_ok-span-in-len4-2.span (c.in_ok-span-in-len4-3.span ∷ []) (next_runs _ _ c.in_ok-span-in-len4.span (c.in_ok-span-in-len4-2.span ∷ []) (next_runs _ _ c.in_ok-near.near (c.in_ok-span-in-len4.span ∷ []) c.in_ok-near.ensures.runs c.in_ok-span-in-len4.ensures) c.in_ok-span-in-len4-2.ensures) c.in_ok-span-in-len4-3.ensures) c.three_together-in-len4-4.ensures)

pub returns-in_default-clause-runs : goal.returns-in_default-clause-runs
returns-in_default-clause-runs g c =
    few_together c.args.r c.args.lines.now c.args.w c.requires.lines.count (c.in_ok-near.near ∷ []) (omega arith) c.in_ok-near.ensures.runs
