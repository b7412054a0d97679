use Rattle.std.proofs.Common.{◌≡◌, ℕ, ◌+◌, option_to_list}
use Rattle.linear_crossing.specs.Zones.{spans_of}
use Rattle.nearest.specs.Depth.{depth_at}
use Rattle.nearest.proofs.OrderLemmas.{depth-append}
use Rattle.nearest.proofs.PartLemmas.{added}
use Rattle.nearest.proofs.pairs.add.Goals as goal
use Rattle.exact.proofs.Items.{on_ok}

pub returns : goal.returns
returns c =
    let found = c.args.found.now in
    let old = c.args.stretches.now.items in
    let middle = c.add_run.new.stretches.items in
    let new = c.add_run-2.new.stretches.items in
    on_ok c.add_run-2.result ((t : ℕ) → depth_at new t ≡ depth_at middle t + depth_at (option_to_list found.second) t)
    ((t : ℕ) → depth_at new t ≡ depth_at old t + depth_at (spans_of found) t)
    (λ second t.
    added (depth_at new t) (depth_at middle t) (depth_at old t) (depth_at (option_to_list found.first) t) (depth_at (option_to_list found.second) t) (depth_at (spans_of found) t)
    (second t) (c.in_ok-add_run.ensures t) (depth-append (option_to_list found.first) (option_to_list found.second) t))
    c.add_run-2.ensures
