use Rattle.std.proofs.Common.{ℕ, ◌-◌, ◌&&◌, Bool, option_to_list}
use Rattle.linear_crossing.specs.Moving.{position_after}
use Rattle.tick_set.specs.Runs.{spans_have}
use Rattle.tick_set.specs.Ticks.{within}
use Rattle.worlds.specs.Blurred.{is_in_region_by}
use Rattle.blur.specs.Added.{Adds}
use Rattle.blur.specs.Asked.{inside_by}
use Rattle.blur.proofs.AddedLemmas.{adds_as, before_inside, is_past}
use Rattle.blur.proofs.insides.add_inside.Goals as goal
use Rattle.exact.proofs.Items.{on_ok}

pub append-requires : goal.append-requires
append-requires c =
    let w = c.args.w in
    let is : ℕ → Bool = λ t. is_in_region_by (inside_by c.args.blur.sure c.args.blur.error) c.args.regions.now c.args.n (position_after c.args.line.now (t - w.lo)) in
    record {
      past = is_past (λ t. within w.lo w.hi t && is t) c.args.runs.now c.inside_run.result c.inside_run.ensures.ticks (before_inside w.lo w.hi c.args.runs.now is c.requires);
    }

pub returns : goal.returns
returns c =
    let w = c.args.w in
    let test : ℕ → Bool = λ t. within w.lo w.hi t && is_in_region_by (inside_by c.args.blur.sure c.args.blur.error) c.args.regions.now c.args.n (position_after c.args.line.now (t - w.lo)) in
    let run = spans_have (option_to_list c.inside_run.result) in
    on_ok c.append.result (Adds run c.args.runs.now c.append.new.self) (Adds test c.args.runs.now c.append.new.self)
    (adds_as run test c.args.runs.now c.append.new.self c.inside_run.ensures.ticks) c.append.ensures.ticks
