use Rattle.std.proofs.Common.{subst, option_to_list}
use Rattle.tick_set.specs.Runs.{IsNormal}
use Rattle.atoms.proofs.GatherLemmas.{AreBefore, before_first, before_run, before_second, before_third, grouped}
use Rattle.atoms.proofs.found.append.Goals as goal

pub append-requires : goal.append-requires
append-requires c =
    let found = c.args.found.now in
    let xs = option_to_list found.first in
    let ys = option_to_list found.second in
    let zs = option_to_list found.third in
    let before = subst (AreBefore c.args.runs.now) (grouped xs ys zs) c.requires.past in
    let normal = subst IsNormal (grouped xs ys zs) c.requires.normal in
    record { past = before_run c.args.runs.now found.first (before_first c.args.runs.now xs ys zs before normal) }

pub append-requires-2 : goal.append-requires-2
append-requires-2 c =
    let found = c.args.found.now in
    let xs = option_to_list found.first in
    let ys = option_to_list found.second in
    let zs = option_to_list found.third in
    let before = subst (AreBefore c.args.runs.now) (grouped xs ys zs) c.requires.past in
    let normal = subst IsNormal (grouped xs ys zs) c.requires.normal in
    record {
      past = before_run c.append.new.self found.second
          (before_second c.args.runs.now xs ys zs before normal c.append.new.self c.in_ok-append.ensures.ticks);
    }

pub append-requires-3 : goal.append-requires-3
append-requires-3 c =
    let found = c.args.found.now in
    let xs = option_to_list found.first in
    let ys = option_to_list found.second in
    let zs = option_to_list found.third in
    let before = subst (AreBefore c.args.runs.now) (grouped xs ys zs) c.requires.past in
    let normal = subst IsNormal (grouped xs ys zs) c.requires.normal in
    record {
      past = before_run c.append-2.new.self found.third
          (before_third c.args.runs.now xs ys zs before normal c.append.new.self c.in_ok-append.ensures.ticks
          c.append-2.new.self c.in_ok-append-2.ensures.ticks);
    }
