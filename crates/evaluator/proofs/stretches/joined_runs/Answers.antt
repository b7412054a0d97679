use Rattle.std.proofs.Common.{◌≡◌, ◌+◌, ◌<◌, length, arith}
use Rattle.evaluator.proofs.StretchLemmas.{all_of, joined_apart, joined_each, joined_longer, run_among}
use Rattle.evaluator.proofs.stretches.joined_runs.Goals as goal
use Rattle.evaluator.proofs.stretches.joined_runs.Goals.{in-Some-both, in-None+in_ok-push-in-None}

pub runs-preserved : goal.runs-preserved
runs-preserved c =
    let are = c.in-Some.ensures.cases.0 in
    let count : length c.args.runs.now ≡ length c.in-Some.later.now + 1 = all_of c.args.runs.now c.in-Some.first.now c.in-Some.later.now are in
    let one : c.runs.run-index + 1 < length c.args.runs.now = omega (arith, count, c.runs-test.true) in
    let at = run_among c.args.runs.now c.in-Some.first.now c.in-Some.later.now c.runs.run-index c.run-item.result are c.run-item.is in
    elim c.match-both.branch [
      | in-Some-both w ↦
          rw w.made-is
          (rw w.last-is
          (joined_longer c.args.runs.now c.runs.run-index c.runs.made.items c.runs.last c.run-item.result w.in-Some-both.longer c.runs.invariant one at
          w.in-Some-both.ensures.value w.in-Some-both.ensures.ends.0 w.in-Some-both.ensures.ends.1 w.in-Some-both.ensures.next))
      | in-None+in_ok-push-in-None w ↦
          rw w.made-is
          (rw w.last-is
          (joined_apart c.args.runs.now c.runs.run-index c.runs.made.items w.push.new.self.items c.runs.last c.run-item.result c.runs.invariant one at w.in_ok-push-in-None.ensures.items))
    ]

pub returns-clause-each : goal.returns-clause-each
returns-clause-each c =
    joined_each c.args.runs.now c.runs.run-index c.runs.made.items c.push-2.new.self.items c.runs.last c.runs.invariant c.in_ok-push.ensures.items
