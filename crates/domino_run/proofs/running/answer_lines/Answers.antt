use Rattle.std.proofs.Common.{ap, arith}
use Rattle.domino_run.proofs.RunLemmas.{lines_answered}
use Rattle.domino_run.proofs.running.answer_lines.Goals as goal

pub returns : goal.returns
returns g c =
    lines_answered c.args.session _ _ _ _ c.args.limit _ _ c.args.counters.reads c.into_counters.result.reads
    c.run_lines-ending.result c.status_of.result c.new-database.ensures.session c.status_of.ensures
    (record {
      starts = c.new-database.ensures.ended;
      cause = c.run_lines-ending.ensures.cause;
      taken = c.run_lines-ending.ensures.taken;
      ends = c.run_lines-ending.ensures.ends;
      spends = λ start bytes at told.
          omega (
            arith,
            c.run_lines-ending.ensures.spends start bytes at told,
            ap (λ k. k.reads) c.into_counters.ensures,
            ap (λ k. k.reads) c.new-database.ensures.counters,
          );
    })
