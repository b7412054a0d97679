use Rattle.std.proofs.Common.{◌≤◌, length, arith}
use Rattle.reply_text.proofs.BeginLemmas.{begins_through}
use Rattle.line_meaning.specs.Reply.{registration_line}
use Rattle.live_queries.specs.Kept.{KeptQuery}
use Rattle.registry.specs.Standing.{registration_of}
use Rattle.registry.proofs.LineLemmas.{all_queries}
use Rattle.registry.proofs.telling.push_queries.Goals as goal
use Rattle.database.proofs.ListLemmas.{more_lines}

pub queries-preserved : goal.queries-preserved
queries-preserved c = record {
  whole = more_lines (λ (k : KeptQuery). registration_line (registration_of k)) c.args.live.now c.queries.place _ _ _
      c.queries.invariant.whole c.in_ok-push_query_at.ensures.ok;
  begins = begins_through _ _ _ c.queries.invariant.begins c.in_ok-push_query_at.ensures.begins;
}

pub returns-clause-ok : goal.returns-clause-ok
returns-clause-ok c =
    let all : length c.args.live.now ≤ c.queries.place = omega (arith, c.count-place-end.ensures, c.queries-test.false) in
    all_queries c.args.live.now c.queries.place c.args.out.now.items c.queries.out.items all c.queries.invariant.whole
