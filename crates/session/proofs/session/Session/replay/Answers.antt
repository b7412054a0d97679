use Rattle.std.proofs.Common.{◌≤◌, ◌+◌, subst, arith}
use Rattle.command_text.specs.Tree.{command_view}
use Rattle.line_meaning.proofs.IndexLemmas.{plain_looks}
use Rattle.session.proofs.AnswerLemmas.{kept_on_no_index, kept_plain, replays_as}
use Rattle.session.proofs.session.Session.replay.Goals as goal

pub carry_out-carried-requires-clause-plain : goal.carry_out-carried-requires-clause-plain
carry_out-carried-requires-clause-plain g c = kept_plain (command_view c.args.command) c.requires.kept

pub returns-clause-replayed : goal.returns-clause-replayed
returns-clause-replayed g c = replays_as (command_view c.args.command) _ _ c.requires.kept c.carry_out-carried.result c.carry_out-carried.ensures.carried

pub returns-clause-reads : goal.returns-clause-reads
returns-clause-reads g c = record {
  least = omega arith;
  most = (subst (λ n. c.carry_out-carried.new.reads ≤ c.args.reads.now + n)
      (plain_looks c.args.self.now (command_view c.args.command) (kept_on_no_index (command_view c.args.command) c.requires.kept))
      c.carry_out-carried.ensures.carried.most);
}
