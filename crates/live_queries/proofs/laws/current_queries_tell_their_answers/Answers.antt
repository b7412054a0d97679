use Rattle.live_queries.proofs.AnswerLemmas.{answer_is, first_after, passings_are}
use Rattle.live_queries.proofs.laws.current_queries_tell_their_answers.Goals as goal

pub returns : goal.returns
returns c = record {
  answer = λ w k is now current after. answer_is w now k is current (first_after k.kind k.entry now after);
  passed = λ w k is before now current. passings_are w before k is current now;
}
