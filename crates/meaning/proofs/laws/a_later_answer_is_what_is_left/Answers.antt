use Rattle.meaning.proofs.AnswerLemmas.{answer_is_left}
use Rattle.meaning.proofs.laws.a_later_answer_is_what_is_left.Goals as goal

pub returns : goal.returns
returns c = answer_is_left
