use Rattle.meaning.proofs.AnswerLemmas.{answer_is_union, answer_of_kept}
use Rattle.meaning.proofs.laws.the_answer_is_the_union_of_the_full_rows.Goals as goal

pub returns : goal.returns
returns c = record { rows = answer_is_union; later = answer_of_kept }
