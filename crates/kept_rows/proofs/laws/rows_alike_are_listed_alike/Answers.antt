use Rattle.kept_rows.specs.Listing.{line_of, lines_upto, passing_of, target_has}
use Rattle.kept_rows.specs.Moves.{move_of}
use Rattle.kept_rows.proofs.laws.rows_alike_are_listed_alike.Goals as goal

pub returns-clause-answer : goal.returns-clause-answer
returns-clause-answer c = λ p q width from e n same i. lines_upto (line_of (target_has (λ k t. same k t i) width) from e) n

pub returns-clause-passed : goal.returns-clause-passed
returns-clause-passed c = λ p q width e before now n same i. lines_upto (passing_of (target_has (λ k t. same k t i) width) e before now) n

pub returns-clause-moves : goal.returns-clause-moves
returns-clause-moves c = λ p p' q q' width from e now n same same' i. lines_upto (move_of (target_has (λ k t. same k t i) width) (target_has (λ k t. same' k t i) width) from e now) n
