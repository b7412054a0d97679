-- A reserved word is looked up among those that begin as the word does.
use Rattle.std.proofs.Common.{◌≡◌, ℕ, ◌<◌, List, [], ◌∷◌, None, length, ap, ◌∙◌, refl, arith}
use Rattle.case_table.specs.Rows.{code_of}
use Rattle.case_table.specs.Language.{reserved_words}
use Rattle.case_table.proofs.FirstBytes.{find_shown, code_of_first}
use Rattle.case_table.proofs.keywords.reserved_code.Goals as goal

-- no reserved word is empty
empty_word : (word : List ℕ) → length word < 1 → None ≡ code_of reserved_words word
unfolding reserved_words
empty_word [] h = refl
empty_word (b ∷ bs) h = absurd (omega arith)

pub returns-in-empty : goal.returns-in-empty
returns-in-empty c = empty_word c.args.word.now c.in-empty.len_below

pub returns-in-len1-up : goal.returns-in-len1-up
returns-in-len1-up c =
    c.among.ensures
    ∙ (find_shown c.beginning_with.result.now c.args.word.now
    ∙ (ap (λ rows. code_of rows c.args.word.now) c.beginning_with.ensures
    ∙ code_of_first reserved_words c.args.word.now))
