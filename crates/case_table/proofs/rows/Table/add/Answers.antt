-- One more row, whose word and code no other row has, leaves the rows apart.
use Rattle.std.proofs.Common.{arith, ◌≡◌, ◌<◌, is_none, true, length, sym, ◌∙◌}
use Rattle.std.proofs.lemmas.List.{take_more_set}
use Rattle.case_table.proofs.Found.{apart_push, none_from_not_some, none_from_copied}
use Rattle.case_table.specs.Rows.{code_of, word_of}
use Rattle.case_table.proofs.rows.Table.add.Goals as goal

pub invariant_of-self : goal.invariant_of-self
invariant_of-self g c =
    let room : c.self.inside.len < length c.self.inside.rows = omega arith in
    let no_word : is_none (code_of c.args.self.now c.args.word.now) ≡ true = rw (← c.code_of.ensures.value) (none_from_not_some c.code_of.result (sym c.if-is_some.false ∙ c.is_some.ensures)) in
    let no_code : is_none (word_of c.args.self.now c.args.code) ≡ true = none_from_copied c.word_of.result (word_of c.args.self.now c.args.code) c.word_of.ensures.value (sym c.if-is_some-2.false ∙ c.is_some-else-is_some.ensures) in
    (omega arith, rw (take_more_set, c.of.ensures, c.self.view_is) (apart_push c.args.self.now c.args.code c.args.word.now (rw (← c.self.view_is) c.self.invariant.1) no_word no_code))
