use Rattle.std.proofs.Common.{map, sym, ◌∙◌}
use Rattle.answers.proofs.AnswerLemmas.{AreInOrder, inside_domains, row_there}
use Rattle.answers.proofs.ProductLemmas.{key_in_at}
use Rattle.answers.proofs.evaluating.widened.Goals as goal

pub returns-clause-inside : goal.returns-clause-inside
returns-clause-inside c = λ b t there v among.
    let rows = c.args.rows in
    let order : AreInOrder rows = record {
      keys = c.rows_stand_in_order.ensures.keys;
      ticks = c.rows_stand_in_order.ensures.ticks;
      some = c.rows_stand_in_order.ensures.some;
      none = c.rows_stand_in_order.ensures.none;
    } in
    key_in_at rows.domains rows.vars b
    (inside_domains rows order (map b rows.vars) (row_there rows order (map b rows.vars) t (sym (c.in_ok-made.ensures.ticks b t) ∙ there))) v among
