use Rattle.std.proofs.Common.{◌+◌, true, false}
use Rattle.std.specs.Prelude.{unsigned_abs}
use Rattle.formula.specs.Value.{no_values}
use Rattle.meaning.specs.Satisfaction.{plain}
use Rattle.meaning.specs.Trace.{trace_of}
use Rattle.worlds.specs.Blurred.{blurred}
use Rattle.worlds.specs.Moved.{in_world}
use Rattle.line_meaning.specs.Ask.{query_in}
use Rattle.line_meaning.proofs.WorldLemmas.{told_more, without_not}
use Rattle.line_meaning.proofs.laws.answers_lie_between.Goals as goal

pub returns-clause-surely : goal.returns-clause-surely
returns-clause-surely c = λ w now span q accepted error moves is_world key t.
    let r = query_in w q in
    told_more (blurred true (unsigned_abs error) w) (in_world moves w) w r (now + span) key t
    (λ b. c.worlds_lie_between.ensures.surely (unsigned_abs error) moves is_world r.formula (without_not w now span q accepted) w b no_values (now + span) t)

pub returns-clause-possibly : goal.returns-clause-possibly
returns-clause-possibly c = λ w now span q accepted error moves is_world key t.
    let r = query_in w q in
    told_more (in_world moves w) (blurred false (unsigned_abs error) w) w r (now + span) key t
    (λ b. c.worlds_lie_between.ensures.possibly (unsigned_abs error) moves is_world r.formula (without_not w now span q accepted) w b no_values (now + span) t)

pub returns-clause-between : goal.returns-clause-between
returns-clause-between c = record {
  surely = λ w now span q accepted error key t.
      let r = query_in w q in
      told_more (blurred true (unsigned_abs error) w) (λ b. plain w.regions (trace_of w.history b)) w r (now + span) key t
      (λ b. c.worlds_lie_between.ensures.between.surely (unsigned_abs error) r.formula (without_not w now span q accepted) w b no_values (now + span) t);
  possibly = λ w now span q accepted error key t.
      let r = query_in w q in
      told_more (λ b. plain w.regions (trace_of w.history b)) (blurred false (unsigned_abs error) w) w r (now + span) key t
      (λ b. c.worlds_lie_between.ensures.between.possibly (unsigned_abs error) r.formula (without_not w now span q accepted) w b no_values (now + span) t);
}
