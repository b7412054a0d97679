use Rattle.std.proofs.Common.{◌≡◌, ℕ, ◌-◌, ◌<◌, Option, None, Some, is_some, List, ◌∷◌, length, take, ap, sym, subst, ◌∙◌, arith, length-set}
use Rattle.std.specs.Prelude.{All, ◌==◌}
use Rattle.std.specs.List.{list_any}
use Rattle.std.specs.Option.{IfSome, option_map}
use Rattle.std.proofs.lemmas.Bool.{false≢true}
use Rattle.std.proofs.lemmas.Bool.Decides.{nat_tests}
use Rattle.std.proofs.lemmas.List.{take_more_set}
use Rattle.std.proofs.lemmas.List.Elements.{All-push}
use Rattle.distance_crossing.specs.NearTicks.{positions_after}
use Rattle.linear_crossing.specs.declared.quad.Line.{Line}
use Rattle.linear_crossing.specs.Moving.{IsInReach, position_after}
use Rattle.meaning.specs.Atom.{positions_of}
use Rattle.atoms.specs.Parts.{epoch_of, shown}
use Rattle.atoms.proofs.CircleLemmas.{after_more, behind, positions_next, still_ahead}
use Rattle.atoms.proofs.circles.lines_of.Goals as goal

pub placing-preserved : goal.placing-preserved
placing-preserved c =
    let part = c.args.part.now in
    let lo = part.span.lo in
    let v = c.in-Some.v.now in
    let later = c.in-Some.later.now in
    let l = c.in_ok-lines.field-0 in
    let lines = c.placing.lines in
    let n = c.placing.len in
    let first : c.placing.rest.now ≡ v ∷ later = c.in-Some.ensures.cases.0 in
    let some : c.line_of.result ≡ Some l = c.in_ok-lines.was in
    let counted : length c.placing.rest.now ≡ length (v ∷ later) = ap length first in
    let room : n < length lines = omega (arith, c.placing.invariant.size, c.placing.invariant.count, c.requires.few) in
    record {
      size = length-set lines n l ∙ c.placing.invariant.size;
      count = omega (arith, c.placing.invariant.count);
      reach =
          subst (All IsInReach) (sym (take_more_set lines n l room))
          (All-push IsInReach (take n lines) l c.placing.invariant.reach (subst (λ (o : Option Line). IfSome o IsInReach) some c.line_of.ensures.reach));
      places = λ t from up_to.
          let h = shown part in
          let before = positions_after (take n lines) (t - lo) in
          c.placing.invariant.places t from up_to
          ∙ ap (λ (vs : List ℕ). behind before (positions_of h t vs)) first
          ∙ positions_next h t v later before (position_after l (t - lo))
          (c.line_of.ensures.places t from up_to ∙ ap (λ (o : Option Line). option_map (λ m. position_after m (t - lo)) o) some)
          ∙ ap (λ ps. behind ps (positions_of h t later)) (sym (after_more lines n (t - lo) l room));
      ahead = λ u any none.
          still_ahead v u later
          (λ same.
          let equal : v ≡ u = grind (arith, nat_tests) in
          let empty : c.line_of.result ≡ None = c.line_of.ensures.absent (ap (epoch_of part) equal ∙ none) in
          false≢true (ap is_some (sym empty ∙ some)))
          (sym (ap (λ (vs : List ℕ). list_any (λ w. w == u) vs) first) ∙ c.placing.invariant.ahead u any none);
    }
