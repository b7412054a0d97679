use Rattle.std.proofs.Common.{ℕ, ap, ◌∙◌}
use Rattle.meaning.specs.Atom.{distance_holds, position_in}
use Rattle.atoms.specs.Parts.{shown}
use Rattle.atoms.proofs.PlaceLemmas.{no_distance, no_place}
use Rattle.atoms.proofs.RunLemmas.{runs_none}
use Rattle.atoms.proofs.distances.at_distance.Goals as goal

pub returns-in-None-line_of-clause-runs : goal.returns-in-None-line_of-clause-runs
returns-in-None-line_of-clause-runs g c =
    let span = c.args.part.now.span in
    let from = λ (t : ℕ). position_in t (shown c.args.part.now c.args.from t) in
    let to = λ (t : ℕ). position_in t (shown c.args.part.now c.args.to t) in
    runs_none span.lo span.hi (λ t. distance_holds c.args.op c.args.c (from t) (to t)) _ c.nowhere.ensures
    (λ t begun up_to.
    ap (λ p. distance_holds c.args.op c.args.c (from t) p)
    (no_place span.lo t c.line_of-in-Some.result (to t) c.in-None-line_of.is (c.line_of-in-Some.ensures.places t begun up_to))
    ∙ no_distance c.args.op c.args.c (from t))

pub returns-in-None-clause-runs : goal.returns-in-None-clause-runs
returns-in-None-clause-runs g c =
    let span = c.args.part.now.span in
    let from = λ (t : ℕ). position_in t (shown c.args.part.now c.args.from t) in
    let to = λ (t : ℕ). position_in t (shown c.args.part.now c.args.to t) in
    runs_none span.lo span.hi (λ t. distance_holds c.args.op c.args.c (from t) (to t)) _ c.nowhere-in-None.ensures
    (λ t begun up_to.
    ap (λ p. distance_holds c.args.op c.args.c p (to t))
    (no_place span.lo t c.line_of.result (from t) c.in-None.is (c.line_of.ensures.places t begun up_to)))
