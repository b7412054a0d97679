use Rattle.std.proofs.Common.{◌≡◌, Option, Some, ap, sym, ◌∙◌}
use Rattle.std.specs.Prelude.{option_and_then}
use Rattle.std.specs.Option.{option_copied}
use Rattle.courses.specs.Places.{place_of}
use Rattle.meaning.specs.Atom.{position_in}
use Rattle.motion.specs.Timeline.{Epoch}
use Rattle.atoms.specs.Parts.{epoch_of}
use Rattle.atoms.proofs.NamingLemmas.{place_steady}
use Rattle.atoms.proofs.PlaceLemmas.{line_places, same_place}
use Rattle.atoms.proofs.positions.line_of.Goals as goal

pub returns-clause-places : goal.returns-clause-places
returns-clause-places c = λ t from up_to.
    let span = c.args.part.now.span in
    let p = c.in_ok-epoch.field-0.now in
    let here : epoch_of c.args.part.now c.args.v ≡ Some p = sym c.epoch.ensures ∙ ap option_copied c.in_ok-epoch.was in
    ap (λ (e : Option Epoch). position_in t (option_and_then (λ q. q.cells) e)) here
    ∙ same_place p t
    ∙ line_places span.lo span.hi c.place_line.result (place_of p) c.place_line.ensures.places c.place_line.ensures.none t from up_to

pub place_line-requires : goal.place_line-requires
place_line-requires c =
    let part = c.args.part.now in
    let p = c.in_ok-epoch.field-0.now in
    place_steady part.asked p part.span.lo part.span.hi c.requires.asked (c.requires.steady c.args.v p (sym c.epoch.ensures ∙ ap option_copied c.in_ok-epoch.was))
