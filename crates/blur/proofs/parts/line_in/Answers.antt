use Rattle.std.proofs.Common.{◌≡◌, Option, Some, ap, sym, ◌∙◌}
use Rattle.std.specs.Prelude.{option_and_then, slice_index_or, None}
use Rattle.std.specs.Option.{option_copied}
use Rattle.courses.specs.Places.{place_of}
use Rattle.motion.specs.Timeline.{Epoch}
use Rattle.blur.proofs.PartLemmas.{line_places}
use Rattle.blur.proofs.parts.line_in.Goals as goal

pub returns-clause-places : goal.returns-clause-places
returns-clause-places c = λ t from up_to.
    let common = c.args.common.now in
    let span = common.span in
    let p = c.in_ok-epoch.field-0.now in
    let here : option_copied (slice_index_or common.epochs c.args.index None) ≡ Some p = sym (ap option_copied c.epoch.ensures) ∙ ap option_copied c.in_ok-epoch.was in
    ap (λ (e : Option Epoch). option_and_then (λ q. place_of q t) e) here
    ∙ line_places span.lo span.hi c.line_from.result (place_of p) c.line_from.ensures.places c.line_from.ensures.none t from up_to
