use Rattle.std.proofs.Common.{◌∙◌, ap, sym}
use Rattle.motion.proofs.CallerLemmas.{AreBegunBy-later}
use Rattle.motion.specs.Timeline.{AreBegunBy}
use Rattle.atoms.specs.Presence.{is_there}
use Rattle.atoms.proofs.present.is_there_from.Goals as goal

pub returns : goal.returns
returns c = λ is t from.
    let by_first : AreBegunBy c.args.timeline.now c.args.lo = c.is_begun_by.ensures.0 c.if-not-is_begun_by.false in
    let in_force = c.last.ensures.in_force t (AreBegunBy-later c.args.timeline.now c.args.lo t from by_first) in
    ap is_there (sym in_force) ∙ sym c.has_object.ensures ∙ is
