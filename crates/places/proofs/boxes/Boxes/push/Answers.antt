use Rattle.std.proofs.Common.{rules, ◌≡◌, ◌<◌, ◌^◌, length, sym, subst}
use Rattle.places.specs.Boxes.{Horizon}
use Rattle.places.proofs.CoverLemmas.{covers_push}
use Rattle.places.proofs.boxes.Boxes.push.Goals as goal

pub invariant_of-self-2 : goal.invariant_of-self-2
invariant_of-self-2 c =
    let is : c.len-number.result ≡ length c.self.inside.patches.items = search rules in
    rw (c.in_ok-cover_next.ensures.ok, c.push_reserved.ensures.items, c.push_reserved-2.ensures.items, c.push_reserved-3.ensures.items, c.in_ok-reserve.ensures.items, c.in_ok-reserve-2.ensures.items, c.in_ok-reserve-3.ensures.items)
    (covers_push c.self.inside.covers.items c.self.inside.patches.items c.self.inside.slots.items c.self.inside.numbers.items c.args.patch c.len-number.result is
    (subst (λ n. n < 2 ^ 32) (sym is) (subst (λ (h : Horizon). length h.patches < 2 ^ 32) (sym c.self.view_is) c.requires.few)) c.self.invariant)
