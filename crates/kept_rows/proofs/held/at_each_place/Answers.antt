use Rattle.std.proofs.Common.{◌≡◌, ℕ, ◌+◌, ◌*◌, eqb, List, ◌++◌, map, sym, ap, subst, ◌∙◌, arith, if◌then◌else◌}
use Rattle.tick_set.specs.TickList.{has}
use Rattle.kept_rows.specs.Rising.{AscendsWithin}
use Rattle.kept_rows.proofs.HeldLemmas.{has-more, place-fits, rising-all, rising-if, rising-more}
use Rattle.kept_rows.proofs.RisingLemmas.{rising-fits}
use Rattle.kept_rows.proofs.held.at_each_place.Goals as goal

pub append-requires : goal.append-requires
append-requires c =
    rw c.rest_at.ensures
    (rising-fits 0 c.args.width (c.places.place * c.args.width) _
    (place-fits c.places.place c.args.variable.now.count c.args.variable.now.capacity c.args.width c.places-test.true c.args.variable.now.room c.requires.size)
    (rising-if (eqb c.places.place c.args.variable.now.own) 0 c.args.width c.args.all.now c.args.held.now c.requires.all c.requires.held))

pub places-preserved : goal.places-preserved
places-preserved c =
    let place : ℕ = c.places.place in
    let w : ℕ = c.args.width in
    let digits : List ℕ = if eqb place c.args.variable.now.own then c.args.all.now else c.args.held.now in
    let is : c.append.new.made.items ≡ c.places.made.items ++ map (λ e. place * w + e) digits =
    c.in_ok-append.ensures ∙ ap (λ xs. c.places.made.items ++ map (λ e. place * w + e) xs) c.rest_at.ensures in
    record {
      rising = subst (λ xs. AscendsWithin 0 ((place + 1) * w) xs) (sym is)
          (rising-more c.places.made.items digits w place c.places.invariant.rising (rising-if (eqb place c.args.variable.now.own) 0 w c.args.all.now c.args.held.now c.requires.all c.requires.held));
      has = λ p d l. ap (λ xs. has xs (p * w + d)) is
          ∙ has-more c.places.made.items w place c.args.variable.now.own c.args.all.now c.args.held.now c.requires.all c.requires.held c.places.invariant.has p d l;
    }

pub returns-clause-rising : goal.returns-clause-rising
returns-clause-rising c =
    rising-all c.places.made.items c.args.width c.places.place c.args.variable.now.capacity (omega (arith, c.places.auto.place-end, c.args.variable.now.room)) c.places.invariant.rising
