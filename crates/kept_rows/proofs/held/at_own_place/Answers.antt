use Rattle.std.proofs.Common.{◌≡◌, ℕ, ◌+◌, ◌*◌, ◌++◌, map, sym, ap, subst, ◌∙◌}
use Rattle.tick_set.specs.TickList.{has}
use Rattle.kept_rows.specs.Rising.{AscendsWithin}
use Rattle.kept_rows.proofs.HeldLemmas.{has-shift, own-test, place-fits, rising-own}
use Rattle.kept_rows.proofs.RisingLemmas.{rising-fits}
use Rattle.kept_rows.proofs.held.at_own_place.Goals as goal

pub append-requires : goal.append-requires
append-requires c =
    rising-fits 0 c.args.width (c.args.variable.now.own * c.args.width) c.args.all.now
    (place-fits c.args.variable.now.own c.args.variable.now.count c.args.variable.now.capacity c.args.width c.if-variable.false c.args.variable.now.room c.requires.size)
    c.requires.all

pub returns-clause-rising : goal.returns-clause-rising
returns-clause-rising c =
    let own : ℕ = c.args.variable.now.own in
    let w : ℕ = c.args.width in
    let is : c.append.new.made.items ≡ map (λ e. own * w + e) c.args.all.now =
    c.in_ok-append.ensures ∙ ap (λ xs. xs ++ map (λ e. own * w + e) c.args.all.now) c.new-made.ensures.items in
    subst (λ xs. AscendsWithin 0 (c.args.variable.now.capacity * w) xs) (sym is)
    (rising-own c.args.all.now w own c.args.variable.now.count c.args.variable.now.capacity c.if-variable.false c.args.variable.now.room c.requires.all)

pub returns-clause-has : goal.returns-clause-has
returns-clause-has c = λ p d l.
    let own : ℕ = c.args.variable.now.own in
    let w : ℕ = c.args.width in
    let is : c.append.new.made.items ≡ map (λ e. own * w + e) c.args.all.now =
    c.in_ok-append.ensures ∙ ap (λ xs. xs ++ map (λ e. own * w + e) c.args.all.now) c.new-made.ensures.items in
    ap (λ xs. has xs (p * w + d)) is
    ∙ has-shift own w p d 0 c.args.all.now c.requires.all l
    ∙ own-test p own c.args.variable.now.count (has c.args.all.now d) c.if-variable.false
