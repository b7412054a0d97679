use Rattle.std.proofs.Common.{◌≡◌, ℕ, ◌+◌, ◌*◌, ◌/◌, ◌<◌, ◌≤◌, ◌++◌, Bool, Option, None, List, length, map, ap, subst, sym, ◌∙◌, arith}
use Rattle.std.specs.Prelude.{option_to_list}
use Rattle.kept_rows.specs.declared.change.Change.{Change}
use Rattle.kept_rows.specs.Changes.{rows_after}
use Rattle.kept_rows.specs.Listing.{lines_between, target_has}
use Rattle.kept_rows.specs.Moves.{Moved, move_between, move_of}
use Rattle.kept_rows.specs.Rising.{AscendsWithin}
use Rattle.kept_rows.specs.Rows.{row_has}
use Rattle.kept_rows.proofs.HeldLemmas.{more-place}
use Rattle.kept_rows.proofs.ListingLemmas.{lines-end, lines-more, target-after, target-below, target-end, target-from, target-upto}
use Rattle.kept_rows.proofs.MoveLemmas.{after-below, after-drop, after-none, after-take, head-bounds, rising-drop, rising-take, some-below, times-alike, unmoved}
use Rattle.kept_rows.proofs.NextLemmas.{get-none}
use Rattle.kept_rows.proofs.RisingLemmas.{rising-wider}
use Rattle.kept_rows.proofs.moving.moves.Goals as goal
use Rattle.exact.proofs.Naturals.{times_at_most}

pub count_below-count-requires : goal.count_below-count-requires
count_below-count-requires g c =
    rising-wider (c.targets.target * c.args.targets.width) 0 (c.args.targets.count * c.args.targets.width) 4294967296 _ (omega arith) (omega (arith, c.args.targets.within))
    c.targets.invariant.rising

pub move_at-requires-clause-target : goal.move_at-requires-clause-target
move_at-requires-clause-target g c =
    let width : ℕ = c.args.targets.width in
    let count : ℕ = c.args.targets.count in
    let head = head-bounds (c.targets.target * width) (count * width) c.targets.rest.now c.in-Some.first.now c.targets.invariant.rising (sym c.in-Some.ensures.value) in
    target-below c.in-Some.first.now.number width count c.args.targets.some head.1

pub move_at-requires-clause-group : goal.move_at-requires-clause-group
move_at-requires-clause-group g c =
    let width : ℕ = c.args.targets.width in
    let count : ℕ = c.args.targets.count in
    let first : ℕ = c.in-Some.first.now.number in
    let to : ℕ = first / width * width + width in
    let n : ℕ = c.count_below-count.result in
    let head = head-bounds (c.targets.target * width) (count * width) c.targets.rest.now c.in-Some.first.now c.targets.invariant.rising (sym c.in-Some.ensures.value) in
    let rising : AscendsWithin (first / width * width) (count * width) (map (λ (x : Change g.row.S.Denot). x.number) c.targets.rest.now) =
    rising-wider first (first / width * width) (count * width) (count * width) _ (target-from first width) (omega arith) head.2 in
    subst (λ (xs : List (Change g.row.S.Denot)). AscendsWithin (first / width * width) to (map (λ x. x.number) xs)) (sym c.split_at.ensures.front)
    (rising-take n (first / width * width) (count * width) to c.targets.rest.now rising c.count_below-count.ensures.below)

pub targets-preserved : goal.targets-preserved
targets-preserved g c =
    let rows : ℕ → ℕ → Bool = row_has g.S.TickSet.member c.args.kept.now in
    let all : ℕ → ℕ → Bool = rows_after g.S.TickSet.member c.args.changes.now rows in
    let width : ℕ = c.args.targets.width in
    let count : ℕ = c.args.targets.count in
    let target : ℕ = c.targets.target in
    let rest : List (Change g.row.S.Denot) = c.targets.rest.now in
    let here : List (Change g.row.S.Denot) = c.split_at.result.0.now in
    let first : ℕ = c.in-Some.first.now.number in
    let at : ℕ = first / width in
    let to : ℕ = at * width + width in
    let n : ℕ = c.count_below-count.result in
    let lo : ℕ = c.args.window.lo in
    let hi : ℕ = c.args.window.hi in
    let now : ℕ = c.args.now in
    let line : ℕ → Option Moved = move_of (target_has rows width) (target_has all width) lo hi now in
    let head = head-bounds (target * width) (count * width) rest c.in-Some.first.now c.targets.invariant.rising (sym c.in-Some.ensures.value) in
    let later : target ≤ at = target-after target first width c.args.targets.some head.0 in
    let below : at < count = target-below first width count c.args.targets.some head.1 in
    let up : target * width ≤ at * width = times_at_most target at width later in
    let next : to ≡ (at + 1) * width = more-place at width in
    let none : (k : ℕ) → target ≤ k → k < at → line k ≡ None = λ k h l.
    let start : target * width ≤ k * width = times_at_most target k width h in
    let end : k * width + width ≤ first = target-upto k first width l in
    unmoved (target_has rows width k) (target_has all width k) lo hi now k (λ t.
    times-alike all rows width k t (λ i a b.
    c.targets.invariant.alike i t (omega (arith, start, a))
    ∙ after-below g.S.TickSet.member rest rows first (count * width) i t head.2 (omega (arith, end, b)))) in
    let same : (t : ℕ) → target_has (rows_after g.S.TickSet.member here rows) width at t ≡ target_has all width at t = λ t.
    times-alike (rows_after g.S.TickSet.member here rows) all width at t (λ i a b.
    ap (λ xs. rows_after g.S.TickSet.member xs rows i t) c.split_at.ensures.front
    ∙ sym (after-take g.S.TickSet.member n rest rows (target * width) (count * width) to i t c.targets.invariant.rising c.count_below-count.ensures.past b)
    ∙ sym (c.targets.invariant.alike i t (omega (arith, up, a)))) in
    record {
      few = omega (arith, below);
      rising = subst (λ k. AscendsWithin k (count * width) (map (λ x. x.number) c.split_at.result.1.now)) next
          (subst (λ (xs : List (Change g.row.S.Denot)). AscendsWithin to (count * width) (map (λ x. x.number) xs)) (sym c.split_at.ensures.back)
          (rising-drop n (target * width) (count * width) to rest c.targets.invariant.rising c.count_below-count.ensures.past));
      alike = λ k t h.
          c.targets.invariant.alike k t (omega (arith, up, h, next))
          ∙ after-drop g.S.TickSet.member n rest rows to k t c.count_below-count.ensures.below (omega (arith, h, next))
          ∙ ap (λ xs. rows_after g.S.TickSet.member xs rows k t) (sym c.split_at.ensures.back);
      moves = ap (λ xs. xs ++ lines_between line (at + 1) count) c.in_ok-push_some.ensures
          ∙ lines-more line c.targets.moves.items _ target at count _ later below none
          (c.in_ok-line.ensures ∙ (λ i. option_to_list (move_between (target_has rows width at) (λ t. same t i) lo hi now at))) c.targets.invariant.moves;
    }

pub targets-smaller : goal.targets-smaller
targets-smaller g c =
    let first : ℕ = c.in-Some.first.now.number in
    let width : ℕ = c.args.targets.width in
    let n : ℕ = c.count_below-count.result in
    let some : 1 ≤ n = some-below n (first / width * width + width) c.targets.rest.now c.in-Some.first.now (sym c.in-Some.ensures.value)
    (target-end first width c.args.targets.some) c.count_below-count.ensures.past in
    omega (arith, some, c.count_below-count.ensures.bound, c.split_at.ensures.back_len)

pub returns : goal.returns
returns g c =
    let rows : ℕ → ℕ → Bool = row_has g.S.TickSet.member c.args.kept.now in
    let all : ℕ → ℕ → Bool = rows_after g.S.TickSet.member c.args.changes.now rows in
    let width : ℕ = c.args.targets.width in
    let target : ℕ = c.targets.target in
    let rest : List (Change g.row.S.Denot) = c.targets.rest.now in
    let empty : length rest ≤ 0 = get-none rest 0 (sym c.in_default.ensures.value) in
    lines-end (move_of (target_has rows width) (target_has all width) c.args.window.lo c.args.window.hi c.args.now) c.targets.moves.items target c.args.targets.count _ c.targets.invariant.few
    (λ k h l.
    let start : target * width ≤ k * width = times_at_most target k width h in
    unmoved (target_has rows width k) (target_has all width k) c.args.window.lo c.args.window.hi c.args.now k (λ t.
    times-alike all rows width k t (λ i a b.
    c.targets.invariant.alike i t (omega (arith, start, a)) ∙ after-none g.S.TickSet.member rest rows i t empty)))
    c.targets.invariant.moves
