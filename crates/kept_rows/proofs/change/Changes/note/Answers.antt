use Rattle.std.proofs.Common.{◌≡◌, ℕ, ◌+◌, Bool, true, false, ap, refl, sym, ◌∙◌, subst, arith, if◌then◌else◌}
use Rattle.std.specs.Prelude.{IfNone, IfSome, Option, nat_le}
use Rattle.std.proofs.lemmas.List.Elements.{All-push}
use Rattle.kept_rows.specs.declared.change.Change.{Change}
use Rattle.kept_rows.specs.Rows.{row_has}
use Rattle.kept_rows.specs.Changes.{IsOtherFrom, IsSameFrom}
use Rattle.kept_rows.proofs.ChangeLemmas.{after-push, row-added, row-noted}
use Rattle.kept_rows.proofs.RisingLemmas.{rising-below, rising-noted, rising-wider}
use Rattle.kept_rows.proofs.change.Changes.note.Goals as goal

pub returns-in_ok-push-in-Some-clause-rising : goal.returns-in_ok-push-in-Some-clause-rising
returns-in_ok-push-in-Some-clause-rising g c =
    rw (c.in_ok-push-in-Some.ensures.items, c.self.view_is) (rising-noted 0 c.args.self.now _ (omega arith) c.requires.rising)

pub returns-in_ok-push-in-Some-clause-differ : goal.returns-in_ok-push-in-Some-clause-differ
returns-in_ok-push-in-Some-clause-differ g c =
    let is : IsOtherFrom g.S.TickSet.member c.args.from c.row.result.now c.args.ticks.now c.in-Some.ticks =
    subst (λ (o : Option g.row.S.Denot). IfSome o (IsOtherFrom g.S.TickSet.member c.args.from c.row.result.now c.args.ticks.now)) c.in-Some.is c.in_ok-ticks.ensures.some in
    rw (c.in_ok-push-in-Some.ensures.items, c.self.view_is)
    (All-push (λ (x : Change g.row.S.Denot). ¬ ((t : ℕ) → g.S.TickSet.member x.ticks t ≡ row_has g.S.TickSet.member c.args.kept.now x.number t)) _ _ c.requires.differ
    (λ same. is.differs (λ t. same t ∙ sym (c.row.ensures t))))

pub returns-in_ok-push-in-Some-clause-rows : goal.returns-in_ok-push-in-Some-clause-rows
returns-in_ok-push-in-Some-clause-rows g c = λ n t.
    let is : IsOtherFrom g.S.TickSet.member c.args.from c.row.result.now c.args.ticks.now c.in-Some.ticks =
    subst (λ (o : Option g.row.S.Denot). IfSome o (IsOtherFrom g.S.TickSet.member c.args.from c.row.result.now c.args.ticks.now)) c.in-Some.is c.in_ok-ticks.ensures.some in
    rw (c.in_ok-push-in-Some.ensures.items, c.self.view_is)
    (after-push g.S.TickSet.member c.args.self.now _ (row_has g.S.TickSet.member c.args.kept.now) n t
    ∙ row-added g.S.TickSet.member c.args.self.now (row_has g.S.TickSet.member c.args.kept.now) c.args.number c.args.from
    (g.S.TickSet.member c.args.ticks.now) (g.S.TickSet.member c.in-Some.ticks) (rising-below 0 c.args.number c.args.self.now c.requires.rising)
    (λ u. is.ticks u ∙ ap (λ b. if nat_le c.args.from u then g.S.TickSet.member c.args.ticks.now u else b) (c.row.ensures u)) n t)

pub returns-in-None-clause-rising : goal.returns-in-None-clause-rising
returns-in-None-clause-rising g c = rising-wider 0 0 c.args.number (c.args.number + 1) _ (omega arith) (omega arith) c.requires.rising

pub returns-in-None-clause-rows : goal.returns-in-None-clause-rows
returns-in-None-clause-rows g c =
    let same : IsSameFrom g.S.TickSet.member c.args.from c.row.result.now c.args.ticks.now =
    subst (λ (o : Option g.row.S.Denot). IfNone o (IsSameFrom g.S.TickSet.member c.args.from c.row.result.now c.args.ticks.now)) c.in-None.is c.in_ok-ticks.ensures.none in
    row-noted g.S.TickSet.member c.args.self.now (row_has g.S.TickSet.member c.args.kept.now) c.args.number c.args.from (g.S.TickSet.member c.args.ticks.now)
    (rising-below 0 c.args.number c.args.self.now c.requires.rising)
    (λ t. ap (λ b. if nat_le c.args.from t then g.S.TickSet.member c.args.ticks.now t else b) (sym (c.row.ensures t)) ∙ same t ∙ c.row.ensures t)

both_none : (b x y : Bool) → x ≡ false → y ≡ false → (if b then x else y) ≡ y
both_none true x y first second = first ∙ sym second
both_none false x y first second = refl

pub returns-then-are_none-clause-rising : goal.returns-then-are_none-clause-rising
returns-then-are_none-clause-rising g c = rising-wider 0 0 c.args.number (c.args.number + 1) _ (omega arith) (omega arith) c.requires.rising

pub returns-then-are_none-clause-rows : goal.returns-then-are_none-clause-rows
returns-then-are_none-clause-rows g c =
    row-noted g.S.TickSet.member c.args.self.now (row_has g.S.TickSet.member c.args.kept.now) c.args.number c.args.from (g.S.TickSet.member c.args.ticks.now)
    (rising-below 0 c.args.number c.args.self.now c.requires.rising)
    (λ t. both_none (nat_le c.args.from t) (g.S.TickSet.member c.args.ticks.now t) (row_has g.S.TickSet.member c.args.kept.now c.args.number t)
    (c.are_none.ensures.ticks c.if-are_none.true t) (c.are_none.ensures.row c.if-are_none.true t))
