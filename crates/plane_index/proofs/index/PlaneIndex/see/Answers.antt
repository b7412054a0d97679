use Rattle.std.proofs.Common.{ℕ, List, length, refl, sym, ap, subst, ◌∙◌, arith}
use Rattle.plane.specs.Boxes.{Grid}
use Rattle.plane_index.specs.Index.{Index, fresh_at, index_of, is_fresh, strips_of_place, AreAscendingIds}
use Rattle.plane_index.proofs.SeeLemmas.{fields_kept, fresh_kept, on_err, seen_all, seen_fewer, strips_stay, unchanged, AreLengthened}
use Rattle.plane_index.proofs.index.PlaneIndex.see.Goals as goal

pub returns-in_err-lengthen-clause-err : goal.returns-in_err-lengthen-clause-err
returns-in_err-lengthen-clause-err c =
    let was = c.self.inside in
    let new = c.lengthen.new.self in
    let long : AreLengthened was.states.states new.states = record { more = c.lengthen.ensures.more; kept = c.lengthen.ensures.kept } in
    on_err c.from_residual.result _
    (ap (λ (grid : Grid). index_of grid was.ids.items was.fresh.items new.states) c.lengthen.ensures.grid
    ∙ unchanged was.states.grid was.ids.items was.ids.items was.fresh.items was.fresh.items was.states.states new.states c.args.self.now c.self.invariant long refl (λ k. refl) c.self.view_is)

pub returns-in_err-widen-clause-err : goal.returns-in_err-widen-clause-err
returns-in_err-widen-clause-err c =
    let was = c.self.inside in
    let new = c.lengthen.new.self in
    let long : AreLengthened was.states.states new.states = record { more = c.lengthen.ensures.more; kept = c.lengthen.ensures.kept } in
    on_err c.from_residual-in_err-widen.result _
    (ap (λ (grid : Grid). index_of grid was.ids.items c.widen.new.fresh.items new.states) c.lengthen.ensures.grid
    ∙ unchanged was.states.grid was.ids.items was.ids.items was.fresh.items c.widen.new.fresh.items was.states.states new.states c.args.self.now c.self.invariant long refl
    (λ k. ap (λ fresh. fresh_at fresh k) c.in_err-widen.ensures.err) c.self.view_is)

pub invariant_of-self-in_err-extend_from_slice : goal.invariant_of-self-in_err-extend_from_slice
invariant_of-self-in_err-extend_from_slice c =
    let was = c.self.inside in
    let new = c.lengthen.new.self in
    let long : AreLengthened was.states.states new.states = record { more = c.lengthen.ensures.more; kept = c.lengthen.ensures.kept } in
    let seen = c.self.invariant.seen in
    let same = c.in_err-extend_from_slice.ensures.items in
    let size = ap (λ (xs : List ℕ). length xs) same in
    let wide = c.in_ok-widen.ensures.room in
    fields_kept was.ids.items c.extend_from_slice.new.self.items was.fresh.items c.widen.new.fresh.items was.states.states new.states (length c.args.all.now) c.self.invariant long
    c.in_ok-lengthen.ensures.room (subst AreAscendingIds (sym same) c.self.invariant.ascending) (omega (arith, size)) (omega (arith, size, wide, seen)) wide c.in_ok-widen.ensures.kept

pub returns-in_err-extend_from_slice-clause-err : goal.returns-in_err-extend_from_slice-clause-err
returns-in_err-extend_from_slice-clause-err c =
    let was = c.self.inside in
    let new = c.lengthen.new.self in
    let long : AreLengthened was.states.states new.states = record { more = c.lengthen.ensures.more; kept = c.lengthen.ensures.kept } in
    on_err c.from_residual-in_err-extend_from_slice.result _
    (ap (λ (grid : Grid). index_of grid c.extend_from_slice.new.self.items c.widen.new.fresh.items new.states) c.lengthen.ensures.grid
    ∙ unchanged was.states.grid was.ids.items c.extend_from_slice.new.self.items was.fresh.items c.widen.new.fresh.items was.states.states new.states c.args.self.now c.self.invariant long
    c.in_err-extend_from_slice.ensures.items c.in_ok-widen.ensures.kept c.self.view_is)

pub invariant_of-self-2 : goal.invariant_of-self-2
invariant_of-self-2 c =
    let was = c.self.inside in
    let new = c.lengthen.new.self in
    let long : AreLengthened was.states.states new.states = record { more = c.lengthen.ensures.more; kept = c.lengthen.ensures.kept } in
    let ids = ap (λ (index : Index). index.ids) c.self.view_is in
    let fewer = seen_fewer c.args.self.now was.ids.items c.args.all.now ids c.requires.first in
    let counted = c.len.ensures in
    let full = was.ids.ok in
    let same = seen_all c.args.self.now was.ids.items c.args.all.now c.extend_from_slice.new.self.items c.len.result ids c.requires.first (omega (arith, counted, full))
    c.in_ok-extend_from_slice.ensures.items in
    let size = ap (λ (xs : List ℕ). length xs) same in
    let wide = c.in_ok-widen.ensures.room in
    fields_kept was.ids.items c.extend_from_slice.new.self.items was.fresh.items c.widen.new.fresh.items was.states.states new.states (length c.args.all.now) c.self.invariant long
    c.in_ok-lengthen.ensures.room (subst AreAscendingIds (sym same) c.requires.ascending) (omega (arith, size, fewer)) (omega (arith, size, wide)) wide c.in_ok-widen.ensures.kept

pub returns-clause-fresh : goal.returns-clause-fresh
returns-clause-fresh c =
    let was = c.self.inside in
    let new = c.lengthen.new.self in
    let long : AreLengthened was.states.states new.states = record { more = c.lengthen.ensures.more; kept = c.lengthen.ensures.kept } in
    let ids = ap (λ (index : Index). index.ids) c.self.view_is in
    let fewer = seen_fewer c.args.self.now was.ids.items c.args.all.now ids c.requires.first in
    let counted = c.len.ensures in
    let full = was.ids.ok in
    let same = seen_all c.args.self.now was.ids.items c.args.all.now c.extend_from_slice.new.self.items c.len.result ids c.requires.first (omega (arith, counted, full))
    c.in_ok-extend_from_slice.ensures.items in
    let size = ap (λ (xs : List ℕ). length xs) same in
    λ k.
    ap (λ (grid : Grid). is_fresh (index_of grid c.extend_from_slice.new.self.items c.widen.new.fresh.items new.states) k) c.lengthen.ensures.grid
    ∙ fresh_kept was.states.grid was.ids.items c.extend_from_slice.new.self.items was.fresh.items c.widen.new.fresh.items was.states.states new.states c.args.self.now c.self.invariant
    (omega (arith, size, fewer)) c.in_ok-widen.ensures.kept c.self.view_is k

pub returns-clause-strips : goal.returns-clause-strips
returns-clause-strips c =
    let was = c.self.inside in
    let new = c.lengthen.new.self in
    let long : AreLengthened was.states.states new.states = record { more = c.lengthen.ensures.more; kept = c.lengthen.ensures.kept } in
    let ids = ap (λ (index : Index). index.ids) c.self.view_is in
    let fewer = seen_fewer c.args.self.now was.ids.items c.args.all.now ids c.requires.first in
    let counted = c.len.ensures in
    let full = was.ids.ok in
    let same = seen_all c.args.self.now was.ids.items c.args.all.now c.extend_from_slice.new.self.items c.len.result ids c.requires.first (omega (arith, counted, full))
    c.in_ok-extend_from_slice.ensures.items in
    let size = ap (λ (xs : List ℕ). length xs) same in
    λ k slice is under.
    ap (λ (grid : Grid). strips_of_place (index_of grid c.extend_from_slice.new.self.items c.widen.new.fresh.items new.states) k slice) c.lengthen.ensures.grid
    ∙ strips_stay was.states.grid was.ids.items c.extend_from_slice.new.self.items was.fresh.items c.widen.new.fresh.items was.states.states new.states c.args.self.now c.self.invariant long
    (omega (arith, size, fewer)) c.in_ok-widen.ensures.kept c.self.view_is k slice is under
