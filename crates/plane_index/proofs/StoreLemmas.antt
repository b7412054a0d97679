-- What a store tells of an object is what its timeline tells, and what that tells of a slice its last epoch tells.
use Rattle.std.proofs.Common.{◌≡◌, ℕ, ℤ, false, ◌+◌, ◌-◌, ◌≤◌, max, Option, None, Some, List, [], ◌∷◌, length, refl, sym, ap, ◌∙◌, arith}
use Rattle.std.specs.Prelude.{All, option_and_then, slice_get, unwrap_or}
use Rattle.std.specs.List.{filter_map}
use Rattle.std.specs.Option.{option_map, option_map_or}
use Rattle.std.proofs.lemmas.List.Elements.{All-cons, All-nil}
use Rattle.tick_set.specs.Ticks.{between}
use Rattle.motion.specs.Timeline.{Epoch, cells_of, epoch_at, state_at, AreBegunBy, IsRisingFrom, last_begun}
use Rattle.motion.specs.Dynamic.{Dynamic, value_at}
use Rattle.motion.specs.declared.cell.Cell.{Cell}
use Rattle.motion.specs.declared.cell.Cell.TheVariants as cells
use Rattle.motion.proofs.CallerLemmas.{AreBegunBy-later}
use Rattle.plane.specs.Rows.{is_between}
use Rattle.history.specs.History.{cells_at}
use Rattle.object_store.specs.Contents.{Contents, StoredObject, history_of}
use Rattle.meaning.specs.Value.{cell_in}
use Rattle.plane.specs.Boxes.{Grid, box_of, slice_first, slice_last, strips_in, strips_of}
use Rattle.plane_index.specs.Lines.{number_of_cell}
use Rattle.plane_index.specs.States.{no_state, strips_by_state}
use Rattle.plane_index.specs.declared.state.State.{State}
use Rattle.plane_index.specs.Told.{lies_between, lies_in, number_in_cells, recorded_by, strips_along, strips_by}
use Rattle.plane_index.proofs.ValueLemmas.{no_box, same_numbers}

-- ---- the object of a store

begun_of : (found : Option StoredObject) (epochs : List Epoch) → option_map (λ (o : StoredObject). o.epochs) found ≡ Some epochs →
    option_map_or (λ (o : StoredObject). last_begun o.epochs) found 0 ≡ last_begun epochs
begun_of None epochs is = absurd (grind arith)
begun_of (Some o) epochs is = let same : o.epochs ≡ epochs = grind arith in ap last_begun same

pub told_along : (s : Contents) (g : Grid) (id slice : ℕ) (epochs : List Epoch) → option_map (λ (o : StoredObject). o.epochs) (slice_get s.objects id) ≡ Some epochs →
    ((t : ℕ) → cells_at (history_of s) id t ≡ state_at epochs t) → strips_in (recorded_by s) g id slice ≡ strips_along epochs g slice
told_along s g id slice epochs is states =
    λ i. option_map (strips_of g.width)
    (box_of (filter_map (λ t. number_in_cells (states t i) g.attribute t) (between (max (slice_first g slice) (begun_of (slice_get s.objects id) epochs is i)) (slice_last g slice + 1))))

-- ---- the last epoch

last_of : (low : ℕ) (p q : Epoch) (epochs : List Epoch) → IsRisingFrom low (q ∷ epochs) → slice_get (q ∷ epochs) (length epochs) ≡ Some p →
    (q.from ≤ p.from) × All (λ e. e.from ≤ p.from) (q ∷ epochs)
last_of low p q [] rising is =
    let same : q ≡ p = grind arith in
    let e : q.from ≡ p.from = ap (λ (x : Epoch). x.from) same in
    (omega (arith, e), All-cons (λ (x : Epoch). x.from ≤ p.from) q [] (omega (arith, e)) (All-nil (λ (x : Epoch). x.from ≤ p.from)))
last_of low p q (r ∷ epochs) rising is =
    let later = last_of (q.from + 1) p r epochs rising.1 is in
    let first : q.from ≤ p.from = (let h = rising.1.0 in omega (arith, h, later.0)) in
    (first, All-cons (λ (x : Epoch). x.from ≤ p.from) q (r ∷ epochs) first later.1)

begun_by_last : (low : ℕ) (p : Epoch) (epochs : List Epoch) → IsRisingFrom low epochs → slice_get epochs (length epochs - 1) ≡ Some p → AreBegunBy epochs p.from
begun_by_last low p [] rising is = absurd (grind arith)
begun_by_last low p (q ∷ epochs) rising is =
    let e : length (q ∷ epochs) - 1 ≡ length epochs = omega arith in
    (last_of low p q epochs rising (ap (slice_get (q ∷ epochs)) (sym e) ∙ is)).1

of_last : (epochs : List Epoch) (p : Epoch) → slice_get epochs (length epochs - 1) ≡ Some p → last_begun epochs ≡ p.from
of_last epochs p is = ap (λ (e : Option Epoch). option_map_or (λ (x : Epoch). x.from) e 0) is

pub by_last : (epochs : List Epoch) (p : Epoch) (g : Grid) (s : ℕ) → IsRisingFrom 0 epochs → slice_get epochs (length epochs - 1) ≡ Some p →
    ((t : ℕ) → AreBegunBy epochs t → Some p ≡ epoch_at epochs t) → strips_along epochs g s ≡ strips_by p g s
by_last epochs p g s rising is in_force =
    let begun = begun_by_last 0 p epochs rising is in
    (λ i. option_map (strips_of g.width) (box_of (filter_map (λ t. number_in_cells (state_at epochs t) g.attribute t) (between (max (slice_first g s) (of_last epochs p is i)) (slice_last g s + 1)))))
    ∙ ap (λ zs. option_map (strips_of g.width) (box_of zs))
    (same_numbers (λ t. number_in_cells (state_at epochs t) g.attribute t) (number_in_cells p.cells g.attribute) (max (slice_first g s) p.from) (slice_last g s + 1)
    (λ t after before. ap (λ (e : Option Epoch). number_in_cells (option_and_then (λ (x : Epoch). x.cells) e) g.attribute t)
    (sym (in_force t (AreBegunBy-later epochs p.from t (omega arith) begun)))))

same_cell : (there : Option (List Cell)) (a : ℕ) → slice_get (unwrap_or there []) a ≡ cell_in there a
same_cell None a = refl
same_cell (Some there) a = refl

-- a state has of its last epoch what an index asks
pub by_state : (p : Epoch) (state : State) (g : Grid) (s : ℕ) → state.from ≡ p.from → state.cell ≡ slice_get (cells_of p) g.attribute →
    strips_by_state state g s ≡ strips_by p g s
by_state p state g s begins holds = λ i.
    option_map (strips_of g.width)
    (box_of (filter_map (number_of_cell ((holds ∙ same_cell p.cells g.attribute) i)) (between (max (slice_first g s) (begins i)) (slice_last g s + 1))))

pub no_state_tells : (g : Grid) (s : ℕ) → strips_by_state no_state g s ≡ None
no_state_tells g s =
    ap (option_map (strips_of g.width)) (no_box (number_of_cell None) (max (slice_first g s) 0) (slice_last g s + 1) (λ t after before. refl))

pub never_written : (epochs : List Epoch) (g : Grid) (s : ℕ) → epochs ≡ [] → strips_along epochs g s ≡ None
never_written epochs g s none =
    ap (λ e. strips_along e g s) none
    ∙ ap (option_map (strips_of g.width)) (no_box (λ t. number_in_cells (state_at [] t) g.attribute t) (max (slice_first g s) 0) (slice_last g s + 1) (λ t after before. refl))

some_last : (p : Epoch) (epochs : List Epoch) → slice_get (p ∷ epochs) (length epochs) ≡ None → Unit {0} → ⊥
some_last p [] none u = absurd (grind arith)
some_last p (q ∷ epochs) none u = some_last q epochs none u

pub no_last : (epochs : List Epoch) (g : Grid) (s : ℕ) → slice_get epochs (length epochs - 1) ≡ None → strips_along epochs g s ≡ None
no_last [] g s none = never_written [] g s refl
no_last (p ∷ epochs) g s none =
    let e : length (p ∷ epochs) - 1 ≡ length epochs = omega arith in
    absurd (some_last p epochs (ap (slice_get (p ∷ epochs)) (sym e) ∙ none) tt)

-- ---- a straight timeline

pub lies_on_line : (epochs : List Epoch) (p : Epoch) (vector : Dynamic) (attribute t : ℕ) (lo hi value : ℤ) → epoch_at epochs t ≡ Some p →
    slice_get (cells_of p) attribute ≡ Some (cells.Dyn vector) → value_at vector t ≡ value → is_between lo hi value ≡ lies_between epochs attribute lo hi t
lies_on_line epochs p vector attribute t lo hi value in_force has is =
    sym
    (ap (λ (e : Option Epoch). lies_in e attribute lo hi t) in_force
    ∙ ap (λ (cell : Option Cell). option_map_or (is_between lo hi) (number_of_cell cell t) false) (sym (same_cell p.cells attribute) ∙ has)
    ∙ ap (is_between lo hi) is)
