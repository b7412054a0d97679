-- Classes and regions that are added leave the answers of queries that fit those before.
use Rattle.std.proofs.Common.{◌≡◌, ◌∙◌, ℕ, ◌≤◌, Bool, true, false, not, ◌&&◌, ◌||◌, Option, None, Some, List, [], ◌∷◌, ◌++◌, length, map, refl, sym, ap, append-nil, arith}
use Rattle.std.proofs.lemmas.Bool.{and_parts, false≢true}
use Rattle.std.proofs.lemmas.Bool.Decides.{nat_tests}
use Rattle.std.specs.Prelude.{◌==◌, filter, is_some, nat_le, nat_lt, option_and_then, slice_get, slice_index}
use Rattle.std.specs.List.{enumerate_from, list_all, list_any}
use Rattle.std.specs.Option.{option_map_or}
use Rattle.std.specs.Str.{bytes_eq}
use Rattle.tick_set.specs.Ticks.{AgreeIn, between, within}
use Rattle.geometry.specs.Polygon.{is_inside}
use Rattle.geometry.specs.Region.{Region}
use Rattle.motion.specs.declared.cell.AttrKind.{AttrKind}
use Rattle.fixed_point.specs.declared.number.Point.{Point}
use Rattle.history.specs.Catalog.{Catalog, ObjectInfo, catalog}
use Rattle.history.specs.History.{History, cells_at, history}
use Rattle.history.specs.World.{World, world_of}
use Rattle.history.specs.Write as history_writes
use Rattle.history.proofs.HistoryLemmas.{catalog-append, state-append}
use Rattle.formula_shape.specs.Shape as shapes
use Rattle.formula.specs.declared.tree.RAtom.{RAtom}
use Rattle.formula.specs.declared.tree.RAtom.TheVariants as atoms
use Rattle.formula.specs.declared.value.Env.{Env}
use Rattle.formula.specs.declared.value.ValueKind.{ValueKind}
use Rattle.formula.specs.Tree.{ResolvedQuery, ResolvedTree}
use Rattle.formula.specs.Value.{no_values}
use Rattle.meaning.specs.Agreement.{Agree}
use Rattle.meaning.specs.Answer.{answer, rows_have}
use Rattle.meaning.specs.Atom.{atom_holds, is_in_region, position_in}
use Rattle.meaning.specs.Binding.{are_present, bindings, holds_full, holds_target, product, tuple_of, tuples}
use Rattle.meaning.specs.Fits.{FitsItsClasses, atom_fits, formula_fits, is_point_variable, no_kinds, term_kind, with_kind}
use Rattle.meaning.specs.Satisfaction.{Interpretation, plain, sat}
use Rattle.meaning.specs.Trace.{Trace, trace_of}
use Rattle.meaning.proofs.AnswerLemmas.{rows_have_where}
use Rattle.command_text.specs.Journal.{Accepted, clock}
use Rattle.command_text.specs.Tree
use Rattle.command_text.specs.Tree.{CommandTree}
use Rattle.line_meaning.specs.Journal.{attribute_of, regions, regions_of, world, writes}
use Rattle.line_meaning.proofs.JournalLemmas.{world_more}
use Rattle.feeds_laws.specs.Targets.{target_of, target_text}
use Rattle.exact.proofs.Naturals.{below_from_test}
use Rattle.exact.proofs.Items.{slice_get-append}

-- interpretations that agree give the same truth
abbrev pub GiveTheSameTruth : Type 0
GiveTheSameTruth = (j k : Interpretation) (lo hi : ℕ) (f : ResolvedTree) → Agree j k lo hi f → (e : ℕ) → e ≤ hi → (x : Env) → AgreeIn lo hi (sat j f x e) (sat k f x e)

-- ---- An answer by the objects and by what holds of bindings

abbrev told_by : List ObjectInfo → ((ℕ → ℕ) → ℕ → Bool) → ResolvedQuery → (from e : ℕ) → List ℕ → ℕ → Bool
told_by objects holds q from e target t =
    let ids : ℕ → List ℕ = λ class. map (λ (e : ℕ × ObjectInfo). e.0) (filter (λ (e : ℕ × ObjectInfo). e.1.class == class) (enumerate_from 0 objects)) in
    list_any
    (λ key. bytes_eq (target_text (map (λ id. option_map_or (λ (o : ObjectInfo). o.name) (slice_get objects id) []) key)) target
    && (within from e t && list_any (λ b. bytes_eq (tuple_of q b) key && holds (slice_index b) t) (product (map ids q.classes))))
    (product (map (λ v. ids (slice_index q.classes v)) q.targets))

abbrev pub answer_at : World → ResolvedQuery → (from e : ℕ) → List ℕ → ℕ → Bool
answer_at w q from e target t = rows_have (answer w q from e) (λ key. bytes_eq (target_of w.history.catalog key) target) t

by_objects : (w : World) (q : ResolvedQuery) (from e : ℕ) (target : List ℕ) (t : ℕ) → answer_at w q from e target t ≡ told_by w.history.catalog.objects (holds_full w q e) q from e target t
by_objects w q from e target t = rows_have_where (λ key. bytes_eq (target_of w.history.catalog key) target) (tuples w q) (holds_target w q e) from e t

pub same_answer : (v w : World) (q : ResolvedQuery) (from e : ℕ) → v.history.catalog.objects ≡ w.history.catalog.objects → ((b : ℕ → ℕ) (t : ℕ) → holds_full v q e b t ≡ holds_full w q e b t) →
    (target : List ℕ) (t : ℕ) → answer_at v q from e target t ≡ answer_at w q from e target t
same_answer v w q from e objects holds target t =
    by_objects v q from e target t ∙ (λ i. told_by (objects i) (λ b u. holds b u i) q from e target t) ∙ sym (by_objects w q from e target t)

-- ---- A class more

class_states : (ws : List history_writes.Write) (name : List ℕ) (capacity : ℕ) (point : Bool) (attributes : List history_writes.Attribute) (id t : ℕ) →
    cells_at (history (ws ++ history_writes.Class name capacity point attributes ∷ [])) id t ≡ cells_at (history ws) id t
class_states ws name capacity point attributes id t =
    let objects : (catalog (ws ++ history_writes.Class name capacity point attributes ∷ [])).objects ≡ (catalog ws).objects =
    ap (λ (c : Catalog). c.objects) (catalog-append ws (history_writes.Class name capacity point attributes)) in
    λ i. option_and_then (λ (o : ObjectInfo). state-append ws (history_writes.Class name capacity point attributes) o.name t i) (slice_get (objects i) id)

same_states : (v w : World) → v.regions ≡ w.regions → ((id t : ℕ) → cells_at v.history id t ≡ cells_at w.history id t) → (q : ResolvedQuery) (e : ℕ) (b : ℕ → ℕ) (t : ℕ) → holds_full v q e b t ≡ holds_full w q e b t
same_states v w same states q e b t =
    λ i. list_all (λ u. is_some (states (b u) t i)) (between 0 (length q.classes)) && sat (plain (same i) (λ u s. states (b u) s i)) q.formula no_values e t

-- ---- A region more

module _ (c : Catalog) (classes : List ℕ) (regions more : List Region) where
  same_region : (n v : ℕ) → (is_point_variable c classes v && nat_lt n (length regions)) ≡ true → is_in_region (regions ++ more) n ≡ is_in_region regions n
  same_region n v fits =
      let parts = and_parts (is_point_variable c classes v) (nat_lt n (length regions)) fits in
      let e : slice_get (regions ++ more) n ≡ slice_get regions n = slice_get-append regions more n (below_from_test n (length regions) parts.1) in
      λ i p. option_map_or (λ (region : Region). is_inside region.points p) (e i) false

  same_atom : (scope : ℕ → Option ValueKind) (h : Trace) (a : RAtom) → atom_fits c classes (length regions) scope a ≡ true → (x : Env) (t : ℕ) →
      atom_holds (regions ++ more) h a x t ≡ atom_holds regions h a x t
  same_atom scope h (atoms.Compare q op r) fits x t = refl
  same_atom scope h (atoms.Inside v n) fits x t = λ i. option_map_or (same_region n v fits i) (position_in t (h v t)) false
  same_atom scope h (atoms.Outside v n) fits x t = λ i. option_map_or (λ p. not (same_region n v fits i p)) (position_in t (h v t)) false
  same_atom scope h (atoms.Dist v u op d) fits x t = refl
  same_atom scope h (atoms.Sphere r vs) fits x t = refl

  some_kind : (p : ValueKind → Bool) (o : Option ValueKind) → option_map_or p o false ≡ true → (k : ValueKind) × (p k ≡ true)
  some_kind p None h = absurd (false≢true h)
  some_kind p (Some k) h = (k, h)

  regions_agree : (h : Trace) (lo hi : ℕ) (scope : ℕ → Option ValueKind) (f : ResolvedTree) →
      formula_fits c classes (length regions) scope f ≡ true → Agree (plain (regions ++ more) h) (plain regions h) lo hi f
  regions_agree h lo hi scope (shapes.Truth b) fits = tt
  regions_agree h lo hi scope (shapes.Atom a) fits = λ x t from to. same_atom scope h a fits x t
  regions_agree h lo hi scope (shapes.Not f) fits = regions_agree h lo hi scope f fits
  regions_agree h lo hi scope (shapes.And f g) fits =
      let parts = and_parts (formula_fits c classes (length regions) scope f) (formula_fits c classes (length regions) scope g) fits in
      (regions_agree h lo hi scope f parts.0, regions_agree h lo hi scope g parts.1)
  regions_agree h lo hi scope (shapes.Or f g) fits =
      let parts = and_parts (formula_fits c classes (length regions) scope f) (formula_fits c classes (length regions) scope g) fits in
      (regions_agree h lo hi scope f parts.0, regions_agree h lo hi scope g parts.1)
  regions_agree h lo hi scope (shapes.Next f) fits = regions_agree h lo hi scope f fits
  regions_agree h lo hi scope (shapes.Eventually f) fits = regions_agree h lo hi scope f fits
  regions_agree h lo hi scope (shapes.Always f) fits = regions_agree h lo hi scope f fits
  regions_agree h lo hi scope (shapes.Bounded form ticks f) fits = regions_agree h lo hi scope f fits
  regions_agree h lo hi scope (shapes.Until form ticks f g) fits =
      let parts = and_parts (formula_fits c classes (length regions) scope f) (formula_fits c classes (length regions) scope g) fits in
      (regions_agree h lo hi scope f parts.0, regions_agree h lo hi scope g parts.1)
  regions_agree h lo hi scope (shapes.Assign (d, q) f) fits =
      let known = some_kind (λ k. formula_fits c classes (length regions) (with_kind scope d k) f) (term_kind c classes scope q) fits in
      (λ x t from to. refl, regions_agree h lo hi (with_kind scope d known.0) f known.1)

-- at a tick that counts; past the last one the formula is asked at none
region_holds : GiveTheSameTruth → (h : History) (rs more : List Region) (q : ResolvedQuery) → formula_fits h.catalog q.classes (length rs) no_kinds q.formula ≡ true → (e : ℕ) (b : ℕ → ℕ) (t : ℕ) → t ≤ e →
    holds_full (record { history = h; regions = rs ++ more }) q e b t ≡ holds_full (record { history = h; regions = rs }) q e b t
region_holds same h rs more q fits e b t upto =
    ap (λ holds. are_present (record { history = h; regions = rs }) q b t && holds)
    (same (plain (rs ++ more) (trace_of h b)) (plain rs (trace_of h b)) t e q.formula (regions_agree h.catalog q.classes rs more (trace_of h b) t e no_kinds q.formula fits) e (omega arith) no_values t (omega arith) upto)

-- ---- Commands that write no object

pub never : (text some : List ℕ → Bool) (here : Bool) → here ≡ false → (keys : List (List ℕ)) → list_any (λ key. text key && (here && some key)) keys ≡ false
never text some here none [] = refl
never text some here none (key ∷ keys) =
    ap (λ b. (text key && (b && some key)) || list_any (λ key. text key && (here && some key)) keys) none
    ∙ nothing (text key) (list_any (λ key. text key && (here && some key)) keys)
    ∙ never text some here none keys
  where
    nothing : (b later : Bool) → (b && false || later) ≡ later
    nothing true later = refl
    nothing false later = refl

region_answer : GiveTheSameTruth → (h : History) (rs more : List Region) (q : ResolvedQuery) → formula_fits h.catalog q.classes (length rs) no_kinds q.formula ≡ true → (from e : ℕ) (target : List ℕ) (t : ℕ) →
    answer_at (record { history = h; regions = rs ++ more }) q from e target t ≡ answer_at (record { history = h; regions = rs }) q from e target t
region_answer same h rs more q fits from e target t =
    by_objects (record { history = h; regions = rs ++ more }) q from e target t
    ∙ by (within from e t) refl
    ∙ sym (by_objects (record { history = h; regions = rs }) q from e target t)
  where
    upto : within from e t ≡ true → t ≤ e
    upto inside = let parts = and_parts (nat_le from t) (nat_le t e) inside in grind (arith, nat_tests, parts.1)

    by : (b : Bool) → within from e t ≡ b →
        told_by h.catalog.objects (holds_full (record { history = h; regions = rs ++ more }) q e) q from e target t
        ≡ told_by h.catalog.objects (holds_full (record { history = h; regions = rs }) q e) q from e target t
    by true inside =
        λ i. list_any (λ key. bytes_eq (target_of h.catalog key) target && (within from e t && list_any (λ b. bytes_eq (tuple_of q b) key && region_holds same h rs more q fits e (slice_index b) t (upto inside) i) (bindings (record { history = h; regions = rs }) q)))
        (tuples (record { history = h; regions = rs }) q)
    by false outside =
        let w : World = record { history = h; regions = rs } in
        let v : World = record { history = h; regions = rs ++ more } in
        never (λ key. bytes_eq (target_of h.catalog key) target) (λ key. list_any (λ b. bytes_eq (tuple_of q b) key && holds_full v q e (slice_index b) t) (bindings w q)) (within from e t) outside (tuples w q)
        ∙ sym (never (λ key. bytes_eq (target_of h.catalog key) target) (λ key. list_any (λ b. bytes_eq (tuple_of q b) key && holds_full w q e (slice_index b) t) (bindings w q)) (within from e t) outside (tuples w q))

-- a class or a region more leaves the answer
pub class_leaves : (journal : List Accepted) (name : List ℕ) (capacity : ℕ) (point : Bool) (attributes : List (List ℕ × AttrKind)) (q : ResolvedQuery) (from e : ℕ) (target : List ℕ) (t : ℕ) →
    answer_at (world (journal ++ (clock journal, Tree.Class name capacity point attributes) ∷ [])) q from e target t ≡ answer_at (world journal) q from e target t
class_leaves journal name capacity point attributes q from e target t =
    let ws = writes journal in
    let x = history_writes.Class name capacity point (map attribute_of attributes) in
    let more : World = world_of (ws ++ x ∷ []) (regions journal ++ []) in
    ap (λ (w : World). answer_at w q from e target t) (world_more journal (clock journal) (Tree.Class name capacity point attributes))
    ∙ same_answer more (world journal) q from e (ap (λ (c : Catalog). c.objects) (catalog-append ws x))
    (same_states more (world journal) (append-nil (regions journal)) (class_states ws name capacity point (map attribute_of attributes)) q e) target t

pub region_leaves : GiveTheSameTruth → (journal : List Accepted) (name : List ℕ) (points : List Point) (q : ResolvedQuery) → FitsItsClasses (world journal) q → (from e : ℕ) (target : List ℕ) (t : ℕ) →
    answer_at (world (journal ++ (clock journal, Tree.Region name points) ∷ [])) q from e target t ≡ answer_at (world journal) q from e target t
region_leaves same journal name points q fits from e target t =
    ap (λ (w : World). answer_at w q from e target t) (world_more journal (clock journal) (Tree.Region name points))
    ∙ ap (λ ws. answer_at (world_of ws (regions journal ++ regions_of (Tree.Region name points))) q from e target t) (append-nil (writes journal))
    ∙ region_answer same (history (writes journal)) (regions journal) (regions_of (Tree.Region name points)) q fits.formula from e target t
