-- A query that fits the regions sees nothing of those that are added.
use Rattle.std.proofs.Common.{◌≡◌, ℕ, ◌≤◌, Bool, true, false, not, ◌&&◌, Option, None, Some, List, [], ◌∷◌, ◌++◌, length, map, refl, sym, ap, ◌∙◌, inl, inr, arith}
use Rattle.std.specs.Prelude.{◌==◌, is_some, nat_lt, slice_get, slice_index}
use Rattle.std.specs.List.{enumerate_from, filter, list_all}
use Rattle.std.specs.Option.{option_map_or}
use Rattle.std.proofs.lemmas.Bool.{and_parts, cases_Bool, false≢true}
use Rattle.tick_set.specs.Ticks.{AgreeIn, between, within}
use Rattle.tick_set.proofs.Between.{within_parts}
use Rattle.geometry.specs.Polygon.{is_inside}
use Rattle.geometry.specs.Region.{Region}
use Rattle.history.specs.Catalog.{Catalog, ObjectInfo}
use Rattle.history.specs.World.{World}
use Rattle.formula_shape.specs.Shape as shapes
use Rattle.formula.specs.declared.tree.RAtom.{RAtom}
use Rattle.formula.specs.declared.tree.RAtom.TheVariants as atoms
use Rattle.formula.specs.declared.kind.QueryKind.{QueryKind}
use Rattle.formula.specs.declared.kind.QueryKind.TheVariants as kinds
use Rattle.formula.specs.declared.value.Env.{Env}
use Rattle.formula.specs.declared.value.ValueKind.{ValueKind}
use Rattle.formula.specs.Tree.{ResolvedTree}
use Rattle.formula.specs.Value.{no_values}
use Rattle.meaning.specs.Agreement.{Agree}
use Rattle.meaning.specs.Atom.{atom_holds, is_in_region, position_in}
use Rattle.meaning.specs.Binding.{are_present, holds_full}
use Rattle.meaning.specs.Fits.{FitsItsClasses, atom_fits, formula_fits, is_point_variable, no_kinds, term_kind, with_kind}
use Rattle.meaning.specs.Registered.{first_tick}
use Rattle.meaning.specs.Satisfaction.{Interpretation, plain, sat}
use Rattle.meaning.specs.Trace.{Trace, trace_of}
use Rattle.kept_rows.specs.Numbers.{counts}
use Rattle.live_queries.specs.Columns.{Column, HaveObjectsOf, column_variables, object_at_number}
use Rattle.live_queries.specs.Current.{IsCurrentFor, full_at}
use Rattle.live_queries.specs.Kept.{KeptQuery}
use Rattle.live_queries.specs.Renewed.{ChangesNoObject}
use Rattle.exact.proofs.Naturals.{below_from_test}
use Rattle.exact.proofs.Items.{slice_get-append}

module _ (c : Catalog) (classes : List ℕ) (regions more : List Region) where
  same_region : (n : ℕ) → (v : ℕ) → (is_point_variable c classes v && nat_lt n (length regions)) ≡ true →
      is_in_region (regions ++ more) n ≡ is_in_region regions n
  same_region n v fits =
      let parts = and_parts (is_point_variable c classes v) (nat_lt n (length regions)) fits in
      let e : slice_get (regions ++ more) n ≡ slice_get regions n = slice_get-append regions more n (below_from_test n (length regions) parts.1) in
      λ i p. option_map_or (λ (region : Region). is_inside region.points p) (e i) false

  same_atom : (scope : ℕ → Option ValueKind) (h : Trace) (a : RAtom) → atom_fits c classes (length regions) scope a ≡ true → (x : Env) (t : ℕ) →
      atom_holds (regions ++ more) h a x t ≡ atom_holds regions h a x t
  same_atom scope h (atoms.Compare q op r) fits x t = refl
  same_atom scope h (atoms.Inside v n) fits x t = λ i. option_map_or (same_region n v fits i) (position_in t (h v t)) false
  same_atom scope h (atoms.Outside v n) fits x t = λ i. option_map_or (λ p. not (same_region n v fits i p)) (position_in t (h v t)) false
  same_atom scope h (atoms.Dist v u op d) fits x t = refl
  same_atom scope h (atoms.Sphere r vs) fits x t = refl

  some_kind : (p : ValueKind → Bool) (o : Option ValueKind) → option_map_or p o false ≡ true → (k : ValueKind) × (p k ≡ true)
  some_kind p None h = absurd (false≢true h)
  some_kind p (Some k) h = (k, h)

  regions_agree : (h : Trace) (lo hi : ℕ) (scope : ℕ → Option ValueKind) (f : ResolvedTree) →
      formula_fits c classes (length regions) scope f ≡ true → Agree (plain (regions ++ more) h) (plain regions h) lo hi f
  regions_agree h lo hi scope (shapes.Truth b) fits = tt
  regions_agree h lo hi scope (shapes.Atom a) fits = λ x t from to. same_atom scope h a fits x t
  regions_agree h lo hi scope (shapes.Not f) fits = regions_agree h lo hi scope f fits
  regions_agree h lo hi scope (shapes.And f g) fits =
      let parts = and_parts (formula_fits c classes (length regions) scope f) (formula_fits c classes (length regions) scope g) fits in
      (regions_agree h lo hi scope f parts.0, regions_agree h lo hi scope g parts.1)
  regions_agree h lo hi scope (shapes.Or f g) fits =
      let parts = and_parts (formula_fits c classes (length regions) scope f) (formula_fits c classes (length regions) scope g) fits in
      (regions_agree h lo hi scope f parts.0, regions_agree h lo hi scope g parts.1)
  regions_agree h lo hi scope (shapes.Next f) fits = regions_agree h lo hi scope f fits
  regions_agree h lo hi scope (shapes.Eventually f) fits = regions_agree h lo hi scope f fits
  regions_agree h lo hi scope (shapes.Always f) fits = regions_agree h lo hi scope f fits
  regions_agree h lo hi scope (shapes.Bounded form ticks f) fits = regions_agree h lo hi scope f fits
  regions_agree h lo hi scope (shapes.Until form ticks f g) fits =
      let parts = and_parts (formula_fits c classes (length regions) scope f) (formula_fits c classes (length regions) scope g) fits in
      (regions_agree h lo hi scope f parts.0, regions_agree h lo hi scope g parts.1)
  regions_agree h lo hi scope (shapes.Assign (d, q) f) fits =
      let found = some_kind (λ k. formula_fits c classes (length regions) (with_kind scope d k) f) (term_kind c classes scope q) fits in
      (λ x t from to. refl, regions_agree h lo hi (with_kind scope d found.0) f found.1)

same_columns : (old new : Catalog) → new.objects ≡ old.objects → (classes : List ℕ) (cs : List Column) → HaveObjectsOf old classes cs → HaveObjectsOf new classes cs
same_columns old new same classes [] have = tt
same_columns old new same classes (c ∷ cs) have = (
  have.0 ∙ (λ i. map (λ (e : ℕ × ObjectInfo). e.0) (filter (λ (e : ℕ × ObjectInfo). e.1.class == slice_index classes c.variable) (enumerate_from 0 (sym same i)))),
  same_columns old new same classes cs have.1,
)

-- what is current stays current, where no object is written; that interpretations which agree give the same truth is
-- passed in
pub stays_current_without_objects :
    ((j k : Interpretation) (lo hi : ℕ) (f : ResolvedTree) → Agree j k lo hi f → (e : ℕ) → e ≤ hi → (x : Env) → AgreeIn lo hi (sat j f x e) (sat k f x e)) →
    (old new : World) → ChangesNoObject old new → (before now : ℕ) → before ≤ now → (k : KeptQuery) → FitsItsClasses old k.query →
    IsCurrentFor old before k → IsCurrentFor new now k
stays_current_without_objects same_truth old new changes before now upto k fits current = record {
  objects = same_columns old.history.catalog new.history.catalog changes.objects k.query.classes k.columns current.objects;
  rows = λ n t from. current.rows n t (still_told k.kind from) ∙ ap (λ b. counts (column_variables k.columns) n && b) (same_full n t);
}
  where
    -- what is told later is told before
    still_told : (kind : QueryKind) {t : ℕ} → first_tick kind k.entry now ≤ t → first_tick kind k.entry before ≤ t
    still_told kinds.Watch from = omega (arith, upto, from)
    still_told kinds.Keep from = from

    -- by the states, and then by the regions
    same_full : (n t : ℕ) → full_at old k n t ≡ full_at new k n t
    same_full n t =
        let b : ℕ → ℕ = object_at_number k.columns n in
        elim (cases_Bool (within k.entry k.expiry t)) [
          | inl inside ↦
              ap (λ holds. within k.entry k.expiry t && (are_present old k.query b t && holds))
              (sym (same_truth (plain (old.regions ++ changes.more) (trace_of old.history b)) (plain old.regions (trace_of old.history b)) t k.expiry
              k.query.formula (regions_agree old.history.catalog k.query.classes old.regions changes.more (trace_of old.history b) t k.expiry no_kinds k.query.formula fits.formula)
              k.expiry (omega arith) no_values t (omega arith) (within_parts k.entry k.expiry t inside).1))
              ∙ (λ i. within k.entry k.expiry t
              && (list_all (λ v. is_some (sym (changes.states (b v) t) i)) (between 0 (length k.query.classes))
              && sat (plain (sym changes.regions i) (λ v u. sym (changes.states (b v) u) i)) k.query.formula no_values k.expiry t))
          | inr outside ↦
              ap (λ c. c && holds_full old k.query k.expiry b t) outside ∙ sym (ap (λ c. c && holds_full new k.query k.expiry b t) outside)
        ]
