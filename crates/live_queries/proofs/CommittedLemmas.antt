-- All queries once a write is made.
use Rattle.std.proofs.Common.{◌≡◌, ℕ, zero, suc, ◌≤◌, Option, None, Some, List, [], ◌∷◌, ◌++◌, refl, sym, ap, ◌∙◌, arith}
use Rattle.std.specs.Prelude.{All, slice_get, slice_index}
use Rattle.std.specs.Option.{option_map_or}
use Rattle.std.proofs.lemmas.List.Elements.{All-cons, All-head, All-nil, All-tail}
use Rattle.history.specs.Catalog.{Catalog, ClassInfo, capacity_of}
use Rattle.history.specs.World.{World}
use Rattle.formula.specs.Tree.{ResolvedQuery}
use Rattle.meaning.specs.Fits.{FitsItsClasses}
use Rattle.std.proofs.Common.{subst}
use Rattle.live_queries.specs.declared.fresh.Renewal.{Renewal}
use Rattle.live_queries.specs.Asked.{FitsWorld}
use Rattle.live_queries.specs.Columns.{AreSameColumns, Column, HaveCapacitiesOf}
use Rattle.live_queries.specs.Current.{AreCurrent, IsCurrentFor}
use Rattle.live_queries.specs.Kept.{IsKeptQuery, KeptQuery}
use Rattle.live_queries.specs.Prepared.{AreFreshFor, AreMade, IsFreshFor, IsMade}
use Rattle.live_queries.specs.Renewed.{IsRenewed, IsSameRequest}

module _ (old new : World) (id class now : ℕ)
    (renews : (r : Renewal) (k k' : KeptQuery) → IsFreshFor new id class now k r → IsMade id class r k k' → IsRenewed new id now k k')
    (stays : (k k' : KeptQuery) → IsKeptQuery k → IsKeptQuery k' → IsCurrentFor old now k → IsRenewed new id now k k' → IsCurrentFor new now k') where
  pub all_current : (rs : List Renewal) (ks ks' : List KeptQuery) → All IsKeptQuery ks → All IsKeptQuery ks' → AreCurrent old now ks →
      AreFreshFor new id class now ks rs → AreMade id class rs ks ks' → AreCurrent new now ks'
  all_current [] [] [] kept kept' current fresh made = All-nil (IsCurrentFor new now)
  all_current [] [] (k' ∷ ks') kept kept' current fresh made = absurd made
  all_current [] (k ∷ ks) ks' kept kept' current fresh made = absurd made
  all_current (r ∷ rs) [] ks' kept kept' current fresh made = absurd made
  all_current (r ∷ rs) (k ∷ ks) [] kept kept' current fresh made = absurd made
  all_current (r ∷ rs) (k ∷ ks) (k' ∷ ks') kept kept' current fresh made =
      All-cons (IsCurrentFor new now) k' ks'
      (stays k k' (All-head IsKeptQuery k ks kept) (All-head IsKeptQuery k' ks' kept') (All-head (IsCurrentFor old now) k ks current) (renews r k k' fresh.0 made.0))
      (all_current rs ks ks' (All-tail IsKeptQuery k ks kept) (All-tail IsKeptQuery k' ks' kept') (All-tail (IsCurrentFor old now) k ks current) fresh.1 made.1)

-- ---- capacities stay where classes are added

get_more : (infos later : List ClassInfo) (i : ℕ) (k : ClassInfo) → slice_get infos i ≡ Some k → slice_get (infos ++ later) i ≡ Some k
get_more [] later i k e = absurd (nothing e)
  where
    nothing : slice_get {X = ClassInfo} [] i ≡ Some k → ⊥
    nothing f = grind (arith, f)
get_more (x ∷ infos) later zero k e = e
get_more (x ∷ infos) later (suc i) k e = get_more infos later i k e

same_capacity : (old new : Catalog) (m : List ClassInfo) → new.classes ≡ old.classes ++ m → (class : ℕ) → 1 ≤ capacity_of old.classes class →
    capacity_of old.classes class ≡ capacity_of new.classes class
same_capacity old new m more class some = either (slice_get old.classes class) refl
  where
    either : (o : Option ClassInfo) → slice_get old.classes class ≡ o → capacity_of old.classes class ≡ capacity_of new.classes class
    either None e =
        let none : capacity_of old.classes class ≡ 0 = ap (λ (o : Option ClassInfo). option_map_or (λ k. k.capacity) o 0) e in
        absurd (omega (arith, none, some))
    either (Some k) e =
        ap (λ (o : Option ClassInfo). option_map_or (λ i. i.capacity) o 0)
        (e ∙ sym (ap (λ infos. slice_get infos class) more ∙ get_more old.classes m class k e))

capacities_stay : (old new : Catalog) (m : List ClassInfo) → new.classes ≡ old.classes ++ m → (classes : List ℕ) (cs ds : List Column) →
    AreSameColumns cs ds → HaveCapacitiesOf old classes cs → HaveCapacitiesOf new classes ds
capacities_stay old new m more classes [] [] same have = tt
capacities_stay old new m more classes [] (d ∷ ds) same have = absurd same
capacities_stay old new m more classes (c ∷ cs) [] same have = tt
capacities_stay old new m more classes (c ∷ cs) (d ∷ ds) same have =
    let class : ℕ = slice_index classes c.variable in
    let told : c.numbers.capacity ≡ capacity_of old.classes class = have.0 in (
      same.1 ∙ told
          ∙ same_capacity old new m more class (omega (arith, told, c.numbers.some))
          ∙ ap (λ v. capacity_of new.classes (slice_index classes v)) (sym same.0),
      capacities_stay old new m more classes cs ds same.2 have.1,
    )

pub goes_on_fitting : (old new : World) (m : List ClassInfo) (k k' : KeptQuery) → IsSameRequest k k' →
    new.history.catalog.classes ≡ old.history.catalog.classes ++ m → (FitsItsClasses old k.query → FitsItsClasses new k.query) →
    FitsWorld old k → FitsWorld new k'
goes_on_fitting old new m k k' head more stays fits = record {
  fits = subst (λ (q : ResolvedQuery). FitsItsClasses new q) (sym head.query) (stays fits.fits);
  capacities = subst (λ (q : ResolvedQuery). HaveCapacitiesOf new.history.catalog q.classes k'.columns) (sym head.query)
      (capacities_stay old.history.catalog new.history.catalog m more k.query.classes k.columns k'.columns head.columns fits.capacities);
}
