-- Relations that are put together.
use Rattle.std.proofs.Common.{◌≡◌, ℕ, Bool, true, false, ◌||◌, List, [], ◌∷◌, ◌++◌, refl, ap, ◌∙◌}
use Rattle.std.specs.List.{list_any}
use Rattle.std.proofs.lemmas.List.Folds.{list_any-append}
use Rattle.relation.specs.Frames.{frame, frame_of}
use Rattle.relation.specs.Rows.{Table, table_has}
use Rattle.evaluator.specs.Gathered.{ShareFrame, some_part_has}
use Rattle.exact.proofs.Truths.{or_false, or_grouped}

or_comm : (x y : Bool) → (x || y) ≡ (y || x)
or_comm true true = refl
or_comm true false = refl
or_comm false true = refl
or_comm false false = refl

module _ {S : Type 0} (vars : List ℕ) (domains : List (List ℕ)) (lo hi : ℕ) where
  pub alike_push : (rs : List (Table S)) (r : Table S) → ShareFrame vars domains lo hi rs → r.vars ≡ vars → frame r ≡ frame_of domains lo hi →
      ShareFrame vars domains lo hi (rs ++ r ∷ [])
  alike_push [] r h v f = (v, f, tt)
  alike_push (q ∷ rs) r h v f = (h.0, h.1, alike_push rs r h.2 v f)

  pub alike_vars : (r : Table S) (rs : List (Table S)) → ShareFrame vars domains lo hi (r ∷ rs) → r.vars ≡ vars
  alike_vars r rs h = h.0

  pub alike_frame : (r : Table S) (rs : List (Table S)) → ShareFrame vars domains lo hi (r ∷ rs) → frame r ≡ frame_of domains lo hi
  alike_frame r rs h = h.1

  pub alike_later : (r : Table S) (rs : List (Table S)) → ShareFrame vars domains lo hi (r ∷ rs) → ShareFrame vars domains lo hi rs
  alike_later r rs h = h.2

-- one more behind the others
pub any-push : {X : Type 0} (p : X → Bool) (xs : List X) (x : X) → list_any p (xs ++ x ∷ []) ≡ (list_any p xs || p x)
any-push p xs x = list_any-append p xs (x ∷ []) ∙ ap (λ (b : Bool). list_any p xs || b) (or_false (p x))

-- two put together and brought behind the others
pub any-moved : {X : Type 0} (p : X → Bool) (first second both : X) (rest : List X) → p both ≡ (p first || p second) →
    list_any p (rest ++ both ∷ []) ≡ list_any p (first ∷ second ∷ rest)
any-moved p first second both rest e =
    any-push p rest both
    ∙ ap (λ (b : Bool). list_any p rest || b) e
    ∙ or_comm (list_any p rest) (p first || p second)
    ∙ or_grouped (p first) (p second) (list_any p rest)

-- one more relation behind the others
pub any_has-push : {S : Type 0} (member : S → ℕ → Bool) (rs : List (Table S)) (r : Table S) (b : ℕ → ℕ) (t : ℕ) →
    some_part_has member (rs ++ r ∷ []) b t ≡ (some_part_has member rs b t || table_has member r b t)
any_has-push member rs r b t = any-push (λ q. table_has member q b t) rs r

-- two relations put together and brought behind the others
pub any_has-moved : {S : Type 0} (member : S → ℕ → Bool) (first second both : Table S) (rest : List (Table S)) (b : ℕ → ℕ) (t : ℕ) →
    table_has member both b t ≡ (table_has member first b t || table_has member second b t) →
    some_part_has member (rest ++ both ∷ []) b t ≡ some_part_has member (first ∷ second ∷ rest) b t
any_has-moved member first second both rest b t e = any-moved (λ q. table_has member q b t) first second both rest e
