-- A relation with one more row.
use Rattle.std.proofs.Common.{◌≡◌, ℕ, Bool, true, false, ◌&&◌, ◌||◌, List, [], ◌∷◌, ◌++◌, sym, ap, ◌∙◌, subst}
use Rattle.std.specs.List.{list_all}
use Rattle.std.specs.Str.{bytes_eq}
use Rattle.std.proofs.lemmas.List.Folds.{list_any-append}
use Rattle.tick_set.specs.Ticks.{LiesIn}
use Rattle.relation.specs.declared.row.Row.{Row}
use Rattle.relation.specs.Key.{key_below, key_in}
use Rattle.relation.specs.Rows.{IsTable, Table, has_at, table}
use Rattle.relation.proofs.RowLemmas.{rows_push}
use Rattle.exact.proofs.Truths.{or_false}

pub has_at-push : {S : Type 0} (member : S → ℕ → Bool) (rows : List (Row S)) (row : Row S) (k : List ℕ) (t : ℕ) →
    has_at member (rows ++ row ∷ []) k t ≡ (has_at member rows k t || (bytes_eq row.key k && member row.set t))
has_at-push member rows row k t =
    list_any-append (λ r. bytes_eq r.key k && member r.set t) rows (row ∷ [])
    ∙ ap (λ b. has_at member rows k t || b) (or_false (bytes_eq row.key k && member row.set t))

-- a relation keeps its facts with a row behind all others
pub table_push : {S : Type 0} (member : S → ℕ → Bool) (r old : Table S) (row : Row S) → IsTable member r → r ≡ old →
    list_all (λ s. key_below s.key row.key) old.rows ≡ true → key_in old.domains old.vars row.key ≡ true → LiesIn old.lo old.hi (member row.set) →
    (((t : ℕ) → member row.set t ≡ false) → ⊥) → IsTable member (table r.vars r.domains r.lo r.hi (r.rows ++ row ∷ []))
table_push {S} member r old row is e above inside lies some =
    let above' = subst (λ (z : Table S). list_all (λ s. key_below s.key row.key) z.rows ≡ true) (sym e) above in
    let inside' = subst (λ (z : Table S). key_in z.domains z.vars row.key ≡ true) (sym e) inside in
    let lies' = subst (λ (z : Table S). LiesIn z.lo z.hi (member row.set)) (sym e) lies in
    record {
      known = is.known;
      distinct = is.distinct;
      rows = rows_push member r.domains r.vars r.lo r.hi 0 r.rows row is.rows above' (record { inside = inside'; lies = lies'; some = some });
    }
