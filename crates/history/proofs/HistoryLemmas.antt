-- For this crate and for the crates above: histories, and one more write to a list of writes.
use Rattle.std.proofs.Common.{◌≡◌, ℕ, None, List, [], ◌∷◌, ◌++◌, refl, ap, ◌∙◌}
use Rattle.std.specs.List.{fold}
use Rattle.std.proofs.lemmas.List.Sums.{fold-append}
use Rattle.history.specs.Write.{Write}
use Rattle.history.specs.Catalog.{catalog, catalog_after, empty_catalog}
use Rattle.history.specs.State.{SoFar, after_write, cells_after_write, state}
use Rattle.history.specs.History.{History}

-- histories that agree at each name and tick are one
pub same_history : (h k : History) → h.catalog ≡ k.catalog → ((o : List ℕ) (t : ℕ) → h.state o t ≡ k.state o t) → h ≡ k
same_history h k c s = λ i. record { catalog = c i; state = λ o t. s o t i }

pub told_catalog : (o : List ℕ) (t : ℕ) (writes : List Write) (so_far : SoFar) → (fold (after_write o t) so_far writes).catalog ≡ fold catalog_after so_far.catalog writes
told_catalog o t [] so_far = refl
told_catalog o t (w ∷ writes) so_far = told_catalog o t writes (after_write o t so_far w)

pub catalog-append : (writes : List Write) (w : Write) → catalog (writes ++ w ∷ []) ≡ catalog_after (catalog writes) w
catalog-append writes w = fold-append catalog_after empty_catalog writes (w ∷ [])

pub state-append : (writes : List Write) (w : Write) (o : List ℕ) (t : ℕ) → state (writes ++ w ∷ []) o t ≡ cells_after_write (catalog writes) o t (state writes o t) w
state-append writes w o t =
    let start : SoFar = record { catalog = empty_catalog; cells = None } in
    ap (λ (so_far : SoFar). so_far.cells) (fold-append (after_write o t) start writes (w ∷ []))
    ∙ ap (λ c. cells_after_write c o t (state writes o t) w) (told_catalog o t writes start)
