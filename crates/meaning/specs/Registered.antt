-- Queries that stay: a watched one is answered from now on, and a kept one from its entry on.
use Rattle.std.specs.Prelude.{ℕ, Bool, not, ◌&&◌, ◌||◌, nat_le, List, [], map}
use Rattle.std.specs.List.{filter}
use Rattle.tick_set.specs.Ticks.{listed}
use Rattle.tick_set.specs.Runs.{runs_of}
use Rattle.history.specs.World.{World}
use Rattle.formula.specs.declared.kind.QueryKind.{QueryKind}
use Rattle.formula.specs.declared.kind.QueryKind.TheVariants.{Keep, Watch}
use Rattle.formula.specs.Tree.{ResolvedQuery}
use Rattle.meaning.specs.Answer.{Row, answer, has_ticks}
use Rattle.meaning.specs.Binding.{holds_target, tuples}

-- a query from the tick of its entry to its expiry
pub record RegisteredQuery : Type 0 where
  pub kind : QueryKind
  pub query : ResolvedQuery
  pub entry : ℕ
  pub expiry : ℕ

-- the first tick of its answer
abbrev pub first_tick : QueryKind → ℕ → ℕ → ℕ
first_tick Watch entry now = now
first_tick Keep entry now = entry

-- the answer at a tick. That of a kept query has the recorded past and the future that the motions imply.
abbrev pub registered_answer : World → RegisteredQuery → ℕ → List Row
registered_answer w r now = answer w r.query (first_tick r.kind r.entry now) r.expiry

-- the ticks of `from` to e at which the second test holds and the first doesn't, as runs
abbrev pub gained : (ℕ → Bool) → (ℕ → Bool) → ℕ → ℕ → List (ℕ × ℕ)
gained before after from e = runs_of (listed (λ t. after t && not (before t)) from e)

-- whether a target holds at a tick; none does past the expiry
abbrev pub stands_at : ℕ → (ℕ → Bool) → ℕ → Bool
stands_at e holds t = nat_le t e && holds t

-- what becomes otherwise for some target objects
pub record Change : Type 0 where
  pub key : List ℕ
  pub gained : List (ℕ × ℕ)
  pub lost : List (ℕ × ℕ)
  pub enters : Bool
  pub leaves : Bool

abbrev pub is_change : Change → Bool
is_change c = has_ticks c.gained || has_ticks c.lost || c.enters || c.leaves

-- whether a registered query holds for some target objects at a tick of its window
abbrev pub holds_for : World → RegisteredQuery → List ℕ → ℕ → Bool
holds_for w r key t = holds_target w r.query r.expiry key t

-- of target objects that gain and lose these ticks, that stood at first or not, and that stand at last or not
abbrev pub change : List ℕ → List (ℕ × ℕ) → List (ℕ × ℕ) → Bool → Bool → Change
change key gains losses stood stands =
    record { key = key; gained = gains; lost = losses; enters = stands && not stood; leaves = stood && not stands }

-- from one test of the ticks to another at tick n, of which those of `from` to e count
abbrev pub change_of : List ℕ → (ℕ → Bool) → (ℕ → Bool) → ℕ → ℕ → ℕ → Change
change_of key before after n from e =
    change key (gained before after from e) (gained after before from e) (stands_at e before n) (stands_at e after n)

-- from tick n to m, with one test of the ticks: nothing is gained or lost
abbrev pub passage_of : List ℕ → (ℕ → Bool) → ℕ → ℕ → ℕ → Change
passage_of key holds n m e = change key [] [] (stands_at e holds n) (stands_at e holds m)

-- What a write at tick n changes for a registered query, target by target, where it leads from one world to another.
abbrev pub changes_of_write : World → World → RegisteredQuery → ℕ → List Change
changes_of_write old new r n =
    let from = first_tick r.kind r.entry n in
    filter is_change
    (map (λ key. change_of key (holds_for old r key) (holds_for new r key) n from r.expiry) (tuples new r.query))

-- What the passing of time from tick n to m changes for a registered query, target by target.
abbrev pub changes_of_tick : World → RegisteredQuery → ℕ → ℕ → List Change
changes_of_tick w r n m =
    filter is_change (map (λ key. passage_of key (holds_for w r key) n m r.expiry) (tuples w r.query))
