-- What a `must`, an `ask` and a `may` are answered, beside what is so in the worlds where positions are off.
use Rattle.std.specs.Prelude.{◌≡◌, ℕ, ◌+◌, ℤ, unsigned_abs, Bool, true, false, None, List}
use Rattle.history.specs.World.{World}
use Rattle.meaning.specs.Binding.{holds_by, holds_target, target_where}
use Rattle.worlds.specs.Blurred.{blurred}
use Rattle.worlds.specs.Moved.{Move, in_world, is_world}
use Rattle.ftl_parser.specs.Tree.{QueryTree}
use Rattle.line_meaning.specs.Ask.{query_in}
use Rattle.line_meaning.specs.Blurred.{blurred_refusal}

-- whether target objects are told at a tick: by a `must` or a `may` of an error
abbrev pub blurred_tells : Bool → World → (now span : ℕ) → ℤ → QueryTree → List ℕ → ℕ → Bool
blurred_tells sure w now span error q = target_where w (query_in w q) (holds_by (blurred sure (unsigned_abs error) w) w (query_in w q) (now + span))

-- by an `ask`
abbrev pub ask_tells : World → (now span : ℕ) → QueryTree → List ℕ → ℕ → Bool
ask_tells w now span q = holds_target w (query_in w q) (now + span)

-- whether they satisfy the query in the world of some moves
abbrev pub is_so : List Move → World → (now span : ℕ) → QueryTree → List ℕ → ℕ → Bool
is_so moves w now span q = target_where w (query_in w q) (holds_by (in_world moves w) w (query_in w q) (now + span))

-- what a `must` or a `may` asks isn't refused
abbrev pub IsAnswerable : World → (now span : ℕ) → QueryTree → Type 0
IsAnswerable w now span q = blurred_refusal w now span q ≡ None

-- what a `must` tells is so wherever the objects are within the error
abbrev pub SurelyIsSo : Type 0
SurelyIsSo =
    (w : World) (now span : ℕ) (q : QueryTree) → IsAnswerable w now span q
    → (error : ℤ) (moves : List Move) → is_world (unsigned_abs error) moves ≡ true
    → (key : List ℕ) (t : ℕ) → blurred_tells true w now span error q key t ≡ true → is_so moves w now span q key t ≡ true

-- what is so somewhere within the error, a `may` tells
abbrev pub WhatIsSoMayBe : Type 0
WhatIsSoMayBe =
    (w : World) (now span : ℕ) (q : QueryTree) → IsAnswerable w now span q
    → (error : ℤ) (moves : List Move) → is_world (unsigned_abs error) moves ≡ true
    → (key : List ℕ) (t : ℕ) → is_so moves w now span q key t ≡ true → blurred_tells false w now span error q key t ≡ true

-- what an `ask` tells lies between the two
pub record AskLiesBetween : Type 0 where
  pub surely : (w : World) (now span : ℕ) (q : QueryTree) → IsAnswerable w now span q
      → (error : ℤ) (key : List ℕ) (t : ℕ) → blurred_tells true w now span error q key t ≡ true → ask_tells w now span q key t ≡ true
  pub possibly : (w : World) (now span : ℕ) (q : QueryTree) → IsAnswerable w now span q
      → (error : ℤ) (key : List ℕ) (t : ℕ) → ask_tells w now span q key t ≡ true → blurred_tells false w now span error q key t ≡ true
