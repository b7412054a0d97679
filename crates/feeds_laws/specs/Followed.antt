-- What a replica of a query holds, where its input is what one user hears.
use Rattle.std.specs.Prelude.{◌≡◌, ◌≤◌, ℕ, Bool, true, Option, None, Some, List}
use Rattle.std.specs.Str.{bytes_eq}
use Rattle.meaning.specs.Answer.{rows_have}
use Rattle.meaning.specs.Registered.{RegisteredQuery, registered_answer}
use Rattle.line_meaning.specs.Registry.{Known, Registration, known, registration_named}
use Rattle.feeds_meaning.specs.Heard.{Item, empty_seat, heard, seat_after}
use Rattle.feeds_meaning.specs.HeardLaw.{is_of_letters, written_for}
use Rattle.feeds_meaning.specs.Hub.{empty_hub}
use Rattle.feeds_meaning.specs.View.{user_view}
use Rattle.replica.specs.Copied.{first_copied_tick}
use Rattle.replica.specs.Feed.{Hearing, hearing_after, silent}
use Rattle.replica.specs.Rows.{ticks_at}
use Rattle.replica.specs.Text.{is_free_name}
use Rattle.replica.specs.Ticks.{have}
use Rattle.replica.specs.declared.copied.Copied.{Copied}
use Rattle.feeds_laws.specs.Targets.{target_of}

-- whether the answer of a registered query has a tick of target objects, told by their names
abbrev pub answer_has : Known → RegisteredQuery → List ℕ → ℕ → Bool
answer_has k r target t =
    rows_have (registered_answer k.world r k.now) (λ key. bytes_eq (target_of k.world.history.catalog key) target) t

-- A copy is of the query's kind, at the clock, and each target has the ticks of the query's answer: of a watched query from
-- the clock on, and of a kept one all.
pub record HoldsTheAnswer (k : Known) (r : RegisteredQuery) (copied : Copied) : Type 0 where
  pub kind : copied.kind ≡ r.kind
  pub clock : copied.clock ≡ k.now
  pub ticks : (target : List ℕ) (t : ℕ) → first_copied_tick copied.kind copied.clock ≤ t →
      have (ticks_at target copied.rows) t ≡ answer_has k r target t

-- there is a copy where the query is registered, and else none
abbrev pub Holds : Known → Option Registration → Option Copied → Type 0
Holds k None None = Unit {0}
Holds k None (Some copied) = ⊥
Holds k (Some r) None = ⊥
Holds k (Some r) (Some copied) = HoldsTheAnswer k r.query copied

-- no line is bad, and the copy of the query of a name holds its answer
pub record FollowsQuery (k : Known) (name : List ℕ) (h : Hearing) : Type 0 where
  pub good : h.bad ≡ None
  pub copy : Holds k (registration_named k.live name) h.copy

-- what is known to one user after lines of all users, and the lines that this user hears
abbrev pub items_for : List ℕ → List (List ℕ) → List Item
items_for user lines = user_view empty_hub user lines

abbrev pub known_to : List ℕ → List (List ℕ) → Known
known_to user lines = known (seat_after empty_seat (items_for user lines)).held.journal

abbrev pub replica_of : List ℕ → List ℕ → List (List ℕ) → Hearing
replica_of name user lines = hearing_after (silent name) (heard empty_seat (items_for user lines))

-- A replica that hears what a user hears holds the answer of a query that the user registered ..
abbrev pub FollowsTheAnswer : Type 0
FollowsTheAnswer = (name user : List ℕ) (lines : List (List ℕ)) (r : Registration) → is_of_letters user ≡ true →
    registration_named (known_to user lines).live name ≡ Some r → FollowsQuery (known_to user lines) name (replica_of name user lines)

-- .. and of a name of which none is registered it holds nothing
abbrev pub FollowsNothing : Type 0
FollowsNothing = (name user : List ℕ) (lines : List (List ℕ)) → is_free_name name ≡ true → is_of_letters user ≡ true →
    registration_named (known_to user lines).live name ≡ None → FollowsQuery (known_to user lines) name (replica_of name user lines)

-- the lines that a user hears are those that are written for this user, of the lines of all users
abbrev pub HearsWhatIsWritten : Type 0
HearsWhatIsWritten = (name user : List ℕ) (lines : List (List ℕ)) → is_of_letters user ≡ true →
    hearing_after (silent name) (written_for user lines) ≡ replica_of name user lines
