-- What is written for a user is what this user hears of the view.
use Rattle.std.specs.Prelude.{◌≡◌, ℕ, Bool, true, List}
use Rattle.std.specs.List.{list_all}
use Rattle.ftl_lexer.specs.Forms.{continues_name}
use Rattle.line_loop.specs.Machine.{replies}
use Rattle.users.specs.Tagged.{lines_for}
use Rattle.feeds_meaning.specs.Heard.{empty_seat, heard}
use Rattle.feeds_meaning.specs.Hub.{empty_hub, machine}
use Rattle.feeds_meaning.specs.View.{user_view}

-- letters, digits and `_`, as each user is
abbrev pub is_of_letters : List ℕ → Bool
is_of_letters user = list_all continues_name user

-- the lines that are written for a user
abbrev pub written_for : List ℕ → List (List ℕ) → List (List ℕ)
written_for user lines = lines_for user (replies machine empty_hub lines)

abbrev pub HearsTheView : Type 0
HearsTheView = (user : List ℕ) (lines : List (List ℕ)) → is_of_letters user ≡ true →
    written_for user lines ≡ heard empty_seat (user_view empty_hub user lines)

-- so other users' lines show in nothing but the view
abbrev pub HearsAlike : Type 0
HearsAlike = (user : List ℕ) (lines other : List (List ℕ)) → is_of_letters user ≡ true →
    user_view empty_hub user lines ≡ user_view empty_hub user other → written_for user lines ≡ written_for user other
