-- What of the lines of all users concerns one of them.
use Rattle.std.specs.Prelude.{ℕ, Option, List, [], ◌∷◌, ◌++◌, option_and_then}
use Rattle.std.specs.Option.{option_map_or}
use Rattle.feeds_meaning.specs.Heard.{Item}
use Rattle.feeds_meaning.specs.Hub.{Hub, event_in, hub_step, item_of}

-- the line of a user's own, or the data command of another that is accepted; None where it is neither
abbrev pub item_in : Hub → List ℕ → List ℕ → Option Item
item_in h user line = option_and_then (λ e. item_of e user) (event_in h line)

-- of lines, one after another
abbrev pub user_view : Hub → List ℕ → List (List ℕ) → List Item
user_view h user [] = []
user_view h user (line ∷ lines) = option_map_or (λ item. item ∷ []) (item_in h user line) [] ++ user_view (hub_step h line).0 user lines
