-- Users who share one world, worked out by hand.
use Rattle.std.specs.Prelude.{◌≡◌, ℕ, List, [], ◌∷◌, ◌++◌, codes}
use Rattle.line_loop.specs.Machine.{after, replies}
use Rattle.feeds_meaning.specs.Heard.{after_own}
use Rattle.feeds_meaning.specs.HeardExample.{watch_command}
use Rattle.feeds_meaning.specs.Hub.{Hub, empty_hub, machine, seat_of}

-- what is written of lines, from a hub on
abbrev pub hub_written : Hub → List (List ℕ) → List ℕ
hub_written h lines = replies machine h lines

-- `ann class car 9 point` and `bob insert car a`
abbrev pub first_lines : List (List ℕ)
first_lines = codes "ann class car 9 point" ∷ codes "bob insert car a" ∷ []

-- the first user has the watch too
abbrev pub watching_hub : Hub
watching_hub =
    let h = after machine empty_hub first_lines in
    record h {
      seats =
          record { user = codes "ann"; seat = after_own (seat_of h (codes "ann")) watch_command }
          ∷ record { user = codes "bob"; seat = seat_of h (codes "bob") }
          ∷ [];
    }

abbrev pub eight_users : List (List ℕ)
eight_users =
    codes "a " ∷ codes "b " ∷ codes "c " ∷ codes "d " ∷ codes "e " ∷ codes "f " ∷ codes "g " ∷ codes "h tick 1" ∷ []

pub record SharesAWorld : Type 0 where
  pub first : hub_written empty_hub first_lines ≡ codes "ann ok\nbob ok\n"
  pub later : hub_written watching_hub (codes "bob show w" ∷ codes "bob tick 4" ∷ codes "bob remove a" ∷ [])
      ≡ codes "bob refused 7 UnknownName\nann clock 4\nbob clock 4\nbob ok\nann lose w a : 4..10\nann leave w a\nbob ok\n"
  -- who comes later has the objects of the others
  pub newcomer : hub_written watching_hub (codes "cid remove a" ∷ codes "cid remove a" ∷ [])
      ≡ codes "ann lose w a : 0..10\nann leave w a\ncid ok\ncid refused 14 Presence\n"
  pub nobody : hub_written empty_hub ([] ∷ codes "ann" ∷ codes "tick 4" ∷ [])
      ≡ codes "? refused 4 BadSyntax\n? refused 4 BadSyntax\n? refused 4 BadSyntax\n"
  pub ninth : hub_written empty_hub (eight_users ++ codes "i tick 1" ∷ codes "b tick ?" ∷ [])
      ≡ codes "a clock 1\nb clock 1\nc clock 1\nd clock 1\ne clock 1\nf clock 1\ng clock 1\nh clock 1\nh ok\n? refused 16 StoreFull\nb refused 3 BadToken\n"
