-- Small histories, worked out by hand.
use Rattle.std.specs.Prelude.{◌≡◌, ℕ, ℤ, pos, negsuc, ◌==◌, true, false, Option, None, Some, List, [], ◌∷◌, codes, if◌then◌else◌}
use Rattle.motion.specs.Function.{level}
use Rattle.motion.specs.declared.cell.Place.{Place}
use Rattle.motion.specs.Cells.{nowhere}
use Rattle.history.specs.Write.{Write, Insert, Remove}
use Rattle.history.specs.History.{History, history}
use Rattle.meaning.specs.Answer.{Row}
use Rattle.meaning.specs.ExampleParts.{at_point, car_class, post_class, standing_at}
use Rattle.nearness.specs.Nearest.{is_near, near, rank}

abbrev pub row_with : ℕ → List (ℕ × ℕ) → Row
row_with id runs = record { key = id ∷ []; runs = runs }

abbrev pub car_inserted : ℕ → List ℕ → Place → Write
car_inserted tick name place = Insert tick (codes "car") name place []

-- four objects: one that is absent, two with one distance, and one that is nearer
abbrev pub squares : ℕ → Option ℤ
squares id = if id == 0 then None else (if id == 3 then Some (pos 9) else Some (pos 25))

pub record Ranks : Type 0 where
  pub nearest : rank squares (0 ∷ 1 ∷ 2 ∷ 3 ∷ []) 3 ≡ 0
  pub first_of_a_tie : rank squares (0 ∷ 1 ∷ 2 ∷ 3 ∷ []) 1 ≡ 1
  pub second_of_a_tie : rank squares (0 ∷ 1 ∷ 2 ∷ 3 ∷ []) 2 ≡ 2
  pub in_any_order : rank squares (3 ∷ 2 ∷ 1 ∷ 0 ∷ []) 2 ≡ 2
  pub absent : is_near squares (0 ∷ 1 ∷ 2 ∷ 3 ∷ []) 9 0 ≡ false
  pub last_of_all : is_near squares (0 ∷ 1 ∷ 2 ∷ 3 ∷ []) 3 2 ≡ true
  pub one_too_many : is_near squares (0 ∷ 1 ∷ 2 ∷ 3 ∷ []) 2 2 ≡ false

-- A post stands at 0, and a car beside it, 5 units away. Another car comes from 10 units and passes through: at ticks 5 and
-- 15 it is 5 units away too.
abbrev pub passing_through : History
passing_through =
    history
    (car_class
    ∷ post_class
    ∷ Insert 0 (codes "post") (codes "b") nowhere []
    ∷ car_inserted 0 (codes "a") (record { at = Some (at_point 10 0); moving = Some (record { firsts = []; last = negsuc 999 }, level) })
    ∷ car_inserted 0 (codes "c") (standing_at 3 4)
    ∷ [])

pub record IsPassedBy : Type 0 where
  pub ties_go_to_the_first : near passing_through 0 0 1 0 20 ≡ row_with 1 ((5, 15) ∷ []) ∷ row_with 2 ((0, 4) ∷ (16, 20) ∷ []) ∷ []
  pub both : near passing_through 0 0 2 3 9 ≡ row_with 1 ((3, 9) ∷ []) ∷ row_with 2 ((3, 9) ∷ []) ∷ []
  pub more_than_there_are : near passing_through 0 0 100 3 9 ≡ near passing_through 0 0 2 3 9
  pub of_its_own_class : near passing_through 0 1 1 0 5 ≡ row_with 2 ((0, 5) ∷ []) ∷ []
  pub no_other : near passing_through 1 0 1 0 5 ≡ []
  pub no_such_class : near passing_through 2 0 1 0 5 ≡ []

-- The first car is removed while it is nearest, and comes again. It keeps its place in the order of first insertion: where it is
-- as near as the second, it stands before it.
abbrev pub coming_and_going : History
coming_and_going =
    history
    (car_class
    ∷ post_class
    ∷ Insert 0 (codes "post") (codes "b") nowhere []
    ∷ car_inserted 0 (codes "a") (standing_at 1 0)
    ∷ car_inserted 0 (codes "c") (standing_at 2 0)
    ∷ Remove 3 (codes "a")
    ∷ car_inserted 6 (codes "a") (standing_at 0 2)
    ∷ Remove 8 (codes "b")
    ∷ [])

pub record ComeAndGo : Type 0 where
  pub absent_for_a_while : near coming_and_going 0 0 1 0 9 ≡ row_with 1 ((0, 2) ∷ (6, 7) ∷ []) ∷ row_with 2 ((3, 5) ∷ []) ∷ []
  pub second : near coming_and_going 0 0 2 0 9 ≡ row_with 1 ((0, 2) ∷ (6, 7) ∷ []) ∷ row_with 2 ((0, 7) ∷ []) ∷ []
  pub from_an_absent_one : near coming_and_going 0 0 2 8 9 ≡ []

-- four cars at one place
abbrev pub four_at_one_place : History
four_at_one_place =
    history
    (car_class
    ∷ car_inserted 0 (codes "a") nowhere
    ∷ car_inserted 0 (codes "c") nowhere
    ∷ car_inserted 0 (codes "d") nowhere
    ∷ car_inserted 0 (codes "e") nowhere
    ∷ [])

pub record StandTogether : Type 0 where
  pub neither_shown_nor_counted : near four_at_one_place 0 1 2 0 4 ≡ row_with 0 ((0, 4) ∷ []) ∷ row_with 2 ((0, 4) ∷ []) ∷ []
  pub of_the_first : near four_at_one_place 0 0 2 0 4 ≡ row_with 1 ((0, 4) ∷ []) ∷ row_with 2 ((0, 4) ∷ []) ∷ []
