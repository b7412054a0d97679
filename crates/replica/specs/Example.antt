-- Feeds, and what a replica of the query `w` says after them, worked out by hand.
use Rattle.std.specs.Prelude.{◌≡◌, ℕ, List, [], ◌∷◌, ◌++◌, codes}
use Rattle.replica.specs.Feed.{hearing_after, said, silent}
use Rattle.replica.specs.Rows.{line_feed}

abbrev pub said_by_silent : List (List ℕ) → List ℕ
said_by_silent lines = said (hearing_after (silent (codes "w")) lines)

-- a user registers a watch, and four ticks later hears that the object is removed
abbrev pub up_to_the_clock : List (List ℕ)
up_to_the_clock = codes "ok" ∷ codes "start w watch 0" ∷ codes "now a : 0..10" ∷ codes "ok" ∷ codes "clock 4" ∷ []

abbrev pub all_of_it : List (List ℕ)
all_of_it = up_to_the_clock ++ codes "lose w a : 4..10" ∷ codes "leave w a" ∷ []

-- a query whose past is kept, over two cars
abbrev pub kept_query_lines : List (List ℕ)
kept_query_lines =
    codes "start w keep 3" ∷ codes "later b c : 5..6 8..9" ∷ codes "past a : 0..0" ∷ codes "ok"
    ∷ codes "gain w b c : 7..7" ∷ codes "gain w a : 9..9" ∷ codes "clock 4" ∷ []

pub record FollowsFeeds : Type 0 where
  pub watched : said_by_silent up_to_the_clock ≡ codes "a : 4..10" ++ line_feed
  pub removed : said_by_silent all_of_it ≡ []
  pub in_order_of_bytes : said_by_silent kept_query_lines ≡ codes "a : 0..0 9..9" ++ line_feed ++ codes "b c : 5..9" ++ line_feed
  pub stopped : said_by_silent (kept_query_lines ++ codes "stop w" ∷ []) ≡ []
  pub started_again : said_by_silent (kept_query_lines ++ codes "start w keep 5" ∷ codes "ok" ∷ codes "now d : 5..5" ∷ []) ≡ []
  pub before_a_start : said_by_silent (codes "gain w a : 0..1" ∷ codes "now a : 0..1" ∷ []) ≡ []
  pub by_each_line_of_a_start : said_by_silent (codes "start w keep 0" ∷ codes "now a : 0..1" ∷ codes "later b : 4..5" ∷ codes "now a : 3..3" ∷ []) ≡ codes "a : 0..1 3..3" ++ line_feed ++ codes "b : 4..5" ++ line_feed
  pub up_to_another_start : said_by_silent (codes "start w keep 0" ∷ codes "now a : 0..1" ∷ codes "start v keep 0" ∷ codes "now b : 0..1" ∷ []) ≡ codes "a : 0..1" ++ line_feed
  pub up_to_no_row : said_by_silent (codes "start w keep 0" ∷ codes "now a : 1..0" ∷ codes "now b : 0..1" ∷ []) ≡ []
  pub list_heard : said_by_silent (codes "start w watch 0" ∷ codes "now a : 0..9" ∷ codes "ok" ∷ codes "clock 3" ∷ codes "class car 1/9" ∷ codes "watch w 0..9" ∷ codes "ok" ∷ []) ≡ codes "a : 3..9" ++ line_feed
  pub all_lost : said_by_silent (codes "start w keep 0" ∷ codes "gain w a : 0..1" ∷ codes "lose w a : 0..7" ∷ codes "lose w b : 0..7" ∷ []) ≡ []
  pub of_others : said_by_silent (codes "start w keep 0" ∷ codes "gain v a : x" ∷ codes "gain  w a : 0..1" ∷ codes "gain" ∷ []) ≡ []

pub record RefusesFeeds : Type 0 where
  pub spare_zero : said_by_silent (codes "ok" ∷ codes "clock 04" ∷ []) ≡ codes "bad feed 2" ++ line_feed
  pub first_of_two : said_by_silent (codes "start w" ∷ codes "clock" ∷ []) ≡ codes "bad feed 1" ++ line_feed
  pub backwards : said_by_silent (codes "gain w a : 5..3" ∷ []) ≡ codes "bad feed 1" ++ line_feed
  pub not_maximal : said_by_silent (codes "lose w a : 0..1 2..3" ∷ []) ≡ codes "bad feed 1" ++ line_feed
  pub without_ticks : said_by_silent (codes "gain w a :" ∷ []) ≡ codes "bad feed 1" ++ line_feed
  pub reserved : said_by_silent (codes "gain w tick : 0..1" ∷ []) ≡ codes "bad feed 1" ++ line_feed
  pub five_names : said_by_silent (codes "gain w a b c d e : 0..1" ∷ []) ≡ codes "bad feed 1" ++ line_feed
  pub more_than_a_stop : said_by_silent (codes "stop w " ∷ []) ≡ codes "bad feed 1" ++ line_feed
