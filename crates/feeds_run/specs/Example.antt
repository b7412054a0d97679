-- Runs worked out by hand.
use Rattle.std.specs.Prelude.{◌≡◌, ℕ, List, [], ◌∷◌, ◌++◌, codes}
use Rattle.feeds_run.specs.Whole.{WholeFeed, whole_feed}
use Rattle.feeds_run.specs.Words.{FeedWords, Bad, Shared, Followed, feed_words_of}
use Rattle.feeds_run.specs.declared.status.FeedStatus.{FeedStatus}
use Rattle.feeds_run.specs.declared.status.FeedStatus.TheVariants.{Done, BadWords, BadFeed, InputLimit}

abbrev pub gives_whole : FeedStatus → List ℕ → WholeFeed
gives_whole status output = record { output = output; status = status }

-- under a limit that these inputs don't reach
abbrev pub run_of : FeedWords → List ℕ → WholeFeed
run_of words bytes = whole_feed words 1000 bytes

-- what a user heard who watches all cars, up to the tick of another user, and to the removal of the car
abbrev pub text_before_removal : List ℕ
text_before_removal = codes "ok\nstart w watch 0\nnow a : 0..10\nok\nclock 4\n"

abbrev pub text_with_removal : List ℕ
text_with_removal = text_before_removal ++ codes "lose w a : 4..10\nleave w a\n"

pub record AsksByWords : Type 0 where
  pub nothing : feed_words_of [] ≡ Bad
  pub name_alone : feed_words_of (codes "feeds" ∷ []) ≡ Shared
  pub any_name : feed_words_of ([] ∷ []) ≡ Shared
  pub without_query : feed_words_of (codes "feeds" ∷ codes "replica" ∷ []) ≡ Bad
  pub query : feed_words_of (codes "feeds" ∷ codes "replica" ∷ codes "w" ∷ []) ≡ Followed (codes "w")
  pub any_query : feed_words_of (codes "feeds" ∷ codes "replica" ∷ [] ∷ []) ≡ Followed []
  pub another_word : feed_words_of (codes "feeds" ∷ codes "copy" ∷ codes "w" ∷ []) ≡ Bad
  pub too_many : feed_words_of (codes "feeds" ∷ codes "replica" ∷ codes "w" ∷ codes "v" ∷ []) ≡ Bad

pub record WritesByWords : Type 0 where
  pub bad_words : run_of Bad (codes "ann list\n") ≡ gives_whole BadWords (codes "bad words\n")
  -- ---- users
  pub shared : run_of Shared (codes "ann class car 9 point\nbob insert car a\nbob show w\nbob tick 4\nlist\n")
      ≡ gives_whole Done (codes "ann ok\nbob ok\nbob refused 7 UnknownName\nann clock 4\nbob clock 4\nbob ok\n? refused 4 BadSyntax\n")
  pub no_end_of_a_line : run_of Shared (codes "ann tick 2\r\nbob tick 3") ≡ gives_whole Done (codes "ann clock 2\nann ok\nann clock 5\nbob clock 5\nbob ok\n")
  pub quit_ends_nothing : run_of Shared (codes "ann quit\nann tick 1\n") ≡ gives_whole Done (codes "ann refused 4 BadSyntax\nann clock 1\nann ok\n")
  pub past_the_limit : whole_feed Shared 11 (codes "ann tick 1\nann tick 1\n") ≡ gives_whole InputLimit (codes "ann clock 1\nann ok\n")
  -- ---- a replica
  pub followed : run_of (Followed (codes "w")) text_before_removal ≡ gives_whole Done (codes "a : 4..10\n")
  pub followed_to_the_end : run_of (Followed (codes "w")) text_with_removal ≡ gives_whole Done []
  pub another_query : run_of (Followed (codes "v")) text_with_removal ≡ gives_whole Done []
  pub bad_feed : run_of (Followed (codes "w")) (codes "ok\nclock 04\nclock x\n") ≡ gives_whole BadFeed (codes "bad feed 2\n")
  pub limit_of_a_feed : whole_feed (Followed (codes "w")) 5 text_before_removal ≡ gives_whole InputLimit []
  pub bad_feed_within_the_limit : whole_feed (Followed (codes "w")) 10 (codes "clock 04\nclock 5\n") ≡ gives_whole BadFeed (codes "bad feed 1\n")
  pub bad_feed_past_the_limit : whole_feed (Followed (codes "w")) 7 (codes "clock 04\nclock 5\n") ≡ gives_whole InputLimit []
