-- Senders and tagged lines, worked out by hand.
use Rattle.std.specs.Prelude.{◌≡◌, ℕ, Option, None, Some, List, [], ◌∷◌, codes}
use Rattle.users.specs.Sender.{Sent, first_word, sent_in}
use Rattle.users.specs.Tagged.{lines_for, tagged}

abbrev pub by : List ℕ → List ℕ → Option Sent
by user line = Some (record { user = user; line = line })

pub record TellsSenders : Type 0 where
  pub user : sent_in (codes "ann tick 4") ≡ by (codes "ann") (codes "tick 4")
  pub blank_line : sent_in (codes "ann ") ≡ by (codes "ann") []
  pub two_spaces : sent_in (codes "ann  tick 4") ≡ by (codes "ann") (codes " tick 4")
  pub alone : sent_in (codes "ann") ≡ None
  pub nothing : sent_in [] ≡ None
  pub a_tab : sent_in (codes "ann\ttick 4") ≡ None
  pub a_space_before : sent_in (codes " ann tick 4") ≡ None
  pub eight_bytes : sent_in (codes "a_longer list") ≡ by (codes "a_longer") (codes "list")
  pub nine_bytes : sent_in (codes "too_longs list") ≡ None
  pub reserved : sent_in (codes "tick list") ≡ None
  pub begun_by_a_digit : sent_in (codes "7up list") ≡ None
  pub digits_later : sent_in (codes "u2 list") ≡ by (codes "u2") (codes "list")
  pub word : first_word (codes " \ttick 4") ≡ codes "tick"
  pub longer_word : first_word (codes "ticks 4") ≡ codes "ticks"
  pub word_before_a_bad_token : first_word (codes "tick?") ≡ codes "tick"
  pub no_word : first_word (codes "# tick") ≡ []

pub record TagsLines : Type 0 where
  pub two_lines : tagged (codes "ann") (codes "now a : 0..10\nok\n") ≡ codes "ann now a : 0..10\nann ok\n"
  pub no_line : tagged (codes "ann") [] ≡ []
  pub for_one : lines_for (codes "ann") (codes "ann ok\nbob ok\n? refused 4 BadSyntax\nann clock 4\n") ≡ codes "ok" ∷ codes "clock 4" ∷ []
  pub for_no_front : lines_for (codes "an") (codes "ann ok\n") ≡ []
