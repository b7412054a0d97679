-- The lines of a feed as they are printed, and what is read of them.
use Rattle.std.specs.Prelude.{◌≡◌, ◌<◌, ◌≤◌, ℕ, true, false, List, ◌++◌, codes, decimal, length}
use Rattle.std.specs.List.{flat_map, list_all}
use Rattle.std.specs.Str.{bytes_eq}
use Rattle.formula.specs.declared.kind.QueryKind.{QueryKind}
use Rattle.formula.specs.Kinds.{kind_word}
use Rattle.ftl_lexer.specs.Forms.{continues_name}
use Rattle.tick_set.specs.declared.operation.SetOperation.TheVariants.{Union, Without}
use Rattle.tick_set.specs.declared.spans.TheConstants.{LAST_TICK}
use Rattle.replica.specs.Line.{Starts, Answers, Changes, Passes, Stops, Nothing, is_feed_word, told_by_line}
use Rattle.replica.specs.Rows.{TargetRow, run_text}
use Rattle.replica.specs.Text.{is_free_name, is_target}
use Rattle.replica.specs.Ticks.{AreRuns}

-- a row that may be told: a target and some ticks, as maximal runs
pub record IsTellable (row : TargetRow) : Type 0 where
  pub names : is_target row.0 ≡ true
  pub runs : AreRuns 0 row.1
  pub some : 0 < length row.1

-- `a b : 4..10`
abbrev pub told_text : TargetRow → List ℕ
told_text row = row.0 ++ (codes " :" ++ flat_map run_text row.1)

-- `start w watch 4`
abbrev pub start_text : List ℕ → QueryKind → ℕ → List ℕ
start_text name kind clock = codes "start " ++ (name ++ (codes " " ++ (kind_word kind ++ (codes " " ++ decimal clock))))

-- `now a : 4..10`, by the word of its time
abbrev pub answer_row_text : List ℕ → TargetRow → List ℕ
answer_row_text word row = word ++ (codes " " ++ told_text row)

abbrev pub gain_text : List ℕ → TargetRow → List ℕ
gain_text name row = codes "gain " ++ (name ++ (codes " " ++ told_text row))

abbrev pub lose_text : List ℕ → TargetRow → List ℕ
lose_text name row = codes "lose " ++ (name ++ (codes " " ++ told_text row))

abbrev pub clock_text : ℕ → List ℕ
clock_text clock = codes "clock " ++ decimal clock

abbrev pub stop_text : List ℕ → List ℕ
stop_text name = codes "stop " ++ name

-- for a query of this name
pub record ReadsPrintedLines (name : List ℕ) : Type 0 where
  pub starts : (kind : QueryKind) (clock : ℕ) → clock ≤ LAST_TICK → told_by_line name (start_text name kind clock) ≡ Starts kind clock
  pub nows : (row : TargetRow) → IsTellable row → told_by_line name (answer_row_text (codes "now") row) ≡ Answers row
  pub laters : (row : TargetRow) → IsTellable row → told_by_line name (answer_row_text (codes "later") row) ≡ Answers row
  pub pasts : (row : TargetRow) → IsTellable row → told_by_line name (answer_row_text (codes "past") row) ≡ Answers row
  pub gains : (row : TargetRow) → IsTellable row → told_by_line name (gain_text name row) ≡ Changes Union row
  pub losses : (row : TargetRow) → IsTellable row → told_by_line name (lose_text name row) ≡ Changes Without row
  pub clocks : (clock : ℕ) → clock ≤ LAST_TICK → told_by_line name (clock_text clock) ≡ Passes clock
  pub stops : told_by_line name (stop_text name) ≡ Stops
  -- lines of other queries
  pub others_start : (other : List ℕ) (kind : QueryKind) (clock : ℕ) → is_free_name other ≡ true → bytes_eq other name ≡ false → told_by_line name (start_text other kind clock) ≡ Nothing
  pub others_gain : (other : List ℕ) (row : TargetRow) → is_free_name other ≡ true → bytes_eq other name ≡ false → told_by_line name (gain_text other row) ≡ Nothing
  pub others_lose : (other : List ℕ) (row : TargetRow) → is_free_name other ≡ true → bytes_eq other name ≡ false → told_by_line name (lose_text other row) ≡ Nothing
  pub others_stop : (other : List ℕ) → is_free_name other ≡ true → bytes_eq other name ≡ false → told_by_line name (stop_text other) ≡ Nothing
  -- all other lines
  pub passed_over : (word rest : List ℕ) → list_all continues_name word ≡ true → is_feed_word word ≡ false → told_by_line name (word ++ (codes " " ++ rest)) ≡ Nothing
  pub of_one_word : (word : List ℕ) → list_all continues_name word ≡ true → is_feed_word word ≡ false → told_by_line name word ≡ Nothing
