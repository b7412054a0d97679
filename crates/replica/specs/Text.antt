-- What ticks, spans, names and targets are written as. The byte 32 is a space, 46 a point, 48 is `0` and 58 a colon.
use Rattle.std.specs.Prelude.{ℕ, ◌+◌, ◌-◌, ◌==◌, ◌&&◌, not, nat_le, is_none, Bool, Option, Some, None, List, [], ◌∷◌, codes, length, take, drop, position, if◌then◌else◌, ◌≡◌}
use Rattle.std.specs.List.{list_all, slice_split}
use Rattle.std.specs.Option.{option_map_or}
use Rattle.std.specs.Str.{bytes_eq}
use Rattle.std.specs.Str.Parse.{digits_value}
use Rattle.exact.specs.Options.{◌>>=◌}
use Rattle.case_table.specs.Language.{reserved_words}
use Rattle.case_table.specs.Rows.{code_of}
use Rattle.fixed_point.specs.Decimal.{digits_at}
use Rattle.fixed_point.specs.declared.reading.TheConstants.{WHOLE_DIGITS_LIMIT}
use Rattle.fixed_point.specs.declared.short_text.TheConstants.{WORD_LIMIT}
use Rattle.fixed_point.specs.Digits.{has_spare_zero}
use Rattle.formula_shape.specs.declared.limits.TheConstants.{OBJECT_LIMIT}
use Rattle.ftl_lexer.specs.Cut.{is_word}
use Rattle.tick_set.specs.declared.spans.TheConstants.{LAST_TICK}

-- what stands before the first of these bytes, and what after it, where there is one
abbrev pub cut_at_mark : ℕ → List ℕ → List ℕ × Option (List ℕ)
cut_at_mark mark text = option_map_or (λ i. (take i text, Some (drop (i + 1) text))) (position (λ b. b == mark) text) (text, None)

-- what single spaces separate
abbrev pub words : List ℕ → List (List ℕ)
words text = slice_split (λ b. b == 32) text

-- what follows a text, and what stands before it
abbrev pub after_text : List ℕ → List ℕ → Option (List ℕ)
after_text front text = if bytes_eq (take (length front) text) front then Some (drop (length front) text) else None

abbrev pub before_text : List ℕ → List ℕ → Option (List ℕ)
before_text end text =
    let count = length text - length end in if bytes_eq (drop count text) end then Some (take count text) else None

-- ---- Ticks and spans

-- a tick at the front, without zeros before it, and what follows it
unfoldable pub tick_at : List ℕ → Option (ℕ × List ℕ)
tick_at text = do
  parts ← digits_at WHOLE_DIGITS_LIMIT text
  if not (has_spare_zero parts.0) && nat_le (digits_value 10 parts.0) LAST_TICK then Some (digits_value 10 parts.0, parts.1) else None

-- a tick and nothing else
unfoldable pub tick_of : List ℕ → Option ℕ
tick_of text = do
  tick ← tick_at text
  if length tick.1 == 0 then Some tick.0 else None

-- `3..7`
unfoldable pub span_of : List ℕ → Option (ℕ × ℕ)
span_of word = do
  lo ← tick_at word
  last ← after_text (codes "..") lo.1
  hi ← tick_of last
  if nat_le lo.0 hi then Some (lo.0, hi) else None

-- spans that ascend from a tick on, with at least one tick between two
abbrev pub spans_from : ℕ → List (List ℕ) → Option (List (ℕ × ℕ))
spans_from least [] = Some []
spans_from least (word ∷ later) = do
  span ← span_of word
  spans ← if nat_le least span.0 then spans_from (span.1 + 2) later else None
  Some (span ∷ spans)

-- ---- Names and targets

-- a name that isn't reserved
abbrev pub is_free_name : List ℕ → Bool
is_free_name word = is_word word && nat_le (length word) WORD_LIMIT && is_none (code_of reserved_words word)

-- the names of target objects
abbrev pub is_target : List ℕ → Bool
is_target text = list_all is_free_name (words text) && nat_le (length (words text)) OBJECT_LIMIT

-- what is written to the end of a buffer leaves what was there in front
abbrev pub Begins : List ℕ → List ℕ → Type 0
Begins old new = take (length old) new ≡ old
