-- Commands that were read: they are printable, and their canonical lines are short and are read back.
use Rattle.command_text.proofs.Names.{◌≡◌, ℕ, ◌*◌, ◌≤◌, Bool, true, false, List, [], ◌∷◌, length, None, refl, sym, subst, arith, ltb, inl, inr, ◌⊎◌, nat_tests, CommandTree, first_that_holds, is_comment, is_too_long, has_other_byte, has_bad_token, IsRead, PassesTheFirstThree, SpellsWithinLimits, text_of, IsAscii, IsPrintable, PrintsWhatIsRead, PrintsShortly, PrintsWithinFourLimits, ReadsAgain, ReadsLinesAgain}
use Rattle.command_text.specs.declared.reading.TheConstants.{LINE_LIMIT}
use Rattle.command_text.specs.declared.refusal.Refusal.TheVariants as refusals
use Rattle.command_text.specs.Tree
use Rattle.command_text.proofs.grammar.DerivedLines.{lines_are_read}
use Rattle.command_text.proofs.canonical.TextShapes.{line_shape}
use Rattle.command_text.proofs.canonical.TextLengths.{line_short}
use Rattle.command_text.proofs.canonical.TextReads.{reads_what_is_printed}

-- what is known of a line that is read
record IsLine (limit : ℕ) (line : List ℕ) (c : CommandTree) : Type 0 where
  passed : PassesTheFirstThree limit line
  kind : (c ≡ Tree.Nothing) ⊎ SpellsWithinLimits line c

line_is : (limit : ℕ) (line : List ℕ) (c : CommandTree) (b : Bool) → is_comment line ≡ b → IsRead limit line c → IsLine limit line c
line_is limit line c true is read =
    let parts = ((lines_are_read limit line).comment is c).0 read in
    record { passed = parts.0; kind = inl parts.1 }
line_is limit line c false is read =
    let parts = ((lines_are_read limit line).other is c).0 read in
    record { passed = parts.0; kind = inr parts.1 }

none_holds : (long other bad : Bool) → first_that_holds ((refusals.LineTooLong, long) ∷ (refusals.NotAscii, other)
    ∷ (refusals.BadToken, bad) ∷ []) ≡ None → (long ≡ false) × (other ≡ false)
none_holds true other bad is = absurd (cc)
none_holds false true bad is = absurd (cc)
none_holds false false bad is = (refl, refl)

line_ascii : (limit : ℕ) (line : List ℕ) → PassesTheFirstThree limit line → IsAscii line
line_ascii limit line passed = (none_holds (is_too_long limit line) (has_other_byte line) (has_bad_token line) passed).1

line_fits : (limit : ℕ) (line : List ℕ) → PassesTheFirstThree limit line → length line ≤ limit
line_fits limit line passed =
    let short : ltb limit (length line) ≡ false = (none_holds (is_too_long limit line) (has_other_byte line) (has_bad_token line) passed).0 in
    grind (arith, nat_tests)

pub prints_what_is_read : PrintsWhatIsRead
prints_what_is_read limit line c read =
    let is : IsLine limit line c = line_is limit line c (is_comment line) refl read in
    elim is.kind [
      | inl nothing ↦ subst IsPrintable (sym nothing) tt
      | inr d ↦ line_shape line c d (line_ascii limit line is.passed)
    ]

nothing_short : (n : ℕ) → length (text_of Tree.Nothing) ≤ 4 * n
unfolding text_of
nothing_short n = omega arith

pub prints_shortly : PrintsShortly
prints_shortly limit line c read =
    let is : IsLine limit line c = line_is limit line c (is_comment line) refl read in
    elim is.kind [
      | inl nothing ↦ subst (λ (d : CommandTree). length (text_of d) ≤ 4 * length line) (sym nothing) (nothing_short (length line))
      | inr d ↦ line_short line c d
    ]

pub prints_within : PrintsWithinFourLimits
prints_within limit line c read =
    let is : IsLine limit line c = line_is limit line c (is_comment line) refl read in
    omega (arith, prints_shortly limit line c read, line_fits limit line is.passed)

pub reads_again : ReadsAgain
reads_again limit more line c read fits = reads_what_is_printed more c (prints_what_is_read limit line c read) fits

pub reads_lines_again : ReadsLinesAgain
reads_lines_again line c read = reads_again LINE_LIMIT (4 * LINE_LIMIT) line c read (prints_within LINE_LIMIT line c read)
