-- Canonical lines are read back.
use Rattle.command_text.proofs.Names.{◌≡◌, ℕ, Bool, true, false, ◌||◌, not, List, [], ◌∷◌, ◌++◌, length, Option, None, Some, option_map, ℤ, pos, negsuc, refl, sym, ap, ap₂, subst, ◌∙◌, arith, inl, inr, eqb-true, ◌==◌, is_some, unwrap_or, list_any, decimal, cases_Bool, and_parts, or_parts, nat_tests, symbols, fix_text, Point, Function, NamedSet, Lexeme, cut, is_word, is_blank, token_at, bad_place, lexemes, Part, Verb, Name, Quoted, Whole, Error, Num, PointWord, Attrs, Points, Change, Parts, Blank, Last, Asking, ◌▸◌, parts, Piece, NUMBER, line_pieces, are_few_vertices, CommandTree, Notes, good, SpellsPart, part_verb, part_name, part_text, part_whole, part_error, part_num, part_point_word, part_attrs, part_points, part_change, SpellsParts, no_parts, last_part, last_query, part_before, SpellsCommand, by_parts, Reader, before, command_of, is_ascii, is_comment, has_other_byte, is_too_long, late_refusal, IsBegun, IsWholeCommand, at_text, moving_text, settings_text, parts_text, text_of, IsAscii, AreVertices, IsPart, AreParts, IsPrintable, PrintsLines, ReadsWhatIsPrinted, at_first, first_notes, has_long, has_short_words, leb, leb-true, ◌≤◌}
use Rattle.std.proofs.Common.{drop}
use Rattle.ftl_lexer.proofs.Cuts.{lexemes_from_cut}
use Rattle.ftl_lexer.proofs.Steps.{none_is_some}
use Rattle.ftl_parser.proofs.canonical.TextTokens.{Ends, few_is, nothing_ends, blank_ends, nothing_is_cut, blank_first, behind_blank, narrowed, spaced_cut, reads, read_last}
use Rattle.ftl_parser.proofs.canonical.TextValues.{fix_is_number}
use Rattle.ftl_parser.specs.Piece as token
use Rattle.command_text.specs.Text as text
use Rattle.command_text.proofs.grammar.SpelledCommands.{command_spelled}
use Rattle.command_text.proofs.reader.LineLemmas.{cut_begun, other_read}
use Rattle.command_text.proofs.canonical.TextNumbers.{whole_again, radius_again}
use Rattle.command_text.proofs.canonical.TextAscii.{cut_ascii}
use Rattle.command_text.proofs.canonical.TextCuts.{IsCut, Reads, word_cut, name_cut, number_cut, text_cut}
use Rattle.command_text.proofs.canonical.TextParts.{whole_cut, num_reads, points_read, change_reads, attrs_read, point_word_reads}
use Rattle.command_text.proofs.canonical.TextTails.{Tail, tail_cut}

-- ---- what stands after a part

-- nothing, or a blank first
data IsApart : List ℕ → Type 0 where
  nothing : IsApart []
  blank : {rest : List ℕ} → IsApart (32 ∷ rest)

apart_ends : {bytes : List ℕ} → IsApart bytes → Ends bytes
apart_ends nothing = nothing_ends
apart_ends (blank {rest = rest}) = blank_ends rest

both_apart : {x y : List ℕ} → IsApart x → IsApart y → IsApart (x ++ y)
both_apart nothing other = other
both_apart blank other = blank

at_apart : (at : Option Point) → IsApart (at_text at)
at_apart None = nothing
at_apart (Some p) = blank

moving_apart : (moving : Option (Function × Function)) → IsApart (moving_text moving)
moving_apart None = nothing
moving_apart (Some m) = blank

settings_apart : (sets : List NamedSet) → IsApart (settings_text sets)
settings_apart [] = nothing
settings_apart (s ∷ ss) = blank

part_apart : (p : Part) → IsApart (text.part_text p)
part_apart (Verb w) = blank
part_apart (Name n) = blank
part_apart (Quoted t) = blank
part_apart (Whole place n) = blank
part_apart (Error e) = blank
part_apart (Num place v) = blank
part_apart (PointWord true) = blank
part_apart (PointWord false) = nothing
part_apart (Attrs []) = nothing
part_apart (Attrs (a ∷ more)) = blank
part_apart (Points []) = nothing
part_apart (Points (p ∷ ps)) = blank
part_apart (Change p ss) = both_apart (at_apart p.at) (both_apart (moving_apart p.moving) (settings_apart ss))

parts_apart : (ps : Parts) → IsApart (parts_text ps)
parts_apart Blank = nothing
parts_apart (Last p) = part_apart p
parts_apart (Asking q) = blank
parts_apart (p ▸ ps) = both_apart (part_apart p) (parts_apart ps)

-- ---- parts

error_reads : (e : ℤ) → IsPart (Error e) → Reads (fix_text e) (SpellsPart (Error e) good good)
error_reads (pos n) within =
    let size : List ℕ = fix_text (pos n) in
    reads (subst (λ (o : Option ℤ). SpellsPart (Error (unwrap_or o (pos 0))) good (is_some o, true) (NUMBER size ∷ [])) (radius_again n within)
    (part_error {n = size}))
    (number_cut size (fix_is_number n (omega (arith, within))))
error_reads (negsuc n) within = absurd within

vertices_read : (ps : List Point) → AreVertices ps → Reads (text.part_text (Points ps)) (SpellsPart (Points ps) good good)
vertices_read [] shape = absurd (omega (arith, shape.count.0))
vertices_read (p ∷ []) shape = absurd (omega (arith, shape.count.0))
vertices_read (p ∷ q ∷ []) shape = absurd (omega (arith, shape.count.0))
vertices_read (p ∷ q ∷ r ∷ ps) shape =
    let few : are_few_vertices (length (p ∷ q ∷ r ∷ ps)) ≡ true = grind (arith, nat_tests, shape.count.1) in
    let v = points_read (p ∷ q ∷ r ∷ ps) shape.each in
    reads (subst (λ (b : Bool). SpellsPart (Points (p ∷ q ∷ r ∷ ps)) good (true, b) v.tokens) few (part_points v.spelled)) (narrowed v.cut (λ rest ends. tt))

part_reads : (p : Part) → IsPart p → Reads (text.part_text p) (SpellsPart p good good)
part_reads (Verb w) is =
    let parts = and_parts (is_word w) _ is in
    let few : length w ≤ 7 = leb-true (length w) 7 (and_parts (leb (length w) 7) _ parts.1).0 in
    reads (part_verb is) (spaced_cut (word_cut w parts.0 (few_is w (omega (arith, few)))))
part_reads (Name n) is = reads part_name (spaced_cut (name_cut n is))
part_reads (Quoted t) is = reads part_text (spaced_cut (text_cut t is))
part_reads (Whole place n) is =
    reads (subst (λ (o : Option ℕ). SpellsPart (Whole place (unwrap_or o 0)) good (is_some o, true) (NUMBER (decimal n) ∷ [])) (whole_again place n is)
    (part_whole {n = decimal n}))
    (spaced_cut (whole_cut place n is))
part_reads (Error e) is = let r = error_reads e is in reads r.spelled (spaced_cut r.cut)
part_reads (Num place v) is = let r = num_reads place v is in reads (part_num r.spelled) (spaced_cut r.cut)
part_reads (PointWord b) is = let r = point_word_reads b in reads (part_point_word r.spelled) r.cut
part_reads (Attrs attrs) is = let r = attrs_read attrs is in reads (part_attrs r.spelled) (narrowed r.cut (λ rest ends. tt))
part_reads (Points ps) is = vertices_read ps is
part_reads (Change p ss) is = let r = change_reads p ss is in reads (part_change r.spelled) r.cut

-- ---- parts one after another

-- their text is cut into tokens that spell them
record PartsCut (ps : Parts) : Type 0 where
  tokens : List Piece
  spelled : SpellsParts ps good good tokens
  is_cut : IsCut (parts_text ps) tokens

parts_cut : (ps : Parts) → AreParts ps → PartsCut ps
parts_cut Blank are = record { tokens = []; spelled = no_parts; is_cut = nothing_is_cut }
parts_cut (Last p) are = let r = part_reads p are in record { tokens = r.tokens; spelled = last_part r.spelled; is_cut = read_last r }
parts_cut (Asking q) are =
    let t : Tail q = tail_cut q are in
    let noted = subst (λ (s : Notes). SpellsParts (Asking q) good s t.tokens) (ap₂ (λ (f g : Bool). (f, g)) t.fit t.small) (last_query t.spelled) in
    record { tokens = t.tokens; spelled = noted; is_cut = blank_first t.is_cut }
parts_cut (p ▸ ps) are =
    let r = part_reads p are.0 in
    let later = parts_cut ps are.1 in
    record {
      tokens = r.tokens ++ later.tokens;
      spelled = part_before r.spelled later.spelled;
      is_cut = r.cut.again (parts_text ps) later.tokens (apart_ends (parts_apart ps)) later.is_cut;
    }

-- ---- commands

-- the canonical line is cut into tokens that spell the command
record CommandCut (c : CommandTree) : Type 0 where
  tokens : List Piece
  spelled : SpellsCommand c good good tokens
  is_cut : IsCut (text_of c) tokens

without_blank : {bytes : List ℕ} (tokens : List Piece) → IsApart bytes → IsCut bytes tokens → IsCut (drop 1 bytes) tokens
without_blank tokens nothing is = is
without_blank tokens blank is = behind_blank is

command_cut : (c : CommandTree) → IsPrintable c → CommandCut c
unfolding text_of
command_cut c are =
    let r : PartsCut (parts c) = parts_cut (parts c) are in
    record { tokens = r.tokens; spelled = by_parts r.spelled; is_cut = without_blank r.tokens (parts_apart (parts c)) r.is_cut }

-- ---- the lines

hash_is_bad : (bytes : List ℕ) → cut 0 (35 ∷ bytes) ≡ None
unfolding cut token_at symbols
hash_is_bad [] = refl
hash_is_bad (b ∷ bytes) = refl

-- a comment is not cut into tokens
comment_is_bad : (bytes : List ℕ) → is_comment bytes ≡ true → cut 0 bytes ≡ None
unfolding cut
comment_is_bad [] is = let bad : false ≡ true = is in absurd (cc)
comment_is_bad (b ∷ bytes) is =
    elim (cases_Bool (is_blank b)) [
      | inl space ↦ rw space (comment_is_bad bytes (rw space at is))
      | inr other ↦ let hash : b ≡ 35 = eqb-true b 35 (rw other at is) in subst (λ (h : ℕ). cut 0 (h ∷ bytes) ≡ None) (sym hash) (hash_is_bad bytes)
    ]

no_comment : (bytes : List ℕ) (tokens : List Lexeme) → cut 0 bytes ≡ Some tokens → is_comment bytes ≡ false
no_comment bytes tokens is =
    elim (cases_Bool (is_comment bytes)) [
      | inl comment ↦ absurd (none_is_some (sym (comment_is_bad bytes comment) ∙ is))
      | inr other ↦ other
    ]

whole_command : (c : CommandTree) (line : List ℕ) → SpellsCommand c (first_notes line) good (line_pieces line) → IsWholeCommand (command_of (at_first line)) c
whole_command c line spelled =
    let read : command_of (at_first line) ≡ Some (c, before [] good) = command_spelled spelled in
    record { taken = ap late_refusal read; command = ap (option_map (λ (r : CommandTree × Reader). r.0)) read }

line_ascii : (c : CommandTree) (r : CommandCut c) → IsAscii (text_of c)
line_ascii c r = cut_ascii (text_of c) r.is_cut.lexed r.is_cut.cut_is r.is_cut.good

pub reads_what_is_printed : ReadsWhatIsPrinted
reads_what_is_printed limit c shape fits =
    let r : CommandCut c = command_cut c shape in
    let line : List ℕ = text_of c in
    let found : (bad_place line ≡ None) × (lexemes line ≡ r.is_cut.lexed) = lexemes_from_cut line r.is_cut.lexed r.is_cut.cut_is in
    let tokens : r.tokens ≡ line_pieces line = sym (ap token.pieces found.1 ∙ r.is_cut.pieces_are) in
    let short : is_too_long limit line ≡ false = grind (arith, nat_tests, fits) in
    let other : is_comment line ≡ false = no_comment line r.is_cut.lexed r.is_cut.cut_is in
    let begun : IsBegun limit line line false = cut_begun limit line line short (line_ascii c r) other refl found.0 in
    let words : has_short_words line ≡ true = ap (λ ts. not (has_long ts)) found.1 ∙ ap not r.is_cut.short in
    let spelled : SpellsCommand c (first_notes line) good (line_pieces line) =
    subst (λ (b : Bool). SpellsCommand c (true, b) good (line_pieces line)) (sym words) (subst (SpellsCommand c good good) tokens r.spelled) in
    other_read limit line line false c begun refl (whole_command c line spelled)

-- ---- and have no line feed

no_feed : (b : ℕ) → not (is_ascii b) ≡ false → (b == 10) ≡ false
no_feed b is = grind (arith, nat_tests)

no_feeds : (bytes : List ℕ) → IsAscii bytes → list_any (λ b. b == 10) bytes ≡ false
no_feeds [] all = refl
no_feeds (b ∷ bytes) all =
    let parts = or_parts (not (is_ascii b)) (has_other_byte bytes) all in
    ap₂ (λ x y. x || y) (no_feed b parts.0) (no_feeds bytes parts.1)

pub prints_lines : PrintsLines
prints_lines c shape = let ascii : IsAscii (text_of c) = line_ascii c (command_cut c shape) in (ascii, no_feeds (text_of c) ascii)
