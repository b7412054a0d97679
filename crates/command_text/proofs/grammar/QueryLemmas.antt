-- The parser's answer, for the query at the end of a command.
use Rattle.command_text.proofs.Names.{◌≡◌, ℕ, Bool, true, false, ◌&&◌, List, [], ◌∷◌, Option, Some, None, refl, sym, ◌∙◌, ap, is_none, option_map, if◌then◌else◌, drop-map, Lexeme, lexemes, QueryTree, SpellsQuery, first_unfit, start, parsed, first_too_large, ReadsQuery, CommandFault, Piece, piece_of, line_pieces, is_long, has_long, query_of, is_query_fit, is_query_small, fault_by_parser, Reader, Read, notes, before, query, and_number, and_size, late_refusal, is_at_end, Refuses, At, standing, cases_Bool, has_short_words, inl, inr, lexemes_from, not, or_parts, pieces_from, zero, suc}
use Rattle.std.proofs.Common.{drop}
use Rattle.ftl_parser.specs.declared.fault.ParseFault.{ParseFault}
use Rattle.ftl_parser.specs.declared.fault.ParseFault.TheVariants as parse_faults
use Rattle.ftl_parser.specs.Piece as token
use Rattle.ftl_parser.specs.Fault.{ExplainsTokens}
use Rattle.ftl_parser.proofs.grammar.Drives.{drives_query}
use Rattle.ftl_parser.proofs.grammar.Found.{found_query}
use Rattle.ftl_parser.proofs.grammar.Marks.{first_unfit_scan}
use Rattle.ftl_parser.proofs.canonical.TextShapes.{reads_small}
use Rattle.command_text.specs.declared.fault.CommandFault.TheVariants as faults
use Rattle.command_text.specs.declared.refusal.Refusal.TheVariants as refusals
use Rattle.exact.proofs.Truths.{and_false, and_true}

-- the tokens of a query at the end of a line
pub tail_is : (place : ℕ) (line : List ℕ) → pieces_from place line ≡ drop place (line_pieces line)
tail_is place line = sym (drop-map (λ t. piece_of t.0 t.1) place (lexemes line))

-- no token is long at the end of others of which none is
pub short_behind : (n : ℕ) (tokens : List Lexeme) → has_long tokens ≡ false → has_long (drop n tokens) ≡ false
short_behind zero tokens short = short
short_behind (suc n) [] short = refl
short_behind (suc n) (t ∷ tokens) short = short_behind n tokens (or_parts (is_long t.0 t.1) (has_long tokens) short).1

long_line : (n : ℕ) (line : List ℕ) → has_long (lexemes_from n line) ≡ true → has_short_words line ≡ false
long_line n line long =
    elim (cases_Bool (has_long (lexemes line))) [
      | inl is ↦ ap not is
      | inr short ↦ let bad : true ≡ false = sym long ∙ short_behind n (lexemes line) short in absurd (cc)
    ]

-- the query of a reader by its parts
abbrev query_by : Reader → Bool → Option QueryTree → Read QueryTree
query_by s fit o = option_map (λ q. (q, before [] (and_size (and_number (notes s) fit) (is_query_small q)))) o

query_is : (s : Reader) (tokens : List Piece) (fit : Bool) (o : Option QueryTree) → tokens ≡ s.rest → is_query_fit tokens ≡ fit
    → query_of tokens ≡ o → query s ≡ query_by s fit o
unfolding query
query_is s tokens fit o same e d =
    ap (λ xs. query_by s (is_query_fit xs) (query_of xs)) (sym same) ∙ ap (λ b. query_by s b (query_of tokens)) e ∙ ap (query_by s fit) d

pub fit_is : (tokens : List Piece) (q : QueryTree) (d : SpellsQuery q tokens) (o : Option ℕ) → first_unfit d ≡ o → is_query_fit tokens ≡ is_none o
unfolding is_query_fit
fit_is tokens q d o e = ap is_none (sym (first_unfit_scan q tokens d) ∙ e)

of_spelled : (tokens : List Piece) (q : QueryTree) → SpellsQuery q tokens → query_of tokens ≡ Some q
unfolding query_of
of_spelled tokens q d = drives_query d

small_is : (q : QueryTree) → is_query_small q ≡ is_none (first_too_large false q)
unfolding is_query_small
small_is q = refl

-- a query that the parser answers
query_read : (s : Reader) (tokens : List Lexeme) (q : QueryTree) → token.pieces tokens ≡ s.rest → ReadsQuery tokens q →
    query s ≡ Some (q, record { rest = []; fit = s.fit; small = s.small })
query_read s tokens q same r =
    let small : is_query_small q ≡ true = small_is q ∙ ap is_none (reads_small tokens q r) in
    query_is s (token.pieces tokens) true (Some q) same (fit_is (token.pieces tokens) q r.spelled None r.fit)
    (of_spelled (token.pieces tokens) q r.spelled)
    ∙ ap (λ fit. Some (q, before [] (fit, s.small && is_query_small q))) (and_true s.fit)
    ∙ ap (λ small. Some (q, before [] (s.fit, small))) (ap (λ b. s.small && b) small ∙ and_true s.small)

-- no query
none_spelled : (tokens : List Piece) → ((q : QueryTree) → SpellsQuery q tokens → ⊥) → query_of tokens ≡ None
unfolding query_of
none_spelled tokens none = by_machine (parsed start tokens) refl
  where
    by_machine : (o : Option QueryTree) → parsed start tokens ≡ o → o ≡ None
    by_machine None e = refl
    by_machine (Some q) e = absurd (none q (found_query tokens q e))

late_large : (q : QueryTree) (fit : Bool) → late_refusal (Some (q, before [] (fit, false))) ≡ Some (if fit then refusals.TooLarge else refusals.NumberRange)
late_large q true = refl
late_large q false = refl

at_end_by : (s : Reader) (fit : Bool) (o : Option QueryTree) → is_at_end (query_by s fit o) ≡ true
at_end_by s fit None = refl
at_end_by s fit (Some q) = refl

query_at_end : (s : Reader) → is_at_end (query s) ≡ true
unfolding query
query_at_end s = at_end_by s (is_query_fit s.rest) (query_of s.rest)

-- the refusal of what was read, where there was memory
abbrev Tells : Read QueryTree → CommandFault → Type 0
Tells found (faults.Refused r) = late_refusal found ≡ Some r
Tells found faults.NoMemory = Unit {0}

-- a size past its limit is one of the query, or a long token is one of the line
either_large : (long small : Bool) (q : QueryTree) → (long ≡ true → small ≡ false) → is_none (first_too_large long q) ≡ false
    → (small && is_query_small q) ≡ false
either_large true small q told large = ap (λ b. b && is_query_small q) (told refl)
either_large false small q told large = ap (λ b. small && b) (small_is q ∙ large) ∙ and_false small

late_query : (s : Reader) (tokens : List Lexeme) (from : ℕ) (fault : ParseFault) → token.pieces tokens ≡ s.rest
    → (has_long tokens ≡ true → s.small ≡ false) → ExplainsTokens from tokens fault → Tells (query s) (fault_by_parser fault s.fit)
late_query s tokens from (parse_faults.BadSyntax place) same told (n, at, stuck) =
    ap late_refusal (query_is s (token.pieces tokens) (is_query_fit (token.pieces tokens)) None same refl (none_spelled (token.pieces tokens) stuck.none))
late_query s tokens from (parse_faults.NumberRange place) same told (n, at, unfit) =
    ap late_refusal (query_is s (token.pieces tokens) false (Some unfit.q) same
    (fit_is (token.pieces tokens) unfit.q unfit.spelled (Some n) unfit.unfit)
    (of_spelled (token.pieces tokens) unfit.q unfit.spelled))
    ∙ ap (λ fit. late_refusal (Some (unfit.q, before [] (fit, s.small && is_query_small unfit.q)))) (and_false s.fit)
late_query s tokens from (parse_faults.TooLarge size) same told (q, d, fit, large) =
    ap late_refusal (query_is s (token.pieces tokens) true (Some q) same (fit_is (token.pieces tokens) q d None fit) (of_spelled (token.pieces tokens) q d))
    ∙ ap (λ b. late_refusal (Some (q, before [] (b, s.small && is_query_small q)))) (and_true s.fit)
    ∙ ap (λ b. late_refusal (Some (q, before [] (s.fit, b)))) (either_large (has_long tokens) s.small q told (ap is_none large))
    ∙ late_large q s.fit
late_query s tokens from parse_faults.NoMemory same told h = tt

with_end : (found : Read QueryTree) (e : CommandFault) → Tells found e → is_at_end found ≡ true → Refuses found e
with_end found (faults.Refused r) h k = (h, k)
with_end found faults.NoMemory h k = tt

-- the query, where the reader of the program stands
pub query_answered : (line : List ℕ) (at : At) (q : QueryTree) → ReadsQuery (lexemes_from at.place line) q →
    query (standing line at) ≡ Some (q, record { rest = []; fit = at.fit; small = has_short_words line && at.small })
query_answered line at q r = query_read (standing line at) (lexemes_from at.place line) q (tail_is at.place line) r

-- a query that the parser doesn't answer
pub query_not_answered : (line : List ℕ) (at : At) (fault : ParseFault) → ExplainsTokens at.place (lexemes_from at.place line) fault →
    Refuses (query (standing line at)) (fault_by_parser fault at.fit)
query_not_answered line at fault h =
    let told : has_long (lexemes_from at.place line) ≡ true → (has_short_words line && at.small) ≡ false =
    λ long. ap (λ b. b && at.small) (long_line at.place line long) in
    with_end (query (standing line at)) (fault_by_parser fault at.fit)
    (late_query (standing line at) (lexemes_from at.place line) at.place fault (tail_is at.place line) told h) (query_at_end (standing line at))

pub ruleset query_steps = (query_answered, query_not_answered)
