-- For this crate and for the crates above: the names of which lemmas speak, each passed on by one line.
pub use Rattle.std.specs.Char.{digit_value, is_ascii_digit}
pub use Rattle.std.specs.Fmt.{sign_text}
pub use Rattle.std.specs.Int.{is_negative}
pub use Rattle.std.specs.List.{AllByRecursion, flat_map, list_all, list_any, prefix_len, suffix_len}
pub use Rattle.std.specs.Option.{MatchOption, option_map_or, option_to_list}
pub use Rattle.std.specs.Prelude.{bytes_eq, codes, decimal, if◌then◌else◌, is_some, neg_ℤ, unwrap_or}
pub use Rattle.std.specs.Str.Parse.{AllDigits, digits_value, digits_value_after}
pub use Rattle.std.proofs.Common.{Bool, Err, IsTrue, List, None, Option, Some, [], add-one, add-zero, ap, append-nil, append_assoc, ap₂, arith, cond, drop, eqb, false, inl, inr, leb, length, length-append, ltb, map, max, negsuc, not, option_and_then, option_map, pos, position, refl, slice_get, subst, suc, sym, take, true, unsigned_abs, zero, ℕ, ℤ, ◌%◌, ◌&&◌, ◌*◌, ◌++◌, ◌+◌, ◌-◌, ◌/◌, ◌<◌, ◌^◌, ◌||◌, ◌∙◌, ◌∷◌, ◌≡◌, ◌≤◌}
pub use Rattle.std.proofs.lemmas.Bool.{and_parts, cases_Bool, leb-true, or_parts}
pub use Rattle.std.proofs.lemmas.Bool.Decides.{nat_tests}
pub use Rattle.std.proofs.lemmas.Fmt.{decimal_digit, decimal_is_IsNumeral, length-decimal-le}
pub use Rattle.std.proofs.lemmas.Grind.{flat_map-append}
pub use Rattle.std.proofs.lemmas.List.{length-map, length-take, map-append, take_at}
pub use Rattle.std.proofs.lemmas.List.Sums.{fold-append, sum_by-cons}
pub use Rattle.std.proofs.lemmas.Option.{none-some, slice_get_within}
unfoldable pub use Rattle.case_table.specs.Language.{reserved_words, symbols}
pub use Rattle.case_table.specs.Rows.{code_of}
pub use Rattle.case_table.specs.declared.compare.Op.{Op}
pub use Rattle.fixed_point.specs.Canonical.{three_digits, without_last_zeros}
unfoldable pub use Rattle.fixed_point.specs.Canonical.{fix_text}
pub use Rattle.fixed_point.specs.Decimal.{AreDigits, IsDecimal, decimals_text, decimals_value, thousandths_of, with_sign}
pub use Rattle.fixed_point.specs.declared.number.TheConstants.{READ_LIMIT}
pub use Rattle.fixed_point.specs.declared.short_text.TheConstants.{WORD_LIMIT}
pub use Rattle.fixed_point.specs.declared.variants.BoundForm.{BoundForm}
pub use Rattle.fixed_point.specs.declared.variants.SubName.{SubName}
pub use Rattle.fixed_point.specs.declared.variants.UntilForm.{UntilForm}
pub use Rattle.geometry.specs.declared.limits.TheConstants.{RADIUS_LIMIT}
pub use Rattle.tick_set.specs.declared.spans.TheConstants.{LAST_TICK}
pub use Rattle.formula_shape.specs.Shape.{Shape}
pub use Rattle.formula_shape.specs.declared.limits.TheConstants.{TIMES_LIMIT}
pub use Rattle.ftl_lexer.specs.Cut.{HasForm, IsQuoted, Lexeme, has_no_quote, is_number, is_word, put_before, stands_alone}
unfoldable pub use Rattle.ftl_lexer.specs.Cut.{cut}
pub use Rattle.ftl_lexer.specs.Forms.{digits_len, fraction_len, name_len, number_len, word_kind}
unfoldable pub use Rattle.ftl_lexer.specs.Forms.{token_at}
pub use Rattle.ftl_lexer.specs.Laws.{HaveForms, SpansAscend}
pub use Rattle.ftl_lexer.specs.Tokens.{bad_place, bytes_of_token, lexemes, tokens_of}
pub use Rattle.ftl_lexer.specs.declared.kinds.Kind.{Kind}
pub use Rattle.ftl_parser.specs.Fault.{BeginsQuery, ExplainsTokens, HasUnfit, IsStuckAt, IsToken, ReadsQuery}
pub use Rattle.ftl_parser.specs.Grammar.{Level, Spells, SpellsAtom, SpellsFactor, SpellsFromParts, SpellsNames, SpellsNum, SpellsQuery, SpellsRef, SpellsTerm, SpellsUntil, atom_compare, atom_dist, atom_inside, atom_outside, atom_sphere, chain, chain_unary, chain_until, conj, conj_and, conj_chain, factor_number, factor_ref, factor_text, factor_times, formula, formula_conj, formula_or, from_part, names_more, names_one, num_minus, num_plain, parts_more, parts_one, prefixed, query, ref_attr, ref_name, ref_part, ref_time, signed, term_first, term_minus, term_minus_first, term_of, term_plus, unary, unary_assign, unary_atom, unary_bounded, unary_brackets, unary_prefix, unary_truth, until_after, until_plain, until_within}
pub use Rattle.ftl_parser.specs.Lawful.{AreUntilTicks, HasShape, IsAny, IsAtom, IsFactor, IsFormula, IsFromPart, IsLawful, IsMultiple, IsPrintableQuery, IsQuotable, IsRef, IsShortName, IsUnit, IsUnsigned, OneOrMore}
pub use Rattle.ftl_parser.specs.Marks.{atom_marks, clear, factor_marks, first_unfit, marks, num_marks, query_marks, term_marks, unfit, until_marks}
pub use Rattle.ftl_parser.specs.Number.{Literal, Radius, Times, is_number_fit, literal, radius_of, ticks, times, up_to, whole_of}
pub use Rattle.ftl_parser.specs.Piece.{AND, ARROW, BOUNDED, CLOSE, CLOSE_SQUARE, COMMA, COMPARISON, DIST, FROM, INSIDE, MINUS, NAME, NUMBER, OPEN, OPEN_SQUARE, OR, OUTSIDE, PART, PLUS, POINT, PREFIX, Piece, RETRIEVE, SPHERE, STAR, TEXT, TIME, TRUTH, UNTIL, WHERE, WORD, has_long, is_long, lexemes_from, piece_of, pieces, pieces_from, reserved, signs, unquoted}
pub use Rattle.ftl_parser.specs.Sizes.{first_too_large}
pub use Rattle.ftl_parser.specs.Text.{assign_text, atom_text, bound_text, bound_word, factors_text, first_sign, formula_text, from_part_text, from_parts_text, in_brackets, later_factors, later_names, later_parts, later_sign, name_pair_text, names_text, op_word, query_text, sub_word, times_text, truth_word, unit_text, until_text}
unfoldable pub use Rattle.ftl_parser.specs.Text.{prefix_text}
pub use Rattle.ftl_parser.specs.TextLaws.{IsReadAs, PrintsQueryShortly, PrintsReadQuery, PrintsShorterThanFourLines, ReadsOneQuery, ReadsPrintedQuery, ReadsQueryAgain, TokensFit, token_bytes}
pub use Rattle.ftl_parser.specs.Tree.{QueryTree, Tree}
pub use Rattle.ftl_parser.specs.Words.{is_short, short_word}
pub use Rattle.ftl_parser.specs.declared.fault.ParseFault.{ParseFault}
pub use Rattle.ftl_parser.specs.declared.prefix.Prefix.{Prefix}
pub use Rattle.ftl_parser.specs.declared.scan.Coming.{Coming}
pub use Rattle.ftl_parser.specs.declared.state.Factor.{Factor}
pub use Rattle.ftl_parser.specs.declared.state.Head.{Head}
pub use Rattle.ftl_parser.specs.declared.state.Pair.{Pair}
pub use Rattle.ftl_parser.specs.declared.state.Spatial.{Spatial}
pub use Rattle.ftl_parser.specs.declared.state.TermPlace.{TermPlace}
pub use Rattle.ftl_parser.specs.declared.tree.FromPart.{FromPart}
pub use Rattle.ftl_parser.specs.declared.tree.Signed.{Signed}
pub use Rattle.ftl_parser.specs.declared.tree.Term.{Term}
pub use Rattle.ftl_parser.specs.inner.Machine.{AndWith, Arrow, Assigning, Body, BoundedBy, Bracket, Frame, Have, Heading, InSpatial, InTerm, OrWith, Phase, PrefixedBy, Reach, State, UntilWith, Variable, Want, Within, behind, behind_factor, body_end, body_step, closed, compared, ended_formula, ended_query, factor_begun, factor_ended, filled, lengthened, longer_or, parsed, precedence, reduced, reference, spatial_step, start, step_by_token, term_ended, term_step, tokens_taken, wanted, whole_factor}
pub use Rattle.ftl_parser.specs.inner.Scan.{coming, first_from, mark, place_before, scan}
pub use Rattle.ftl_parser.specs.inner.Views.{StaysBelow, spelled_view, stack_of}
