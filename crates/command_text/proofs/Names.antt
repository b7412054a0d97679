-- The names of which lemmas speak, each passed on by one line.
pub use Rattle.std.specs.Prelude.{Err, IfErr, IfOk, MatchResult, Ok, OnErr, OnOk, Result, int_le, is_none, nat_le, ◌==◌, ◌⊎◌}
unfoldable pub use Rattle.std.specs.Fmt.{digits}
pub use Rattle.std.proofs.Common.{eqb-true}
pub use Rattle.std.proofs.lemmas.Bool.{and_from}
pub use Rattle.std.proofs.lemmas.Bool.Decides.{Decides-eqb}
pub use Rattle.std.proofs.lemmas.List.{drop-append-le, drop-drop, drop-map, drop_at, length-drop, length-take-le, take-append-drop, take-append-le, take_all}
pub use Rattle.std.proofs.lemmas.Option.{slice_get-map, slice_get_past}
pub use Rattle.std.proofs.lemmas.Slice.Eq.{bytes_eq-Decides}
pub use Rattle.exact.specs.First.{first_that_holds}
pub use Rattle.exact.specs.Options.{◌>>=◌}
unfoldable pub use Rattle.case_table.specs.Language.{refusal_names}
pub use Rattle.case_table.specs.Rows.{word_of}
pub use Rattle.case_table.specs.declared.key.TheConstants.{ASK, AT, CLASS, DROP, DYN, EXPORT, IMPORT, INSERT, KEEP, LIST, MOVE, NUM, POINT as POINT_WORD, QUIT, RATE, RATE as RATE_WORD, REGION, REMOVE, SAVE, SHOW, TEXT as TEXT_WORD, TICK, UPDATE, WATCH}
pub use Rattle.case_table.specs.declared.symbol.TheConstants.{ASSIGN, CLOSE_ROUND as CLOSE_SIGN, CLOSE_SQUARE as CLOSE_SQUARE_SIGN, COMMA as COMMA_SIGN, EQUAL as EQUAL_SIGN, MINUS as MINUS_SIGN, OPEN_ROUND as OPEN_SIGN, OPEN_SQUARE as OPEN_SQUARE_SIGN}
pub use Rattle.fixed_point.specs.declared.number.Point.{Point}
pub use Rattle.geometry.specs.declared.limits.TheConstants.{VERTEX_LIMIT}
pub use Rattle.motion.specs.Function.{Function, are_firsts, is_length_of, level}
pub use Rattle.motion.specs.declared.cell.AttrKind.{AttrKind}
pub use Rattle.motion.specs.declared.cell.Given.{Given}
pub use Rattle.motion.specs.declared.cell.NamedSet.{NamedSet}
pub use Rattle.motion.specs.declared.cell.Place.{Place}
pub use Rattle.motion.specs.declared.legs.TheConstants.{MOST_FIRSTS}
pub use Rattle.motion.specs.declared.limits.TheConstants.{ATTRIBUTE_LIMIT, CAPACITY_LIMIT}
pub use Rattle.ftl_lexer.specs.Forms.{begins_name, continues_name, is_blank}
pub use Rattle.ftl_lexer.specs.declared.kinds.Token.{Token}
pub use Rattle.ftl_parser.specs.Lawful.{IsName}
pub use Rattle.ftl_parser.specs.Order.{piece_lists, texts_alone, token_texts}
pub use Rattle.ftl_parser.proofs.Names.{ARROW, PLUS, POINT, RETRIEVE, STAR, has_long, is_long, is_short, lexemes_from, pieces_from, reserved, short_word, signs, slice_get_within, unquoted, AllByRecursion, AllDigits, Bool, HasForm, HaveForms, IsDecimal, IsQuoted, IsReadAs, IsTrue, IsUnsigned, Kind, LAST_TICK, Lexeme, List, None, Option, QueryTree, RADIUS_LIMIT, READ_LIMIT, ReadsQuery, Some, SpellsQuery, WORD_LIMIT, [], add-one, and_parts, ap, append-nil, append_assoc, ap₂, arith, bad_place, bytes_eq, bytes_of_token, cases_Bool, code_of, codes, cond, decimal, decimal_is_IsNumeral, decimals_value, digit_value, digits_len, digits_value, eqb, false, first_too_large, first_unfit, fix_text, flat_map, fraction_len, has_no_quote, if◌then◌else◌, inl, inr, is_ascii_digit, is_number, is_some, is_word, leb, leb-true, length, length-append, length-map, length-take, lexemes, list_all, list_any, ltb, map, map-append, max, nat_tests, neg_ℤ, negsuc, not, number_len, option_and_then, option_map, option_map_or, or_parts, parsed, decimals_text, pos, query_text, refl, sign_text, slice_get, start, subst, suc, sum_by-cons, sym, take, take_at, tokens_of, true, unsigned_abs, unwrap_or, up_to, whole_of, with_sign, word_kind, zero, ℕ, ℤ, ◌&&◌, ◌*◌, ◌++◌, ◌+◌, ◌-◌, ◌<◌, ◌^◌, ◌||◌, ◌∙◌, ◌∷◌, ◌≡◌, ◌≤◌}
unfoldable pub use Rattle.ftl_parser.proofs.Names.{cut, reserved_words, symbols, token_at}
pub use Rattle.command_text.specs.Grammar.{Notes, SpellsAt, SpellsAttr, SpellsAttrs, SpellsChange, SpellsCommand, SpellsGiven, SpellsMoreAttrs, SpellsMoveLegs, SpellsMoves, SpellsMoving, SpellsNumAt, SpellsPair, SpellsPart, SpellsParts, SpellsPointWord, SpellsPoints, SpellsRateLegs, SpellsRates, SpellsSettings, and_number, and_size, attr_dyn, attr_num, attr_text, by_parts, change, first_notes, given_num, good, last_part, last_query, legs_of_x, legs_of_y, no_attrs, no_more_attrs, no_move_legs, no_parts, no_point_word, no_points, no_rate_legs, no_settings, not_at, not_moving, num_minus, num_plain, one_more_attr, one_move_leg, one_point, one_rate_leg, one_setting, part_attrs, part_before, part_change, part_error, part_name, part_num, part_point_word, part_points, part_text, part_verb, part_whole, place_with, point_of, radius_at, set_of, signed_at, token_of, whole_at}
pub use Rattle.command_text.specs.GrammarLaws.{AreReadByTheGrammar, IsFaultOf, IsJudgedByTokens, IsReadByTheGrammar, IsRefusedByTheGrammar, IsSpelled, PassesTheFirstThree, SpellsNoCommand, SpellsWithinLimits}
pub use Rattle.exact.specs.First.{or_else}
pub use Rattle.command_text.specs.Line.{IsRead, early_refusal, first_refusal, has_bad_token, has_other_byte, is_ascii, is_comment, is_too_long, late_refusal}
unfoldable pub use Rattle.command_text.specs.Line.{command_in}
pub use Rattle.command_text.specs.Parts.{Asking, Attrs, Blank, Change, Error, Last, Name, Num, Part, Parts, PointWord, Points, Quoted, Verb, Whole, is_verb, parts, ◌▸◌}
pub use Rattle.command_text.specs.Piece.{CLOSE, CLOSE_SQUARE, COMMA, COMPARISON, MINUS, NAME, NUMBER, OPEN, OPEN_SQUARE, Piece, TEXT, WORD, has_short_words, line_pieces, piece_of}
pub use Rattle.command_text.specs.Ranges.{Capacity, Nearest, Rate, SignedPlace, Span, Steps, Value, WholePlace, Width, negated, radius_in, signed_in, whole_in}
pub use Rattle.command_text.specs.Shape.{AreAttributes, AreLegs, AreMoves, AreParts, AreVertices, IsAscii, IsAtPoint, IsAttribute, IsChange, IsFrom, IsLeg, IsMoving, IsPart, IsPoint, IsPrintable, IsPrintableGiven, IsQuery, IsRate, IsSetting, IsShortName, IsShortText, IsSignedIn, IsValue, IsWholeIn, IsWidth}
pub use Rattle.command_text.specs.Sizes.{are_few_attributes, are_few_legs, are_few_vertices, function_of}
pub use Rattle.command_text.specs.Text.{at_text, attrs_text, move_leg_text, move_legs_text, moves_text, moving_text, next_attr_text, object_change_text, pair_text, parts_text, points_text, quoted, rate_leg_text, rates_text, setting_text, settings_text}
unfoldable pub use Rattle.command_text.specs.Text.{text_of}
pub use Rattle.command_text.specs.TextLaws.{PrintsLines, PrintsShortly, PrintsWhatIsRead, PrintsWithinFourLimits, ReadsAgain, ReadsLinesAgain, ReadsWhatIsPrinted}
pub use Rattle.command_text.specs.Tree.{CommandTree, command_view}
pub use Rattle.command_text.specs.declared.at.At.{At}
pub use Rattle.command_text.specs.declared.command.Command.{Command}
pub use Rattle.command_text.specs.declared.fault.CommandFault.{CommandFault}
pub use Rattle.command_text.specs.declared.refusal.Refusal.{Refusal}
pub use Rattle.command_text.specs.inner.LineParts.{IsBegun, IsWholeCommand, Refuses, RefusesAtEnd, TellsBadPlace, is_at_end}
pub use Rattle.command_text.specs.inner.Query.{fault_by_parser}
unfoldable pub use Rattle.command_text.specs.inner.Query.{is_query_fit, is_query_small, query_of}
pub use Rattle.command_text.specs.inner.Reading.{Read, Reader, all, at_first, before, by_key, by_name, by_token, ended, front, given_moves, to_end, kind_in, kind_by_code, notes, noting_fit, noting_small, settings, with_front}
unfoldable pub use Rattle.command_text.specs.inner.Reading.{ask, attr, attrs, begins, class, class_head, command, command_begun, command_of, export, first_attr, given, given_both as read_both, given_equal, given_rate as read_rate, given_text as read_text, given_value, import, index, insert, insert_head, keep, key, many, may, minus, move_leg, must, must_head, name, nearest, next, next_attr, num, number, place, point, points, query, radius, range, rate, rate_leg, region, remove, save, setting, show, sign, signed_number, some_moves, text, tick, update, watch, watch_head, whole}
pub use Rattle.command_text.specs.inner.Standing.{StopsPart, standing}
pub use Rattle.command_text.specs.inner.Tests.{is_key, is_name, is_sign, is_text, name_in, number_in, sign_code, text_in}
