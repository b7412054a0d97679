-- The grammar of commands: which tokens spell which tree, a constructor for each rule of a part.
--
--   num      := ['-'] NUMBER
--   pt       := '(' num ',' num ')'
--   attr     := NAME ( 'num' | 'text' | 'dyn' )
--   rates    := ('[' num ',' NUMBER ']')* num
--   moves    := ('[' pt ',' NUMBER ']')* pt
--   setting  := NAME '=' num ['rate' rates] | NAME '=' TEXT | NAME 'rate' rates
--
-- The rules of the commands stand in Parts.antt. A number out of the form or range of its place stands for 0, and legs
-- that make no function for rest.
use Rattle.std.specs.Prelude.{ℕ, ℤ, pos, Bool, true, false, ◌&&◌, List, [], ◌∷◌, ◌++◌, map, length, Option, None, Some, is_some, is_none, unwrap_or, IsTrue}
use Rattle.case_table.specs.declared.key.TheConstants.{POINT as POINT_WORD, NUM, TEXT as TEXT_WORD, DYN, AT, MOVE, RATE}
use Rattle.case_table.specs.declared.compare.Op.TheVariants as ops
use Rattle.fixed_point.specs.declared.number.Point.{Point}
use Rattle.motion.specs.Function.{Function}
use Rattle.motion.specs.declared.cell.AttrKind.{AttrKind}
use Rattle.motion.specs.declared.cell.AttrKind.TheVariants as attr_kinds
use Rattle.motion.specs.declared.cell.Given.{Given}
use Rattle.motion.specs.declared.cell.Given.TheVariants as givens
use Rattle.motion.specs.declared.cell.NamedSet.{NamedSet}
use Rattle.motion.specs.declared.cell.Place.{Place}
use Rattle.ftl_lexer.specs.Forms.{word_kind}
use Rattle.ftl_parser.specs.Tree.{QueryTree}
use Rattle.ftl_parser.specs.Grammar.{SpellsQuery}
use Rattle.ftl_parser.specs.Marks.{first_unfit}
use Rattle.command_text.specs.Parts.{Part, Verb, Name, Quoted, Whole, Error, Num, PointWord, Attrs, Points, Change, Parts, Blank, Last, Asking, ◌▸◌, is_verb, parts}
use Rattle.command_text.specs.Piece.{Piece, MINUS, OPEN, CLOSE, OPEN_SQUARE, CLOSE_SQUARE, COMMA, COMPARISON, NAME, NUMBER, TEXT, WORD, piece_of, has_short_words}
use Rattle.command_text.specs.Ranges.{WholePlace, Steps, whole_in, radius_in, SignedPlace, Value, Rate, signed_in}
use Rattle.command_text.specs.Sizes.{are_few_legs, function_of, are_few_attributes, are_few_vertices}
use Rattle.command_text.specs.inner.Query.{is_query_small}
use Rattle.command_text.specs.Tree.{CommandTree}

abbrev pub whole_at : WholePlace → List ℕ → ℕ
whole_at place n = unwrap_or (whole_in place n) 0

abbrev pub radius_at : List ℕ → ℤ
radius_at n = unwrap_or (radius_in n) (pos 0)

abbrev pub signed_at : SignedPlace → Bool → List ℕ → ℤ
signed_at place minus n = unwrap_or (signed_in place minus n) (pos 0)

abbrev pub point_of : ℤ → ℤ → Point
point_of x y = record { x = x; y = y }

abbrev pub set_of : List ℕ → Given → NamedSet
set_of name given = record { name = name; given = given }

abbrev pub place_with : Option Point → Option (Function × Function) → Place
place_with at moving = record { at = at; moving = moving }

-- of legs of both coordinates those of one
abbrev pub legs_of_x : List ((ℤ × ℤ) × ℕ) → List (ℤ × ℕ)
legs_of_x = map (λ leg. (leg.0.0, leg.1))

abbrev pub legs_of_y : List ((ℤ × ℤ) × ℕ) → List (ℤ × ℕ)
legs_of_y = map (λ leg. (leg.0.1, leg.1))

-- what is known of the numbers and of the sizes so far: whether each is in the range of its place, and within its limit. The
-- lengths of names and texts are known of the whole line.
abbrev pub Notes : Type 0
Notes = Bool × Bool

abbrev pub good : Notes
good = (true, true)

-- what is known of a line before its first token
abbrev pub first_notes : List ℕ → Notes
first_notes line = (true, has_short_words line)

abbrev pub and_number : Notes → Bool → Notes
and_number s fit = (s.0 && fit, s.1)

abbrev pub and_size : Notes → Bool → Notes
and_size s small = (s.0, s.1 && small)

-- Each rule leads from what is known before its tokens to what is known after them.

-- num
pub data SpellsNumAt : SignedPlace → ℤ → Notes → Notes → List Piece → Type 0 where
  num_plain : {place : SignedPlace} {n : List ℕ} {s : Notes} →
      SpellsNumAt place (signed_at place false n) s (and_number s (is_some (signed_in place false n))) (NUMBER n ∷ [])
  num_minus : {place : SignedPlace} {n : List ℕ} {s : Notes} →
      SpellsNumAt place (signed_at place true n) s (and_number s (is_some (signed_in place true n))) (MINUS ∷ NUMBER n ∷ [])

-- pt, of coordinates or of slopes
pub data SpellsPair : SignedPlace → ℤ → ℤ → Notes → Notes → List Piece → Type 0 where
  pair : {place : SignedPlace} {x y : ℤ} {xs ys : List Piece} {s t u : Notes} →
      SpellsNumAt place x s t xs → SpellsNumAt place y t u ys →
      SpellsPair place x y s u (OPEN ∷ (xs ++ COMMA ∷ (ys ++ CLOSE ∷ [])))

-- attr
pub data SpellsAttr : List ℕ × AttrKind → Notes → Notes → List Piece → Type 0 where
  attr_num : {n : List ℕ} {s : Notes} → SpellsAttr (n, attr_kinds.Num) s s (NAME n ∷ WORD NUM ∷ [])
  attr_text : {n : List ℕ} {s : Notes} → SpellsAttr (n, attr_kinds.Text) s s (NAME n ∷ WORD TEXT_WORD ∷ [])
  attr_dyn : {n : List ℕ} {s : Notes} → SpellsAttr (n, attr_kinds.Dyn) s s (NAME n ∷ WORD DYN ∷ [])

-- (',' attr)*
pub data SpellsMoreAttrs : List (List ℕ × AttrKind) → Notes → Notes → List Piece → Type 0 where
  no_more_attrs : {s : Notes} → SpellsMoreAttrs [] s s []
  one_more_attr : {a : List ℕ × AttrKind} {xs : List Piece} {rest : List (List ℕ × AttrKind)} {ys : List Piece} {s t u : Notes} →
      SpellsAttr a s t xs → SpellsMoreAttrs rest t u ys → SpellsMoreAttrs (a ∷ rest) s u (COMMA ∷ (xs ++ ys))

-- ['(' attr (',' attr)* ')']
pub data SpellsAttrs : List (List ℕ × AttrKind) → Notes → Notes → List Piece → Type 0 where
  no_attrs : {s : Notes} → SpellsAttrs [] s s []
  some_attrs : {a : List ℕ × AttrKind} {xs : List Piece} {rest : List (List ℕ × AttrKind)} {ys : List Piece} {s t u : Notes} →
      SpellsAttr a s t xs → SpellsMoreAttrs rest t u ys →
      SpellsAttrs (a ∷ rest) s (and_size u (are_few_attributes (length (a ∷ rest)))) (OPEN ∷ (xs ++ (ys ++ CLOSE ∷ [])))

-- pt*
pub data SpellsPoints : List Point → Notes → Notes → List Piece → Type 0 where
  no_points : {s : Notes} → SpellsPoints [] s s []
  one_point : {x y : ℤ} {xs : List Piece} {ps : List Point} {ys : List Piece} {s t u : Notes} →
      SpellsPair Value x y s t xs → SpellsPoints ps t u ys → SpellsPoints (point_of x y ∷ ps) s u (xs ++ ys)

-- ('[' num ',' NUMBER ']')*
pub data SpellsRateLegs : List (ℤ × ℕ) → Notes → Notes → List Piece → Type 0 where
  no_rate_legs : {s : Notes} → SpellsRateLegs [] s s []
  one_rate_leg : {a : ℤ} {xs : List Piece} (n : List ℕ) {ls : List (ℤ × ℕ)} {ys : List Piece} {s t u : Notes} →
      SpellsNumAt Rate a s t xs → SpellsRateLegs ls (and_number t (is_some (whole_in Steps n))) u ys →
      SpellsRateLegs ((a, whole_at Steps n) ∷ ls) s u (OPEN_SQUARE ∷ (xs ++ COMMA ∷ NUMBER n ∷ CLOSE_SQUARE ∷ ys))

-- rates
pub data SpellsRates : Function → Notes → Notes → List Piece → Type 0 where
  rates : {ls : List (ℤ × ℕ)} {xs : List Piece} {a : ℤ} {ys : List Piece} {s t u : Notes} →
      SpellsRateLegs ls s t xs → SpellsNumAt Rate a t u ys → SpellsRates (function_of ls a) s (and_size u (are_few_legs (length ls))) (xs ++ ys)

-- ('[' pt ',' NUMBER ']')*, each a pair of slopes and a length
pub data SpellsMoveLegs : List ((ℤ × ℤ) × ℕ) → Notes → Notes → List Piece → Type 0 where
  no_move_legs : {s : Notes} → SpellsMoveLegs [] s s []
  one_move_leg : {a b : ℤ} {xs : List Piece} (n : List ℕ) {ls : List ((ℤ × ℤ) × ℕ)} {ys : List Piece} {s t u : Notes} →
      SpellsPair Rate a b s t xs → SpellsMoveLegs ls (and_number t (is_some (whole_in Steps n))) u ys →
      SpellsMoveLegs (((a, b), whole_at Steps n) ∷ ls) s u (OPEN_SQUARE ∷ (xs ++ COMMA ∷ NUMBER n ∷ CLOSE_SQUARE ∷ ys))

-- moves
pub data SpellsMoves : Function × Function → Notes → Notes → List Piece → Type 0 where
  moves : {ls : List ((ℤ × ℤ) × ℕ)} {xs : List Piece} {a b : ℤ} {ys : List Piece} {s t u : Notes} →
      SpellsMoveLegs ls s t xs → SpellsPair Rate a b t u ys →
      SpellsMoves (function_of (legs_of_x ls) a, function_of (legs_of_y ls) b) s (and_size u (are_few_legs (length ls))) (xs ++ ys)

-- what a setting gives, after its name
pub data SpellsGiven : Given → Notes → Notes → List Piece → Type 0 where
  given_num : {v : ℤ} {xs : List Piece} {s t : Notes} → SpellsNumAt Value v s t xs → SpellsGiven (givens.Num v) s t (COMPARISON ops.Eq ∷ xs)
  given_both : {v : ℤ} {xs : List Piece} {f : Function} {ys : List Piece} {s t u : Notes} →
      SpellsNumAt Value v s t xs → SpellsRates f t u ys → SpellsGiven (givens.Both v f) s u (COMPARISON ops.Eq ∷ (xs ++ WORD RATE ∷ ys))
  given_text : {w : List ℕ} {s : Notes} → SpellsGiven (givens.Text w) s s (COMPARISON ops.Eq ∷ TEXT w ∷ [])
  given_rate : {f : Function} {xs : List Piece} {s t : Notes} → SpellsRates f s t xs → SpellsGiven (givens.Rate f) s t (WORD RATE ∷ xs)

-- setting*
pub data SpellsSettings : List NamedSet → Notes → Notes → List Piece → Type 0 where
  no_settings : {s : Notes} → SpellsSettings [] s s []
  one_setting : {n : List ℕ} {g : Given} {xs : List Piece} {ss : List NamedSet} {ys : List Piece} {s t u : Notes} →
      SpellsGiven g s t xs → SpellsSettings ss t u ys → SpellsSettings (set_of n g ∷ ss) s u (NAME n ∷ (xs ++ ys))

-- ['at' pt]
pub data SpellsAt : Option Point → Notes → Notes → List Piece → Type 0 where
  not_at : {s : Notes} → SpellsAt None s s []
  at : {x y : ℤ} {xs : List Piece} {s t : Notes} → SpellsPair Value x y s t xs → SpellsAt (Some (point_of x y)) s t (WORD AT ∷ xs)

-- ['move' moves]
pub data SpellsMoving : Option (Function × Function) → Notes → Notes → List Piece → Type 0 where
  not_moving : {s : Notes} → SpellsMoving None s s []
  moving : {m : Function × Function} {xs : List Piece} {s t : Notes} → SpellsMoves m s t xs → SpellsMoving (Some m) s t (WORD MOVE ∷ xs)

-- ['at' pt] ['move' moves] setting*
pub data SpellsChange : Place → List NamedSet → Notes → Notes → List Piece → Type 0 where
  change : {p : Option Point} {xs : List Piece} {m : Option (Function × Function)} {ys : List Piece} {ss : List NamedSet} {zs : List Piece} {s t u v : Notes} →
      SpellsAt p s t xs → SpellsMoving m t u ys → SpellsSettings ss u v zs → SpellsChange (place_with p m) ss s v (xs ++ (ys ++ zs))

-- ['point']
pub data SpellsPointWord : Bool → List Piece → Type 0 where
  no_point_word : SpellsPointWord false []
  point_word : SpellsPointWord true (WORD POINT_WORD ∷ [])

-- a word of the language, or else a name, as a token
abbrev pub token_of : List ℕ → Piece
token_of word = piece_of (word_kind word) word

-- a part of a command
pub data SpellsPart : Part → Notes → Notes → List Piece → Type 0 where
  part_verb : {w : List ℕ} {s : Notes} → IsTrue (is_verb w) → SpellsPart (Verb w) s s (token_of w ∷ [])
  part_name : {n : List ℕ} {s : Notes} → SpellsPart (Name n) s s (NAME n ∷ [])
  part_text : {w : List ℕ} {s : Notes} → SpellsPart (Quoted w) s s (TEXT w ∷ [])
  part_whole : {place : WholePlace} {n : List ℕ} {s : Notes} →
      SpellsPart (Whole place (whole_at place n)) s (and_number s (is_some (whole_in place n))) (NUMBER n ∷ [])
  part_error : {n : List ℕ} {s : Notes} → SpellsPart (Error (radius_at n)) s (and_number s (is_some (radius_in n))) (NUMBER n ∷ [])
  part_num : {place : SignedPlace} {v : ℤ} {xs : List Piece} {s t : Notes} → SpellsNumAt place v s t xs → SpellsPart (Num place v) s t xs
  part_point_word : {b : Bool} {xs : List Piece} {s : Notes} → SpellsPointWord b xs → SpellsPart (PointWord b) s s xs
  part_attrs : {attrs : List (List ℕ × AttrKind)} {xs : List Piece} {s t : Notes} → SpellsAttrs attrs s t xs → SpellsPart (Attrs attrs) s t xs
  part_points : {p q r : Point} {ps : List Point} {xs : List Piece} {s t : Notes} →
      SpellsPoints (p ∷ q ∷ r ∷ ps) s t xs → SpellsPart (Points (p ∷ q ∷ r ∷ ps)) s (and_size t (are_few_vertices (length (p ∷ q ∷ r ∷ ps)))) xs
  part_change : {p : Place} {ss : List NamedSet} {xs : List Piece} {s t : Notes} → SpellsChange p ss s t xs → SpellsPart (Change p ss) s t xs

-- parts, one after another
pub data SpellsParts : Parts → Notes → Notes → List Piece → Type 0 where
  no_parts : {s : Notes} → SpellsParts Blank s s []
  last_part : {p : Part} {xs : List Piece} {s t : Notes} → SpellsPart p s t xs → SpellsParts (Last p) s t xs
  last_query : {q : QueryTree} {xs : List Piece} {s : Notes} → (d : SpellsQuery q xs) →
      SpellsParts (Asking q) s (and_size (and_number s (is_none (first_unfit d))) (is_query_small q)) xs
  part_before : {p : Part} {ps : Parts} {xs ys : List Piece} {s t u : Notes} →
      SpellsPart p s t xs → SpellsParts ps t u ys → SpellsParts (p ▸ ps) s u (xs ++ ys)

-- a command
pub data SpellsCommand : CommandTree → Notes → Notes → List Piece → Type 0 where
  by_parts : {c : CommandTree} {xs : List Piece} {s t : Notes} → SpellsParts (parts c) s t xs → SpellsCommand c s t xs
