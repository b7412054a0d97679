-- Small queries, worked out by hand.
use Rattle.std.specs.Prelude.{◌≡◌, ℕ, zero, suc, pos, negsuc, true, false, List, [], ◌∷◌, ◌++◌, Some, None, codes, replicate}
use Rattle.fixed_point.specs.declared.variants.BoundForm.TheVariants as bounds
use Rattle.fixed_point.specs.declared.variants.UntilForm.TheVariants as untils
use Rattle.fixed_point.specs.declared.variants.SubName.TheVariants as subs
use Rattle.case_table.specs.declared.compare.Op.TheVariants as ops
use Rattle.ftl_lexer.specs.declared.kinds.Kind.TheVariants as kinds
use Rattle.formula_shape.specs.Shape.{Shape}
use Rattle.ftl_parser.specs.declared.fault.Size.TheVariants as sizes
use Rattle.ftl_parser.specs.declared.tree.Atom.TheVariants as atoms
use Rattle.ftl_parser.specs.declared.tree.Unit.TheVariants as units
use Rattle.ftl_parser.specs.declared.prefix.Prefix.TheVariants as prefixes
use Rattle.ftl_parser.specs.Tree.{Tree, QueryTree}
use Rattle.ftl_parser.specs.Piece.{Piece, RETRIEVE, FROM, WHERE, AND, OR, TRUTH, PREFIX, BOUNDED, UNTIL, INSIDE, DIST, SPHERE, TIME, PART, OPEN, CLOSE, OPEN_SQUARE, CLOSE_SQUARE, COMMA, POINT, MINUS, STAR, ARROW, COMPARISON, NAME, NUMBER, TEXT, has_long}
use Rattle.ftl_parser.specs.Grammar.{from_part, term_of, signed, SpellsQuery, query, names_one, parts_one, formula_conj, conj_chain, chain_unary, unary_atom, atom_dist, num_plain}
use Rattle.ftl_parser.specs.Number.{literal}
use Rattle.ftl_parser.specs.Marks.{first_unfit}
use Rattle.ftl_parser.specs.Sizes.{first_too_large}
use Rattle.ftl_parser.specs.inner.Machine.{start, parsed, tokens_taken}

abbrev pub o : List ℕ
o = codes "o"

abbrev pub n : List ℕ
n = codes "n"

abbrev pub c : List ℕ
c = codes "c"

-- RETRIEVE o FROM c o WHERE, and some tokens
abbrev pub asking : List Piece → List Piece
asking tokens = RETRIEVE ∷ (NAME o ∷ []) ++ FROM ∷ (NAME c ∷ NAME o ∷ []) ++ WHERE ∷ tokens

-- the query for o of c with this formula
abbrev pub query_for_o : Tree → QueryTree
query_for_o f = record { targets = o ∷ []; from = from_part c o ∷ []; formula = f }

abbrev pub true_formula : Tree
true_formula = Shape.Truth true

abbrev pub false_formula : Tree
false_formula = Shape.Truth false

-- the trees of tokens after WHERE
pub record ParsesSmallQueries : Type 0 where
  -- ((TRUE))
  pub brackets : parsed start (asking (OPEN ∷ OPEN ∷ TRUTH true ∷ CLOSE ∷ CLOSE ∷ [])) ≡ Some (query_for_o true_formula)
  -- TRUE OR FALSE AND TRUE
  pub and_binds_more : parsed start (asking (TRUTH true ∷ OR ∷ TRUTH false ∷ AND ∷ TRUTH true ∷ [])) ≡ Some (query_for_o (Shape.Or true_formula (Shape.And false_formula true_formula)))
  -- TRUE AND FALSE AND TRUE
  pub and_to_the_left : parsed start (asking (TRUTH true ∷ AND ∷ TRUTH false ∷ AND ∷ TRUTH true ∷ []))
      ≡ Some (query_for_o (Shape.And (Shape.And true_formula false_formula) true_formula))
  -- TRUE UNTIL FALSE UNTIL_WITHIN 5 TRUE
  pub until_to_the_right :
      parsed start (asking (TRUTH true ∷ UNTIL untils.Plain ∷ TRUTH false ∷ UNTIL untils.Within ∷ NUMBER (codes "5") ∷ TRUTH true ∷ []))
      ≡ Some (query_for_o (Shape.Until untils.Plain 0 true_formula (Shape.Until untils.Within 5 false_formula true_formula)))
  -- NOT TRUE AND EVENTUALLY_WITHIN 07 FALSE
  pub unary_binds_most :
      parsed start (asking (PREFIX prefixes.Not ∷ TRUTH true ∷ AND ∷ BOUNDED bounds.Within ∷ NUMBER (codes "07") ∷ TRUTH false ∷ []))
      ≡ Some (query_for_o (Shape.And (Shape.Not true_formula) (Shape.Bounded bounds.Within 7 false_formula)))
  -- [n <- 2 * o.x.function - n] o.x = "a"
  pub assignment :
      parsed start (asking (OPEN_SQUARE ∷ NAME n ∷ ARROW ∷ NUMBER (codes "2") ∷ STAR ∷ NAME o ∷ POINT ∷ NAME c ∷ POINT ∷ PART subs.Function
      ∷ MINUS ∷ NAME n ∷ CLOSE_SQUARE
      ∷ NAME o ∷ POINT ∷ NAME c ∷ COMPARISON ops.Eq ∷ TEXT (codes "a") ∷ []))
      ≡ Some (query_for_o (Shape.Assign (n, term_of (signed false (Some 2) (units.Sub o c subs.Function) ∷ signed true None (units.Alone n) ∷ []))
      (Shape.Atom (atoms.Compare (term_of (signed false None (units.Attr o c) ∷ [])) ops.Eq (term_of (signed false None (units.Text (codes "a")) ∷ []))))))
  -- - TIME < 0.5 OR WITHIN_SPHERE(3.4,o,n)
  pub term_ends :
      parsed start (asking (MINUS ∷ TIME ∷ COMPARISON ops.Lt ∷ NUMBER (codes "0.5") ∷ OR ∷ SPHERE ∷ OPEN ∷ NUMBER (codes "3.4") ∷ COMMA
      ∷ NAME o ∷ COMMA ∷ NAME n ∷ CLOSE ∷ []))
      ≡ Some (query_for_o (Shape.Or (Shape.Atom (atoms.Compare (term_of (signed true None units.Time ∷ [])) ops.Lt
      (term_of (signed false None (units.Literal (pos 500)) ∷ []))))
      (Shape.Atom (atoms.Sphere (pos 3400) (o ∷ n ∷ [])))))
  -- INSIDE(o,c) AND DIST(o,n) >= -1
  pub spatial :
      parsed start (asking (INSIDE ∷ OPEN ∷ NAME o ∷ COMMA ∷ NAME c ∷ CLOSE ∷ AND ∷ DIST ∷ OPEN ∷ NAME o ∷ COMMA ∷ NAME n ∷ CLOSE
      ∷ COMPARISON ops.Ge ∷ MINUS ∷ NUMBER (codes "1") ∷ []))
      ≡ Some (query_for_o (Shape.And (Shape.Atom (atoms.Inside o c)) (Shape.Atom (atoms.Dist o n ops.Ge (negsuc 999)))))
  -- a bracket that isn't closed, and one that isn't open
  pub unclosed : parsed start (asking (OPEN ∷ TRUTH true ∷ [])) ≡ None
  pub unopened : tokens_taken start (asking (TRUTH true ∷ CLOSE ∷ [])) ≡ 7

-- TRUE AND: all tokens begin a query, but are none
pub record StopsAtTheEnd : Type 0 where
  pub all_taken : tokens_taken start (asking (TRUTH true ∷ AND ∷ [])) ≡ 8
  pub no_query : parsed start (asking (TRUTH true ∷ AND ∷ [])) ≡ None

-- DIST(o,n) <= NUMBER, by its rules
abbrev pub distance : (k : List ℕ) → SpellsQuery (query_for_o (Shape.Atom (atoms.Dist o n ops.Le (literal k))))
    (asking (DIST ∷ OPEN ∷ NAME o ∷ COMMA ∷ NAME n ∷ CLOSE ∷ COMPARISON ops.Le ∷ NUMBER k ∷ []))
distance k = query names_one parts_one (formula_conj (conj_chain (chain_unary (unary_atom (atom_dist num_plain)))))

-- a number past 10^12 thousandths, and one with four decimals, don't fit
pub record FindsUnfitNumbers : Type 0 where
  pub largest : first_unfit (distance (codes "1000000000")) ≡ None
  pub past : first_unfit (distance (codes "1000000000.001")) ≡ Some 13
  pub four_decimals : first_unfit (distance (codes "0.0001")) ≡ Some 13

-- so many times NOT before a formula
abbrev pub nots : ℕ → Tree → Tree
nots zero f = f
nots (suc k) f = Shape.Not (nots k f)

-- so many assignments, one in the other
abbrev pub nested_assignments : ℕ → Tree
nested_assignments zero = true_formula
nested_assignments (suc k) = Shape.Assign (n, term_of []) (nested_assignments k)

-- so many variables of FROM
abbrev pub with_variables : ℕ → QueryTree
with_variables k = record { targets = o ∷ []; from = replicate k (from_part c o); formula = nested_assignments 3 }

abbrev pub circle_formula : ℕ → Tree
circle_formula k = Shape.Atom (atoms.Sphere (pos 0) (replicate k o))

abbrev pub sum : ℕ → Tree
sum k = Shape.Atom (atoms.Compare (term_of []) ops.Eq (term_of (replicate k (signed false None units.Time))))

-- each limit, and the first one that is passed
pub record JudgesSizes : Type 0 where
  pub small : first_too_large false (query_for_o (nested_assignments 2)) ≡ None
  pub variables : first_too_large false (with_variables 5) ≡ Some sizes.Variables
  pub later_one : first_too_large false (with_variables 4) ≡ Some sizes.Assignments
  pub objects : first_too_large false (query_for_o (Shape.And (circle_formula 5) (nested_assignments 3))) ≡ Some sizes.Objects
  pub four_objects : first_too_large false (query_for_o (circle_formula 4)) ≡ None
  pub depth : first_too_large false (query_for_o (nots 32 true_formula)) ≡ Some sizes.Depth
  pub deepest : first_too_large false (query_for_o (nots 31 true_formula)) ≡ None
  pub length : first_too_large (has_long ((kinds.Name, replicate 33 97) ∷ [])) (query_for_o true_formula) ≡ Some sizes.Length
  pub longest : first_too_large (has_long ((kinds.Name, replicate 32 97) ∷ [])) (query_for_o true_formula) ≡ None
  pub factors : first_too_large false (query_for_o (sum 17)) ≡ Some sizes.Factors
  pub most_factors : first_too_large false (query_for_o (sum 16)) ≡ None
