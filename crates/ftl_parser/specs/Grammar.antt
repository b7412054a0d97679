-- The grammar of queries: which tokens spell which tree, a constructor for each rule.
--
--   query    := RETRIEVE NAME (',' NAME)* FROM NAME NAME (',' NAME NAME)* WHERE formula
--   formula  := conj (OR conj)*
--   conj     := chain (AND chain)*
--   chain    := unary [ untilop chain ]
--   untilop  := UNTIL | UNTIL_WITHIN NUMBER | UNTIL_AFTER NUMBER
--   unary    := NOT unary | NEXTTIME unary | EVENTUALLY unary | ALWAYS unary
--             | EVENTUALLY_WITHIN NUMBER unary | EVENTUALLY_AFTER NUMBER unary | ALWAYS_FOR NUMBER unary
--             | '[' NAME '<-' term ']' unary | '(' formula ')' | TRUE | FALSE | atom
--   atom     := term cmp term
--             | INSIDE '(' NAME ',' NAME ')' | OUTSIDE '(' NAME ',' NAME ')'
--             | DIST '(' NAME ',' NAME ')' cmp num
--             | WITHIN_SPHERE '(' NUMBER (',' NAME) (',' NAME)* ')'
--   num      := ['-'] NUMBER
--   term     := ['-'] factor ( ('+' | '-') factor )*
--   factor   := NUMBER ['*' ref] | TEXT | ref
--   ref      := NAME ['.' NAME ['.' ('value' | 'updatetime' | 'function')]] | TIME
--
-- What may stand any number of times is built from the left. A number out of the form or range of its place stands for 0.
use Rattle.std.specs.Prelude.{ℕ, ℤ, neg_ℤ, Bool, true, false, List, [], ◌∷◌, ◌++◌, Option, None, Some}
use Rattle.fixed_point.specs.declared.variants.BoundForm.{BoundForm}
use Rattle.fixed_point.specs.declared.variants.UntilForm.{UntilForm}
use Rattle.fixed_point.specs.declared.variants.UntilForm.TheVariants as untils
use Rattle.fixed_point.specs.declared.variants.SubName.{SubName}
use Rattle.case_table.specs.declared.compare.Op.{Op}
use Rattle.formula_shape.specs.Shape.{Shape}
use Rattle.ftl_parser.specs.declared.tree.Atom as atom_type
use Rattle.ftl_parser.specs.declared.tree.Atom.TheVariants as atoms
use Rattle.ftl_parser.specs.declared.tree.Unit as unit_type
use Rattle.ftl_parser.specs.declared.tree.Unit.TheVariants as units
use Rattle.ftl_parser.specs.declared.tree.Term.{Term}
use Rattle.ftl_parser.specs.declared.tree.Signed.{Signed}
use Rattle.ftl_parser.specs.declared.tree.FromPart.{FromPart}
use Rattle.ftl_parser.specs.declared.prefix.Prefix.{Prefix}
use Rattle.ftl_parser.specs.declared.prefix.Prefix.TheVariants as prefixes
use Rattle.ftl_parser.specs.Tree.{Tree, QueryTree}
use Rattle.ftl_parser.specs.Piece.{Piece, RETRIEVE, FROM, WHERE, AND, OR, TRUTH, PREFIX, BOUNDED, UNTIL, INSIDE, OUTSIDE, DIST, SPHERE, TIME, PART, OPEN, CLOSE, OPEN_SQUARE, CLOSE_SQUARE, COMMA, POINT, PLUS, MINUS, STAR, ARROW, COMPARISON, NAME, NUMBER, TEXT}
use Rattle.ftl_parser.specs.Number.{ticks, times, literal, radius_of}

-- a word before a formula, as a tree
abbrev pub prefixed : Prefix → Tree → Tree
prefixed prefixes.Not f = Shape.Not f
prefixed prefixes.Next f = Shape.Next f
prefixed prefixes.Eventually f = Shape.Eventually f
prefixed prefixes.Always f = Shape.Always f

-- factors, as a term
abbrev pub term_of : List Signed → Term
term_of factors = record { factors = factors }

-- one factor with its sign and multiplier
abbrev pub signed : Bool → Option ℕ → unit_type.Unit → Signed
signed minus times unit = record { minus = minus; times = times; unit = unit }

abbrev pub from_part : List ℕ → List ℕ → FromPart
from_part class var = record { class = class; var = var }

-- a name, an attribute, a part of one, or TIME
pub data SpellsRef : unit_type.Unit → List Piece → Type 0 where
  ref_name : {o : List ℕ} → SpellsRef (units.Alone o) (NAME o ∷ [])
  ref_attr : {o a : List ℕ} → SpellsRef (units.Attr o a) (NAME o ∷ POINT ∷ NAME a ∷ [])
  ref_part : {o a : List ℕ} {s : SubName} → SpellsRef (units.Sub o a s) (NAME o ∷ POINT ∷ NAME a ∷ POINT ∷ PART s ∷ [])
  ref_time : SpellsRef units.Time (TIME ∷ [])

-- a factor without its sign: its multiplier, and what it is made of
pub data SpellsFactor : Option ℕ → unit_type.Unit → List Piece → Type 0 where
  factor_number : {n : List ℕ} → SpellsFactor None (units.Literal (literal n)) (NUMBER n ∷ [])
  factor_times : {n : List ℕ} {u : unit_type.Unit} {xs : List Piece} →
      SpellsRef u xs → SpellsFactor (Some (times n)) u (NUMBER n ∷ STAR ∷ xs)
  factor_text : {t : List ℕ} → SpellsFactor None (units.Text t) (TEXT t ∷ [])
  factor_ref : {u : unit_type.Unit} {xs : List Piece} → SpellsRef u xs → SpellsFactor None u xs

-- the factors of a term
pub data SpellsTerm : List Signed → List Piece → Type 0 where
  term_first : {k : Option ℕ} {u : unit_type.Unit} {xs : List Piece} →
      SpellsFactor k u xs → SpellsTerm (signed false k u ∷ []) xs
  term_minus_first : {k : Option ℕ} {u : unit_type.Unit} {xs : List Piece} →
      SpellsFactor k u xs → SpellsTerm (signed true k u ∷ []) (MINUS ∷ xs)
  term_plus : {fs : List Signed} {xs : List Piece} {k : Option ℕ} {u : unit_type.Unit} {ys : List Piece} →
      SpellsTerm fs xs → SpellsFactor k u ys → SpellsTerm (fs ++ signed false k u ∷ []) (xs ++ PLUS ∷ ys)
  term_minus : {fs : List Signed} {xs : List Piece} {k : Option ℕ} {u : unit_type.Unit} {ys : List Piece} →
      SpellsTerm fs xs → SpellsFactor k u ys → SpellsTerm (fs ++ signed true k u ∷ []) (xs ++ MINUS ∷ ys)

-- a number with a sign or none
pub data SpellsNum : ℤ → List Piece → Type 0 where
  num_plain : {n : List ℕ} → SpellsNum (literal n) (NUMBER n ∷ [])
  num_minus : {n : List ℕ} → SpellsNum (neg_ℤ (literal n)) (MINUS ∷ NUMBER n ∷ [])

-- names with commas between them
pub data SpellsNames : List (List ℕ) → List Piece → Type 0 where
  names_one : {n : List ℕ} → SpellsNames (n ∷ []) (NAME n ∷ [])
  names_more : {ns : List (List ℕ)} {xs : List Piece} (n : List ℕ) →
      SpellsNames ns xs → SpellsNames (ns ++ n ∷ []) (xs ++ COMMA ∷ NAME n ∷ [])

-- classes and variables with commas between the pairs
pub data SpellsFromParts : List FromPart → List Piece → Type 0 where
  parts_one : {c v : List ℕ} → SpellsFromParts (from_part c v ∷ []) (NAME c ∷ NAME v ∷ [])
  parts_more : {ps : List FromPart} {xs : List Piece} (c v : List ℕ) →
      SpellsFromParts ps xs → SpellsFromParts (ps ++ from_part c v ∷ []) (xs ++ COMMA ∷ NAME c ∷ NAME v ∷ [])

pub data SpellsAtom : atom_type.Atom → List Piece → Type 0 where
  atom_compare : {fs gs : List Signed} {op : Op} {xs ys : List Piece} →
      SpellsTerm fs xs → SpellsTerm gs ys → SpellsAtom (atoms.Compare (term_of fs) op (term_of gs)) (xs ++ COMPARISON op ∷ ys)
  atom_inside : {o p : List ℕ} →
      SpellsAtom (atoms.Inside o p) (INSIDE ∷ OPEN ∷ NAME o ∷ COMMA ∷ NAME p ∷ CLOSE ∷ [])
  atom_outside : {o p : List ℕ} →
      SpellsAtom (atoms.Outside o p) (OUTSIDE ∷ OPEN ∷ NAME o ∷ COMMA ∷ NAME p ∷ CLOSE ∷ [])
  atom_dist : {o n : List ℕ} {op : Op} {c : ℤ} {xs : List Piece} →
      SpellsNum c xs → SpellsAtom (atoms.Dist o n op c) (DIST ∷ OPEN ∷ NAME o ∷ COMMA ∷ NAME n ∷ CLOSE ∷ COMPARISON op ∷ xs)
  atom_sphere : {r : List ℕ} {ns : List (List ℕ)} {xs : List Piece} →
      SpellsNames ns xs → SpellsAtom (atoms.Sphere (radius_of r) ns) (SPHERE ∷ OPEN ∷ NUMBER r ∷ COMMA ∷ (xs ++ CLOSE ∷ []))

-- the levels of formulas, from the one that binds least
pub data Level : Type 0 where
  formula : Level
  conj : Level
  chain : Level
  unary : Level

-- an until, with its number of ticks where it has one
pub data SpellsUntil : UntilForm → ℕ → List Piece → Type 0 where
  until_plain : SpellsUntil untils.Plain 0 (UNTIL untils.Plain ∷ [])
  until_within : {c : List ℕ} → SpellsUntil untils.Within (ticks c) (UNTIL untils.Within ∷ NUMBER c ∷ [])
  until_after : {c : List ℕ} → SpellsUntil untils.After (ticks c) (UNTIL untils.After ∷ NUMBER c ∷ [])

pub data Spells : Level → Tree → List Piece → Type 0 where
  formula_conj : {f : Tree} {xs : List Piece} → Spells conj f xs → Spells formula f xs
  formula_or : {f g : Tree} {xs ys : List Piece} →
      Spells formula f xs → Spells conj g ys → Spells formula (Shape.Or f g) (xs ++ OR ∷ ys)
  conj_chain : {f : Tree} {xs : List Piece} → Spells chain f xs → Spells conj f xs
  conj_and : {f g : Tree} {xs ys : List Piece} →
      Spells conj f xs → Spells chain g ys → Spells conj (Shape.And f g) (xs ++ AND ∷ ys)
  chain_unary : {f : Tree} {xs : List Piece} → Spells unary f xs → Spells chain f xs
  chain_until : {form : UntilForm} {n : ℕ} {f g : Tree} {xs us ys : List Piece} →
      SpellsUntil form n us → Spells unary f xs → Spells chain g ys →
      Spells chain (Shape.Until form n f g) (xs ++ (us ++ ys))
  unary_prefix : {w : Prefix} {f : Tree} {xs : List Piece} →
      Spells unary f xs → Spells unary (prefixed w f) (PREFIX w ∷ xs)
  unary_bounded : {form : BoundForm} {c : List ℕ} {f : Tree} {xs : List Piece} →
      Spells unary f xs → Spells unary (Shape.Bounded form (ticks c) f) (BOUNDED form ∷ NUMBER c ∷ xs)
  unary_assign : {v : List ℕ} {fs : List Signed} {f : Tree} {xs ys : List Piece} →
      SpellsTerm fs xs → Spells unary f ys →
      Spells unary (Shape.Assign (v, term_of fs) f) (OPEN_SQUARE ∷ NAME v ∷ ARROW ∷ (xs ++ CLOSE_SQUARE ∷ ys))
  unary_brackets : {f : Tree} {xs : List Piece} →
      Spells formula f xs → Spells unary f (OPEN ∷ (xs ++ CLOSE ∷ []))
  unary_truth : {b : Bool} → Spells unary (Shape.Truth b) (TRUTH b ∷ [])
  unary_atom : {a : atom_type.Atom} {xs : List Piece} → SpellsAtom a xs → Spells unary (Shape.Atom a) xs

pub data SpellsQuery : QueryTree → List Piece → Type 0 where
  query : {ns : List (List ℕ)} {ps : List FromPart} {f : Tree} {xs ys zs : List Piece} →
      SpellsNames ns xs → SpellsFromParts ps ys → Spells formula f zs →
      SpellsQuery (record { targets = ns; from = ps; formula = f }) (RETRIEVE ∷ (xs ++ FROM ∷ (ys ++ WHERE ∷ zs)))
