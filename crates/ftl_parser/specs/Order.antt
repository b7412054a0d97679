-- The names, texts and terms of a query, in the order in which they are written: targets, then the class and the
-- variable of each part of FROM, then the formula; the name of an assignment before its term, and that before the
-- formula after it.
use Rattle.std.specs.Prelude.{ℕ, List, [], ◌∷◌, ◌++◌, flat_map}
use Rattle.formula_shape.specs.Sizes.{gathered}
use Rattle.ftl_parser.specs.declared.tree.Atom as atom_type
use Rattle.ftl_parser.specs.declared.tree.Atom.TheVariants as atoms
use Rattle.ftl_parser.specs.declared.tree.Unit as unit_type
use Rattle.ftl_parser.specs.declared.tree.Unit.TheVariants as units
use Rattle.ftl_parser.specs.declared.tree.Term.{Term}
use Rattle.ftl_parser.specs.declared.tree.Signed.{Signed}
use Rattle.ftl_parser.specs.declared.tree.FromPart.{FromPart}
use Rattle.ftl_parser.specs.Tree.{Tree, QueryTree}
use Rattle.ftl_parser.specs.Piece.{Piece, NAME, TEXT}
use Rattle.ftl_parser.specs.Grammar.{SpellsTerm, term_of}

-- ---- what a query lists, where what a name lists and what a text lists are given

-- these two
pub record Lists (R : Type 0) : Type 0 where
  pub name : List ℕ → List R
  pub text : List ℕ → List R

abbrev pub unit_lists : {R : Type 0} → Lists R → unit_type.Unit → List R
unit_lists l (units.Literal n) = []
unit_lists l (units.Text t) = l.text t
unit_lists l (units.Alone o) = l.name o
unit_lists l (units.Attr o a) = l.name o ++ l.name a
unit_lists l (units.Sub o a s) = l.name o ++ l.name a
unit_lists l units.Time = []

abbrev pub factors_list : {R : Type 0} → Lists R → List Signed → List R
factors_list l fs = flat_map (λ f. unit_lists l f.unit) fs

abbrev pub term_lists : {R : Type 0} → Lists R → Term → List R
term_lists l t = factors_list l t.factors

abbrev pub atom_lists : {R : Type 0} → Lists R → atom_type.Atom → List R
atom_lists l (atoms.Compare t op u) = term_lists l t ++ term_lists l u
atom_lists l (atoms.Inside o p) = l.name o ++ l.name p
atom_lists l (atoms.Outside o p) = l.name o ++ l.name p
atom_lists l (atoms.Dist o n op c) = l.name o ++ l.name n
atom_lists l (atoms.Sphere r ns) = flat_map l.name ns

abbrev pub formula_lists : {R : Type 0} → Lists R → Tree → List R
formula_lists l = gathered (atom_lists l) (λ bound. l.name bound.0 ++ term_lists l bound.1)

abbrev pub part_lists : {R : Type 0} → Lists R → FromPart → List R
part_lists l part = l.name part.class ++ l.name part.var

abbrev pub query_lists : {R : Type 0} → Lists R → QueryTree → List R
query_lists l q = flat_map l.name q.targets ++ (flat_map (part_lists l) q.from ++ formula_lists l q.formula)

-- the same of tokens
abbrev pub piece_lists : {R : Type 0} → Lists R → Piece → List R
piece_lists l (NAME n) = l.name n
piece_lists l (TEXT t) = l.text t
piece_lists l p = []

abbrev pub token_lists : {R : Type 0} → Lists R → List Piece → List R
token_lists l = flat_map (piece_lists l)

-- ---- names, and texts

abbrev pub names_alone : Lists (List ℕ)
names_alone = record { name = λ n. n ∷ []; text = λ t. [] }

abbrev pub texts_alone : Lists (List ℕ)
texts_alone = record { name = λ n. []; text = λ t. t ∷ [] }

-- the names of a unit, a term, an atom, a formula and a query, and those among tokens
abbrev pub unit_names : unit_type.Unit → List (List ℕ)
unit_names = unit_lists names_alone

abbrev pub term_names : Term → List (List ℕ)
term_names = term_lists names_alone

abbrev pub atom_names : atom_type.Atom → List (List ℕ)
atom_names = atom_lists names_alone

abbrev pub formula_names : Tree → List (List ℕ)
formula_names = formula_lists names_alone

abbrev pub query_names : QueryTree → List (List ℕ)
query_names = query_lists names_alone

abbrev pub token_names : List Piece → List (List ℕ)
token_names = token_lists names_alone

-- the texts of a query, and those among tokens
abbrev pub query_texts : QueryTree → List (List ℕ)
query_texts = query_lists texts_alone

abbrev pub token_texts : List Piece → List (List ℕ)
token_texts = token_lists texts_alone

-- ---- terms

abbrev pub atom_terms : atom_type.Atom → List Term
atom_terms (atoms.Compare t op u) = t ∷ u ∷ []
atom_terms (atoms.Inside o p) = []
atom_terms (atoms.Outside o p) = []
atom_terms (atoms.Dist o n op c) = []
atom_terms (atoms.Sphere r ns) = []

abbrev pub formula_terms : Tree → List Term
formula_terms = gathered atom_terms (λ bound. bound.1 ∷ [])

abbrev pub query_terms : QueryTree → List Term
query_terms q = formula_terms q.formula

-- runs of the tokens spell the terms, one after the other, with other tokens before, between and after them
pub data TermsIn : List Term → List Piece → Type 0 where
  no_more_terms : {xs : List Piece} → TermsIn [] xs
  next_term : {fs : List Signed} {ts : List Term} {ys zs : List Piece} (xs : List Piece) →
      SpellsTerm fs ys → TermsIn ts zs → TermsIn (term_of fs ∷ ts) (xs ++ (ys ++ zs))
