-- Which numbers of a query are out of the form or range of their places: for each token, by the rule that it stands in.
use Rattle.std.specs.Prelude.{ℕ, ℤ, Bool, false, not, List, [], ◌∷◌, ◌++◌, Option, map, position}
use Rattle.fixed_point.specs.declared.variants.UntilForm.{UntilForm}
use Rattle.ftl_parser.specs.declared.tree.Atom as atom_type
use Rattle.ftl_parser.specs.declared.tree.Unit as unit_type
use Rattle.ftl_parser.specs.declared.tree.Signed.{Signed}
use Rattle.ftl_parser.specs.Tree.{Tree, QueryTree}
use Rattle.ftl_parser.specs.Piece.{Piece}
use Rattle.ftl_parser.specs.Number.{Place, Ticks, Times, Literal, Radius, is_number_fit}
use Rattle.ftl_parser.specs.Grammar.{SpellsFactor, factor_number, factor_times, factor_text, factor_ref, SpellsTerm, term_first, term_minus_first, term_plus, term_minus, SpellsNum, num_plain, num_minus, SpellsAtom, atom_compare, atom_inside, atom_outside, atom_dist, atom_sphere, SpellsUntil, until_plain, until_within, until_after, Level, Spells, formula_conj, formula_or, conj_chain, conj_and, chain_unary, chain_until, unary_prefix, unary_bounded, unary_assign, unary_brackets, unary_truth, unary_atom, SpellsQuery, query}

-- a number that doesn't fit its place
abbrev pub unfit : Place → List ℕ → Bool
unfit place text = not (is_number_fit place text)

-- tokens without numbers
abbrev pub clear : List Piece → List Bool
clear = map (λ _. false)

abbrev pub factor_marks : {k : Option ℕ} {u : unit_type.Unit} {xs : List Piece} → SpellsFactor k u xs → List Bool
factor_marks (factor_number {n = n}) = unfit Literal n ∷ []
factor_marks (factor_times {n = n} {xs = xs} r) = unfit Times n ∷ false ∷ clear xs
factor_marks factor_text = false ∷ []
factor_marks (factor_ref {xs = xs} r) = clear xs

abbrev pub term_marks : {fs : List Signed} {xs : List Piece} → SpellsTerm fs xs → List Bool
term_marks (term_first d) = factor_marks d
term_marks (term_minus_first d) = false ∷ factor_marks d
term_marks (term_plus d e) = term_marks d ++ false ∷ factor_marks e
term_marks (term_minus d e) = term_marks d ++ false ∷ factor_marks e

abbrev pub num_marks : {c : ℤ} {xs : List Piece} → SpellsNum c xs → List Bool
num_marks (num_plain {n = n}) = unfit Literal n ∷ []
num_marks (num_minus {n = n}) = false ∷ unfit Literal n ∷ []

abbrev pub atom_marks : {a : atom_type.Atom} {xs : List Piece} → SpellsAtom a xs → List Bool
atom_marks (atom_compare d e) = term_marks d ++ false ∷ term_marks e
atom_marks atom_inside = false ∷ false ∷ false ∷ false ∷ false ∷ false ∷ []
atom_marks atom_outside = false ∷ false ∷ false ∷ false ∷ false ∷ false ∷ []
atom_marks (atom_dist d) = false ∷ false ∷ false ∷ false ∷ false ∷ false ∷ false ∷ num_marks d
atom_marks (atom_sphere {r = r} {xs = xs} d) = false ∷ false ∷ unfit Radius r ∷ false ∷ (clear xs ++ false ∷ [])

abbrev pub until_marks : {form : UntilForm} {n : ℕ} {xs : List Piece} → SpellsUntil form n xs → List Bool
until_marks until_plain = false ∷ []
until_marks (until_within {c = c}) = false ∷ unfit Ticks c ∷ []
until_marks (until_after {c = c}) = false ∷ unfit Ticks c ∷ []

abbrev pub marks : {l : Level} {f : Tree} {xs : List Piece} → Spells l f xs → List Bool
marks (formula_conj d) = marks d
marks (formula_or d e) = marks d ++ false ∷ marks e
marks (conj_chain d) = marks d
marks (conj_and d e) = marks d ++ false ∷ marks e
marks (chain_unary d) = marks d
marks (chain_until u d e) = marks d ++ (until_marks u ++ marks e)
marks (unary_prefix d) = false ∷ marks d
marks (unary_bounded {c = c} d) = false ∷ unfit Ticks c ∷ marks d
marks (unary_assign t d) = false ∷ false ∷ false ∷ (term_marks t ++ false ∷ marks d)
marks (unary_brackets d) = false ∷ (marks d ++ false ∷ [])
marks unary_truth = false ∷ []
marks (unary_atom d) = atom_marks d

abbrev pub query_marks : {q : QueryTree} {xs : List Piece} → SpellsQuery q xs → List Bool
query_marks (query {xs = xs} {ys = ys} ns ps d) = false ∷ (clear xs ++ false ∷ (clear ys ++ false ∷ marks d))

-- the first number that is out of the form or range of its place, by its token
abbrev pub first_unfit : {q : QueryTree} {xs : List Piece} → SpellsQuery q xs → Option ℕ
first_unfit d = position (λ mark. mark) (query_marks d)
