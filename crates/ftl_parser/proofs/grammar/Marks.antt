-- For this crate and for the crates above: the marks of a derivation are those that the tokens alone tell, and its
-- names and texts are those among the tokens.
use Rattle.ftl_parser.proofs.Names.{◌≡◌, ℕ, ℤ, Bool, false, List, [], ◌∷◌, ◌++◌, Option, position, IsTrue, refl, sym, ap, ◌∙◌, append_assoc, append-nil, map-append, Coming, Signed, FromPart, Tree, QueryTree, Piece, FROM, WHERE, AND, OR, UNTIL, CLOSE, CLOSE_SQUARE, COMMA, PLUS, MINUS, STAR, COMPARISON, NAME, NUMBER, Times, Literal, Radius, SpellsRef, ref_name, ref_attr, ref_part, ref_time, SpellsFactor, factor_number, factor_times, factor_text, factor_ref, SpellsTerm, term_first, term_minus_first, term_plus, term_minus, SpellsNum, num_plain, num_minus, SpellsNames, names_one, names_more, SpellsFromParts, parts_one, parts_more, SpellsAtom, atom_compare, atom_inside, atom_outside, atom_dist, atom_sphere, Level, Spells, formula_conj, formula_or, conj_chain, conj_and, chain_unary, chain_until, until_plain, until_within, until_after, unary_prefix, unary_bounded, unary_assign, unary_brackets, unary_truth, unary_atom, SpellsQuery, query, unfit, clear, factor_marks, term_marks, num_marks, atom_marks, marks, query_marks, first_unfit, scan, place_before}
use Rattle.fixed_point.specs.declared.variants.UntilForm.TheVariants as untils
use Rattle.ftl_parser.specs.declared.scan.Coming.TheVariants as comings
use Rattle.ftl_parser.specs.declared.tree.Atom as atom_type
use Rattle.ftl_parser.specs.declared.tree.Unit as unit_type
use Rattle.ftl_parser.specs.Number.{Ticks}
use Rattle.ftl_parser.proofs.grammar.Bodies.{cuts, never}

-- names and references have no numbers
pub scan-ref : {u : unit_type.Unit} {xs : List Piece} → SpellsRef u xs → (c : Coming) (rest : List Piece) → scan c (xs ++ rest)
    ≡ clear xs ++ scan comings.Factor rest
scan-ref ref_name c rest = refl
scan-ref ref_attr c rest = refl
scan-ref ref_part c rest = refl
scan-ref ref_time c rest = refl

-- tokens without numbers at the end of others
clear-more : (c : Coming) (xs ys rest : List Piece) → scan c (xs ++ (ys ++ rest)) ≡ clear xs ++ (clear ys ++ scan comings.Factor rest) →
    scan c ((xs ++ ys) ++ rest) ≡ clear (xs ++ ys) ++ scan comings.Factor rest
clear-more c xs ys rest h =
    ap (scan c) (append_assoc xs ys rest) ∙ h
    ∙ sym (ap (λ m. m ++ scan comings.Factor rest) (map-append (λ _. false) xs ys) ∙ append_assoc (clear xs) (clear ys) (scan comings.Factor rest))

pub scan-names : {ns : List (List ℕ)} {xs : List Piece} → SpellsNames ns xs → (c : Coming) (rest : List Piece) → scan c (xs ++ rest)
    ≡ clear xs ++ scan comings.Factor rest
scan-names names_one c rest = refl
scan-names (names_more {xs = xs} n d) c rest = clear-more c xs (COMMA ∷ NAME n ∷ []) rest (scan-names d c (COMMA ∷ NAME n ∷ rest))

pub scan-parts : {ps : List FromPart} {xs : List Piece} → SpellsFromParts ps xs → (c : Coming) (rest : List Piece) → scan c (xs ++ rest)
    ≡ clear xs ++ scan comings.Factor rest
scan-parts parts_one c rest = refl
scan-parts (parts_more {xs = xs} k v d) c rest = clear-more c xs (COMMA ∷ NAME k ∷ NAME v ∷ []) rest (scan-parts d c (COMMA ∷ NAME k ∷ NAME v ∷ rest))

-- a number that no `*` follows is a literal
literal-place : (rest : List Piece) → IsTrue (cuts rest) → place_before comings.Factor rest ≡ Literal
literal-place [] h = refl
literal-place (STAR ∷ rest) h = never h
literal-place (p ∷ rest) h = refl

scan-factor : {k : Option ℕ} {u : unit_type.Unit} {xs : List Piece} (d : SpellsFactor k u xs) (rest : List Piece) → IsTrue (cuts rest) →
    scan comings.Factor (xs ++ rest) ≡ factor_marks d ++ scan comings.Factor rest
scan-factor (factor_number {n = n}) rest h = ap (λ place. unfit place n ∷ scan comings.Factor rest) (literal-place rest h)
scan-factor (factor_times {n = n} r) rest h = ap (λ m. unfit Times n ∷ false ∷ m) (scan-ref r comings.Factor rest)
scan-factor factor_text rest h = refl
scan-factor (factor_ref r) rest h = scan-ref r comings.Factor rest

-- a token without a mark between two parts
joined : (m n : List Bool) (xs ys rest : List Piece) (p : Piece) →
    scan comings.Factor (xs ++ p ∷ (ys ++ rest)) ≡ m ++ scan comings.Factor (p ∷ (ys ++ rest)) →
    scan comings.Factor (p ∷ (ys ++ rest)) ≡ false ∷ (n ++ scan comings.Factor rest) →
    scan comings.Factor ((xs ++ p ∷ ys) ++ rest) ≡ (m ++ false ∷ n) ++ scan comings.Factor rest
joined m n xs ys rest p h k =
    ap (scan comings.Factor) (append_assoc xs (p ∷ ys) rest) ∙ h ∙ ap (λ t. m ++ t) k ∙ sym (append_assoc m (false ∷ n) (scan comings.Factor rest))

pub scan-term : {fs : List Signed} {xs : List Piece} (d : SpellsTerm fs xs) (rest : List Piece) → IsTrue (cuts rest) →
    scan comings.Factor (xs ++ rest) ≡ term_marks d ++ scan comings.Factor rest
scan-term (term_first d) rest h = scan-factor d rest h
scan-term (term_minus_first d) rest h = ap (λ m. false ∷ m) (scan-factor d rest h)
scan-term (term_plus {xs = xs} {ys = ys} d e) rest h =
    joined (term_marks d) (factor_marks e) xs ys rest PLUS (scan-term d (PLUS ∷ (ys ++ rest)) refl) (ap (λ m. false ∷ m) (scan-factor e rest h))
scan-term (term_minus {xs = xs} {ys = ys} d e) rest h =
    joined (term_marks d) (factor_marks e) xs ys rest MINUS (scan-term d (MINUS ∷ (ys ++ rest)) refl) (ap (λ m. false ∷ m) (scan-factor e rest h))

pub scan-num : {n : ℤ} {xs : List Piece} (d : SpellsNum n xs) (rest : List Piece) → IsTrue (cuts rest) →
    scan comings.Factor (xs ++ rest) ≡ num_marks d ++ scan comings.Factor rest
scan-num (num_plain {n = n}) rest h = ap (λ place. unfit place n ∷ scan comings.Factor rest) (literal-place rest h)
scan-num (num_minus {n = n}) rest h = ap (λ place. false ∷ unfit place n ∷ scan comings.Factor rest) (literal-place rest h)

pub scan-atom : {a : atom_type.Atom} {xs : List Piece} (d : SpellsAtom a xs) (rest : List Piece) → IsTrue (cuts rest) →
    scan comings.Factor (xs ++ rest) ≡ atom_marks d ++ scan comings.Factor rest
scan-atom (atom_compare {op = op} {xs = xs} {ys = ys} d e) rest h =
    joined (term_marks d) (term_marks e) xs ys rest (COMPARISON op) (scan-term d (COMPARISON op ∷ (ys ++ rest)) refl) (ap (λ m. false ∷ m) (scan-term e rest h))
scan-atom atom_inside rest h = refl
scan-atom atom_outside rest h = refl
scan-atom (atom_dist d) rest h = ap (λ m. false ∷ false ∷ false ∷ false ∷ false ∷ false ∷ false ∷ m) (scan-num d rest h)
scan-atom (atom_sphere {r = r} {xs = xs} d) rest h =
    ap (λ m. false ∷ false ∷ unfit Radius r ∷ false ∷ m)
    (joined (clear xs) [] xs [] rest CLOSE (scan-names d comings.Factor (CLOSE ∷ rest)) refl)

pub scan-formula : {l : Level} {f : Tree} {xs : List Piece} (d : Spells l f xs) (rest : List Piece) → IsTrue (cuts rest) →
    scan comings.Factor (xs ++ rest) ≡ marks d ++ scan comings.Factor rest
scan-formula (formula_conj d) rest h = scan-formula d rest h
scan-formula (formula_or {xs = xs} {ys = ys} d e) rest h =
    joined (marks d) (marks e) xs ys rest OR (scan-formula d (OR ∷ (ys ++ rest)) refl) (ap (λ m. false ∷ m) (scan-formula e rest h))
scan-formula (conj_chain d) rest h = scan-formula d rest h
scan-formula (conj_and {xs = xs} {ys = ys} d e) rest h =
    joined (marks d) (marks e) xs ys rest AND (scan-formula d (AND ∷ (ys ++ rest)) refl) (ap (λ m. false ∷ m) (scan-formula e rest h))
scan-formula (chain_unary d) rest h = scan-formula d rest h
scan-formula (chain_until {xs = xs} {ys = ys} until_plain d e) rest h =
    joined (marks d) (marks e) xs ys rest (UNTIL untils.Plain) (scan-formula d (UNTIL untils.Plain ∷ (ys ++ rest)) refl)
    (ap (λ m. false ∷ m) (scan-formula e rest h))
scan-formula (chain_until {xs = xs} {ys = ys} (until_within {c = c}) d e) rest h =
    joined (marks d) (unfit Ticks c ∷ marks e) xs (NUMBER c ∷ ys) rest (UNTIL untils.Within)
    (scan-formula d (UNTIL untils.Within ∷ NUMBER c ∷ (ys ++ rest)) refl)
    (ap (λ m. false ∷ unfit Ticks c ∷ m) (scan-formula e rest h))
scan-formula (chain_until {xs = xs} {ys = ys} (until_after {c = c}) d e) rest h =
    joined (marks d) (unfit Ticks c ∷ marks e) xs (NUMBER c ∷ ys) rest (UNTIL untils.After) (scan-formula d (UNTIL untils.After ∷ NUMBER c ∷ (ys ++ rest)) refl)
    (ap (λ m. false ∷ unfit Ticks c ∷ m) (scan-formula e rest h))
scan-formula (unary_prefix d) rest h = ap (λ m. false ∷ m) (scan-formula d rest h)
scan-formula (unary_bounded {c = c} d) rest h = ap (λ m. false ∷ unfit Ticks c ∷ m) (scan-formula d rest h)
scan-formula (unary_assign {xs = xs} {ys = ys} t d) rest h =
    ap (λ m. false ∷ false ∷ false ∷ m)
    (joined (term_marks t) (marks d) xs ys rest CLOSE_SQUARE (scan-term t (CLOSE_SQUARE ∷ (ys ++ rest)) refl) (ap (λ m. false ∷ m) (scan-formula d rest h)))
scan-formula (unary_brackets {xs = xs} d) rest h =
    ap (λ m. false ∷ m) (joined (marks d) [] xs [] rest CLOSE (scan-formula d (CLOSE ∷ rest) refl) refl)
scan-formula unary_truth rest h = refl
scan-formula (unary_atom d) rest h = scan-atom d rest h

-- a formula to the end of the tokens
scan-all : {l : Level} {f : Tree} (xs : List Piece) (d : Spells l f xs) → scan comings.Factor xs ≡ marks d
scan-all xs d = ap (scan comings.Factor) (sym (append-nil xs)) ∙ scan-formula d [] refl ∙ append-nil (marks d)

-- the marks of a query are those of its tokens
pub scan-query : {q : QueryTree} {xs : List Piece} (d : SpellsQuery q xs) → scan comings.Factor xs ≡ query_marks d
scan-query (query {xs = xs} {ys = ys} {zs = zs} names froms d) =
    ap (λ m. false ∷ m)
    (scan-names names comings.Factor (FROM ∷ (ys ++ WHERE ∷ zs))
    ∙ ap (λ m. clear xs ++ false ∷ m) (scan-parts froms comings.Factor (WHERE ∷ zs) ∙ ap (λ m. clear ys ++ false ∷ m) (scan-all zs d)))

-- the same, with the tokens and the query told
pub marks_are_scanned : (xs : List Piece) (q : QueryTree) (d : SpellsQuery q xs) → query_marks d ≡ scan comings.Factor xs
marks_are_scanned xs q d = sym (scan-query d)

-- the first number that doesn't fit is told by the tokens
pub first_unfit-scan : {q : QueryTree} {xs : List Piece} (d : SpellsQuery q xs) → first_unfit d ≡ position (λ mark. mark) (scan comings.Factor xs)
first_unfit-scan d = ap (position (λ mark. mark)) (sym (scan-query d))

-- which number is the first that doesn't fit depends on the tokens alone
pub one_first_unfit : (xs : List Piece) (q r : QueryTree) (d : SpellsQuery q xs) (e : SpellsQuery r xs) → first_unfit d ≡ first_unfit e
one_first_unfit xs q r d e = first_unfit-scan d ∙ sym (first_unfit-scan e)

-- the same, with the query and the tokens told
pub first_unfit_scan : (q : QueryTree) (xs : List Piece) (d : SpellsQuery q xs) → first_unfit d ≡ position (λ mark. mark) (scan comings.Factor xs)
first_unfit_scan q xs d = first_unfit-scan d
