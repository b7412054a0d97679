-- For this crate and for the crates above: a printed query is read back: its text is cut into tokens that spell
-- it, and its numbers are in the ranges of their places.
use Rattle.ftl_parser.proofs.Names.{◌≡◌, ℕ, suc, ◌≤◌, Bool, true, false, not, List, [], ◌∷◌, ◌++◌, length, append_assoc, append-nil, Option, None, Some, ℤ, pos, negsuc, IsTrue, refl, sym, ap, subst, ◌∙◌, arith, cond, ltb, codes, decimal, position, neg_ℤ, unsigned_abs, AllByRecursion, flat_map, prefix_len, nat_tests, fix_text, READ_LIMIT, BoundForm, UntilForm, SubName, Op, code_of, reserved_words, symbols, token_at, Lexeme, cut, is_word, lexemes, bad_place, LAST_TICK, Shape, Prefix, Signed, FromPart, Tree, QueryTree, Piece, TRUTH, PREFIX, BOUNDED, UNTIL, SPHERE, PART, OPEN, CLOSE, OPEN_SQUARE, CLOSE_SQUARE, COMMA, POINT, MINUS, STAR, ARROW, COMPARISON, NAME, NUMBER, piece_of, pieces, pieces_from, lexemes_from, has_long, is_number_fit, Literal, Radius, Times, SpellsRef, ref_name, ref_attr, ref_part, ref_time, SpellsFactor, factor_number, factor_times, factor_text, factor_ref, SpellsTerm, term_first, term_minus_first, term_plus, term_minus, SpellsNum, num_plain, num_minus, SpellsNames, names_one, names_more, SpellsFromParts, parts_one, parts_more, SpellsAtom, atom_compare, atom_inside, atom_outside, atom_dist, atom_sphere, SpellsUntil, formula, unary, Spells, formula_conj, formula_or, conj_chain, conj_and, chain_unary, chain_until, until_plain, until_within, until_after, unary_prefix, unary_bounded, unary_assign, unary_brackets, unary_truth, unary_atom, SpellsQuery, query, prefixed, signed, term_of, unfit, clear, factor_marks, term_marks, num_marks, atom_marks, until_marks, marks, query_marks, first_unfit, first_too_large, OneOrMore, IsShortName, IsQuotable, IsFromPart, IsRef, IsUnit, IsMultiple, IsFactor, IsAtom, AreUntilTicks, IsFormula, IsPrintableQuery, truth_word, bound_word, sub_word, op_word, later_names, names_text, from_part_text, from_parts_text, unit_text, times_text, first_sign, later_sign, factors_text, name_pair_text, atom_text, until_text, prefix_text, assign_text, in_brackets, formula_text, query_text, IsReadAs, ReadsPrintedQuery, ReadsQueryAgain}
use Rattle.fixed_point.specs.declared.variants.BoundForm.TheVariants as bounds
use Rattle.fixed_point.specs.declared.variants.UntilForm.TheVariants as untils
use Rattle.fixed_point.specs.declared.variants.SubName.TheVariants as subs
use Rattle.case_table.specs.declared.compare.Op.TheVariants as ops
use Rattle.case_table.specs.declared.symbol.TheConstants as signs
use Rattle.ftl_lexer.specs.declared.kinds.Kind.TheVariants as kinds
use Rattle.ftl_lexer.proofs.Cuts.{lexemes_from_cut}
use Rattle.ftl_parser.specs.declared.prefix.Prefix.TheVariants as prefixes
use Rattle.ftl_parser.specs.declared.tree.Atom as atom_type
use Rattle.ftl_parser.specs.declared.tree.Atom.TheVariants as atoms
use Rattle.ftl_parser.specs.declared.tree.Unit as unit_type
use Rattle.ftl_parser.specs.declared.tree.Unit.TheVariants as units
use Rattle.ftl_parser.specs.Number.{Ticks}
use Rattle.ftl_parser.specs.Text as text
use Rattle.ftl_parser.proofs.canonical.TextShapes.{prints_what_is_read, small_short}
use Rattle.ftl_parser.proofs.canonical.TextTokens.{Anything, Ends, blank_ends, open_ends, close_ends, comma_ends, square_ends, IsCut, CutBefore, ReadsBefore, blank_first, put, no_cut, name_cut, key_cut, number_cut, text_cut, led, spaced_cut, closed_word, then_cut, closed_cut, parted, apart_cut, same_cut, reads, read_last}
use Rattle.ftl_parser.proofs.canonical.TextValues.{decimal_is_number, fix_is_number, minus_text, literal_again, literal_fits, radius_again, radius_fits, ticks_again, ticks_fit, times_again, times_fit}

-- ---- marks, none of which is set

abbrev AreClear : List Bool → Type 0
AreClear = AllByRecursion (λ mark. mark ≡ false)

no_marks : (xs : List Piece) → AreClear (clear xs)
no_marks [] = tt
no_marks (x ∷ xs) = (refl, no_marks xs)

joined : (front back : List Bool) → AreClear front → AreClear back → AreClear (front ++ back)
joined [] back f b = b
joined (m ∷ front) back f b = (f.0, joined front back f.1 b)

all_counted : (ms : List Bool) → AreClear ms → prefix_len not ms ≡ length ms
all_counted [] c = refl
all_counted (m ∷ ms) c = rw (c.0, all_counted ms c.1) (omega arith)

not_below : (n : ℕ) → ltb n n ≡ false
not_below n = grind (arith, nat_tests)

none_found : (ms : List Bool) → AreClear ms → position (λ mark. mark) ms ≡ None
none_found ms c =
    ap (λ (n : ℕ). cond (ltb n (length ms)) (Some n) None) (all_counted ms c)
    ∙ ap (λ (b : Bool). cond b (Some (length ms)) None) (not_below (length ms))

fitting : (b : Bool) → b ≡ true → not b ≡ false
fitting b h = rw h refl

-- ---- the tokens of queries, of which nothing more is asked

abbrev Anyhow : Lexeme → Type 0
Anyhow t = Unit {0}

abbrev Cut : (List ℕ → Type 0) → List ℕ → List Piece → Type 0
Cut = CutBefore Anyhow

-- a part that may end with a name or a number
abbrev Reads : List ℕ → (List Piece → Type 0) → Type 0
Reads = ReadsBefore Anyhow Ends

name_reads : (name : List ℕ) → IsShortName name → Cut Ends name (NAME name ∷ [])
name_reads name is = closed_word (name_cut name is tt)

-- a reserved word at the end of a part, and one with a space after it
key_last : (code : ℕ) (word : List ℕ) → IsTrue (is_word word) → code_of reserved_words word ≡ Some code
    → Cut Ends word (piece_of (kinds.Key code) word ∷ [])
key_last code word is found = closed_word (key_cut code word is found tt)

key_first : (code : ℕ) (word : List ℕ) → IsTrue (is_word word) → code_of reserved_words word ≡ Some code
    → Cut Anything (word ++ (32 ∷ [])) (piece_of (kinds.Key code) word ∷ [])
key_first code word is found = apart_cut (key_last code word is found) no_cut

-- a comparison before a space
compared : {Later : List ℕ → Type 0} {part : List ℕ} {tokens : List Piece} (op : Op) → Cut Later part tokens
    → Cut Later (op_word op ++ (32 ∷ part)) (COMPARISON op ∷ tokens)
unfolding cut token_at symbols
compared ops.Lt c = record { again = λ rest ps ends is. put (kinds.Sym 13) (codes "<") (blank_first (c.again rest ps ends is)) refl refl tt }
compared ops.Le c = record { again = λ rest ps ends is. put (kinds.Sym 11) (codes "<=") (blank_first (c.again rest ps ends is)) refl refl tt }
compared ops.Eq c = record { again = λ rest ps ends is. put (kinds.Sym 9) (codes "=") (blank_first (c.again rest ps ends is)) refl refl tt }
compared ops.Ne c = record { again = λ rest ps ends is. put (kinds.Sym 10) (codes "!=") (blank_first (c.again rest ps ends is)) refl refl tt }
compared ops.Ge c = record { again = λ rest ps ends is. put (kinds.Sym 12) (codes ">=") (blank_first (c.again rest ps ends is)) refl refl tt }
compared ops.Gt c = record { again = λ rest ps ends is. put (kinds.Sym 14) (codes ">") (blank_first (c.again rest ps ends is)) refl refl tt }

bound_to : {Later : List ℕ → Type 0} {part : List ℕ} {tokens : List Piece} → Cut Later part tokens → Cut Later (60 ∷ 45 ∷ part) (ARROW ∷ tokens)
unfolding cut token_at symbols
bound_to c = record { again = λ rest ps ends is. put (kinds.Sym 15) (codes "<-") (c.again rest ps ends is) refl refl tt }

-- ---- names, attributes and their parts

sub_cut : (part : SubName) → Cut Ends (sub_word part) (PART part ∷ [])
unfolding reserved_words
sub_cut subs.Value = key_last 22 (codes "value") refl refl
sub_cut subs.UpdateTime = key_last 23 (codes "updatetime") refl refl
sub_cut subs.Function = key_last 24 (codes "function") refl refl

-- a name and a point before others
dotted : (o : List ℕ) {part : List ℕ} {tokens : List Piece} → IsShortName o → Cut Ends part tokens → Cut Ends (o ++ (46 ∷ part)) (NAME o ∷ POINT ∷ tokens)
unfolding symbols
dotted o is later = parted (λ rest. refl) (name_cut o is tt) (led signs.POINT 46 refl refl tt later)

ref_reads : (u : unit_type.Unit) → IsRef IsShortName u → Reads (unit_text u) (SpellsRef u)
unfolding reserved_words
ref_reads (units.Literal n) shape = absurd shape
ref_reads (units.Text t) shape = absurd shape
ref_reads (units.Alone o) shape = reads ref_name (name_reads o shape)
ref_reads (units.Attr o a) shape = reads ref_attr (same_cut (dotted o shape.0 (name_reads a shape.1)) (simp append_assoc))
ref_reads (units.Sub o a s) shape = reads ref_part (same_cut (dotted o shape.0 (dotted a shape.1 (sub_cut s))) (simp append_assoc))
ref_reads units.Time shape = reads ref_time (key_last 21 (codes "TIME") refl refl)

-- ---- factors

abbrev FactorOf : Option ℕ → unit_type.Unit → List Piece → Type 0
FactorOf k u xs = (d : SpellsFactor k u xs) × AreClear (factor_marks d)

plain_ref : (u : unit_type.Unit) → Reads (unit_text u) (SpellsRef u) → Reads (unit_text u) (FactorOf None u)
plain_ref u r = reads (factor_ref r.spelled, no_marks r.tokens) r.cut

unit_reads : (u : unit_type.Unit) → IsUnit IsShortName IsQuotable u → Reads (unit_text u) (FactorOf None u)
unit_reads (units.Literal (pos n)) shape =
    let number : List ℕ = fix_text (pos n) in
    reads (subst (λ (v : ℤ). FactorOf None (units.Literal v) (NUMBER number ∷ [])) (literal_again n shape)
    (factor_number, (fitting (is_number_fit Literal number) (literal_fits n shape), tt))) (number_cut number (fix_is_number n shape) tt)
unit_reads (units.Literal (negsuc n)) shape = absurd shape
unit_reads (units.Text t) shape = reads (factor_text, (refl, tt)) (text_cut t shape tt)
unit_reads u shape = plain_ref u (ref_reads u shape)

factor_reads : (k : Option ℕ) (u : unit_type.Unit) → IsMultiple IsShortName IsQuotable k u → Reads (times_text k ++ unit_text u) (FactorOf k u)
unfolding symbols
factor_reads None u shape = unit_reads u shape
factor_reads (Some k) u shape =
    let r : Reads (unit_text u) (SpellsRef u) = ref_reads u shape.1 in
    let number : Cut Ends (decimal k) (NUMBER (decimal k) ∷ []) = number_cut (decimal k) (decimal_is_number k (omega (arith, shape.0))) tt in
    reads (subst (λ (n : ℕ). FactorOf (Some n) u (NUMBER (decimal k) ∷ STAR ∷ r.tokens)) (times_again k shape.0)
    (factor_times r.spelled, (fitting (is_number_fit Times (decimal k)) (times_fit k shape.0), (refl, no_marks r.tokens))))
    (same_cut (apart_cut number (led signs.TIMES 42 refl refl tt (spaced_cut r.cut))) (simp append_assoc))

-- ---- what may stand any number of times

module _ {X : Type 0} (item : X → List ℕ) (Q : X → Type 0) (Spelled : List X → List Piece → Type 0)
    (step : (xs : List X) (front : List ℕ) → Reads front (Spelled xs) → (x : X) → Q x → Reads (front ++ item x) (Spelled (xs ++ x ∷ []))) where
  more_read : (xs later : List X) (front : List ℕ) → Reads front (Spelled xs) → AllByRecursion Q later
      → Reads (front ++ flat_map item later) (Spelled (xs ++ later))
  more_read xs [] front r all =
      subst (λ (ys : List X). Reads (front ++ []) (Spelled ys)) (sym (append-nil xs)) (reads r.spelled (same_cut r.cut (append-nil front)))
  more_read xs (x ∷ later) front r all =
      let read : Reads ((front ++ item x) ++ flat_map item later) (Spelled ((xs ++ x ∷ []) ++ later)) =
      more_read (xs ++ x ∷ []) later (front ++ item x) (step xs front r x all.0) all.1 in
      subst (λ (ys : List X). Reads (front ++ flat_map item (x ∷ later)) (Spelled ys)) (append_assoc xs (x ∷ []) later)
      (reads read.spelled (same_cut read.cut (sym (append_assoc front (item x) (flat_map item later)))))

-- ---- terms

abbrev TermOf : List Signed → List Piece → Type 0
TermOf fs xs = (d : SpellsTerm fs xs) × AreClear (term_marks d)

factor_behind : (fs : List Signed) (front : List ℕ) → Reads front (TermOf fs) → (minus : Bool) (k : Option ℕ) (u : unit_type.Unit)
    → IsMultiple IsShortName IsQuotable k u → Reads (front ++ (later_sign minus ++ (times_text k ++ unit_text u)))
    (TermOf (fs ++ signed minus k u ∷ []))
unfolding symbols
factor_behind fs front r false k u shape =
    let f : Reads (times_text k ++ unit_text u) (FactorOf k u) = factor_reads k u shape in
    reads (term_plus r.spelled.0 f.spelled.0, joined (term_marks r.spelled.0) (false ∷ factor_marks f.spelled.0) r.spelled.1 (refl, f.spelled.1))
    (apart_cut r.cut (led signs.PLUS 43 refl refl tt (spaced_cut f.cut)))
factor_behind fs front r true k u shape =
    let f : Reads (times_text k ++ unit_text u) (FactorOf k u) = factor_reads k u shape in
    reads (term_minus r.spelled.0 f.spelled.0, joined (term_marks r.spelled.0) (false ∷ factor_marks f.spelled.0) r.spelled.1 (refl, f.spelled.1))
    (apart_cut r.cut (led signs.MINUS 45 refl refl tt (spaced_cut f.cut)))

first_factor : (minus : Bool) (k : Option ℕ) (u : unit_type.Unit) → IsMultiple IsShortName IsQuotable k u
    → Reads (first_sign minus ++ (times_text k ++ unit_text u)) (TermOf (signed minus k u ∷ []))
unfolding symbols
first_factor false k u shape =
    let f : Reads (times_text k ++ unit_text u) (FactorOf k u) = factor_reads k u shape in
    reads (term_first f.spelled.0, f.spelled.1) f.cut
first_factor true k u shape =
    let f : Reads (times_text k ++ unit_text u) (FactorOf k u) = factor_reads k u shape in
    reads (term_minus_first f.spelled.0, (refl, f.spelled.1)) (led signs.MINUS 45 refl refl tt f.cut)

factors_read : (fs : List Signed) → OneOrMore (IsFactor IsShortName IsQuotable) fs → Reads (factors_text fs) (TermOf fs)
factors_read [] shape = absurd shape
factors_read (f ∷ fs) shape =
    more_read (λ (g : Signed). later_sign g.minus ++ text.factor_text g) (IsFactor IsShortName IsQuotable) TermOf
    (λ gs front r g is. factor_behind gs front r g.minus g.times g.unit is)
    (f ∷ []) fs (first_sign f.minus ++ text.factor_text f) (first_factor f.minus f.times f.unit shape.0) shape.1

-- ---- names and parts of FROM

-- after a comma
behind_comma : {x y : List ℕ} {xs ys : List Piece} → Cut Ends x xs → Cut Ends y ys → Cut Ends (x ++ (44 ∷ y)) (xs ++ (COMMA ∷ ys))
unfolding symbols
behind_comma first second = parted comma_ends first (led signs.COMMA 44 refl refl tt second)

names_read : (ns : List (List ℕ)) → OneOrMore IsShortName ns → Reads (names_text ns) (SpellsNames ns)
names_read [] shape = absurd shape
names_read (n ∷ ns) shape =
    more_read (λ (m : List ℕ). 44 ∷ m) IsShortName SpellsNames (λ ms front r m is. reads (names_more m r.spelled) (behind_comma r.cut (name_reads m is)))
    (n ∷ []) ns n (reads names_one (name_reads n shape.0)) shape.1

part_cut : (p : FromPart) → IsFromPart IsShortName p → Cut Ends (from_part_text p) (NAME p.class ∷ NAME p.var ∷ [])
part_cut p is = same_cut (apart_cut (name_reads p.class is.0) (name_reads p.var is.1)) (simp append_assoc)

parts_read : (fs : List FromPart) → OneOrMore (IsFromPart IsShortName) fs → Reads (from_parts_text fs) (SpellsFromParts fs)
parts_read [] shape = absurd shape
parts_read (p ∷ fs) shape =
    more_read (λ (q : FromPart). 44 ∷ from_part_text q) (IsFromPart IsShortName) SpellsFromParts
    (λ qs front r q is. reads (parts_more q.class q.var r.spelled) (behind_comma r.cut (part_cut q is)))
    (p ∷ []) fs (from_part_text p) (reads parts_one (part_cut p shape.0)) shape.1

-- ---- atoms

abbrev NumOf : ℤ → List Piece → Type 0
NumOf c xs = (d : SpellsNum c xs) × AreClear (num_marks d)

num_reads : (c : ℤ) → unsigned_abs c ≤ READ_LIMIT → Reads (fix_text c) (NumOf c)
unfolding symbols
num_reads (pos n) within =
    let size : List ℕ = fix_text (pos n) in
    reads (subst (λ (v : ℤ). NumOf v (NUMBER size ∷ [])) (literal_again n within) (num_plain, (fitting (is_number_fit Literal size) (literal_fits n within), tt)))
    (number_cut size (fix_is_number n within) tt)
num_reads (negsuc n) within =
    let size : List ℕ = fix_text (pos (suc n)) in
    reads (subst (λ (v : ℤ). NumOf (neg_ℤ v) (MINUS ∷ NUMBER size ∷ [])) (literal_again (suc n) within)
    (num_minus, (refl, (fitting (is_number_fit Literal size) (literal_fits (suc n) within), tt))))
    (same_cut (led signs.MINUS 45 refl refl tt (number_cut size (fix_is_number (suc n) within) tt)) (minus_text n))

-- a bracket that closes, after what may end with a name or a number
closing : {Later : List ℕ → Type 0} {x y : List ℕ} {xs ys : List Piece} → Cut Ends x xs → Cut Later y ys
    → Cut Later (x ++ (41 ∷ y)) (xs ++ (CLOSE ∷ ys))
unfolding symbols
closing first second = parted close_ends first (led signs.CLOSE_ROUND 41 refl refl tt second)

opening : {Later : List ℕ → Type 0} {part : List ℕ} {tokens : List Piece} → Cut Later part tokens → Cut Later (40 ∷ part) (OPEN ∷ tokens)
unfolding symbols
opening later = led signs.OPEN_ROUND 40 refl refl tt later

-- a reserved word before a bracket
before_open : {part : List ℕ} {tokens : List Piece} (code : ℕ) (word : List ℕ) → IsTrue (is_word word) → code_of reserved_words word ≡ Some code
    → Cut Ends part tokens → Cut Ends (word ++ (40 ∷ part)) (piece_of (kinds.Key code) word ∷ OPEN ∷ tokens)
before_open code word is found later = parted open_ends (key_last code word is found) (opening later)

-- two names in brackets, after their word
pair_cut : {part : List ℕ} {tokens : List Piece} (code : ℕ) (word o n : List ℕ) → IsTrue (is_word word) → code_of reserved_words word ≡ Some code
    → IsShortName o → IsShortName n → Cut Ends part tokens
    → Cut Ends (word ++ name_pair_text o n ++ part) (piece_of (kinds.Key code) word ∷ OPEN ∷ NAME o ∷ COMMA ∷ NAME n ∷ CLOSE ∷ tokens)
pair_cut {part = part} code word o n is found o_is n_is later =
    same_cut (before_open code word is found (behind_comma (name_reads o o_is) (closing (name_reads n n_is) later))) (simp append_assoc)

abbrev AtomOf : atom_type.Atom → List Piece → Type 0
AtomOf a xs = (d : SpellsAtom a xs) × AreClear (atom_marks d)

six_clear : AreClear (false ∷ false ∷ false ∷ false ∷ false ∷ false ∷ [])
six_clear = (refl, (refl, (refl, (refl, (refl, (refl, tt))))))

circle_grouped : (number name later : List ℕ) → codes "WITHIN_SPHERE(" ++ number ++ (44 ∷ (name ++ later)) ++ codes ")"
    ≡ codes "WITHIN_SPHERE" ++ (40 ∷ (number ++ (44 ∷ ((name ++ later) ++ (41 ∷ [])))))
circle_grouped number name later = simp append_assoc

atom_reads : (a : atom_type.Atom) → IsAtom IsShortName IsQuotable a → Reads (atom_text a) (AtomOf a)
unfolding reserved_words
atom_reads (atoms.Compare t op u) shape =
    let l : Reads (factors_text t.factors) (TermOf t.factors) = factors_read t.factors shape.0 in
    let r : Reads (factors_text u.factors) (TermOf u.factors) = factors_read u.factors shape.1 in
    reads (atom_compare l.spelled.0 r.spelled.0, joined (term_marks l.spelled.0) (false ∷ term_marks r.spelled.0) l.spelled.1 (refl, r.spelled.1))
    (same_cut (apart_cut l.cut (compared op r.cut)) (simp append_assoc))
atom_reads (atoms.Inside o p) shape =
    reads (atom_inside, six_clear) (same_cut (pair_cut 17 (codes "INSIDE") o p refl refl shape.0 shape.1 no_cut) (simp append-nil))
atom_reads (atoms.Outside o p) shape =
    reads (atom_outside, six_clear) (same_cut (pair_cut 18 (codes "OUTSIDE") o p refl refl shape.0 shape.1 no_cut) (simp append-nil))
atom_reads (atoms.Dist o n op c) shape =
    let r : Reads (fix_text c) (NumOf c) = num_reads c shape.2 in
    reads (atom_dist r.spelled.0, (refl, (refl, (refl, (refl, (refl, (refl, (refl, r.spelled.1))))))))
    (same_cut (pair_cut 19 (codes "DIST") o n refl refl shape.0 shape.1 (spaced_cut (compared op r.cut))) (simp append_assoc))
atom_reads (atoms.Sphere (negsuc r) names) shape = absurd shape.0
atom_reads (atoms.Sphere (pos r) []) shape = absurd shape.1
atom_reads (atoms.Sphere (pos r) (name ∷ names)) shape =
    let number : List ℕ = fix_text (pos r) in
    let all : List (List ℕ) = name ∷ names in
    let n : Reads (names_text all) (SpellsNames all) = names_read all shape.1 in
    let size : Cut Ends number (NUMBER number ∷ []) = number_cut number (fix_is_number r (omega (arith, shape.0))) tt in
    let unmarked : AreClear (false ∷ false ∷ unfit Radius number ∷ false ∷ (clear n.tokens ++ false ∷ [])) =
    (refl, (refl, (fitting (is_number_fit Radius number) (radius_fits r shape.0), (refl, joined (clear n.tokens) (false ∷ []) (no_marks n.tokens) (refl, tt))))) in
    reads (subst (λ (v : ℤ). AtomOf (atoms.Sphere v all) (SPHERE ∷ OPEN ∷ NUMBER number ∷ COMMA ∷ (n.tokens ++ CLOSE ∷ []))) (radius_again r shape.0)
    (atom_sphere n.spelled, unmarked))
    (same_cut (before_open 20 (codes "WITHIN_SPHERE") refl refl (behind_comma size (closing n.cut no_cut))) (circle_grouped number name (later_names names)))

-- ---- formulas

abbrev UnaryOf : Tree → List Piece → Type 0
UnaryOf f xs = (d : Spells unary f xs) × AreClear (marks d)

-- two formulas in brackets
bracketed : {f : Tree} {left right : List ℕ} {ls ms rs : List Piece} (between : List ℕ) → Cut Ends left ls → ((rest : List ℕ) → Ends (between ++ rest))
    → Cut Anything between ms → Cut Ends right rs → (d : Spells formula f (ls ++ (ms ++ rs))) → AreClear (marks d)
    → Reads (in_brackets left between right) (UnaryOf f)
bracketed {right = right} between l ends m r d clear =
    reads (unary_brackets d, (refl, joined (marks d) (false ∷ []) clear (refl, tt)))
    (same_cut (opening (closing (then_cut l (closed_cut m r) (λ rest _. subst Ends (sym (append_assoc between right rest)) (ends (right ++ rest)))) no_cut))
    (simp append_assoc))

-- what stands between two formulas: an until, with a space before it and one after it
abbrev UntilOf : UntilForm → ℕ → List Piece → Type 0
UntilOf form n xs = (d : SpellsUntil form n xs) × AreClear (until_marks d)

abbrev UntilReads : UntilForm → ℕ → Type 0
UntilReads form n = ReadsBefore Anyhow Anything (until_text form n) (UntilOf form n)

ticks_cut : (n : ℕ) → n ≤ LAST_TICK → Cut Ends (decimal n) (NUMBER (decimal n) ∷ [])
ticks_cut n within = number_cut (decimal n) (decimal_is_number n (omega (arith, within))) tt

ticks_clear : (n : ℕ) → n ≤ LAST_TICK → unfit Ticks (decimal n) ≡ false
ticks_clear n within = fitting (is_number_fit Ticks (decimal n)) (ticks_fit n within)

until_reads : (form : UntilForm) (n : ℕ) → AreUntilTicks form n → UntilReads form n
unfolding reserved_words
until_reads untils.Plain n bound =
    reads (subst (λ (k : ℕ). UntilOf untils.Plain k (UNTIL untils.Plain ∷ [])) (sym bound) (until_plain, (refl, tt)))
    (spaced_cut (key_first 8 (codes "UNTIL") refl refl))
until_reads untils.Within n bound =
    reads (subst (λ (k : ℕ). UntilOf untils.Within k (UNTIL untils.Within ∷ NUMBER (decimal n) ∷ [])) (ticks_again n bound)
    (until_within, (refl, (ticks_clear n bound, tt))))
    (same_cut (spaced_cut (closed_cut (key_first 9 (codes "UNTIL_WITHIN") refl refl) (apart_cut (ticks_cut n bound) no_cut))) (simp append_assoc))
until_reads untils.After n bound =
    reads (subst (λ (k : ℕ). UntilOf untils.After k (UNTIL untils.After ∷ NUMBER (decimal n) ∷ [])) (ticks_again n bound)
    (until_after, (refl, (ticks_clear n bound, tt))))
    (same_cut (spaced_cut (closed_cut (key_first 10 (codes "UNTIL_AFTER") refl refl) (apart_cut (ticks_cut n bound) no_cut))) (simp append_assoc))

until_ends : (form : UntilForm) (n : ℕ) (rest : List ℕ) → Ends (until_text form n ++ rest)
until_ends untils.Plain n rest = blank_ends _
until_ends untils.Within n rest = blank_ends _
until_ends untils.After n rest = blank_ends _

prefix_cut : (w : Prefix) → Cut Anything (prefix_text w) (PREFIX w ∷ [])
unfolding reserved_words prefix_text
prefix_cut prefixes.Not = key_first 5 (codes "NOT") refl refl
prefix_cut prefixes.Next = key_first 11 (codes "NEXTTIME") refl refl
prefix_cut prefixes.Eventually = key_first 12 (codes "EVENTUALLY") refl refl
prefix_cut prefixes.Always = key_first 15 (codes "ALWAYS") refl refl

prefix_reads : (w : Prefix) (f : Tree) → Reads (formula_text f) (UnaryOf f) → Reads (prefix_text w ++ formula_text f) (UnaryOf (prefixed w f))
prefix_reads w f r = reads (unary_prefix r.spelled.0, (refl, r.spelled.1)) (closed_cut (prefix_cut w) r.cut)

bound_cut : (form : BoundForm) → Cut Ends (bound_word form) (BOUNDED form ∷ [])
unfolding reserved_words
bound_cut bounds.Within = key_last 13 (codes "EVENTUALLY_WITHIN") refl refl
bound_cut bounds.After = key_last 14 (codes "EVENTUALLY_AFTER") refl refl
bound_cut bounds.Always = key_last 16 (codes "ALWAYS_FOR") refl refl

truth_cut : (b : Bool) → Cut Ends (truth_word b) (TRUTH b ∷ [])
unfolding reserved_words
truth_cut true = key_last 3 (codes "TRUE") refl refl
truth_cut false = key_last 4 (codes "FALSE") refl refl

-- an assignment before its formula
assigned : {part : List ℕ} {tokens xs : List Piece} (v : List ℕ) (fs : List Signed) → IsShortName v → Cut Ends (factors_text fs) xs → Cut Ends part tokens
    → Cut Ends (assign_text v (term_of fs) ++ part) (OPEN_SQUARE ∷ NAME v ∷ ARROW ∷ (xs ++ CLOSE_SQUARE ∷ tokens))
unfolding symbols
assigned v fs v_is term later =
    same_cut (led signs.OPEN_SQUARE 91 refl refl tt (apart_cut (name_reads v v_is) (bound_to (spaced_cut
    (parted square_ends term (led signs.CLOSE_SQUARE 93 refl refl tt (spaced_cut later))))))) (simp append_assoc)

formula_reads : (f : Tree) → IsFormula IsShortName IsQuotable f → Reads (formula_text f) (UnaryOf f)
unfolding reserved_words
formula_reads (Shape.Truth b) shape = reads (unary_truth, (refl, tt)) (truth_cut b)
formula_reads (Shape.Atom a) shape =
    let r : Reads (atom_text a) (AtomOf a) = atom_reads a shape in
    reads (unary_atom r.spelled.0, r.spelled.1) r.cut
formula_reads (Shape.Not f) shape = prefix_reads prefixes.Not f (formula_reads f shape)
formula_reads (Shape.And f g) shape =
    let l : Reads (formula_text f) (UnaryOf f) = formula_reads f shape.0 in
    let r : Reads (formula_text g) (UnaryOf g) = formula_reads g shape.1 in
    bracketed (codes " AND ") l.cut (λ rest. blank_ends _) (spaced_cut (key_first 6 (codes "AND") refl refl)) r.cut
    (formula_conj (conj_and (conj_chain (chain_unary l.spelled.0)) (chain_unary r.spelled.0)))
    (joined (marks l.spelled.0) (false ∷ marks r.spelled.0) l.spelled.1 (refl, r.spelled.1))
formula_reads (Shape.Or f g) shape =
    let l : Reads (formula_text f) (UnaryOf f) = formula_reads f shape.0 in
    let r : Reads (formula_text g) (UnaryOf g) = formula_reads g shape.1 in
    bracketed (codes " OR ") l.cut (λ rest. blank_ends _) (spaced_cut (key_first 7 (codes "OR") refl refl)) r.cut
    (formula_or (formula_conj (conj_chain (chain_unary l.spelled.0))) (conj_chain (chain_unary r.spelled.0)))
    (joined (marks l.spelled.0) (false ∷ marks r.spelled.0) l.spelled.1 (refl, r.spelled.1))
formula_reads (Shape.Next f) shape = prefix_reads prefixes.Next f (formula_reads f shape)
formula_reads (Shape.Eventually f) shape = prefix_reads prefixes.Eventually f (formula_reads f shape)
formula_reads (Shape.Always f) shape = prefix_reads prefixes.Always f (formula_reads f shape)
formula_reads (Shape.Bounded form n f) shape =
    let r : Reads (formula_text f) (UnaryOf f) = formula_reads f shape.1 in
    reads (subst (λ (k : ℕ). UnaryOf (Shape.Bounded form k f) (BOUNDED form ∷ NUMBER (decimal n) ∷ r.tokens)) (ticks_again n shape.0)
    (unary_bounded r.spelled.0, (refl, (ticks_clear n shape.0, r.spelled.1))))
    (same_cut (apart_cut (bound_cut form) (apart_cut (ticks_cut n shape.0) r.cut)) (simp append_assoc))
formula_reads (Shape.Until form n f g) shape =
    let l : Reads (formula_text f) (UnaryOf f) = formula_reads f shape.1 in
    let u : UntilReads form n = until_reads form n shape.0 in
    let r : Reads (formula_text g) (UnaryOf g) = formula_reads g shape.2 in
    bracketed (until_text form n) l.cut (until_ends form n) u.cut r.cut
    (formula_conj (conj_chain (chain_until u.spelled.0 l.spelled.0 (chain_unary r.spelled.0))))
    (joined (marks l.spelled.0) (until_marks u.spelled.0 ++ marks r.spelled.0) l.spelled.1
    (joined (until_marks u.spelled.0) (marks r.spelled.0) u.spelled.1 r.spelled.1))
formula_reads (Shape.Assign (v, t) f) shape =
    let term : Reads (factors_text t.factors) (TermOf t.factors) = factors_read t.factors shape.1 in
    let r : Reads (formula_text f) (UnaryOf f) = formula_reads f shape.2 in
    reads (
      unary_assign term.spelled.0 r.spelled.0,
      (refl, (refl, (refl, joined (term_marks term.spelled.0) (false ∷ marks r.spelled.0) term.spelled.1 (refl, r.spelled.1)))),
    )
    (assigned v t.factors shape.0 term.cut r.cut)

-- ---- queries

abbrev QueryOf : QueryTree → List Piece → Type 0
QueryOf q xs = (d : SpellsQuery q xs) × AreClear (query_marks d)

query_reads : (q : QueryTree) → IsPrintableQuery q → Reads (query_text q) (QueryOf q)
unfolding reserved_words
query_reads q shape =
    let n : Reads (names_text q.targets) (SpellsNames q.targets) = names_read q.targets shape.targets in
    let p : Reads (from_parts_text q.from) (SpellsFromParts q.from) = parts_read q.from shape.from in
    let f : Reads (formula_text q.formula) (UnaryOf q.formula) = formula_reads q.formula shape.formula in
    let parts : AreClear (clear p.tokens ++ false ∷ marks f.spelled.0) =
    joined (clear p.tokens) (false ∷ marks f.spelled.0) (no_marks p.tokens) (refl, f.spelled.1) in
    reads (
      query n.spelled p.spelled (formula_conj (conj_chain (chain_unary f.spelled.0))),
      (refl, joined (clear n.tokens) (false ∷ (clear p.tokens ++ false ∷ marks f.spelled.0)) (no_marks n.tokens) (refl, parts)),
    )
    (same_cut (closed_cut (key_first 0 (codes "RETRIEVE") refl refl) (apart_cut n.cut
    (closed_cut (key_first 1 (codes "FROM") refl refl) (apart_cut p.cut (closed_cut (key_first 2 (codes "WHERE") refl refl) f.cut))))) (simp append_assoc))

pub reads_what_is_printed : ReadsPrintedQuery
reads_what_is_printed q shape =
    let r : Reads (query_text q) (QueryOf q) = query_reads q shape in
    let is : IsCut Anyhow (query_text q) r.tokens = read_last r in
    let found : (bad_place (query_text q) ≡ None) × (lexemes (query_text q) ≡ is.lexed) = lexemes_from_cut (query_text q) is.lexed is.cut_is in
    let tokens : r.tokens ≡ pieces_from 0 (query_text q) = sym (ap pieces found.1 ∙ is.pieces_are) in
    let read : (d : SpellsQuery q (pieces_from 0 (query_text q))) × (first_unfit d ≡ None) =
    subst (λ (xs : List Piece). (d : SpellsQuery q xs) × (first_unfit d ≡ None)) tokens (r.spelled.0, none_found (query_marks r.spelled.0) r.spelled.1) in
    record { no_bad_token = found.0; spelled = read.0; fit = read.1; short = ap has_long found.1 ∙ is.short }

pub reads_again : ReadsQueryAgain
reads_again from line q read =
    let long : Bool = has_long (lexemes_from from line) in
    let short : long ≡ false = small_short long q read.small in
    let again : IsReadAs q (query_text q) = reads_what_is_printed q (prints_what_is_read from line q read.spelled short) in
    let small : first_too_large (has_long (lexemes (query_text q))) q ≡ None = ap (λ b. first_too_large b q) (again.short ∙ sym short) ∙ read.small in
    (again.no_bad_token, record { spelled = again.spelled; fit = again.fit; small = small })
