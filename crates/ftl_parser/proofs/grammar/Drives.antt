-- For this crate and for the crates above: what a rule derives, the machine reads.
use Rattle.ftl_parser.proofs.Names.{◌≡◌, ℕ, ℤ, ◌<◌, ◌≤◌, Bool, true, false, List, [], ◌∷◌, ◌++◌, Option, None, Some, option_map, IsTrue, refl, sym, ap, ◌∙◌, arith, append_assoc, append-nil, nat_tests, Op, Shape, Term, Signed, FromPart, TermPlace, Tree, QueryTree, Piece, FROM, WHERE, AND, OR, UNTIL, CLOSE, CLOSE_SQUARE, COMMA, POINT, PLUS, MINUS, STAR, COMPARISON, NAME, NUMBER, ticks, times, literal, radius_of, ref_name, ref_attr, ref_part, ref_time, SpellsFactor, factor_number, factor_times, factor_text, factor_ref, SpellsTerm, term_first, term_minus_first, term_plus, term_minus, num_plain, num_minus, SpellsNames, names_one, names_more, SpellsFromParts, parts_one, parts_more, SpellsAtom, atom_compare, atom_inside, atom_outside, atom_dist, atom_sphere, Level, formula, Spells, formula_conj, formula_or, conj_chain, conj_and, chain_unary, chain_until, until_plain, until_within, until_after, unary_prefix, unary_bounded, unary_assign, unary_brackets, unary_truth, unary_atom, SpellsQuery, query, signed, term_of, Frame, Bracket, OrWith, AndWith, UntilWith, PrefixedBy, BoundedBy, Assigning, precedence, filled, Want, Have, Reach, InTerm, InSpatial, Heading, start, reduced, closed, ended_formula, parsed}
use Rattle.fixed_point.specs.declared.variants.UntilForm.TheVariants as untils
use Rattle.ftl_parser.specs.declared.tree.Atom as atom_type
use Rattle.ftl_parser.specs.declared.tree.Atom.TheVariants as atoms
use Rattle.ftl_parser.specs.declared.tree.Unit as unit_type
use Rattle.ftl_parser.specs.declared.tree.Unit.TheVariants as units
use Rattle.ftl_parser.specs.declared.state.TermPlace.TheVariants as places
use Rattle.ftl_parser.specs.declared.state.Factor.TheVariants as factors
use Rattle.ftl_parser.specs.declared.state.Head.TheVariants as heads
use Rattle.ftl_parser.specs.declared.state.Spatial.TheVariants as spatials
use Rattle.ftl_parser.proofs.grammar.Bodies.{body_parsed, then_parsed, query_with, term_behind, stop, Follows, top, room, cuts, parsed-Within, never, nothing, stop-cuts}

-- frames that bind at least so strongly end
pub reduced-filled : (r : ℕ) (w : Frame) (s : List Frame) (f : Tree) → r ≤ precedence w → reduced r f (w ∷ s) ≡ reduced r (filled w f) s
reduced-filled r w s f ends = grind (arith, nat_tests)

-- and others don't
pub reduced-stays : (r : ℕ) (f : Tree) (s : List Frame) → top s < r → reduced r f s ≡ (f, s)
reduced-stays r f [] below = refl
reduced-stays r f (w ∷ s) below = grind (arith, nat_tests)

-- a frame ends where what stands after its formula ends its rank
pub fills : (w : Frame) (s : List Frame) (f : Tree) (rest : List Piece) →
    0 < stop rest → stop rest ≤ precedence w → body_parsed (w ∷ s) (Have f) rest ≡ body_parsed s (Have (filled w f)) rest
fills w s f [] stops ends = ap ended_formula (reduced-filled 1 w s f ends)
fills w s f (CLOSE ∷ rest) stops ends = ap (λ r. then_parsed rest (closed r)) (reduced-filled 1 w s f ends)
fills w s f (OR ∷ rest) stops ends = ap (λ r. body_parsed (OrWith r.0 ∷ r.1) Want rest) (reduced-filled 1 w s f ends)
fills w s f (AND ∷ rest) stops ends = ap (λ r. body_parsed (AndWith r.0 ∷ r.1) Want rest) (reduced-filled 2 w s f ends)
fills w s f (UNTIL untils.Plain ∷ rest) stops ends = ap (λ r. body_parsed (UntilWith untils.Plain 0 r.0 ∷ r.1) Want rest) (reduced-filled 4 w s f ends)
fills w s f (UNTIL untils.Within ∷ rest) stops ends = ap (λ r. body_parsed r.1 (Reach untils.Within r.0) rest) (reduced-filled 4 w s f ends)
fills w s f (UNTIL untils.After ∷ rest) stops ends = ap (λ r. body_parsed r.1 (Reach untils.After r.0) rest) (reduced-filled 4 w s f ends)
fills w s f (p ∷ rest) stops ends = nothing stops

-- a factor ends, where nothing makes it longer
pub whole-ends : (s : List Frame) (place : TermPlace) (fs : List Signed) (m : Bool) (k : Option ℕ) (u : unit_type.Unit) (rest : List Piece) →
    body_parsed s (InTerm place fs (factors.Whole m k u)) rest ≡ term_behind s place (fs ++ signed m k u ∷ []) rest
whole-ends s places.Left fs m k u [] = refl
whole-ends s (places.Right t op) fs m k u [] = refl
whole-ends s (places.Assigned v) fs m k u [] = refl
whole-ends s place fs m k u (p ∷ rest) = refl

pub number-ends : (s : List Frame) (place : TermPlace) (fs : List Signed) (m : Bool) (value : ℤ) (k : ℕ) (rest : List Piece) → IsTrue (cuts rest) →
    body_parsed s (InTerm place fs (factors.Number m value k)) rest ≡ term_behind s place (fs ++ signed m None (units.Literal value) ∷ []) rest
number-ends s places.Left fs m value k [] h = refl
number-ends s (places.Right t op) fs m value k [] h = refl
number-ends s (places.Assigned v) fs m value k [] h = refl
number-ends s place fs m value k (STAR ∷ rest) h = never h
number-ends s place fs m value k (p ∷ rest) h = refl

pub alone-ends : (s : List Frame) (place : TermPlace) (fs : List Signed) (m : Bool) (k : Option ℕ) (o : List ℕ) (rest : List Piece) → IsTrue (cuts rest) →
    body_parsed s (InTerm place fs (factors.Alone m k o)) rest ≡ term_behind s place (fs ++ signed m k (units.Alone o) ∷ []) rest
alone-ends s places.Left fs m k o [] h = refl
alone-ends s (places.Right t op) fs m k o [] h = refl
alone-ends s (places.Assigned v) fs m k o [] h = refl
alone-ends s place fs m k o (POINT ∷ rest) h = never h
alone-ends s place fs m k o (p ∷ rest) h = refl

pub attr-ends : (s : List Frame) (place : TermPlace) (fs : List Signed) (m : Bool) (k : Option ℕ) (o a : List ℕ) (rest : List Piece) → IsTrue (cuts rest) →
    body_parsed s (InTerm place fs (factors.Attr m k o a)) rest ≡ term_behind s place (fs ++ signed m k (units.Attr o a) ∷ []) rest
attr-ends s places.Left fs m k o a [] h = refl
attr-ends s (places.Right t op) fs m k o a [] h = refl
attr-ends s (places.Assigned v) fs m k o a [] h = refl
attr-ends s place fs m k o a (POINT ∷ rest) h = never h
attr-ends s place fs m k o a (p ∷ rest) h = refl

-- a factor is read to its end, where the tokens don't go on with `*` or a point
pub drives_factor : {k : Option ℕ} {u : unit_type.Unit} {xs : List Piece} → SpellsFactor k u xs →
    (s : List Frame) (place : TermPlace) (fs : List Signed) (minus : Bool) (rest : List Piece) → IsTrue (cuts rest) →
    body_parsed s (InTerm place fs (factors.Wanted minus)) (xs ++ rest) ≡ term_behind s place (fs ++ signed minus k u ∷ []) rest
drives_factor (factor_number {n = n}) s place fs minus rest h = number-ends s place fs minus (literal n) (times n) rest h
drives_factor (factor_times {n = n} (ref_name {o = o})) s place fs minus rest h = alone-ends s place fs minus (Some (times n)) o rest h
drives_factor (factor_times {n = n} (ref_attr {o = o} {a = a})) s place fs minus rest h = attr-ends s place fs minus (Some (times n)) o a rest h
drives_factor (factor_times {n = n} (ref_part {o = o} {a = a} {s = p})) s place fs minus rest h =
    whole-ends s place fs minus (Some (times n)) (units.Sub o a p) rest
drives_factor (factor_times {n = n} ref_time) s place fs minus rest h = whole-ends s place fs minus (Some (times n)) units.Time rest
drives_factor (factor_text {t = t}) s place fs minus rest h = whole-ends s place fs minus None (units.Text t) rest
drives_factor (factor_ref (ref_name {o = o})) s place fs minus rest h = alone-ends s place fs minus None o rest h
drives_factor (factor_ref (ref_attr {o = o} {a = a})) s place fs minus rest h = attr-ends s place fs minus None o a rest h
drives_factor (factor_ref (ref_part {o = o} {a = a} {s = p})) s place fs minus rest h = whole-ends s place fs minus None (units.Sub o a p) rest
drives_factor (factor_ref ref_time) s place fs minus rest h = whole-ends s place fs minus None units.Time rest

-- a term may begin with a factor, and a formula with a term
first-wanted : {k : Option ℕ} {u : unit_type.Unit} {xs : List Piece} → SpellsFactor k u xs → (s : List Frame) (place : TermPlace) (rest : List Piece) →
    body_parsed s (InTerm place [] factors.First) (xs ++ rest) ≡ body_parsed s (InTerm place [] (factors.Wanted false)) (xs ++ rest)
first-wanted factor_number s place rest = refl
first-wanted (factor_times r) s place rest = refl
first-wanted factor_text s place rest = refl
first-wanted (factor_ref ref_name) s place rest = refl
first-wanted (factor_ref ref_attr) s place rest = refl
first-wanted (factor_ref ref_part) s place rest = refl
first-wanted (factor_ref ref_time) s place rest = refl

want-first : {k : Option ℕ} {u : unit_type.Unit} {xs : List Piece} → SpellsFactor k u xs → (s : List Frame) (rest : List Piece) →
    body_parsed s Want (xs ++ rest) ≡ body_parsed s (InTerm places.Left [] factors.First) (xs ++ rest)
want-first factor_number s rest = refl
want-first (factor_times r) s rest = refl
want-first factor_text s rest = refl
want-first (factor_ref ref_name) s rest = refl
want-first (factor_ref ref_attr) s rest = refl
want-first (factor_ref ref_part) s rest = refl
want-first (factor_ref ref_time) s rest = refl

want-term : {fs : List Signed} {xs : List Piece} → SpellsTerm fs xs → (s : List Frame) (rest : List Piece) →
    body_parsed s Want (xs ++ rest) ≡ body_parsed s (InTerm places.Left [] factors.First) (xs ++ rest)
want-term (term_first d) s rest = want-first d s rest
want-term (term_minus_first d) s rest = refl
want-term (term_plus {ys = ys} d e) s rest = rw append_assoc (want-term d s (PLUS ∷ (ys ++ rest)))
want-term (term_minus {ys = ys} d e) s rest = rw append_assoc (want-term d s (MINUS ∷ (ys ++ rest)))

pub drives_term : {fs : List Signed} {xs : List Piece} → SpellsTerm fs xs →
    (s : List Frame) (place : TermPlace) (rest : List Piece) → IsTrue (cuts rest) →
    body_parsed s (InTerm place [] factors.First) (xs ++ rest) ≡ term_behind s place fs rest
drives_term (term_first d) s place rest h = first-wanted d s place rest ∙ drives_factor d s place [] false rest h
drives_term (term_minus_first d) s place rest h = drives_factor d s place [] true rest h
drives_term (term_plus {fs = fs} {ys = ys} d e) s place rest h =
    rw append_assoc (drives_term d s place (PLUS ∷ (ys ++ rest)) refl ∙ drives_factor e s place fs false rest h)
drives_term (term_minus {fs = fs} {ys = ys} d e) s place rest h =
    rw append_assoc (drives_term d s place (MINUS ∷ (ys ++ rest)) refl ∙ drives_factor e s place fs true rest h)

-- the right side of a comparison ends the atom
pub right-ends : (s : List Frame) (t : Term) (op : Op) (fs : List Signed) (rest : List Piece) → 0 < stop rest →
    term_behind s (places.Right t op) fs rest ≡ body_parsed s (Have (Shape.Atom (atoms.Compare t op (term_of fs)))) rest
right-ends s t op fs [] stops = refl
right-ends s t op fs (PLUS ∷ rest) stops = nothing stops
right-ends s t op fs (MINUS ∷ rest) stops = nothing stops
right-ends s t op fs (p ∷ rest) stops = refl

drives_circle : {ns : List (List ℕ)} {xs : List Piece} → SpellsNames ns xs → (s : List Frame) (r : ℤ) (rest : List Piece) →
    body_parsed s (InSpatial (spatials.SphereName r [])) (xs ++ rest) ≡ body_parsed s (InSpatial (spatials.SphereNames r ns)) rest
drives_circle names_one s r rest = refl
drives_circle (names_more n d) s r rest = rw append_assoc (drives_circle d s r (COMMA ∷ NAME n ∷ rest))

pub drives_atom : {a : atom_type.Atom} {xs : List Piece} → SpellsAtom a xs →
    (s : List Frame) (rest : List Piece) → 0 < stop rest →
    body_parsed s Want (xs ++ rest) ≡ body_parsed s (Have (Shape.Atom a)) rest
drives_atom (atom_compare {fs = fs} {gs = gs} {op = op} {ys = ys} d e) s rest stops =
    rw append_assoc
    (want-term d s (COMPARISON op ∷ (ys ++ rest))
    ∙ drives_term d s places.Left (COMPARISON op ∷ (ys ++ rest)) refl
    ∙ drives_term e s (places.Right (term_of fs) op) rest (stop-cuts rest stops)
    ∙ right-ends s (term_of fs) op gs rest stops)
drives_atom atom_inside s rest stops = refl
drives_atom atom_outside s rest stops = refl
drives_atom (atom_dist num_plain) s rest stops = refl
drives_atom (atom_dist num_minus) s rest stops = refl
drives_atom (atom_sphere {r = r} {xs = xs} d) s rest stops =
    ap (body_parsed s (InSpatial (spatials.SphereName (radius_of r) []))) (append_assoc xs (CLOSE ∷ []) rest) ∙ drives_circle d s (radius_of r) (CLOSE ∷ rest)

pub drives : {l : Level} {f : Tree} {xs : List Piece} → Spells l f xs →
    (s : List Frame) → top s < room l → (rest : List Piece) → Follows l rest →
    body_parsed s Want (xs ++ rest) ≡ body_parsed s (Have f) rest
drives (formula_conj d) s below rest h = drives d s (omega arith) rest (record { stops = h.stops; ends = omega (arith, h.ends) })
drives (formula_or {f = f} {g = g} {ys = ys} d e) s below rest h =
    rw append_assoc
    (drives d s below (OR ∷ (ys ++ rest)) (record { stops = omega arith; ends = omega arith })
    ∙ ap (λ r. body_parsed (OrWith r.0 ∷ r.1) Want (ys ++ rest)) (reduced-stays 1 f s below)
    ∙ drives e (OrWith f ∷ s) (omega arith) rest (record { stops = h.stops; ends = omega (arith, h.ends) })
    ∙ fills (OrWith f) s g rest h.stops h.ends)
drives (conj_chain d) s below rest h = drives d s (omega arith) rest (record { stops = h.stops; ends = omega (arith, h.ends) })
drives (conj_and {f = f} {g = g} {ys = ys} d e) s below rest h =
    rw append_assoc
    (drives d s below (AND ∷ (ys ++ rest)) (record { stops = omega arith; ends = omega arith })
    ∙ ap (λ r. body_parsed (AndWith r.0 ∷ r.1) Want (ys ++ rest)) (reduced-stays 2 f s below)
    ∙ drives e (AndWith f ∷ s) (omega arith) rest (record { stops = h.stops; ends = omega (arith, h.ends) })
    ∙ fills (AndWith f) s g rest h.stops h.ends)
drives (chain_unary d) s below rest h = drives d s (omega arith) rest (record { stops = h.stops; ends = omega (arith, h.ends) })
drives (chain_until {f = f} {g = g} {ys = ys} until_plain d e) s below rest h =
    rw append_assoc
    (drives d s (omega arith) (UNTIL untils.Plain ∷ (ys ++ rest)) (record { stops = omega arith; ends = omega arith })
    ∙ ap (λ r. body_parsed (UntilWith untils.Plain 0 r.0 ∷ r.1) Want (ys ++ rest)) (reduced-stays 4 f s below)
    ∙ drives e (UntilWith untils.Plain 0 f ∷ s) (omega arith) rest h
    ∙ fills (UntilWith untils.Plain 0 f) s g rest h.stops h.ends)
drives (chain_until {f = f} {g = g} {ys = ys} (until_within {c = c}) d e) s below rest h =
    rw append_assoc
    (drives d s (omega arith) (UNTIL untils.Within ∷ NUMBER c ∷ (ys ++ rest)) (record { stops = omega arith; ends = omega arith })
    ∙ ap (λ r. body_parsed (UntilWith untils.Within (ticks c) r.0 ∷ r.1) Want (ys ++ rest)) (reduced-stays 4 f s below)
    ∙ drives e (UntilWith untils.Within (ticks c) f ∷ s) (omega arith) rest h
    ∙ fills (UntilWith untils.Within (ticks c) f) s g rest h.stops h.ends)
drives (chain_until {f = f} {g = g} {ys = ys} (until_after {c = c}) d e) s below rest h =
    rw append_assoc
    (drives d s (omega arith) (UNTIL untils.After ∷ NUMBER c ∷ (ys ++ rest)) (record { stops = omega arith; ends = omega arith })
    ∙ ap (λ r. body_parsed (UntilWith untils.After (ticks c) r.0 ∷ r.1) Want (ys ++ rest)) (reduced-stays 4 f s below)
    ∙ drives e (UntilWith untils.After (ticks c) f ∷ s) (omega arith) rest h
    ∙ fills (UntilWith untils.After (ticks c) f) s g rest h.stops h.ends)
drives (unary_prefix {w = w} {f = f} d) s below rest h =
    drives d (PrefixedBy w ∷ s) (omega arith) rest h ∙ fills (PrefixedBy w) s f rest h.stops h.ends
drives (unary_bounded {form = form} {c = c} {f = f} d) s below rest h =
    drives d (BoundedBy form (ticks c) ∷ s) (omega arith) rest h ∙ fills (BoundedBy form (ticks c)) s f rest h.stops h.ends
drives (unary_assign {v = v} {fs = fs} {f = f} {xs = xs} {ys = ys} t d) s below rest h =
    ap (body_parsed s (InTerm (places.Assigned v) [] factors.First)) (append_assoc xs (CLOSE_SQUARE ∷ ys) rest)
    ∙ (drives_term t s (places.Assigned v) (CLOSE_SQUARE ∷ (ys ++ rest)) refl
    ∙ drives d (Assigning v (term_of fs) ∷ s) (omega arith) rest h
    ∙ fills (Assigning v (term_of fs)) s f rest h.stops h.ends)
drives (unary_brackets {f = f} {xs = xs} d) s below rest h =
    ap (body_parsed (Bracket ∷ s) Want) (append_assoc xs (CLOSE ∷ []) rest)
    ∙ (drives d (Bracket ∷ s) (omega arith) (CLOSE ∷ rest) (record { stops = omega arith; ends = omega arith }))
drives unary_truth s below rest h = refl
drives (unary_atom d) s below rest h = drives_atom d s rest h.stops

pub drives_names : {ns : List (List ℕ)} {xs : List Piece} → SpellsNames ns xs →
    (ps : List FromPart) (rest : List Piece) →
    parsed (Heading heads.Target [] ps) (xs ++ rest) ≡ parsed (Heading heads.Targets ns ps) rest
drives_names names_one ps rest = refl
drives_names (names_more n d) ps rest = rw append_assoc (drives_names d ps (COMMA ∷ NAME n ∷ rest))

pub drives_parts : {ps : List FromPart} {xs : List Piece} → SpellsFromParts ps xs →
    (ns : List (List ℕ)) (rest : List Piece) →
    parsed (Heading heads.Class ns []) (xs ++ rest) ≡ parsed (Heading heads.Parts ns ps) rest
drives_parts parts_one ns rest = refl
drives_parts (parts_more c v d) ns rest = rw append_assoc (drives_parts d ns (COMMA ∷ NAME c ∷ NAME v ∷ rest))

-- a formula to the end of the tokens
drives-all : {f : Tree} (xs : List Piece) → Spells formula f xs → body_parsed [] Want xs ≡ Some f
drives-all xs d = ap (body_parsed [] Want) (sym (append-nil xs)) ∙ drives d [] (omega arith) [] (record { stops = omega arith; ends = omega arith })

-- what spells a query is parsed as it
pub drives_query : {q : QueryTree} {xs : List Piece} → SpellsQuery q xs → parsed start xs ≡ Some q
drives_query (query {ns = ns} {ps = ps} {ys = ys} {zs = zs} names parts d) =
    drives_names names [] (FROM ∷ (ys ++ WHERE ∷ zs))
    ∙ drives_parts parts ns (WHERE ∷ zs)
    ∙ parsed-Within ns ps [] Want zs
    ∙ ap (option_map (query_with ns ps)) (drives-all zs d)

-- tokens spell at most one query
pub one_query : (xs : List Piece) (q r : QueryTree) → SpellsQuery q xs → SpellsQuery r xs → q ≡ r
one_query xs q r d e = cc (drives_query d, drives_query e)
