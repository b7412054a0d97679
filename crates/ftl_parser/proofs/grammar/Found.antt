-- For this crate and for the crates above: what the machine has read in each state, and that what it parses is
-- derived by the rules.
use Rattle.ftl_parser.proofs.Names.{◌≡◌, ℕ, ◌≤◌, Bool, true, false, List, [], ◌∷◌, ◌++◌, Option, None, Some, option_map, option_and_then, refl, sym, ap, ◌∙◌, subst, arith, append_assoc, append-nil, BoundForm, UntilForm, Op, Signed, FromPart, Head, Pair, TermPlace, Factor, Prefix, Spatial, Tree, QueryTree, Piece, RETRIEVE, FROM, WHERE, AND, OR, TRUTH, PREFIX, BOUNDED, UNTIL, INSIDE, OUTSIDE, DIST, SPHERE, TIME, PART, OPEN, CLOSE, OPEN_SQUARE, CLOSE_SQUARE, COMMA, POINT, PLUS, MINUS, STAR, ARROW, COMPARISON, NAME, NUMBER, TEXT, ticks, times, literal, radius_of, SpellsRef, ref_name, ref_attr, ref_part, ref_time, SpellsFactor, factor_number, factor_times, factor_text, factor_ref, SpellsTerm, term_first, term_minus_first, term_plus, term_minus, num_plain, num_minus, SpellsNames, names_one, names_more, SpellsFromParts, parts_one, parts_more, atom_compare, atom_inside, atom_outside, atom_dist, atom_sphere, SpellsUntil, until_plain, until_within, until_after, Level, formula, conj, chain, unary, Spells, formula_conj, formula_or, conj_chain, conj_and, chain_unary, chain_until, unary_prefix, unary_bounded, unary_assign, unary_brackets, unary_truth, unary_atom, SpellsQuery, query, signed, term_of, from_part, Frame, Bracket, OrWith, AndWith, UntilWith, PrefixedBy, BoundedBy, Assigning, Phase, Want, Have, Reach, Variable, Arrow, InTerm, InSpatial, Body, Heading, Within, start, reference, factor_begun, lengthened, whole_factor, reduced, closed, behind, term_ended, factor_ended, behind_factor, longer_or, term_step, spatial_step, wanted, body_step, ended_formula, compared, body_end, parsed}
use Rattle.fixed_point.specs.declared.variants.UntilForm.TheVariants as untils
use Rattle.ftl_parser.specs.declared.tree.Unit as unit_type
use Rattle.ftl_parser.specs.declared.state.Head.TheVariants as heads
use Rattle.ftl_parser.specs.declared.state.Pair.TheVariants as pairs
use Rattle.ftl_parser.specs.declared.state.TermPlace.TheVariants as places
use Rattle.ftl_parser.specs.declared.state.Factor.TheVariants as factors
use Rattle.ftl_parser.specs.declared.state.Spatial.TheVariants as spatials
use Rattle.ftl_parser.specs.inner.Machine.{Ticks}
use Rattle.ftl_parser.proofs.grammar.Bodies.{level_rank, body_parsed, query_with, parsed-Within}
use Rattle.ftl_parser.proofs.grammar.Drives.{reduced-filled}

-- the tokens after WHERE that a stack stands for, where a formula of this level, or of one that binds more, comes next
pub data Waits : Level → List Frame → List Piece → Type 0 where
  bottom : Waits formula [] []
  bracket : {l : Level} {s : List Frame} {xs : List Piece} → Waits l s xs → Waits formula (Bracket ∷ s) (xs ++ OPEN ∷ [])
  or_with : {s : List Frame} {f : Tree} {xs ys : List Piece} →
      Waits formula s xs → Spells formula f ys → Waits conj (OrWith f ∷ s) (xs ++ (ys ++ OR ∷ []))
  and_with : {l : Level} {s : List Frame} {f : Tree} {xs ys : List Piece} →
      Waits l s xs → level_rank l ≤ 2 → Spells conj f ys → Waits chain (AndWith f ∷ s) (xs ++ (ys ++ AND ∷ []))
  until_with : {l : Level} {s : List Frame} {f : Tree} {form : UntilForm} {c : ℕ} {xs ys zs : List Piece} →
      Waits l s xs → level_rank l ≤ 3 → Spells unary f ys → SpellsUntil form c zs → Waits chain (UntilWith form c f ∷ s) (xs ++ (ys ++ zs))
  prefixed_by : {l : Level} {s : List Frame} {w : Prefix} {xs : List Piece} →
      Waits l s xs → Waits unary (PrefixedBy w ∷ s) (xs ++ PREFIX w ∷ [])
  bounded_by : {l : Level} {s : List Frame} {form : BoundForm} {xs : List Piece} (c : List ℕ) →
      Waits l s xs → Waits unary (BoundedBy form (ticks c) ∷ s) (xs ++ BOUNDED form ∷ NUMBER c ∷ [])
  assigning : {l : Level} {s : List Frame} {v : List ℕ} {fs : List Signed} {xs ys : List Piece} →
      Waits l s xs → SpellsTerm fs ys → Waits unary (Assigning v (term_of fs) ∷ s) (xs ++ OPEN_SQUARE ∷ NAME v ∷ ARROW ∷ (ys ++ CLOSE_SQUARE ∷ []))

-- the sign before a factor, with the factors before it
pub data ReadsSign : List Signed → Bool → List Piece → Type 0 where
  no_sign : ReadsSign [] false []
  minus_first : ReadsSign [] true (MINUS ∷ [])
  plus_behind : {fs : List Signed} {xs : List Piece} → SpellsTerm fs xs → ReadsSign fs false (xs ++ PLUS ∷ [])
  minus_behind : {fs : List Signed} {xs : List Piece} → SpellsTerm fs xs → ReadsSign fs true (xs ++ MINUS ∷ [])

-- a multiplier, or none
pub data ReadsTimes : Option ℕ → List Piece → Type 0 where
  no_times : ReadsTimes None []
  some_times : {n : List ℕ} → ReadsTimes (Some (times n)) (NUMBER n ∷ STAR ∷ [])

-- what is read of a factor after its sign
pub data ReadsFactor : Bool → Factor → List Piece → Type 0 where
  wanted_factor : {m : Bool} → ReadsFactor m (factors.Wanted m) []
  number : {m : Bool} {n : List ℕ} → ReadsFactor m (factors.Number m (literal n) (times n)) (NUMBER n ∷ [])
  times_read : {m : Bool} {n : List ℕ} → ReadsFactor m (factors.Times m (times n)) (NUMBER n ∷ STAR ∷ [])
  alone_read : {m : Bool} {k : Option ℕ} {o : List ℕ} {xs : List Piece} → ReadsTimes k xs → ReadsFactor m (factors.Alone m k o) (xs ++ NAME o ∷ [])
  dotted : {m : Bool} {k : Option ℕ} {o : List ℕ} {xs : List Piece} → ReadsTimes k xs → ReadsFactor m (factors.Dotted m k o) (xs ++ NAME o ∷ POINT ∷ [])
  attr : {m : Bool} {k : Option ℕ} {o a : List ℕ} {xs : List Piece} →
      ReadsTimes k xs → ReadsFactor m (factors.Attr m k o a) (xs ++ NAME o ∷ POINT ∷ NAME a ∷ [])
  dotted_twice : {m : Bool} {k : Option ℕ} {o a : List ℕ} {xs : List Piece} →
      ReadsTimes k xs → ReadsFactor m (factors.DottedTwice m k o a) (xs ++ NAME o ∷ POINT ∷ NAME a ∷ POINT ∷ [])
  whole_read : {m : Bool} {k : Option ℕ} {u : unit_type.Unit} {xs : List Piece} → SpellsFactor k u xs → ReadsFactor m (factors.Whole m k u) xs

-- what is read of a term: the factors before the last one, and that one
pub data ReadsTerm : List Signed → Factor → List Piece → Type 0 where
  fresh : ReadsTerm [] factors.First []
  partial : {fs : List Signed} {m : Bool} {last : Factor} {xs ys : List Piece} →
      ReadsSign fs m xs → ReadsFactor m last ys → ReadsTerm fs last (xs ++ ys)

-- the tokens before a term, by where it stands
pub data ReadsPlace : TermPlace → List Piece → Type 0 where
  left : ReadsPlace places.Left []
  right : {fs : List Signed} {op : Op} {xs : List Piece} → SpellsTerm fs xs → ReadsPlace (places.Right (term_of fs) op) (xs ++ COMPARISON op ∷ [])
  assigned : {v : List ℕ} → ReadsPlace (places.Assigned v) (OPEN_SQUARE ∷ NAME v ∷ ARROW ∷ [])

abbrev pub pair_word : Pair → Piece
pair_word pairs.Inside = INSIDE
pair_word pairs.Outside = OUTSIDE
pair_word pairs.Dist = DIST

-- what is read of an atom that begins with its word
pub data ReadsSpatial : Spatial → List Piece → Type 0 where
  pair_open : {w : Pair} → ReadsSpatial (spatials.PairOpen w) (pair_word w ∷ [])
  pair_first : {w : Pair} → ReadsSpatial (spatials.PairFirst w) (pair_word w ∷ OPEN ∷ [])
  pair_comma : {w : Pair} {o : List ℕ} → ReadsSpatial (spatials.PairComma w o) (pair_word w ∷ OPEN ∷ NAME o ∷ [])
  pair_second : {w : Pair} {o : List ℕ} → ReadsSpatial (spatials.PairSecond w o) (pair_word w ∷ OPEN ∷ NAME o ∷ COMMA ∷ [])
  pair_close : {w : Pair} {o p : List ℕ} → ReadsSpatial (spatials.PairClose w o p) (pair_word w ∷ OPEN ∷ NAME o ∷ COMMA ∷ NAME p ∷ [])
  dist_op : {o n : List ℕ} → ReadsSpatial (spatials.DistOp o n) (DIST ∷ OPEN ∷ NAME o ∷ COMMA ∷ NAME n ∷ CLOSE ∷ [])
  dist_num : {o n : List ℕ} {op : Op} →
      ReadsSpatial (spatials.DistNum o n op) (DIST ∷ OPEN ∷ NAME o ∷ COMMA ∷ NAME n ∷ CLOSE ∷ COMPARISON op ∷ [])
  dist_minus : {o n : List ℕ} {op : Op} →
      ReadsSpatial (spatials.DistMinus o n op) (DIST ∷ OPEN ∷ NAME o ∷ COMMA ∷ NAME n ∷ CLOSE ∷ COMPARISON op ∷ MINUS ∷ [])
  sphere_open : ReadsSpatial spatials.SphereOpen (SPHERE ∷ [])
  sphere_radius : ReadsSpatial spatials.SphereRadius (SPHERE ∷ OPEN ∷ [])
  sphere_comma : (r : List ℕ) → ReadsSpatial (spatials.SphereComma (radius_of r)) (SPHERE ∷ OPEN ∷ NUMBER r ∷ [])
  sphere_first : (r : List ℕ) → ReadsSpatial (spatials.SphereName (radius_of r) []) (SPHERE ∷ OPEN ∷ NUMBER r ∷ COMMA ∷ [])
  sphere_name : {ns : List (List ℕ)} {xs : List Piece} (r : List ℕ) →
      SpellsNames ns xs → ReadsSpatial (spatials.SphereName (radius_of r) ns) (SPHERE ∷ OPEN ∷ NUMBER r ∷ COMMA ∷ (xs ++ COMMA ∷ []))
  sphere_names : {ns : List (List ℕ)} {xs : List Piece} (r : List ℕ) →
      SpellsNames ns xs → ReadsSpatial (spatials.SphereNames (radius_of r) ns) (SPHERE ∷ OPEN ∷ NUMBER r ∷ COMMA ∷ xs)

-- the tokens of what comes next, after those of the stack
pub data Holds : Level → Phase → List Piece → Type 0 where
  want : {l : Level} → Holds l Want []
  have : {l : Level} {f : Tree} {xs : List Piece} → Spells unary f xs → Holds l (Have f) xs
  reach_within : {l : Level} {f : Tree} {xs : List Piece} →
      level_rank l ≤ 3 → Spells unary f xs → Holds l (Reach untils.Within f) (xs ++ UNTIL untils.Within ∷ [])
  reach_after : {l : Level} {f : Tree} {xs : List Piece} →
      level_rank l ≤ 3 → Spells unary f xs → Holds l (Reach untils.After f) (xs ++ UNTIL untils.After ∷ [])
  ticks_wanted : {l : Level} {form : BoundForm} → Holds l (Ticks form) (BOUNDED form ∷ [])
  variable : {l : Level} → Holds l Variable (OPEN_SQUARE ∷ [])
  arrow : {l : Level} {v : List ℕ} → Holds l (Arrow v) (OPEN_SQUARE ∷ NAME v ∷ [])
  in_term : {l : Level} {place : TermPlace} {fs : List Signed} {last : Factor} {xs ys : List Piece} →
      ReadsPlace place xs → ReadsTerm fs last ys → Holds l (InTerm place fs last) (xs ++ ys)
  in_spatial : {l : Level} {x : Spatial} {xs : List Piece} → ReadsSpatial x xs → Holds l (InSpatial x) xs

-- the tokens after WHERE so far
pub record ReadsBody (s : List Frame) (phase : Phase) (tokens : List Piece) : Type 0 where
  pub level : Level
  pub before : List Piece
  pub behind : List Piece
  pub waits : Waits level s before
  pub holds : Holds level phase behind
  pub split : tokens ≡ before ++ behind

-- the tokens before WHERE so far
pub data ReadsHead : Head → List (List ℕ) → List FromPart → List Piece → Type 0 where
  start_read : ReadsHead heads.Start [] [] []
  target_first : ReadsHead heads.Target [] [] (RETRIEVE ∷ [])
  target_next : {ns : List (List ℕ)} {xs : List Piece} → SpellsNames ns xs → ReadsHead heads.Target ns [] (RETRIEVE ∷ (xs ++ COMMA ∷ []))
  targets : {ns : List (List ℕ)} {xs : List Piece} → SpellsNames ns xs → ReadsHead heads.Targets ns [] (RETRIEVE ∷ xs)
  class_first : {ns : List (List ℕ)} {xs : List Piece} → SpellsNames ns xs → ReadsHead heads.Class ns [] (RETRIEVE ∷ (xs ++ FROM ∷ []))
  class_next : {ns : List (List ℕ)} {ps : List FromPart} {xs ys : List Piece} →
      SpellsNames ns xs → SpellsFromParts ps ys → ReadsHead heads.Class ns ps (RETRIEVE ∷ (xs ++ FROM ∷ (ys ++ COMMA ∷ [])))
  var_first : {ns : List (List ℕ)} {c : List ℕ} {xs : List Piece} →
      SpellsNames ns xs → ReadsHead (heads.Var c) ns [] (RETRIEVE ∷ (xs ++ FROM ∷ NAME c ∷ []))
  var_next : {ns : List (List ℕ)} {ps : List FromPart} {c : List ℕ} {xs ys : List Piece} →
      SpellsNames ns xs → SpellsFromParts ps ys → ReadsHead (heads.Var c) ns ps (RETRIEVE ∷ (xs ++ FROM ∷ (ys ++ COMMA ∷ NAME c ∷ [])))
  parts : {ns : List (List ℕ)} {ps : List FromPart} {xs ys : List Piece} →
      SpellsNames ns xs → SpellsFromParts ps ys → ReadsHead heads.Parts ns ps (RETRIEVE ∷ (xs ++ FROM ∷ ys))

-- a formula of a level is one of each level that binds less
pub raised : (l m : Level) {f : Tree} {xs : List Piece} → level_rank l ≤ level_rank m → Spells m f xs → Spells l f xs
raised formula formula below d = d
raised formula conj below d = formula_conj d
raised formula chain below d = formula_conj (conj_chain d)
raised formula unary below d = formula_conj (conj_chain (chain_unary d))
raised conj conj below d = d
raised conj chain below d = conj_chain d
raised conj unary below d = conj_chain (chain_unary d)
raised chain chain below d = d
raised chain unary below d = chain_unary d
raised unary unary below d = d
raised l m below d = absurd (omega arith)

-- a formula of the level that binds least is one, and one that binds most is below none
least : (l : Level) → 1 ≤ level_rank l
least formula = omega arith
least conj = omega arith
least chain = omega arith
least unary = omega arith

most : (l : Level) → level_rank l ≤ 4
most formula = omega arith
most conj = omega arith
most chain = omega arith
most unary = omega arith

-- what is left where the frames from a rank on have ended: a formula of that level, on a stack that waits for one
pub record Ends (l : Level) (r : Tree × List Frame) (tokens : List Piece) : Type 0 where
  pub level : Level
  pub before : List Piece
  pub behind : List Piece
  pub waits : Waits level r.1 before
  pub below : level_rank level ≤ level_rank l
  pub below_unary : level_rank level ≤ 3
  pub spells : Spells l r.0 behind
  pub split : tokens ≡ before ++ behind

ends-respelled : (l : Level) (r : Tree × List Frame) (xs ys : List Piece) → ys ≡ xs → Ends l r xs → Ends l r ys
ends-respelled l r xs ys e d = record {
  level = d.level;
  before = d.before;
  behind = d.behind;
  waits = d.waits;
  below =
      d.below;
  below_unary = d.below_unary;
  spells = d.spells;
  split = e ∙ d.split;
}

-- nothing ends
ends-here : (l n level : Level) {s : List Frame} {f : Tree} {xs ys : List Piece} → Waits level s xs → level_rank level ≤ level_rank l → level_rank level ≤ 3 →
    Spells n f ys → level_rank l ≤ level_rank n → Ends l (f, s) (xs ++ ys)
ends-here l n level {xs = xs} {ys = ys} waits below below_unary d under =
    record { level = level; before = xs; behind = ys; waits = waits; below = below; below_unary = below_unary; spells = raised l n under d; split = refl }

pub reduced-ends : (l m n : Level) {s : List Frame} {f : Tree} {xs ys : List Piece} →
    Waits m s xs → Spells n f ys → level_rank m ≤ level_rank n → level_rank l ≤ level_rank n → Ends l (reduced (level_rank l) f s) (xs ++ ys)
reduced-ends l m n bottom d fits below = ends-here l n formula bottom (least l) (omega arith) d below
reduced-ends formula m n (bracket w) d fits below = ends-here formula n formula (bracket w) (omega arith) (omega arith) d below
reduced-ends conj m n (bracket w) d fits below = ends-here conj n formula (bracket w) (omega arith) (omega arith) d below
reduced-ends chain m n (bracket w) d fits below = ends-here chain n formula (bracket w) (omega arith) (omega arith) d below
reduced-ends unary m n (bracket w) d fits below = ends-here unary n formula (bracket w) (omega arith) (omega arith) d below
reduced-ends formula m n {ys = zs} (or_with {xs = xs} {ys = ys} w e) d fits below =
    ends-respelled formula _ _ _ (simp append_assoc) (reduced-ends formula formula formula w (formula_or e (raised conj n fits d)) (omega arith) (omega arith))
reduced-ends conj m n (or_with w e) d fits below = ends-here conj n conj (or_with w e) (omega arith) (omega arith) d below
reduced-ends chain m n (or_with w e) d fits below = ends-here chain n conj (or_with w e) (omega arith) (omega arith) d below
reduced-ends unary m n (or_with w e) d fits below = ends-here unary n conj (or_with w e) (omega arith) (omega arith) d below
reduced-ends formula m n (and_with {l = k} w under e) d fits below =
    ends-respelled formula _ _ _ (simp append_assoc) (reduced-ends formula k conj w (conj_and e (raised chain n fits d)) under (omega arith))
reduced-ends conj m n (and_with {l = k} w under e) d fits below =
    ends-respelled conj _ _ _ (simp append_assoc) (reduced-ends conj k conj w (conj_and e (raised chain n fits d)) under (omega arith))
reduced-ends chain m n (and_with w under e) d fits below = ends-here chain n chain (and_with w under e) (omega arith) (omega arith) d below
reduced-ends unary m n (and_with w under e) d fits below = ends-here unary n chain (and_with w under e) (omega arith) (omega arith) d below
reduced-ends formula m n (until_with {l = k} w under e u) d fits below =
    ends-respelled formula _ _ _ (simp append_assoc) (reduced-ends formula k chain w (chain_until u e (raised chain n fits d)) under (omega arith))
reduced-ends conj m n (until_with {l = k} w under e u) d fits below =
    ends-respelled conj _ _ _ (simp append_assoc) (reduced-ends conj k chain w (chain_until u e (raised chain n fits d)) under (omega arith))
reduced-ends chain m n (until_with {l = k} w under e u) d fits below =
    ends-respelled chain _ _ _ (simp append_assoc) (reduced-ends chain k chain w (chain_until u e (raised chain n fits d)) under (omega arith))
reduced-ends unary m n (until_with w under e u) d fits below = ends-here unary n chain (until_with w under e u) (omega arith) (omega arith) d below
reduced-ends l m n {f = f} (prefixed_by {l = k} {s = s} {w = v} w) d fits below =
    rw (reduced-filled (level_rank l) (PrefixedBy v) s f (most l))
    (ends-respelled l _ _ _ (simp append_assoc) (reduced-ends l k unary w (unary_prefix {w = v} (raised unary n fits d)) (most k) (most l)))
reduced-ends l m n {f = f} (bounded_by {l = k} {s = s} {form = form} c w) d fits below =
    rw (reduced-filled (level_rank l) (BoundedBy form (ticks c)) s f (most l))
    (ends-respelled l _ _ _ (simp append_assoc) (reduced-ends l k unary w (unary_bounded {form = form} {c = c} (raised unary n fits d)) (most k) (most l)))
reduced-ends l m n {f = f} (assigning {l = k} {s = s} {v = v} {fs = fs} w t) d fits below =
    rw (reduced-filled (level_rank l) (Assigning v (term_of fs)) s f (most l))
    (ends-respelled l _ _ _ (simp append_assoc) (reduced-ends l k unary w (unary_assign {v = v} t (raised unary n fits d)) (most k) (most l)))

-- a factor after its sign is the last one of a term
sign-term : {fs : List Signed} {m : Bool} {k : Option ℕ} {u : unit_type.Unit} {xs ys : List Piece} →
    ReadsSign fs m xs → SpellsFactor k u ys → SpellsTerm (fs ++ signed m k u ∷ []) (xs ++ ys)
sign-term no_sign d = term_first d
sign-term minus_first d = term_minus_first d
sign-term (plus_behind t) d = rw append_assoc (term_plus t d)
sign-term (minus_behind t) d = rw append_assoc (term_minus t d)

times-ref : {k : Option ℕ} {u : unit_type.Unit} {xs ys : List Piece} → ReadsTimes k xs → SpellsRef u ys → SpellsFactor k u (xs ++ ys)
times-ref no_times r = factor_ref r
times-ref (some_times {n = n}) r = factor_times {n = n} r

-- the tokens spell a term with this factor after the others, if there is one
abbrev TermIf : List Signed → Option Signed → List Piece → Type 0
TermIf fs None xs = Unit {0}
TermIf fs (Some u) xs = SpellsTerm (fs ++ u ∷ []) xs

whole-term : {fs : List Signed} {m : Bool} {last : Factor} {xs ys : List Piece} →
    ReadsSign fs m xs → ReadsFactor m last ys → TermIf fs (whole_factor last) (xs ++ ys)
whole-term s (number {n = n}) = sign-term s (factor_number {n = n})
whole-term s (alone_read t) = sign-term s (times-ref t ref_name)
whole-term s (attr t) = sign-term s (times-ref t ref_attr)
whole-term s (whole_read d) = sign-term s d
whole-term s r = tt

-- a factor that may end here is the last one of a term
term-whole : {fs : List Signed} {last : Factor} {xs : List Piece} → ReadsTerm fs last xs → TermIf fs (whole_factor last) xs
term-whole fresh = tt
term-whole (partial s r) = whole-term s r

-- what is read of a term, if a token made its last factor longer
abbrev LongerIf : List Signed → Option Factor → List Piece → Type 0
LongerIf fs None xs = Unit {0}
LongerIf fs (Some last) xs = ReadsTerm fs last xs

partial-respelled : {fs : List Signed} {m : Bool} {last : Factor} {xs ys zs : List Piece} →
    ReadsSign fs m xs → ReadsFactor m last ys → zs ≡ xs ++ ys → ReadsTerm fs last zs
partial-respelled {fs = fs} {last = last} s r e = subst (ReadsTerm fs last) (sym e) (partial s r)

-- a reference begins
begun : {fs : List Signed} {m : Bool} {k : Option ℕ} {xs ys : List Piece} → ReadsSign fs m xs → ReadsTimes k ys → (p : Piece) →
    LongerIf fs (reference m k p) ((xs ++ ys) ++ p ∷ [])
begun {ys = ys} s t (NAME o) = partial-respelled s (alone_read t) (append_assoc _ ys (NAME o ∷ []))
begun {ys = ys} s t TIME = partial-respelled s (whole_read (times-ref t ref_time)) (append_assoc _ ys (TIME ∷ []))
begun s t p = tt

-- a factor begins after its sign
factor-begun : {fs : List Signed} {m : Bool} {xs : List Piece} → ReadsSign fs m xs → (p : Piece) → LongerIf fs (factor_begun m p) (xs ++ p ∷ [])
factor-begun s (NUMBER n) = partial s number
factor-begun s (TEXT t) = partial s (whole_read factor_text)
factor-begun s (NAME o) = partial s (alone_read no_times)
factor-begun s TIME = partial s (whole_read (factor_ref ref_time))
factor-begun s p = tt

lengthened-sign : {fs : List Signed} {m : Bool} {last : Factor} {xs ys : List Piece} → ReadsSign fs m xs → ReadsFactor m last ys → (p : Piece) →
    LongerIf fs (lengthened last p) ((xs ++ ys) ++ p ∷ [])
lengthened-sign {fs = fs} {m = m} s wanted_factor p =
    subst (λ zs. LongerIf fs (factor_begun m p) (zs ++ p ∷ [])) (sym (append-nil _)) (factor-begun s p)
lengthened-sign s (number {n = n}) STAR = partial-respelled s (times_read {n = n}) (append_assoc _ (NUMBER n ∷ []) (STAR ∷ []))
lengthened-sign s number p = tt
lengthened-sign s (times_read {n = n}) p = begun s (some_times {n = n}) p
lengthened-sign s (alone_read {o = o} {xs = ts} t) POINT = partial-respelled s (dotted t) (simp append_assoc)
lengthened-sign s (alone_read t) p = tt
lengthened-sign s (dotted {o = o} t) (NAME a) = partial-respelled s (attr t) (simp append_assoc)
lengthened-sign s (dotted t) p = tt
lengthened-sign s (attr t) POINT = partial-respelled s (dotted_twice t) (simp append_assoc)
lengthened-sign s (attr t) p = tt
lengthened-sign s (dotted_twice {o = o} {a = a} t) (PART part) =
    partial-respelled s (whole_read (times-ref t (ref_part {o = o} {a = a} {s = part}))) (simp append_assoc)
lengthened-sign s (dotted_twice t) p = tt
lengthened-sign s (whole_read d) p = tt

-- one more token in a term
lengthened-term : {fs : List Signed} {last : Factor} {xs : List Piece} → ReadsTerm fs last xs → (p : Piece) → LongerIf fs (lengthened last p) (xs ++ p ∷ [])
lengthened-term fresh MINUS = partial minus_first wanted_factor
lengthened-term fresh p = factor-begun no_sign p
lengthened-term (partial s r) p = lengthened-sign s r p

-- the tokens after WHERE so far, if the last one was taken
abbrev BodyIf : Option Body → List Piece → Type 0
BodyIf None xs = Unit {0}
BodyIf (Some b) xs = ReadsBody b.0 b.1 xs

reads-body : {l : Level} {s : List Frame} {phase : Phase} {ys zs : List Piece} (xs : List Piece) →
    Waits l s ys → Holds l phase zs → xs ≡ ys ++ zs → ReadsBody s phase xs
reads-body {l = l} {ys = ys} {zs = zs} xs w h e = record { level = l; before = ys; behind = zs; waits = w; holds = h; split = e }

-- the same tokens
spelled-same : {l : Level} {f : Tree} {xs : List Piece} (ys : List Piece) → xs ≡ ys → Spells l f xs → Spells l f ys
spelled-same {l = l} {f = f} ys e d = subst (Spells l f) e d

waits-formula : (l : Level) {s : List Frame} {xs : List Piece} → Waits l s xs → level_rank l ≤ 1 → Waits formula s xs
waits-formula formula w below = w
waits-formula l w below = absurd (omega arith)

-- a closing bracket
closed-by : {l : Level} {s : List Frame} {f : Tree} {ys zs : List Piece} (xs : List Piece) → Waits l s ys → Spells formula f zs →
    xs ≡ ys ++ zs → BodyIf (closed (f, s)) (xs ++ CLOSE ∷ [])
closed-by {zs = zs} xs (bracket w) d e = reads-body (xs ++ CLOSE ∷ []) w (have (unary_brackets d)) (ap (λ t. t ++ CLOSE ∷ []) e ∙ simp append_assoc)
closed-by xs w d e = tt

module _ {l : Level} {s : List Frame} {f : Tree} {ys zs : List Piece} (waits : Waits l s ys) (d : Spells unary f zs) where
  or-behind : (r : Tree × List Frame) → Ends formula r (ys ++ zs) → ReadsBody (OrWith r.0 ∷ r.1) Want ((ys ++ zs) ++ OR ∷ [])
  or-behind r e =
      reads-body _ (or_with (waits-formula e.level e.waits e.below) e.spells) want
      (ap (λ t. t ++ OR ∷ []) e.split ∙ simp (append_assoc, append-nil))

  and-behind : (r : Tree × List Frame) → Ends conj r (ys ++ zs) → ReadsBody (AndWith r.0 ∷ r.1) Want ((ys ++ zs) ++ AND ∷ [])
  and-behind r e = reads-body _ (and_with e.waits e.below e.spells) want (ap (λ t. t ++ AND ∷ []) e.split ∙ simp (append_assoc, append-nil))

  until-behind : (r : Tree × List Frame) → Ends unary r (ys ++ zs) → ReadsBody (UntilWith untils.Plain 0 r.0 ∷ r.1) Want ((ys ++ zs) ++ UNTIL untils.Plain ∷ [])
  until-behind r e =
      reads-body _ (until_with e.waits e.below_unary e.spells until_plain) want
      (ap (λ t. t ++ UNTIL untils.Plain ∷ []) e.split ∙ simp (append_assoc, append-nil))

  within-behind : (r : Tree × List Frame) → Ends unary r (ys ++ zs) → ReadsBody r.1 (Reach untils.Within r.0) ((ys ++ zs) ++ UNTIL untils.Within ∷ [])
  within-behind r e =
      reads-body _ e.waits (reach_within e.below_unary e.spells) (ap (λ t. t ++ UNTIL untils.Within ∷ []) e.split ∙ simp append_assoc)

  after-behind : (r : Tree × List Frame) → Ends unary r (ys ++ zs) → ReadsBody r.1 (Reach untils.After r.0) ((ys ++ zs) ++ UNTIL untils.After ∷ [])
  after-behind r e =
      reads-body _ e.waits (reach_after e.below_unary e.spells) (ap (λ t. t ++ UNTIL untils.After ∷ []) e.split ∙ simp append_assoc)

  close-behind : (r : Tree × List Frame) → Ends formula r (ys ++ zs) → BodyIf (closed r) ((ys ++ zs) ++ CLOSE ∷ [])
  close-behind r e = closed-by (ys ++ zs) e.waits e.spells e.split

-- a token after a formula
behind-by : {l : Level} {s : List Frame} {f : Tree} {ys zs : List Piece} → Waits l s ys → Spells unary f zs → (p : Piece) →
    BodyIf (behind f s p) ((ys ++ zs) ++ p ∷ [])
behind-by {l = l} {s = s} {f = f} w d OR = or-behind w d (reduced 1 f s) (reduced-ends formula l unary w d (most l) (omega arith))
behind-by {l = l} {s = s} {f = f} w d AND = and-behind w d (reduced 2 f s) (reduced-ends conj l unary w d (most l) (omega arith))
behind-by {l = l} {s = s} {f = f} w d (UNTIL untils.Plain) = until-behind w d (reduced 4 f s) (reduced-ends unary l unary w d (most l) (omega arith))
behind-by {l = l} {s = s} {f = f} w d (UNTIL untils.Within) = within-behind w d (reduced 4 f s) (reduced-ends unary l unary w d (most l) (omega arith))
behind-by {l = l} {s = s} {f = f} w d (UNTIL untils.After) = after-behind w d (reduced 4 f s) (reduced-ends unary l unary w d (most l) (omega arith))
behind-by {l = l} {s = s} {f = f} w d CLOSE = close-behind w d (reduced 1 f s) (reduced-ends formula l unary w d (most l) (omega arith))
behind-by w d p = tt

body-respelled : (o : Option Body) (xs ys : List Piece) → xs ≡ ys → BodyIf o xs → BodyIf o ys
body-respelled o xs ys e b = subst (BodyIf o) e b

-- a token after a whole term
term-ended : {l : Level} {s : List Frame} {place : TermPlace} {fs : List Signed} {xs ys zs : List Piece} →
    Waits l s ys → ReadsPlace place xs → SpellsTerm fs zs → (p : Piece) → BodyIf (term_ended s place fs p) ((ys ++ (xs ++ zs)) ++ p ∷ [])
term-ended w left d (COMPARISON op) = reads-body _ w (in_term (right {op = op} d) fresh) (simp (append_assoc, append-nil))
term-ended w left d p = tt
term-ended {s = s} {fs = fs} {ys = ys} {zs = zs} w (right {fs = gs} {op = op} {xs = xs} t) d p =
    body-respelled (term_ended s (places.Right (term_of gs) op) fs p) _ _ (simp append_assoc) (behind-by w (unary_atom (atom_compare {op = op} t d)) p)
term-ended w (assigned {v = v}) d CLOSE_SQUARE = reads-body _ (assigning {v = v} w d) want (simp (append_assoc, append-nil))
term-ended w assigned d p = tt

-- a token after a whole factor
factor-ended : {l : Level} {s : List Frame} {place : TermPlace} {fs : List Signed} {xs ys zs : List Piece} →
    Waits l s ys → ReadsPlace place xs → SpellsTerm fs zs → (p : Piece) → BodyIf (factor_ended s place fs p) ((ys ++ (xs ++ zs)) ++ p ∷ [])
factor-ended w place d PLUS = reads-body _ w (in_term place (partial (plus_behind d) wanted_factor)) (simp (append_assoc, append-nil))
factor-ended w place d MINUS = reads-body _ w (in_term place (partial (minus_behind d) wanted_factor)) (simp (append_assoc, append-nil))
factor-ended w place d p = term-ended w place d p

-- a token after what may be a whole factor
behind-factor : {l : Level} {s : List Frame} {place : TermPlace} {xs ys : List Piece} (fs : List Signed) (zs : List Piece) → Waits l s ys
    → ReadsPlace place xs →
    (o : Option Signed) → TermIf fs o zs → (p : Piece) → BodyIf (behind_factor s place fs o p) ((ys ++ (xs ++ zs)) ++ p ∷ [])
behind-factor fs zs w before None d p = tt
behind-factor fs zs w before (Some u) d p = factor-ended w before d p

longer-or : {l : Level} {s : List Frame} {place : TermPlace} {xs ys : List Piece} (fs : List Signed) (zs : List Piece) → Waits l s ys → ReadsPlace place xs →
    (o : Option Factor) (later : Option Body) (p : Piece) → LongerIf fs o (zs ++ p ∷ []) → BodyIf later ((ys ++ (xs ++ zs)) ++ p ∷ []) →
    BodyIf (longer_or s place fs o later) ((ys ++ (xs ++ zs)) ++ p ∷ [])
longer-or fs zs w before None later p r b = b
longer-or fs zs w before (Some last) later p r b = reads-body _ w (in_term before r) (simp append_assoc)

-- a token in a term
term-by : {l : Level} {s : List Frame} {place : TermPlace} {fs : List Signed} {last : Factor} {xs ys zs : List Piece} →
    Waits l s ys → ReadsPlace place xs → ReadsTerm fs last zs → (p : Piece) → BodyIf (term_step s place fs last p) ((ys ++ (xs ++ zs)) ++ p ∷ [])
term-by {s = s} {place = place} {fs = fs} {last = last} {zs = zs} w before r p =
    longer-or fs zs w before (lengthened last p) (behind_factor s place fs (whole_factor last) p) p (lengthened-term r p)
    (behind-factor fs zs w before (whole_factor last) (term-whole r) p)

-- the tokens of what comes next, if a token was taken
abbrev HoldsIf : Level → Option Phase → List Piece → Type 0
HoldsIf l None xs = Unit {0}
HoldsIf l (Some phase) xs = Holds l phase xs

holds-same : {l : Level} {phase : Phase} {xs : List Piece} (ys : List Piece) → xs ≡ ys → Holds l phase xs → Holds l phase ys
holds-same {l = l} {phase = phase} ys e h = subst (Holds l phase) e h

-- a token in an atom that begins with its word
spatial-by : (l : Level) {x : Spatial} {xs : List Piece} → ReadsSpatial x xs → (p : Piece) → HoldsIf l (spatial_step x p) (xs ++ p ∷ [])
spatial-by l pair_open OPEN = in_spatial pair_first
spatial-by l pair_open p = tt
spatial-by l pair_first (NAME o) = in_spatial pair_comma
spatial-by l pair_first p = tt
spatial-by l pair_comma COMMA = in_spatial pair_second
spatial-by l pair_comma p = tt
spatial-by l pair_second (NAME o) = in_spatial pair_close
spatial-by l pair_second p = tt
spatial-by l (pair_close {w = pairs.Inside}) CLOSE = have (unary_atom atom_inside)
spatial-by l (pair_close {w = pairs.Outside}) CLOSE = have (unary_atom atom_outside)
spatial-by l (pair_close {w = pairs.Dist}) CLOSE = in_spatial dist_op
spatial-by l (pair_close {w = pairs.Inside}) p = tt
spatial-by l (pair_close {w = pairs.Outside}) p = tt
spatial-by l (pair_close {w = pairs.Dist}) p = tt
spatial-by l dist_op (COMPARISON op) = in_spatial dist_num
spatial-by l dist_op p = tt
spatial-by l dist_num (NUMBER c) = have (unary_atom (atom_dist num_plain))
spatial-by l dist_num MINUS = in_spatial dist_minus
spatial-by l dist_num p = tt
spatial-by l dist_minus (NUMBER c) = have (unary_atom (atom_dist num_minus))
spatial-by l dist_minus p = tt
spatial-by l sphere_open OPEN = in_spatial sphere_radius
spatial-by l sphere_open p = tt
spatial-by l sphere_radius (NUMBER r) = in_spatial (sphere_comma r)
spatial-by l sphere_radius p = tt
spatial-by l (sphere_comma r) COMMA = in_spatial (sphere_first r)
spatial-by l (sphere_comma r) p = tt
spatial-by l (sphere_first r) (NAME n) = in_spatial (sphere_names r names_one)
spatial-by l (sphere_first r) p = tt
spatial-by l (sphere_name {xs = xs} r d) (NAME n) =
    holds-same _ (ap (λ zs. SPHERE ∷ OPEN ∷ NUMBER r ∷ COMMA ∷ zs) (sym (append_assoc xs (COMMA ∷ []) (NAME n ∷ []))))
    (in_spatial (sphere_names r (names_more n d)))
spatial-by l (sphere_name r d) p = tt
spatial-by l (sphere_names r d) COMMA = in_spatial (sphere_name r d)
spatial-by l (sphere_names r d) CLOSE = have (unary_atom (atom_sphere d))
spatial-by l (sphere_names r d) p = tt

-- the beginning of a formula
wanted-by : {l : Level} {s : List Frame} {ys : List Piece} → Waits l s ys → (p : Piece) → BodyIf (wanted s p) (ys ++ p ∷ [])
wanted-by w (TRUTH b) = reads-body _ w (have unary_truth) refl
wanted-by w (PREFIX v) = reads-body _ (prefixed_by w) want (sym (append-nil _))
wanted-by w (BOUNDED form) = reads-body _ w ticks_wanted refl
wanted-by w OPEN_SQUARE = reads-body _ w variable refl
wanted-by w OPEN = reads-body _ (bracket w) want (sym (append-nil _))
wanted-by w INSIDE = reads-body _ w (in_spatial (pair_open {w = pairs.Inside})) refl
wanted-by w OUTSIDE = reads-body _ w (in_spatial (pair_open {w = pairs.Outside})) refl
wanted-by w DIST = reads-body _ w (in_spatial (pair_open {w = pairs.Dist})) refl
wanted-by w SPHERE = reads-body _ w (in_spatial sphere_open) refl
wanted-by {s = s} {ys = ys} w p =
    body-respelled (term_step s places.Left [] factors.First p) ((ys ++ []) ++ p ∷ []) (ys ++ p ∷ [])
    (ap (λ t. t ++ p ∷ []) (append-nil ys)) (term-by w left fresh p)

spatial-body : {l : Level} {s : List Frame} {ys : List Piece} (zs : List Piece) → Waits l s ys → (o : Option Phase) (p : Piece) → HoldsIf l o (zs ++ p ∷ []) →
    BodyIf (option_map (λ phase. (s, phase)) o) ((ys ++ zs) ++ p ∷ [])
spatial-body zs w None p h = tt
spatial-body {ys = ys} zs w (Some phase) p h = reads-body _ w h (append_assoc ys zs (p ∷ []))

-- one more token after WHERE
body-by : {l : Level} {s : List Frame} {phase : Phase} {ys zs : List Piece} → Waits l s ys → Holds l phase zs → (p : Piece) →
    BodyIf (body_step s phase p) ((ys ++ zs) ++ p ∷ [])
body-by {s = s} {ys = ys} w want p = body-respelled (wanted s p) (ys ++ p ∷ []) _ (ap (λ t. t ++ p ∷ []) (sym (append-nil ys))) (wanted-by w p)
body-by w (have d) p = behind-by w d p
body-by w (reach_within below d) (NUMBER c) = reads-body _ (until_with w below d (until_within {c = c})) want (simp (append_assoc, append-nil))
body-by w (reach_within below d) p = tt
body-by w (reach_after below d) (NUMBER c) = reads-body _ (until_with w below d (until_after {c = c})) want (simp (append_assoc, append-nil))
body-by w (reach_after below d) p = tt
body-by w ticks_wanted (NUMBER c) = reads-body _ (bounded_by c w) want (simp (append_assoc, append-nil))
body-by w ticks_wanted p = tt
body-by w variable (NAME v) = reads-body _ w arrow (simp append_assoc)
body-by w variable p = tt
body-by w arrow ARROW = reads-body _ w (in_term assigned fresh) (simp (append_assoc, append-nil))
body-by w arrow p = tt
body-by w (in_term before r) p = term-by w before r p
body-by {l = l} {zs = zs} w (in_spatial {x = x} r) p = spatial-body zs w (spatial_step x p) p (spatial-by l r p)

-- the formula that is read, if there is one
abbrev FormulaIf : Option Tree → List Piece → Type 0
FormulaIf None xs = Unit {0}
FormulaIf (Some f) xs = Spells formula f xs

formula-respelled : (o : Option Tree) (xs ys : List Piece) → xs ≡ ys → FormulaIf o xs → FormulaIf o ys
formula-respelled o xs ys e d = subst (FormulaIf o) e d

alone-by : {l : Level} {s : List Frame} {f : Tree} {ys zs : List Piece} → Waits l s ys → Spells formula f zs → FormulaIf (ended_formula (f, s)) (ys ++ zs)
alone-by bottom d = d
alone-by w d = tt

reduced-alone : {l : Level} {s : List Frame} {f : Tree} {ys zs : List Piece} → Waits l s ys → Spells unary f zs → FormulaIf (ended_formula (reduced 1 f s)) (ys ++ zs)
reduced-alone {l = l} {s = s} {f = f} {ys = ys} {zs = zs} w d =
    let e = reduced-ends formula l unary w d (most l) (omega arith) in
    formula-respelled (ended_formula (reduced 1 f s)) _ _ (sym e.split) (alone-by e.waits e.spells)

compared-by : {l : Level} {s : List Frame} {gs : List Signed} {xs ys : List Piece} (op : Op) (fs : List Signed) (zs : List Piece)
    → Waits l s ys → SpellsTerm gs xs →
    (o : Option Signed) → TermIf fs o zs → FormulaIf (compared s (term_of gs) op fs o) (ys ++ ((xs ++ COMPARISON op ∷ []) ++ zs))
compared-by op fs zs w t None d = tt
compared-by {s = s} {gs = gs} op fs zs w t (Some u) d =
    formula-respelled (compared s (term_of gs) op fs (Some u)) _ _ (simp append_assoc) (reduced-alone w (unary_atom (atom_compare {op = op} t d)))

-- the end of the tokens
end-by : {l : Level} {s : List Frame} {phase : Phase} {ys zs : List Piece} → Waits l s ys → Holds l phase zs → FormulaIf (body_end s phase) (ys ++ zs)
end-by w (have d) = reduced-alone w d
end-by w (in_term {fs = fs} {last = last} {ys = zs} (right {op = op} t) r) = compared-by op fs zs w t (whole_factor last) (term-whole r)
end-by w h = tt

-- the tokens after WHERE that are parsed spell the formula
body-spells : (tokens : List Piece) (s : List Frame) (phase : Phase) (xs : List Piece) → ReadsBody s phase xs →
    FormulaIf (body_parsed s phase tokens) (xs ++ tokens)
body-spells [] s phase xs r =
    formula-respelled (body_end s phase) (r.before ++ r.behind) (xs ++ []) (sym (append-nil xs ∙ r.split)) (end-by r.waits r.holds)
body-spells (p ∷ tokens) s phase xs r =
    goes (body_step s phase p) (body-respelled (body_step s phase p) _ _ (ap (λ t. t ++ p ∷ []) (sym r.split)) (body-by r.waits r.holds p))
    (λ b. body-spells tokens b.0 b.1 (xs ++ p ∷ []))
  where
    goes : (o : Option Body) → BodyIf o (xs ++ p ∷ []) → ((b : Body) → ReadsBody b.0 b.1 (xs ++ p ∷ [])
        → FormulaIf (body_parsed b.0 b.1 tokens) ((xs ++ p ∷ []) ++ tokens)) →
        FormulaIf (option_and_then (λ b. body_parsed b.0 b.1 tokens) o) (xs ++ p ∷ tokens)
    goes None b later = tt
    goes (Some b) reads later = formula-respelled (body_parsed b.0 b.1 tokens) _ _ (append_assoc xs (p ∷ []) tokens) (later b reads)

-- the query that is read, if there is one
abbrev QueryIf : Option QueryTree → List Piece → Type 0
QueryIf None xs = Unit {0}
QueryIf (Some q) xs = SpellsQuery q xs

query-respelled : (o : Option QueryTree) (xs ys : List Piece) → xs ≡ ys → QueryIf o xs → QueryIf o ys
query-respelled o xs ys e d = subst (QueryIf o) e d

-- a formula after a head
whole-query : {ns : List (List ℕ)} {ps : List FromPart} {xs ys : List Piece} → SpellsNames ns xs → SpellsFromParts ps ys →
    (o : Option Tree) (tokens : List Piece) → FormulaIf o tokens → QueryIf (option_map (query_with ns ps) o) (RETRIEVE ∷ (xs ++ FROM ∷ (ys ++ WHERE ∷ tokens)))
whole-query names froms None tokens d = tt
whole-query names froms (Some f) tokens d = query names froms d

behind-head : {ns : List (List ℕ)} {ps : List FromPart} {xs ys : List Piece} → SpellsNames ns xs → SpellsFromParts ps ys → (tokens : List Piece) →
    QueryIf (parsed (Within ns ps ([], Want)) tokens) (RETRIEVE ∷ (xs ++ FROM ∷ (ys ++ WHERE ∷ tokens)))
behind-head {ns = ns} {ps = ps} names froms tokens =
    rw (parsed-Within ns ps [] Want tokens) (whole-query names froms (body_parsed [] Want tokens) tokens
    (body-spells tokens [] Want [] (reads-body [] bottom want refl)))

-- the tokens of a query before WHERE, and what comes after them
head-spells : {h : Head} {ns : List (List ℕ)} {ps : List FromPart} {xs : List Piece} (tokens : List Piece) → ReadsHead h ns ps xs →
    QueryIf (parsed (Heading h ns ps) tokens) (xs ++ tokens)
head-spells [] r = tt
head-spells (RETRIEVE ∷ tokens) start_read = head-spells tokens target_first
head-spells (p ∷ tokens) start_read = tt
head-spells (NAME n ∷ tokens) target_first = head-spells tokens (targets (names_one {n = n}))
head-spells (p ∷ tokens) target_first = tt
head-spells (NAME n ∷ tokens) (target_next {ns = ns} {xs = xs} d) =
    query-respelled (parsed (Heading heads.Targets (ns ++ n ∷ []) []) tokens) _ _ (simp append_assoc) (head-spells tokens (targets (names_more n d)))
head-spells (p ∷ tokens) (target_next d) = tt
head-spells (COMMA ∷ tokens) (targets {ns = ns} d) = query-respelled (parsed (Heading heads.Target ns []) tokens) _ _ (simp append_assoc)
    (head-spells tokens (target_next d))
head-spells (FROM ∷ tokens) (targets {ns = ns} d) = query-respelled (parsed (Heading heads.Class ns []) tokens) _ _ (simp append_assoc)
    (head-spells tokens (class_first d))
head-spells (p ∷ tokens) (targets d) = tt
head-spells (NAME c ∷ tokens) (class_first {ns = ns} d) =
    query-respelled (parsed (Heading (heads.Var c) ns []) tokens) _ _ (simp append_assoc) (head-spells tokens (var_first {c = c} d))
head-spells (p ∷ tokens) (class_first d) = tt
head-spells (NAME c ∷ tokens) (class_next {ns = ns} {ps = ps} d e) =
    query-respelled (parsed (Heading (heads.Var c) ns ps) tokens) _ _ (simp append_assoc) (head-spells tokens (var_next {c = c} d e))
head-spells (p ∷ tokens) (class_next d e) = tt
head-spells (NAME v ∷ tokens) (var_first {ns = ns} {c = c} d) =
    query-respelled (parsed (Heading heads.Parts ns (from_part c v ∷ [])) tokens) _ _ (simp append_assoc)
    (head-spells tokens (parts d (parts_one {c = c} {v = v})))
head-spells (p ∷ tokens) (var_first d) = tt
head-spells (NAME v ∷ tokens) (var_next {ns = ns} {ps = ps} {c = c} d e) =
    query-respelled (parsed (Heading heads.Parts ns (ps ++ from_part c v ∷ [])) tokens) _ _ (simp append_assoc)
    (head-spells tokens (parts d (parts_more c v e)))
head-spells (p ∷ tokens) (var_next d e) = tt
head-spells (COMMA ∷ tokens) (parts {ns = ns} {ps = ps} d e) =
    query-respelled (parsed (Heading heads.Class ns ps) tokens) _ _ (simp append_assoc) (head-spells tokens (class_next d e))
head-spells (WHERE ∷ tokens) (parts {ns = ns} {ps = ps} d e) =
    query-respelled (parsed (Within ns ps ([], Want)) tokens) _ _ (simp append_assoc) (behind-head d e tokens)
head-spells (p ∷ tokens) (parts d e) = tt

-- what the machine parses is derived by the rules
pub found_query : (xs : List Piece) (q : QueryTree) → parsed start xs ≡ Some q → SpellsQuery q xs
found_query xs q h = subst (λ o. QueryIf o xs) h (head-spells xs start_read)
