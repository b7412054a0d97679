-- What a part's reader reads, the part's rule derives from the tokens that the reader took. Parts that have no rule of their own have one here.
use Rattle.command_text.proofs.Names.{◌≡◌, ℕ, ℤ, zero, suc, Bool, true, false, List, [], ◌∷◌, ◌++◌, length, Option, Some, None, option_map, refl, sym, ◌∙◌, ap, subst, append_assoc, append-nil, eqb-true, arith, ◌<◌, length-append, if◌then◌else◌, ◌==◌, is_some, is_none, nat_le, option_map_or, ◌>>=◌, AT, MOVE, RATE, POINT_WORD, NUM, TEXT_WORD, DYN, OPEN_SQUARE, CLOSE_SQUARE, COMMA, MINUS, Point, Function, AttrKind, Given, NamedSet, Place, QueryTree, Name, Quoted, Whole, Error, PointWord, Points, Asking, Piece, NAME, NUMBER, TEXT, is_key, is_sign, is_name, is_text, WholePlace, Steps, whole_in, radius_in, SignedPlace, Value, Rate, signed_in, are_few_legs, function_of, are_few_attributes, are_few_vertices, query_of, is_query_fit, is_query_small, Notes, and_number, and_size, whole_at, radius_at, signed_at, point_of, set_of, place_with, legs_of_x, legs_of_y, SpellsNumAt, num_plain, num_minus, SpellsPair, SpellsAttr, attr_num, attr_text, attr_dyn, SpellsMoreAttrs, no_more_attrs, one_more_attr, SpellsAttrs, no_attrs, SpellsPoints, no_points, one_point, SpellsRateLegs, no_rate_legs, one_rate_leg, SpellsRates, SpellsMoveLegs, no_move_legs, one_move_leg, SpellsMoves, SpellsGiven, given_num, SpellsSettings, no_settings, one_setting, SpellsAt, not_at, SpellsMoving, not_moving, SpellsChange, change, no_point_word, SpellsPart, part_name, part_text, part_whole, part_error, part_point_word, part_points, SpellsParts, last_query, Reader, Read, notes, before, next, begins, key, sign, name_in, number_in, text_in, name, text, number, whole, radius, minus, signed_number, num, point, many, all, kind_in, attr, next_attr, first_attr, attrs, points, rate_leg, move_leg, rate, given_value, given_equal, given, setting, settings, some_moves, place, query, noting_fit, noting_small, first_unfit, ARROW, CLOSE, COMMA_SIGN, COMPARISON, MINUS_SIGN, OPEN, OPEN_SIGN, OPEN_SQUARE_SIGN, PLUS, POINT, STAR, SpellsQuery, WORD, inl, inr, sign_code, signs, slice_get, ◌⊎◌}
use Rattle.case_table.specs.declared.compare.Op.TheVariants as ops
use Rattle.motion.specs.declared.cell.AttrKind.TheVariants as attr_kinds
use Rattle.motion.specs.declared.cell.Given.TheVariants as givens
use Rattle.ftl_parser.proofs.grammar.Found.{found_query}
use Rattle.command_text.specs.Grammar
use Rattle.command_text.specs.inner.Reading.{pair, some_attrs, rates, moves, given_both, given_text, given_rate, at, moving, point_word}
use Rattle.command_text.proofs.grammar.Shorter.{passed, Shortens}
use Rattle.command_text.proofs.grammar.QueryLemmas.{fit_is}
use Rattle.exact.proofs.Items.{bind_some, map_some}

-- ---- The tokens that a reader took

-- tokens that stand before those that are left
pub record Split (tokens taken left : List Piece) : Type 0 where
  pub is : tokens ≡ taken ++ left

pub took_none : (tokens : List Piece) → Split tokens [] tokens
took_none tokens = record { is = refl }

pub took_both : {tokens xs more ys left : List Piece} → Split tokens xs more → Split more ys left → Split tokens (xs ++ ys) left
took_both {xs = xs} {ys = ys} {left = left} first second =
    record { is = first.is ∙ ap (λ more. xs ++ more) second.is ∙ sym (append_assoc xs ys left) }

-- what was read from one reader to another is derived from the tokens that were taken
pub record Derived {A : Type 0} (rule : A → Notes → Notes → List Piece → Type 0) (x : A) (s t : Reader) : Type 0 where
  pub taken : List Piece
  pub split : Split s.rest taken t.rest
  pub spelled : rule x (notes s) (notes t) taken

-- all that the part's reader reads is derived
pub record Follows {A : Type 0} (part : Reader → Read A) (rule : A → Notes → Notes → List Piece → Type 0) : Type 0 where
  pub derived : (s t : Reader) (x : A) → part s ≡ Some (x, t) → Derived rule x s t

pub follows : {A : Type 0} {part : Reader → Read A} {rule : A → Notes → Notes → List Piece → Type 0}
    → ((s t : Reader) (x : A) → part s ≡ Some (x, t) → Derived rule x s t) → Follows part rule
follows derived = record { derived = derived }

-- two parts that were read alike
pub same_parts : {A : Type 0} (x y : A) (s t : Reader) → ◌≡◌ {A = Read A} (Some (x, s)) (Some (y, t)) → (x ≡ y) × (s ≡ t)
same_parts {A = A} x y s t e =
    let same : ◌≡◌ {A = A × Reader} (x, s) (y, t) = cc in
    (ap (λ (r : A × Reader). r.0) same, ap (λ (r : A × Reader). r.1) same)

-- where a chain ends
pub ends : {A : Type 0} (rule : A → Notes → Notes → List Piece → Type 0) (x y : A) {r : Reader} (s t : Reader) {taken : List Piece} →
    ◌≡◌ {A = Read A} (Some (x, s)) (Some (y, t)) → Split r.rest taken s.rest → rule x (notes r) (notes s) taken → Derived rule y r t
ends rule x y {r = r} s t {taken = taken} e split d =
    let same = same_parts x y s t e in
    subst (λ y. Derived rule y r t) same.0 (subst (Derived rule x r) same.1 (record { taken = taken; split = split; spelled = d }))

pub derived_as : {A : Type 0} (rule other : A → Notes → Notes → List Piece → Type 0) {x : A} {s t : Reader} →
    ((xs : List Piece) → rule x (notes s) (notes t) xs → other x (notes s) (notes t) xs) → Derived rule x s t → Derived other x s t
derived_as rule other f d = record { taken = d.taken; split = d.split; spelled = f d.taken d.spelled }

-- a chain that ends, by its first step and the others
pub option_first : {A B P : Type 0} (o : Option A) (rest : A → Option B) {y : B} → (o >>= rest) ≡ Some y → ((x : A) → o ≡ Some x → rest x ≡ Some y → P) → P
option_first o rest {y = y} e k = let a = bind_some o rest y e in k a.0 a.1 a.2

pub part_first : {A B P : Type 0} {part : Reader → Read A} {rule : A → Notes → Notes → List Piece → Type 0} (f : Follows part rule) (s : Reader)
    (rest : A × Reader → Option B) {y : B} →
    (part s >>= rest) ≡ Some y → ((x : A) (t : Reader) → Derived rule x s t → rest (x, t) ≡ Some y → P) → P
part_first {part = part} f s rest e k = option_first (part s) rest e (λ a h e. k a.0 a.1 (f.derived s a.1 a.0 h) e)

-- a choice that gave something gave it on one of its ways
pub either_way : {A P : Type 0} (b : Bool) (o p : Option A) {y : A} → (if b then o else p) ≡ Some y → (o ≡ Some y → P) → (p ≡ Some y → P) → P
either_way true o p e f g = f e
either_way false o p e f g = g e

held : {A : Type 0} (b : Bool) (x y : A) → (if b then Some x else None) ≡ Some y → b ≡ true
held true x y e = refl
held false x y e = absurd (cc)

map_first : {A B C P : Type 0} (f : A → B) (o : Option A) (rest : B → Option C) {y : C} → (option_map f o >>= rest) ≡ Some y
    → ((x : A) → o ≡ Some x → rest (f x) ≡ Some y → P) → P
map_first f None rest e k = absurd (cc)
map_first f (Some x) rest e k = k x refl e

-- ---- Single tokens

-- the token that was taken is this one
pub took_this : {tokens left : List Piece} (p q : Piece) → p ≡ q → Split tokens (p ∷ []) left → Split tokens (q ∷ []) left
took_this {tokens = tokens} {left = left} p q e split = subst (λ p. Split tokens (p ∷ []) left) e split

-- a symbol by its code
by_sign_code : (p : Piece) → (sign_code p ≡ length signs) ⊎ (slice_get signs (sign_code p) ≡ Some p)
by_sign_code OPEN = inr refl
by_sign_code CLOSE = inr refl
by_sign_code OPEN_SQUARE = inr refl
by_sign_code CLOSE_SQUARE = inr refl
by_sign_code COMMA = inr refl
by_sign_code POINT = inr refl
by_sign_code PLUS = inr refl
by_sign_code MINUS = inr refl
by_sign_code STAR = inr refl
by_sign_code (COMPARISON ops.Eq) = inr refl
by_sign_code (COMPARISON ops.Ne) = inr refl
by_sign_code (COMPARISON ops.Le) = inr refl
by_sign_code (COMPARISON ops.Ge) = inr refl
by_sign_code (COMPARISON ops.Lt) = inr refl
by_sign_code (COMPARISON ops.Gt) = inr refl
by_sign_code ARROW = inr refl
by_sign_code p = inl refl

the_sign : (q : Piece) → slice_get signs (sign_code q) ≡ Some q → (p : Piece) → is_sign (sign_code q) p ≡ true → p ≡ q
the_sign q found p e =
    let same : sign_code p ≡ sign_code q = eqb-true (sign_code p) (sign_code q) e in
    elim (by_sign_code p) [
      | inl none ↦ let past : slice_get signs (length signs) ≡ Some q = subst (λ (n : ℕ). slice_get signs n ≡ Some q) (sym same ∙ none) found in absurd (cc)
      | inr at ↦ let both : Some p ≡ Some q = sym at ∙ ap (slice_get signs) same ∙ found in cc
    ]

the_key : (code : ℕ) (p : Piece) → is_key code p ≡ true → p ≡ WORD code
the_key code (WORD k) e = ap WORD (eqb-true k code e)
the_key code p e = absurd (cc)

the_name : (p : Piece) (n : List ℕ) → name_in p ≡ Some n → p ≡ NAME n
the_name (NAME bytes) n e = cc
the_name p n e = absurd (cc)

the_number : (p : Piece) (n : List ℕ) → number_in p ≡ Some n → p ≡ NUMBER n
the_number (NUMBER bytes) n e = cc
the_number p n e = absurd (cc)

the_text : (p : Piece) (n : List ℕ) → text_in p ≡ Some n → p ≡ TEXT n
the_text (TEXT bytes) n e = cc
the_text p n e = absurd (cc)

next_by : {B P : Type 0} (tokens : List Piece) (m : Notes) (rest : Piece × Reader → Option B) {y : B} → (next (before tokens m) >>= rest) ≡ Some y →
    ((p : Piece) (left : List Piece) → Split tokens (p ∷ []) left → rest (p, before left m) ≡ Some y → P) → P
unfolding next
next_by [] m rest e k = absurd (cc)
next_by (p ∷ ps) m rest e k = k p ps (record { is = refl }) e

pub next_first : {B P : Type 0} (s : Reader) (rest : Piece × Reader → Option B) {y : B} → (next s >>= rest) ≡ Some y →
    ((p : Piece) (left : List Piece) → Split s.rest (p ∷ []) left → rest (p, before left (notes s)) ≡ Some y → P) → P
next_first s rest e k = next_by s.rest (notes s) rest e k

-- a token that passes a test which it alone passes
tested_by : {B P : Type 0} (test : Piece → Bool) (q : Piece) → ((p : Piece) → test p ≡ true → p ≡ q) → (tokens : List Piece) (m : Notes)
    (rest : Reader → Option B) {y : B} → ((next (before tokens m) >>= (λ t. if test t.0 then Some t.1 else None)) >>= rest) ≡ Some y →
    ((left : List Piece) → Split tokens (q ∷ []) left → rest (before left m) ≡ Some y → P) → P
unfolding next
tested_by test q only [] m rest e k = absurd (cc)
tested_by {P = P} test q only (p ∷ ps) m rest {y = y} e k = by (test p) refl e
  where
    by : (b : Bool) → test p ≡ b → ((if b then Some (before ps m) else None) >>= rest) ≡ Some y → P
    by true h e = k ps (record { is = ap (λ p. p ∷ ps) (only p h) }) e
    by false h e = absurd (cc)

pub sign_first : {B P : Type 0} (q : Piece) → slice_get signs (sign_code q) ≡ Some q → (s : Reader) (rest : Reader → Option B) {y : B}
    → (sign (sign_code q) s >>= rest) ≡ Some y → ((left : List Piece) → Split s.rest (q ∷ []) left → rest (before left (notes s)) ≡ Some y → P) → P
unfolding sign
sign_first q found s rest e k = tested_by (is_sign (sign_code q)) q (the_sign q found) s.rest (notes s) rest e k

pub key_first : {B P : Type 0} (code : ℕ) (s : Reader) (rest : Reader → Option B) {y : B} → (key code s >>= rest) ≡ Some y →
    ((left : List Piece) → Split s.rest (WORD code ∷ []) left → rest (before left (notes s)) ≡ Some y → P) → P
unfolding key
key_first code s rest e k = tested_by (is_key code) (WORD code) (the_key code) s.rest (notes s) rest e k

-- after such a token the reader stands before the others
same_place : {m : Notes} {ps : List Piece} {t : Reader} → ◌≡◌ {A = Option Reader} (Some (before ps m)) (Some t) → before ps m ≡ t
same_place e = cc

-- ---- Names, texts and numbers

abbrev pub SpellsName : List ℕ → Notes → Notes → List Piece → Type 0
SpellsName n = SpellsPart (Name n)

abbrev pub SpellsText : List ℕ → Notes → Notes → List Piece → Type 0
SpellsText t = SpellsPart (Quoted t)

abbrev pub SpellsWhole : WholePlace → ℕ → Notes → Notes → List Piece → Type 0
SpellsWhole place n = SpellsPart (Whole place n)

abbrev pub SpellsError : ℤ → Notes → Notes → List Piece → Type 0
SpellsError e = SpellsPart (Error e)

pub data SpellsDigits : List ℕ → Notes → Notes → List Piece → Type 0 where
  digits : {n : List ℕ} {s : Notes} → SpellsDigits n s s (NUMBER n ∷ [])

pub data SpellsMinus : Bool → Notes → Notes → List Piece → Type 0 where
  no_minus : {s : Notes} → SpellsMinus false s s []
  a_minus : {s : Notes} → SpellsMinus true s s (MINUS ∷ [])

pub data SpellsSigned : Bool × List ℕ → Notes → Notes → List Piece → Type 0 where
  unsigned : {n : List ℕ} {s : Notes} → SpellsSigned (false, n) s s (NUMBER n ∷ [])
  negative : {n : List ℕ} {s : Notes} → SpellsSigned (true, n) s s (MINUS ∷ NUMBER n ∷ [])

pub name_follows : Follows name SpellsName
unfolding name
name_follows =
    follows λ s t x e.
    next_first s _ e λ p left token e.
    option_first (name_in p) _ e λ n same e.
    ends SpellsName n x (before left (notes s)) t e (took_this p (NAME n) (the_name p n same) token) part_name

pub text_follows : Follows text SpellsText
unfolding text
text_follows =
    follows λ s t x e.
    next_first s _ e λ p left token e.
    option_first (text_in p) _ e λ n same e.
    ends SpellsText n x (before left (notes s)) t e (took_this p (TEXT n) (the_text p n same) token) part_text

pub number_follows : Follows number SpellsDigits
unfolding number
number_follows =
    follows λ s t x e.
    next_first s _ e λ p left token e.
    option_first (number_in p) _ e λ n same e.
    ends SpellsDigits n x (before left (notes s)) t e (took_this p (NUMBER n) (the_number p n same) token) digits

whole_by : (place : WholePlace) {n : List ℕ} {s t : Notes} {xs : List Piece} → SpellsDigits n s t xs
    → SpellsWhole place (whole_at place n) s (and_number t (is_some (whole_in place n))) xs
whole_by place digits = part_whole

pub whole_follows : (place : WholePlace) → Follows (whole place) (SpellsWhole place)
unfolding whole
whole_follows place =
    follows λ s t x e.
    part_first number_follows s _ e λ n s1 d e.
    ends (SpellsWhole place) (whole_at place n) x (noting_fit (is_some (whole_in place n)) s1) t e d.split (whole_by place d.spelled)

radius_by : {n : List ℕ} {s t : Notes} {xs : List Piece} → SpellsDigits n s t xs → SpellsError (radius_at n) s (and_number t (is_some (radius_in n))) xs
radius_by digits = part_error

pub radius_follows : Follows radius SpellsError
unfolding radius
radius_follows =
    follows λ s t x e.
    part_first number_follows s _ e λ n s1 d e.
    ends SpellsError (radius_at n) x (noting_fit (is_some (radius_in n)) s1) t e d.split (radius_by d.spelled)

minus_of_sign : (s : Reader) (o : Option Reader) → sign MINUS_SIGN s ≡ o →
    Derived SpellsMinus (option_map_or {U = Bool × Reader} (λ behind. (true, behind)) o (false, s)).0 s
    (option_map_or {U = Bool × Reader} (λ behind. (true, behind)) o (false, s)).1
minus_of_sign s None e = record { taken = []; split = took_none s.rest; spelled = no_minus }
minus_of_sign s (Some behind) e =
    sign_first MINUS refl s Some (ap (λ o. o >>= Some) e) λ left token e.
    subst (Derived SpellsMinus true s) (same_place e) (record { taken = MINUS ∷ []; split = token; spelled = a_minus })

minus_follows : (s : Reader) → Derived SpellsMinus (minus s).0 s (minus s).1
unfolding minus
minus_follows s = minus_of_sign s (sign MINUS_SIGN s) refl

signed_by : {b : Bool} {xs : List Piece} {n : List ℕ} {ys : List Piece} {s t u : Notes} → SpellsMinus b s t xs → SpellsDigits n t u ys
    → SpellsSigned (b, n) s u (xs ++ ys)
signed_by no_minus digits = unsigned
signed_by a_minus digits = negative

signed_number_follows : Follows signed_number SpellsSigned
unfolding signed_number
signed_number_follows =
    follows λ s t x e.
    let m = minus_follows s in
    part_first number_follows (minus s).1 _ e λ n s1 d e.
    ends SpellsSigned ((minus s).0, n) x s1 t e (took_both m.split d.split) (signed_by m.spelled d.spelled)

num_by : (place : SignedPlace) {n : Bool × List ℕ} {s t : Notes} {xs : List Piece} → SpellsSigned n s t xs
    → SpellsNumAt place (signed_at place n.0 n.1) s (and_number t (is_some (signed_in place n.0 n.1))) xs
num_by place unsigned = num_plain
num_by place negative = num_minus

pub num_follows : (place : SignedPlace) → Follows (num place) (SpellsNumAt place)
unfolding num
num_follows place =
    follows λ s t x e.
    part_first signed_number_follows s _ e λ n s1 d e.
    ends (SpellsNumAt place) (signed_at place n.0 n.1) x (noting_fit (is_some (signed_in place n.0 n.1)) s1) t e d.split (num_by place d.spelled)

-- ---- Points

abbrev pub SpellsBoth : SignedPlace → ℤ × ℤ → Notes → Notes → List Piece → Type 0
SpellsBoth place p = SpellsPair place p.0 p.1

pub pair_follows : (place : SignedPlace) → Follows (pair place) (SpellsBoth place)
unfolding pair
pair_follows place =
    follows λ s t x e.
    sign_first OPEN refl s _ e λ l1 opened e.
    part_first (num_follows place) (before l1 (notes s)) _ e λ a s2 first e.
    sign_first COMMA refl s2 _ e λ l3 comma e.
    part_first (num_follows place) (before l3 (notes s2)) _ e λ b s4 second e.
    sign_first CLOSE refl s4 _ e λ l5 closed e.
    ends (SpellsBoth place) (a, b) x (before l5 (notes s4)) t e (took_both opened (took_both first.split (took_both comma (took_both second.split closed))))
    (Grammar.pair first.spelled second.spelled)

pub data SpellsPoint : Point → Notes → Notes → List Piece → Type 0 where
  a_point : {x y : ℤ} {xs : List Piece} {s t : Notes} → SpellsPair Value x y s t xs → SpellsPoint (point_of x y) s t xs

pub point_follows : Follows point SpellsPoint
unfolding point
point_follows =
    follows λ s t x e.
    part_first (pair_follows Value) s _ e λ p s1 d e.
    ends SpellsPoint (point_of p.0 p.1) x s1 t e d.split (a_point d.spelled)

-- ---- Lists

-- the tokens of an item, which has one at least, may stand before those of any other items
pub record Starts {A : Type 0} (items : List A → Notes → Notes → List Piece → Type 0) (x : A) (s t : Notes) (xs : List Piece) : Type 0 where
  pub ahead : (more : List A) (u : Notes) (ys : List Piece) → items more t u ys → items (x ∷ more) s u (xs ++ ys)
  pub some : 0 < length xs

some_tokens : (p : Piece) (xs : List Piece) → 0 < length (p ∷ xs)
some_tokens p xs = omega arith

-- so an item that is read leaves fewer tokens
shortens : {A : Type 0} (item : Reader → Read A) (items : List A → Notes → Notes → List Piece → Type 0) → Follows item (Starts items) → Shortens item
shortens item items one = record {
  fewer = λ s t x e.
      let d = one.derived s t x e in
      omega (arith, ap length d.split.is, length-append d.taken t.rest, d.spelled.some);
}

many_follow : {A : Type 0} (more : Reader → Bool) {item : Reader → Read A} {items : List A → Notes → Notes → List Piece → Type 0}
    → ((m : Notes) → items [] m m []) → Follows item (Starts items) →
    (n : ℕ) (s t : Reader) (x : List A) → many more item n s ≡ Some (x, t) → Derived items x s t
unfolding many
many_follow more {items = items} none one zero s t x e =
    either_way (more s) None (Some ([], s)) e (λ e. absurd (cc)) (λ e. ends items [] x s t e (took_none s.rest) (none (notes s)))
many_follow more {item = item} {items = items} none one (suc n) s t x e =
    either_way (more s) (item s >>= (λ x. many more item n x.1 >>= (λ xs. Some (x.0 ∷ xs.0, xs.1)))) (Some ([], s)) e
    (λ e.
    part_first one s _ e λ a s1 first e.
    option_first (many more item n s1) _ e λ b h e.
    let others = many_follow more none one n s1 b.1 b.0 h in
    ends items (a ∷ b.0) x b.1 t e (took_both first.split others.split) (first.spelled.ahead b.0 (notes b.1) others.taken others.spelled))
    (λ e. ends items [] x s t e (took_none s.rest) (none (notes s)))

pub all_follow : {A : Type 0} (more : Reader → Bool) {item : Reader → Read A} {items : List A → Notes → Notes → List Piece → Type 0}
    → ((m : Notes) → items [] m m []) → Follows item (Starts items) → Follows (all more item) items
all_follow more none one = follows λ s t x e. many_follow more none one (length s.rest) s t x e

-- ---- Attributes

data SpellsKind : AttrKind → List Piece → Type 0 where
  kind_num : SpellsKind attr_kinds.Num (WORD NUM ∷ [])
  kind_text : SpellsKind attr_kinds.Text (WORD TEXT_WORD ∷ [])
  kind_dyn : SpellsKind attr_kinds.Dyn (WORD DYN ∷ [])

kind_by : (k code : ℕ) (kind x : AttrKind) (o : Option AttrKind) → SpellsKind kind (WORD code ∷ []) → (o ≡ Some x → SpellsKind x (WORD k ∷ [])) →
    (b : Bool) → (k == code) ≡ b → (if b then Some kind else o) ≡ Some x → SpellsKind x (WORD k ∷ [])
kind_by k code kind x o d f true h e =
    let same : kind ≡ x = cc in
    let this : code ≡ k = sym (eqb-true k code h) in
    subst (λ x. SpellsKind x (WORD k ∷ [])) same (subst (λ k. SpellsKind kind (WORD k ∷ [])) this d)
kind_by k code kind x o d f false h e = f e

the_kind : (p : Piece) (x : AttrKind) → kind_in p ≡ Some x → SpellsKind x (p ∷ [])
the_kind (WORD k) x e =
    kind_by k NUM attr_kinds.Num x (if k == TEXT_WORD then Some attr_kinds.Text else (if k == DYN then Some attr_kinds.Dyn else None)) kind_num
    (λ e. kind_by k TEXT_WORD attr_kinds.Text x (if k == DYN then Some attr_kinds.Dyn else None) kind_text
    (λ e. kind_by k DYN attr_kinds.Dyn x None kind_dyn (λ e. absurd (cc)) (k == DYN) refl e)
    (k == TEXT_WORD) refl e)
    (k == NUM) refl e
the_kind p x e = absurd (cc)

attr_by : {n : List ℕ} {kind : AttrKind} {xs ys : List Piece} {s t : Notes} → SpellsName n s t xs → SpellsKind kind ys → SpellsAttr (n, kind) s t (xs ++ ys)
attr_by part_name kind_num = attr_num
attr_by part_name kind_text = attr_text
attr_by part_name kind_dyn = attr_dyn

attr_follows : Follows attr SpellsAttr
unfolding attr
attr_follows =
    follows λ s t x e.
    part_first name_follows s _ e λ n s1 d e.
    next_first s1 _ e λ p l2 token e.
    option_first (kind_in p) _ e λ kind h e.
    ends SpellsAttr (n, kind) x (before l2 (notes s1)) t e (took_both d.split token) (attr_by d.spelled (the_kind p kind h))

next_attr_follows : Follows next_attr (Starts SpellsMoreAttrs)
unfolding next_attr
next_attr_follows =
    follows λ s t x e.
    sign_first COMMA refl s _ e λ l1 comma e.
    let d = attr_follows.derived (before l1 (notes s)) t x e in
    let starts : Starts SpellsMoreAttrs x (notes s) (notes t) (COMMA ∷ d.taken) =
    record { ahead = λ more u ys rest. one_more_attr d.spelled rest; some = some_tokens (COMMA) d.taken } in
    record { taken = COMMA ∷ d.taken; split = took_both comma d.split; spelled = starts }

pub next_attr_shortens : Shortens next_attr
next_attr_shortens = shortens next_attr SpellsMoreAttrs next_attr_follows

data SpellsFirstAttr : List ℕ × AttrKind → Notes → Notes → List Piece → Type 0 where
  first : {a : List ℕ × AttrKind} {xs : List Piece} {s t : Notes} → SpellsAttr a s t xs → SpellsFirstAttr a s t (OPEN ∷ xs)

first_attr_follows : Follows first_attr SpellsFirstAttr
unfolding first_attr
first_attr_follows =
    follows λ s t x e.
    sign_first OPEN refl s _ e λ l1 opened e.
    let d = attr_follows.derived (before l1 (notes s)) t x e in
    record { taken = OPEN ∷ d.taken; split = took_both opened d.split; spelled = first d.spelled }

attrs_by : {a : List ℕ × AttrKind} {more : List (List ℕ × AttrKind)} {xs ys : List Piece} {s t u : Notes} → SpellsFirstAttr a s t xs
    → SpellsMoreAttrs more t u ys → SpellsAttrs (a ∷ more) s (and_size u (are_few_attributes (length (a ∷ more)))) (xs ++ (ys ++ CLOSE ∷ []))
attrs_by (first d) e = Grammar.some_attrs d e

some_attrs_follow : Follows some_attrs SpellsAttrs
unfolding some_attrs
some_attrs_follow =
    follows λ s t x e.
    part_first first_attr_follows s _ e λ a s1 one e.
    map_first (λ r. (a ∷ r.0, r.1)) (all (begins (is_sign COMMA_SIGN)) next_attr s1) _ e λ more h e.
    let others = (all_follow (begins (is_sign COMMA_SIGN)) (λ m. no_more_attrs) next_attr_follows).derived s1 more.1 more.0 h in
    sign_first CLOSE refl more.1 _ e λ l2 closed e.
    ends SpellsAttrs (a ∷ more.0) x (noting_small (are_few_attributes (length (a ∷ more.0))) (before l2 (notes more.1))) t e
    (took_both one.split (took_both others.split closed)) (attrs_by one.spelled others.spelled)

pub attrs_follow : Follows attrs SpellsAttrs
unfolding attrs
attrs_follow =
    follows λ s t x e.
    either_way (begins (is_sign OPEN_SIGN) s) _ _ e
    (λ e. some_attrs_follow.derived s t x e)
    (λ e. ends SpellsAttrs [] x s t e (took_none s.rest) no_attrs)

-- ---- Points of a region

starts_points : {p : Point} {s t : Notes} {xs : List Piece} → SpellsPoint p s t xs → Starts SpellsPoints p s t xs
starts_points (a_point (Grammar.pair {xs = xs} {ys = ys} d e)) = record {
  ahead = λ more u zs rest. one_point (Grammar.pair d e) rest;
  some = some_tokens (OPEN) (xs ++ COMMA ∷ (ys ++ CLOSE ∷ []));
}

one_point_follows : Follows point (Starts SpellsPoints)
one_point_follows = follows λ s t x e. derived_as SpellsPoint (Starts SpellsPoints) (λ xs d. starts_points d) (point_follows.derived s t x e)

pub point_shortens : Shortens point
point_shortens = shortens point SpellsPoints one_point_follows

-- three points and more
abbrev pub SpellsVertices : List Point → Notes → Notes → List Piece → Type 0
SpellsVertices ps = SpellsPart (Points ps)

vertices_by : (ps : List Point) {s t : Notes} {xs : List Piece} → SpellsPoints ps s t xs → nat_le 3 (length ps) ≡ true
    → SpellsVertices ps s (and_size t (are_few_vertices (length ps))) xs
vertices_by [] d many = absurd (cc)
vertices_by (p ∷ []) d many = absurd (cc)
vertices_by (p ∷ q ∷ []) d many = absurd (cc)
vertices_by (p ∷ q ∷ r ∷ ps) d many = part_points d

pub points_follow : Follows points SpellsVertices
unfolding points
points_follow =
    follows λ s t x e.
    part_first (all_follow (begins (is_sign OPEN_SIGN)) (λ m. no_points) one_point_follows) s _ e λ ps s1 d e.
    let there : List Point × Reader = (ps, noting_small (are_few_vertices (length ps)) s1) in
    let many : nat_le 3 (length ps) ≡ true = held (nat_le 3 (length ps)) there (x, t) e in
    let same : there ≡ (x, t) = passed (nat_le 3 (length ps)) there (x, t) e in
    ends SpellsVertices ps x there.1 t (ap Some same) d.split (vertices_by ps d.spelled many)

-- ---- Legs

rate_leg_by : {a : ℤ} {k : ℕ} {s t u : Notes} {xs ys : List Piece} → SpellsNumAt Rate a s t xs → SpellsWhole Steps k t u ys →
    Starts SpellsRateLegs (a, k) s u (OPEN_SQUARE ∷ (xs ++ COMMA ∷ (ys ++ CLOSE_SQUARE ∷ [])))
rate_leg_by {a = a} {s = s} {xs = xs} d (part_whole {n = n}) = record {
  ahead = λ more u zs rest.
      subst (λ ps. SpellsRateLegs ((a, whole_at Steps n) ∷ more) s u (OPEN_SQUARE ∷ ps))
      (sym (append_assoc xs (COMMA ∷ NUMBER n ∷ CLOSE_SQUARE ∷ []) zs)) (one_rate_leg n d rest);
  some = some_tokens (OPEN_SQUARE) (xs ++ COMMA ∷ NUMBER n ∷ CLOSE_SQUARE ∷ []);
}

rate_leg_follows : Follows rate_leg (Starts SpellsRateLegs)
unfolding rate_leg
rate_leg_follows =
    follows λ s t x e.
    sign_first OPEN_SQUARE refl s _ e λ l1 opened e.
    part_first (num_follows Rate) (before l1 (notes s)) _ e λ a s2 slope e.
    sign_first COMMA refl s2 _ e λ l3 comma e.
    part_first (whole_follows Steps) (before l3 (notes s2)) _ e λ k s4 ticks e.
    sign_first CLOSE_SQUARE refl s4 _ e λ l5 closed e.
    ends (Starts SpellsRateLegs) (a, k) x (before l5 (notes s4)) t e (took_both opened
    (took_both slope.split (took_both comma (took_both ticks.split closed)))) (rate_leg_by slope.spelled ticks.spelled)

pub rate_leg_shortens : Shortens rate_leg
rate_leg_shortens = shortens rate_leg SpellsRateLegs rate_leg_follows

rates_follow : Follows rates SpellsRates
unfolding rates
rates_follow =
    follows λ s t x e.
    part_first (all_follow (begins (is_sign OPEN_SQUARE_SIGN)) (λ m. no_rate_legs) rate_leg_follows) s _ e λ ls s1 legs e.
    part_first (num_follows Rate) s1 _ e λ a s2 last e.
    ends SpellsRates (function_of ls a) x (noting_small (are_few_legs (length ls)) s2) t e (took_both legs.split last.split)
    (Grammar.rates legs.spelled last.spelled)

move_leg_by : {p : ℤ × ℤ} {k : ℕ} {s t u : Notes} {xs ys : List Piece} → SpellsPair Rate p.0 p.1 s t xs → SpellsWhole Steps k t u ys →
    Starts SpellsMoveLegs (p, k) s u (OPEN_SQUARE ∷ (xs ++ COMMA ∷ (ys ++ CLOSE_SQUARE ∷ [])))
move_leg_by {p = p} {s = s} {xs = xs} d (part_whole {n = n}) = record {
  ahead = λ more u zs rest.
      subst (λ ps. SpellsMoveLegs ((p, whole_at Steps n) ∷ more) s u (OPEN_SQUARE ∷ ps))
      (sym (append_assoc xs (COMMA ∷ NUMBER n ∷ CLOSE_SQUARE ∷ []) zs)) (one_move_leg n d rest);
  some = some_tokens (OPEN_SQUARE) (xs ++ COMMA ∷ NUMBER n ∷ CLOSE_SQUARE ∷ []);
}

move_leg_follows : Follows move_leg (Starts SpellsMoveLegs)
unfolding move_leg
move_leg_follows =
    follows λ s t x e.
    sign_first OPEN_SQUARE refl s _ e λ l1 opened e.
    part_first (pair_follows Rate) (before l1 (notes s)) _ e λ p s2 slopes e.
    sign_first COMMA refl s2 _ e λ l3 comma e.
    part_first (whole_follows Steps) (before l3 (notes s2)) _ e λ k s4 ticks e.
    sign_first CLOSE_SQUARE refl s4 _ e λ l5 closed e.
    ends (Starts SpellsMoveLegs) (p, k) x (before l5 (notes s4)) t e (took_both opened
    (took_both slopes.split (took_both comma (took_both ticks.split closed)))) (move_leg_by slopes.spelled ticks.spelled)

pub move_leg_shortens : Shortens move_leg
move_leg_shortens = shortens move_leg SpellsMoveLegs move_leg_follows

moves_follow : Follows moves SpellsMoves
unfolding moves
moves_follow =
    follows λ s t x e.
    part_first (all_follow (begins (is_sign OPEN_SQUARE_SIGN)) (λ m. no_move_legs) move_leg_follows) s _ e λ ls s1 legs e.
    part_first (pair_follows Rate) s1 _ e λ p s2 last e.
    ends SpellsMoves (function_of (legs_of_x ls) p.0, function_of (legs_of_y ls) p.1) x (noting_small (are_few_legs (length ls)) s2) t e
    (took_both legs.split last.split) (Grammar.moves legs.spelled last.spelled)

-- ---- Settings

data SpellsRate : Function → Notes → Notes → List Piece → Type 0 where
  a_rate : {f : Function} {xs : List Piece} {s t : Notes} → SpellsRates f s t xs → SpellsRate f s t (WORD RATE ∷ xs)

rate_follows : Follows rate SpellsRate
unfolding rate
rate_follows =
    follows λ s t x e.
    key_first RATE s _ e λ l1 word e.
    let d = rates_follow.derived (before l1 (notes s)) t x e in
    record { taken = WORD RATE ∷ d.taken; split = took_both word d.split; spelled = a_rate d.spelled }

-- after the `=` of a setting
abbrev SpellsValue : Given → Notes → Notes → List Piece → Type 0
SpellsValue g s t xs = SpellsGiven g s t (COMPARISON ops.Eq ∷ xs)

both_by : {v : ℤ} {f : Function} {s t u : Notes} {xs ys : List Piece} → SpellsNumAt Value v s t xs → SpellsRate f t u ys
    → SpellsValue (givens.Both v f) s u (xs ++ ys)
both_by d (a_rate e) = Grammar.given_both d e

given_value_follows : Follows given_value SpellsValue
unfolding given_value given_both
given_value_follows =
    follows λ s t x e.
    part_first (num_follows Value) s _ e λ v s1 d e.
    either_way (begins (is_key RATE) s1) _ _ e
    (λ e.
    part_first rate_follows s1 _ e λ f s2 legs e.
    ends SpellsValue (givens.Both v f) x s2 t e (took_both d.split legs.split) (both_by d.spelled legs.spelled))
    (λ e. ends SpellsValue (givens.Num v) x s1 t e d.split (given_num d.spelled))

given_text_by : {n : List ℕ} {s t : Notes} {xs : List Piece} → SpellsText n s t xs → SpellsValue (givens.Text n) s t xs
given_text_by part_text = Grammar.given_text

given_text_follows : Follows given_text SpellsValue
unfolding given_text
given_text_follows =
    follows λ s t x e.
    part_first text_follows s _ e λ n s1 d e.
    ends SpellsValue (givens.Text n) x s1 t e d.split (given_text_by d.spelled)

given_rate_by : {f : Function} {s t : Notes} {xs : List Piece} → SpellsRate f s t xs → SpellsGiven (givens.Rate f) s t xs
given_rate_by (a_rate d) = Grammar.given_rate d

given_rate_follows : Follows given_rate SpellsGiven
unfolding given_rate
given_rate_follows =
    follows λ s t x e.
    part_first rate_follows s _ e λ f s1 d e.
    ends SpellsGiven (givens.Rate f) x s1 t e d.split (given_rate_by d.spelled)

given_equal_follows : Follows given_equal SpellsGiven
unfolding given_equal
given_equal_follows =
    follows λ s t x e.
    sign_first (COMPARISON ops.Eq) refl s _ e λ l1 equal e.
    let value : Derived SpellsValue x (before l1 (notes s)) t =
    either_way (begins is_text (before l1 (notes s))) _ _ e (λ e. given_text_follows.derived (before l1 (notes s)) t x e)
    (λ e. given_value_follows.derived (before l1 (notes s)) t x e) in
    record { taken = COMPARISON ops.Eq ∷ value.taken; split = took_both equal value.split; spelled = value.spelled }

given_follows : Follows given SpellsGiven
unfolding given
given_follows =
    follows λ s t x e.
    either_way (begins (is_key RATE) s) _ _ e (λ e. given_rate_follows.derived s t x e) (λ e. given_equal_follows.derived s t x e)

setting_by : {n : List ℕ} {g : Given} {s t u : Notes} {xs ys : List Piece} → SpellsName n s t xs → SpellsGiven g t u ys
    → Starts SpellsSettings (set_of n g) s u (xs ++ ys)
setting_by {ys = ys} (part_name {n = n}) d = record { ahead = λ more u zs rest. one_setting d rest; some = some_tokens (NAME n) ys }

setting_follows : Follows setting (Starts SpellsSettings)
unfolding setting
setting_follows =
    follows λ s t x e.
    part_first name_follows s _ e λ n s1 word e.
    part_first given_follows s1 _ e λ g s2 d e.
    ends (Starts SpellsSettings) (set_of n g) x s2 t e (took_both word.split d.split) (setting_by word.spelled d.spelled)

pub setting_shortens : Shortens setting
setting_shortens = shortens setting SpellsSettings setting_follows

pub settings_follow : Follows settings SpellsSettings
settings_follow = all_follow (begins is_name) (λ m. no_settings) setting_follows

-- ---- Places

at_by : {p : Point} {s t : Notes} {xs : List Piece} → SpellsPoint p s t xs → SpellsAt (Some p) s t (WORD AT ∷ xs)
at_by (a_point d) = Grammar.at d

at_follows : Follows at SpellsAt
unfolding at
at_follows =
    follows λ s t x e.
    either_way (begins (is_key AT) s) _ _ e
    (λ e.
    key_first AT s _ e λ l1 word e.
    part_first point_follows (before l1 (notes s)) _ e λ p s2 d e.
    ends SpellsAt (Some p) x s2 t e (took_both word d.split) (at_by d.spelled))
    (λ e. ends SpellsAt None x s t e (took_none s.rest) not_at)

some_moves_follow : Follows some_moves SpellsMoving
unfolding some_moves
some_moves_follow =
    follows λ s t x e.
    key_first MOVE s _ e λ l1 word e.
    let m = map_some _ (moves (before l1 (notes s))) (x, t) e in
    let d = moves_follow.derived (before l1 (notes s)) m.0.1 m.0.0 m.1 in
    ends SpellsMoving (Some m.0.0) x m.0.1 t (ap Some m.2) (took_both word d.split) (Grammar.moving d.spelled)

moving_follows : Follows moving SpellsMoving
unfolding moving
moving_follows =
    follows λ s t x e.
    either_way (begins (is_key MOVE) s) _ _ e
    (λ e. some_moves_follow.derived s t x e)
    (λ e. ends SpellsMoving None x s t e (took_none s.rest) not_moving)

pub data SpellsPlace : Place → Notes → Notes → List Piece → Type 0 where
  placed : {p : Option Point} {xs : List Piece} {m : Option (Function × Function)} {ys : List Piece} {s t u : Notes} →
      SpellsAt p s t xs → SpellsMoving m t u ys → SpellsPlace (place_with p m) s u (xs ++ ys)

pub place_follows : Follows place SpellsPlace
unfolding place
place_follows =
    follows λ s t x e.
    part_first at_follows s _ e λ p s1 first e.
    part_first moving_follows s1 _ e λ m s2 second e.
    ends SpellsPlace (place_with p m) x s2 t e (took_both first.split second.split) (placed first.spelled second.spelled)

pub change_by : {p : Place} {ss : List NamedSet} {s t u : Notes} {xs ys : List Piece} → SpellsPlace p s t xs → SpellsSettings ss t u ys
    → SpellsChange p ss s u (xs ++ ys)
change_by {ss = ss} {s = s} {u = v} {ys = zs} (placed {p = p} {xs = xs} {m = m} {ys = ys} d e) f =
    subst (SpellsChange (place_with p m) ss s v) (sym (append_assoc xs ys zs)) (change d e f)

-- ---- Queries

found_tail : (xs : List Piece) (q : QueryTree) → query_of xs ≡ Some q → SpellsQuery q xs
unfolding query_of
found_tail xs q e = found_query xs q e

abbrev pub SpellsAsked : QueryTree → Notes → Notes → List Piece → Type 0
SpellsAsked q = SpellsParts (Asking q)

pub query_follows : Follows query SpellsAsked
unfolding query
query_follows =
    follows λ s t x e.
    let a = map_some _ (query_of s.rest) (x, t) e in
    let d : SpellsQuery a.0 s.rest = found_tail s.rest a.0 a.1 in
    let fit : is_none (first_unfit d) ≡ is_query_fit s.rest = sym (fit_is s.rest a.0 d (first_unfit d) refl) in
    let told : Bool → Notes = λ b. and_size (and_number (notes s) b) (is_query_small a.0) in
    ends SpellsAsked a.0 x (before [] (told (is_query_fit s.rest))) t (ap Some a.2) (record { is = sym (append-nil s.rest) })
    (subst (λ b. SpellsAsked a.0 (notes s) (told b) s.rest) fit (last_query d))

-- ---- The word `point`

abbrev pub SpellsPointPart : Bool → Notes → Notes → List Piece → Type 0
SpellsPointPart b = SpellsPart (PointWord b)

point_of_key : (s : Reader) (o : Option Reader) → key POINT_WORD s ≡ o →
    Derived SpellsPointPart (option_map_or {U = Bool × Reader} (λ behind. (true, behind)) o (false, s)).0 s
    (option_map_or {U = Bool × Reader} (λ behind. (true, behind)) o (false, s)).1
point_of_key s None e = record { taken = []; split = took_none s.rest; spelled = part_point_word no_point_word }
point_of_key s (Some behind) e =
    key_first POINT_WORD s Some (ap (λ o. o >>= Some) e) λ left token e.
    subst (Derived SpellsPointPart true s) (same_place e) (record { taken = WORD POINT_WORD ∷ []; split = token; spelled = part_point_word Grammar.point_word })

pub point_word_follows : (s : Reader) → Derived SpellsPointPart (point_word s).0 s (point_word s).1
unfolding point_word
point_word_follows s = point_of_key s (key POINT_WORD s) refl
