-- For the crates above: which lines of some bytes are for a user.
use Rattle.std.proofs.Common.{◌≡◌, ℕ, suc, true, false, Bool, List, [], ◌∷◌, ◌++◌, length, drop, None, Some, refl, sym, ap, ◌∙◌, append-nil, append_assoc, arith, inl, inr}
use Rattle.std.proofs.lemmas.Bool.{cases_Bool, and_parts, and_from}
use Rattle.std.proofs.lemmas.Bool.Decides.{nat_tests}
use Rattle.std.specs.Prelude.{◌==◌}
use Rattle.std.specs.List.{filter_map, list_all, starts_with}
use Rattle.std.specs.Str.{bytes_eq}
use Rattle.ftl_lexer.specs.Forms.{continues_name}
use Rattle.users.specs.Tagged.{after_tag, is_no_feed, lines_for, lines_in, split_lines, tag_of, tagged_line, tagged_lines}
use Rattle.exact.proofs.Naturals.{equals_itself}

-- ---- Bytes without a line feed

abbrev pub has_no_feed : List ℕ → Bool
has_no_feed line = list_all is_no_feed line

abbrev pub HaveNoFeeds : List (List ℕ) → Type 0
HaveNoFeeds [] = Unit {0}
HaveNoFeeds (line ∷ lines) = (has_no_feed line ≡ true) × HaveNoFeeds lines

pub no_feed_on : (b : ℕ) → is_no_feed b ≡ true → (b == 10) ≡ false
no_feed_on b h = grind (arith, nat_tests)

no_feed_by : (b : ℕ) → (b == 10) ≡ false → is_no_feed b ≡ true
no_feed_by b h = rw h refl

-- a line with its line feed is the first of the lines
line_first : (begun line rest : List ℕ) → has_no_feed line ≡ true → split_lines begun (line ++ 10 ∷ rest) ≡ (begun ++ line) ∷ lines_in rest
line_first begun [] rest h = ap (λ l. l ∷ lines_in rest) (sym (append-nil begun))
line_first begun (b ∷ line) rest h =
    let both = and_parts (is_no_feed b) (has_no_feed line) h in
    rw (no_feed_on b both.0) (line_first (begun ++ b ∷ []) line rest both.1 ∙ ap (λ l. l ∷ lines_in rest) (append_assoc begun (b ∷ []) line))

no_feed_more : (begun : List ℕ) (b : ℕ) → has_no_feed begun ≡ true → is_no_feed b ≡ true → has_no_feed (begun ++ b ∷ []) ≡ true
no_feed_more [] b h e = rw e refl
no_feed_more (x ∷ begun) b h e =
    let both = and_parts (is_no_feed x) (has_no_feed begun) h in
    and_from (is_no_feed x) (has_no_feed (begun ++ b ∷ [])) both.0 (no_feed_more begun b both.1 e)

not_zero : (n : ℕ) → (suc n == 0) ≡ false
not_zero n = grind (arith, nat_tests)

lines_have_none : (begun bytes : List ℕ) → has_no_feed begun ≡ true → HaveNoFeeds (split_lines begun bytes)
lines_have_none [] [] h = tt
lines_have_none (x ∷ begun) [] h = rw (not_zero (length begun)) (h, tt)
lines_have_none begun (b ∷ bytes) h = elim (cases_Bool (b == 10)) [
  | inl feed ↦ rw feed (h, lines_have_none [] bytes refl)
  | inr other ↦ rw other (lines_have_none (begun ++ b ∷ []) bytes (no_feed_more begun b h (no_feed_by b other)))
]

-- no line of some bytes has a line feed
pub no_feeds : (bytes : List ℕ) → HaveNoFeeds (lines_in bytes)
no_feeds bytes = lines_have_none [] bytes refl

-- ---- Users

-- letters, digits and `_`
abbrev pub is_of_letters : List ℕ → Bool
is_of_letters user = list_all continues_name user

letter_is : (b : ℕ) → continues_name b ≡ true → ((b == 32) ≡ false) × (is_no_feed b ≡ true) × ((b == 63) ≡ false)
letter_is b h = (grind (arith, nat_tests), grind (arith, nat_tests), grind (arith, nat_tests))

tag_has_none : (user : List ℕ) → is_of_letters user ≡ true → has_no_feed (tag_of user) ≡ true
tag_has_none [] h = refl
tag_has_none (b ∷ user) h =
    let both = and_parts (continues_name b) (is_of_letters user) h in
    and_from (is_no_feed b) (has_no_feed (tag_of user)) (letter_is b both.0).1 (tag_has_none user both.1)

both_have_none : (xs ys : List ℕ) → has_no_feed xs ≡ true → has_no_feed ys ≡ true → has_no_feed (xs ++ ys) ≡ true
both_have_none [] ys h k = k
both_have_none (x ∷ xs) ys h k =
    let both = and_parts (is_no_feed x) (has_no_feed xs) h in
    and_from (is_no_feed x) (has_no_feed (xs ++ ys)) both.0 (both_have_none xs ys both.1 k)

own_tag : (tag line : List ℕ) → starts_with ◌==◌ (tag ++ line) tag ≡ true
own_tag [] line = refl
own_tag (b ∷ tag) line = rw (equals_itself b) (own_tag tag line)

past_tag : (tag line : List ℕ) → drop (length tag) (tag ++ line) ≡ line
past_tag [] line = refl
past_tag (b ∷ tag) line = past_tag tag line

after_own : (tag line : List ℕ) → after_tag tag (tag ++ line) ≡ Some line
after_own tag line = rw (own_tag tag line) (ap Some (past_tag tag line))

-- of two users neither tag is the front of the other
other_tag : (u v line : List ℕ) → is_of_letters u ≡ true → is_of_letters v ≡ true → bytes_eq u v ≡ false →
    starts_with ◌==◌ (tag_of v ++ line) (tag_of u) ≡ false
other_tag [] [] line hu hv e = absurd (cc)
other_tag [] (c ∷ v) line hu hv e =
    let letter = letter_is c (and_parts (continues_name c) (is_of_letters v) hv).0 in
    let other : (32 == c) ≡ false = grind (arith, nat_tests, letter.0) in
    rw other refl
other_tag (b ∷ u) [] line hu hv e =
    let letter = letter_is b (and_parts (continues_name b) (is_of_letters u) hu).0 in
    rw letter.0 refl
other_tag (b ∷ u) (c ∷ v) line hu hv e =
    elim (cases_Bool (b == c)) [
      | inl same ↦
          let later : bytes_eq u v ≡ false = rw same at e in
          rw same (other_tag u v line (and_parts (continues_name b) (is_of_letters u) hu).1 (and_parts (continues_name c) (is_of_letters v) hv).1 later)
      | inr other ↦ rw other refl
    ]

after_other : (u v line : List ℕ) → is_of_letters u ≡ true → is_of_letters v ≡ true → bytes_eq u v ≡ false →
    after_tag (tag_of u) (tag_of v ++ line) ≡ None
after_other u v line hu hv e = rw (other_tag u v line hu hv e) refl

-- ---- What is written for a user

next_tagged : (v line rest : List ℕ) → is_of_letters v ≡ true → has_no_feed line ≡ true →
    lines_in (tagged_line v line ++ rest) ≡ (tag_of v ++ line) ∷ lines_in rest
next_tagged v line rest hv h =
    let shape : tagged_line v line ++ rest ≡ (tag_of v ++ line) ++ 10 ∷ rest =
    append_assoc (tag_of v) (line ++ 10 ∷ []) rest
    ∙ ap (λ l. tag_of v ++ l) (append_assoc line (10 ∷ []) rest)
    ∙ sym (append_assoc (tag_of v) line (10 ∷ rest)) in
    ap lines_in shape ∙ line_first [] (tag_of v ++ line) rest (both_have_none (tag_of v) line (tag_has_none v hv) h)

-- the user's own lines
pub lines_for_own : (u : List ℕ) (lines : List (List ℕ)) (rest : List ℕ) → is_of_letters u ≡ true → HaveNoFeeds lines →
    lines_for u (tagged_lines u lines ++ rest) ≡ lines ++ lines_for u rest
lines_for_own u [] rest hu h = refl
lines_for_own u (line ∷ lines) rest hu h =
    let shape : tagged_lines u (line ∷ lines) ++ rest ≡ tagged_line u line ++ (tagged_lines u lines ++ rest) =
    append_assoc (tagged_line u line) (tagged_lines u lines) rest in
    let all = ap lines_in shape ∙ next_tagged u line (tagged_lines u lines ++ rest) hu h.0 in
    ap (filter_map (after_tag (tag_of u))) all ∙ rw (after_own (tag_of u) line) (ap (λ ls. line ∷ ls) (lines_for_own u lines rest hu h.1))

-- another user's lines
pub lines_for_other : (u v : List ℕ) (lines : List (List ℕ)) (rest : List ℕ) → is_of_letters u ≡ true → is_of_letters v ≡ true →
    bytes_eq u v ≡ false → HaveNoFeeds lines → lines_for u (tagged_lines v lines ++ rest) ≡ lines_for u rest
lines_for_other u v [] rest hu hv e h = refl
lines_for_other u v (line ∷ lines) rest hu hv e h =
    let shape : tagged_lines v (line ∷ lines) ++ rest ≡ tagged_line v line ++ (tagged_lines v lines ++ rest) =
    append_assoc (tagged_line v line) (tagged_lines v lines) rest in
    let all = ap lines_in shape ∙ next_tagged v line (tagged_lines v lines ++ rest) hv h.0 in
    ap (filter_map (after_tag (tag_of u))) all ∙ rw (after_other u v line hu hv e) (lines_for_other u v lines rest hu hv e h.1)

-- a line that begins with `?`, for no user
pub lines_for_nobody : (u line rest : List ℕ) → is_of_letters u ≡ true → has_no_feed line ≡ true →
    lines_for u ((63 ∷ line) ++ 10 ∷ rest) ≡ lines_for u rest
lines_for_nobody u line rest hu h =
    ap (filter_map (after_tag (tag_of u))) (line_first [] (63 ∷ line) rest h) ∙ rw (nobody u line hu) refl
  where
    nobody : (u line : List ℕ) → is_of_letters u ≡ true → after_tag (tag_of u) (63 ∷ line) ≡ None
    nobody [] line hu = refl
    nobody (b ∷ u) line hu = rw (letter_is b (and_parts (continues_name b) (is_of_letters u) hu).0).2 refl
