-- For this crate and for the crates above: texts that are cut into given tokens, part by part, none of which is too long,
-- whatever a crate asks of a token.
use Rattle.ftl_parser.proofs.Names.{◌≡◌, ℕ, ◌-◌, List, [], ◌∷◌, ◌++◌, append_assoc, append-nil, take, length, length-append, Option, None, Some, IsTrue, refl, sym, ap, ◌∙◌, arith, AllByRecursion, option_map_or, take_at, code_of, reserved_words, symbols, Kind, name_len, digits_len, fraction_len, word_kind, Lexeme, cut, put_before, is_word, is_number, stands_alone, unquoted, false, true, not, ◌||◌, ◌≤◌, subst, nat_tests, IsShortName, IsQuotable, WORD_LIMIT, Piece, NAME, NUMBER, TEXT, piece_of, pieces, is_long, has_long, is_short, short_word, if◌then◌else◌}
use Rattle.ftl_lexer.specs.declared.kinds.Kind.TheVariants as kinds
use Rattle.ftl_lexer.proofs.Fronts.{cut_word, cut_number, cut_text, quoted_form, cut_symbol, cut_blank}

-- ---- what may stand after a part

abbrev pub Anything : List ℕ → Type 0
Anything rest = Unit {0}

-- no name goes on here
abbrev pub NameEnds : List ℕ → Type 0
NameEnds rest = name_len rest ≡ 0

-- no name and no number goes on here
pub record Ends (rest : List ℕ) : Type 0 where
  pub name : name_len rest ≡ 0
  pub digits : digits_len rest ≡ 0
  pub fraction : fraction_len rest ≡ 0

pub nothing_ends : Ends []
nothing_ends = record { name = refl; digits = refl; fraction = refl }

pub blank_ends : (rest : List ℕ) → Ends (32 ∷ rest)
blank_ends rest = record { name = refl; digits = refl; fraction = refl }

pub open_ends : (rest : List ℕ) → Ends (40 ∷ rest)
open_ends rest = record { name = refl; digits = refl; fraction = refl }

pub close_ends : (rest : List ℕ) → Ends (41 ∷ rest)
close_ends rest = record { name = refl; digits = refl; fraction = refl }

pub comma_ends : (rest : List ℕ) → Ends (44 ∷ rest)
comma_ends rest = record { name = refl; digits = refl; fraction = refl }

pub square_ends : (rest : List ℕ) → Ends (93 ∷ rest)
square_ends rest = record { name = refl; digits = refl; fraction = refl }

-- ---- texts and their parts; `Good` is what a crate asks of a token

-- the text is cut into these tokens, none of them too long
pub record IsCut (Good : Lexeme → Type 0) (bytes : List ℕ) (tokens : List Piece) : Type 0 where
  pub lexed : List Lexeme
  pub cut_is : cut 0 bytes ≡ Some lexed
  pub pieces_are : pieces lexed ≡ tokens
  pub short : has_long lexed ≡ false
  pub good : AllByRecursion Good lexed

-- a part of a text is cut into these tokens, whatever of this kind stands after it
pub record CutBefore (Good : Lexeme → Type 0) (Later : List ℕ → Type 0) (part : List ℕ) (tokens : List Piece) : Type 0 where
  pub again : (rest : List ℕ) (ps : List Piece) → Later rest → IsCut Good rest ps → IsCut Good (part ++ rest) (tokens ++ ps)

-- and the tokens are spelled so
pub record ReadsBefore (Good : Lexeme → Type 0) (Later : List ℕ → Type 0) (part : List ℕ) (S : List Piece → Type 0) : Type 0 where
  pub tokens : List Piece
  pub spelled : S tokens
  pub cut : CutBefore Good Later part tokens

-- what stands between the quotes of a text
pub inside : (text : List ℕ) → unquoted (34 ∷ text ++ 34 ∷ []) ≡ text
inside text =
    let size : length (34 ∷ text ++ 34 ∷ []) - 2 ≡ length text = omega (arith, length-append text (34 ∷ [])) in
    ap (λ (n : ℕ). take n (text ++ 34 ∷ [])) size ∙ take_at text (34 ∷ []) (length text) refl

-- a word that is short stands for itself
pub few_is : (word : List ℕ) → length word ≤ WORD_LIMIT → is_short word ≡ true
few_is word few = grind (arith, nat_tests, few)

pub word_is : (word : List ℕ) → is_short word ≡ true → short_word word ≡ word
word_is word short = ap (λ b. if b then word else []) short

module _ {Good : Lexeme → Type 0} where
  pub nothing_is_cut : IsCut Good [] []
  unfolding cut
  nothing_is_cut = record { lexed = []; cut_is = refl; pieces_are = refl; short = refl; good = tt }

  -- the same text and tokens, grouped in another way
  pub regrouped : {x y : List ℕ} {ps qs : List Piece} → x ≡ y → ps ≡ qs → IsCut Good y qs → IsCut Good x ps
  regrouped text tokens is =
      record { lexed = is.lexed; cut_is = ap (cut 0) text ∙ is.cut_is; pieces_are = is.pieces_are ∙ sym tokens; short = is.short; good = is.good }

  pub blank_first : {rest : List ℕ} {ps : List Piece} → IsCut Good rest ps → IsCut Good (32 ∷ rest) ps
  blank_first {rest = rest} is =
      record { lexed = is.lexed; cut_is = cut_blank 32 rest refl ∙ is.cut_is; pieces_are = is.pieces_are; short = is.short; good = is.good }

  -- without the blank in front
  pub behind_blank : {rest : List ℕ} {ps : List Piece} → IsCut Good (32 ∷ rest) ps → IsCut Good rest ps
  behind_blank {rest = rest} is =
      record { lexed = is.lexed; cut_is = sym (cut_blank 32 rest refl) ∙ is.cut_is; pieces_are = is.pieces_are; short = is.short; good = is.good }

  -- a token before others
  pub put : (kind : Kind) (bytes : List ℕ) {text rest : List ℕ} {ps : List Piece} → IsCut Good rest ps
      → cut 0 text ≡ put_before (kind, bytes) (cut 0 rest) → is_long kind bytes ≡ false → Good (kind, bytes) → IsCut Good text (piece_of kind bytes ∷ ps)
  put kind bytes is front short good = record {
    lexed = (kind, bytes) ∷ is.lexed;
    cut_is = front ∙ ap (put_before (kind, bytes)) is.cut_is;
    pieces_are = ap (λ (qs : List Piece). piece_of kind bytes ∷ qs) is.pieces_are;
    short = ap (λ b. b || has_long is.lexed) short ∙ is.short;
    good = (good, is.good);
  }

  pub no_cut : {Later : List ℕ → Type 0} → CutBefore Good Later [] []
  no_cut = record { again = λ rest ps ends is. is }

  -- a word that has this kind
  word_of_kind : (kind : Kind) (word : List ℕ) → IsTrue (is_word word) → word_kind word ≡ kind → is_long kind word ≡ false → Good (kind, word)
      → CutBefore Good NameEnds word (piece_of kind word ∷ [])
  word_of_kind kind word is_word same short good = record {
    again = λ rest ps ends is.
        put kind word is (cut_word word rest is_word ends ∙ ap (λ (k : Kind). put_before (k, word) (cut 0 rest)) same) short good;
  }

  pub word_cut : (word : List ℕ) → IsTrue (is_word word) → is_short word ≡ true → Good (word_kind word, word)
      → CutBefore Good NameEnds word (piece_of (word_kind word) word ∷ [])
  word_cut word is_word short good = word_of_kind (word_kind word) word is_word refl (not_long (code_of reserved_words word)) good
    where
      not_long : (code : Option ℕ) → is_long (option_map_or (λ c. kinds.Key c) code kinds.Name) word ≡ false
      not_long None = ap not short
      not_long (Some c) = refl

  pub name_cut : (name : List ℕ) → IsShortName name → Good (kinds.Name, name) → CutBefore Good NameEnds name (NAME name ∷ [])
  name_cut name is good =
      let short : is_short name ≡ true = few_is name is.1 in
      subst (λ (n : List ℕ). CutBefore Good NameEnds name (NAME n ∷ [])) (word_is name short)
      (word_of_kind kinds.Name name is.0.0 (ap (λ (code : Option ℕ). option_map_or (λ c. kinds.Key c) code kinds.Name) is.0.1) (ap not short) good)

  pub key_cut : (code : ℕ) (word : List ℕ) → IsTrue (is_word word) → code_of reserved_words word ≡ Some code → Good (kinds.Key code, word)
      → CutBefore Good NameEnds word (piece_of (kinds.Key code) word ∷ [])
  key_cut code word is_key found good =
      word_of_kind (kinds.Key code) word is_key (ap (λ (c : Option ℕ). option_map_or (λ d. kinds.Key d) c kinds.Name) found) refl good

  pub number_cut : (number : List ℕ) → IsTrue (is_number number) → Good (kinds.Number, number) → CutBefore Good Ends number (NUMBER number ∷ [])
  number_cut number is_number good =
      record { again = λ rest ps ends is. put kinds.Number number is (cut_number number rest is_number ends.digits ends.fraction) refl good }

  pub text_cut : {Later : List ℕ → Type 0} (text : List ℕ) → IsQuotable text → Good (kinds.Text, 34 ∷ text ++ 34 ∷ [])
      → CutBefore Good Later (34 ∷ text ++ 34 ∷ []) (TEXT text ∷ [])
  text_cut {Later = Later} text is good =
      let quoted : List ℕ = 34 ∷ text ++ 34 ∷ [] in
      let short : is_short text ≡ true = few_is text is.1 in
      let fits : is_long kinds.Text quoted ≡ false = ap (λ (t : List ℕ). not (is_short t)) (inside text) ∙ ap not short in
      subst (λ (t : List ℕ). CutBefore Good Later quoted (TEXT t ∷ [])) (ap short_word (inside text) ∙ word_is text short)
      (record { again = λ rest ps ends later. put kinds.Text quoted later (cut_text quoted rest (quoted_form text is.0)) fits good })

  -- after a symbol of one byte
  pub led : {Later : List ℕ → Type 0} {part : List ℕ} {tokens : List Piece} (code symbol : ℕ) → IsTrue (stands_alone symbol)
      → code_of symbols (symbol ∷ []) ≡ Some code → Good (kinds.Sym code, symbol ∷ []) → CutBefore Good Later part tokens
      → CutBefore Good Later (symbol ∷ part) (piece_of (kinds.Sym code) (symbol ∷ []) ∷ tokens)
  led {part = part} {tokens = tokens} code symbol alone found good cut = record {
    again = λ rest ps ends is.
        put (kinds.Sym code) (symbol ∷ []) (cut.again rest ps ends is) (cut_symbol symbol (part ++ rest) code alone found) refl good;
  }

  -- after a space
  pub spaced_cut : {Later : List ℕ → Type 0} {part : List ℕ} {tokens : List Piece} → CutBefore Good Later part tokens
      → CutBefore Good Later (32 ∷ part) tokens
  spaced_cut cut = record { again = λ rest ps ends is. blank_first (cut.again rest ps ends is) }

  -- what may stand after it is less
  pub narrowed : {Later Last : List ℕ → Type 0} {part : List ℕ} {tokens : List Piece} → CutBefore Good Later part tokens
      → ((rest : List ℕ) → Last rest → Later rest) → CutBefore Good Last part tokens
  narrowed cut less = record { again = λ rest ps ends is. cut.again rest ps (less rest ends) is }

  -- where no number may go on either
  pub closed_word : {part : List ℕ} {tokens : List Piece} → CutBefore Good NameEnds part tokens → CutBefore Good Ends part tokens
  closed_word cut = narrowed cut (λ rest ends. ends.name)

  -- one after the other
  pub then_cut : {Later Last : List ℕ → Type 0} {x y : List ℕ} {xs ys : List Piece} → CutBefore Good Later x xs → CutBefore Good Last y ys
      → ((rest : List ℕ) → Last rest → Later (y ++ rest)) → CutBefore Good Last (x ++ y) (xs ++ ys)
  then_cut {x = x} {y = y} {xs = xs} {ys = ys} first second between = record {
    again = λ rest ps ends is.
        regrouped (append_assoc x y rest) (append_assoc xs ys ps) (first.again (y ++ rest) (ys ++ ps) (between rest ends) (second.again rest ps ends is));
  }

  pub closed_cut : {Last : List ℕ → Type 0} {x y : List ℕ} {xs ys : List Piece} → CutBefore Good Anything x xs → CutBefore Good Last y ys
      → CutBefore Good Last (x ++ y) (xs ++ ys)
  closed_cut first second = then_cut first second (λ rest ends. tt)

  -- before a byte at which what stands before it ends
  pub parted : {Later Last : List ℕ → Type 0} {b : ℕ} {x y : List ℕ} {xs ys : List Piece} → ((rest : List ℕ) → Later (b ∷ rest))
      → CutBefore Good Later x xs → CutBefore Good Last (b ∷ y) ys → CutBefore Good Last (x ++ (b ∷ y)) (xs ++ ys)
  parted {y = y} stops first second = then_cut first second (λ rest ends. stops (y ++ rest))

  -- with a space between
  pub apart_cut : {Last : List ℕ → Type 0} {x y : List ℕ} {xs ys : List Piece} → CutBefore Good Ends x xs → CutBefore Good Last y ys
      → CutBefore Good Last (x ++ (32 ∷ y)) (xs ++ ys)
  apart_cut first second = parted blank_ends first (spaced_cut second)

  -- the same text, grouped in another way
  pub same_cut : {Later : List ℕ → Type 0} {x y : List ℕ} {tokens : List Piece} → CutBefore Good Later x tokens → y ≡ x
      → CutBefore Good Later y tokens
  same_cut cut same = record { again = λ rest ps ends is. regrouped (ap (λ (t : List ℕ). t ++ rest) same) refl (cut.again rest ps ends is) }

  pub reads : {Later : List ℕ → Type 0} {part : List ℕ} {Spelled : List Piece → Type 0} {tokens : List Piece} → Spelled tokens
      → CutBefore Good Later part tokens → ReadsBefore Good Later part Spelled
  reads {tokens = tokens} spelled cut = record { tokens = tokens; spelled = spelled; cut = cut }

  -- nothing stands after it
  pub read_last : {part : List ℕ} {Spelled : List Piece → Type 0} (r : ReadsBefore Good Ends part Spelled) → IsCut Good part r.tokens
  read_last {part = part} r =
      regrouped (sym (append-nil part)) (sym (append-nil r.tokens)) (r.cut.again [] [] nothing_ends nothing_is_cut)
