-- Tokens at the fronts of canonical lines, by the library of texts that are cut into tokens.
use Rattle.command_text.proofs.Names.{◌≡◌, ℕ, List, [], ◌∷◌, Some, IsTrue, refl, ap, ◌∙◌, code_of, reserved_words, Lexeme, is_word, is_number, Piece, NAME, NUMBER, TEXT, piece_of, token_of, has_other_byte, IsAscii, quoted, IsShortName, IsShortText, is_short, true}
use Rattle.ftl_lexer.specs.declared.kinds.Kind.TheVariants as kinds
use Rattle.ftl_lexer.proofs.Fronts.{quoted_form}
use Rattle.ftl_parser.proofs.canonical.TextTokens as texts
use Rattle.ftl_parser.proofs.canonical.TextTokens.{Anything, Ends, closed_word, inside}
use Rattle.command_text.proofs.canonical.TextAscii.{word_ascii, form_ascii}

-- no byte that no line has
abbrev pub IsFit : Lexeme → Type 0
IsFit t = IsAscii t.1

abbrev pub IsCut : List ℕ → List Piece → Type 0
IsCut = texts.IsCut IsFit

abbrev pub CutBefore : (List ℕ → Type 0) → List ℕ → List Piece → Type 0
CutBefore = texts.CutBefore IsFit

-- a part that ends by itself
abbrev pub Closes : List ℕ → (List Piece → Type 0) → Type 0
Closes = texts.ReadsBefore IsFit Anything

-- a part that may end with a name or a number
abbrev pub Reads : List ℕ → (List Piece → Type 0) → Type 0
Reads = texts.ReadsBefore IsFit Ends

-- a word of the language, or else a name
pub word_cut : (word : List ℕ) → IsTrue (is_word word) → is_short word ≡ true → CutBefore Ends word (token_of word ∷ [])
word_cut word is short = closed_word (texts.word_cut word is short (word_ascii word is))

pub name_cut : (name : List ℕ) → IsShortName name → CutBefore Ends name (NAME name ∷ [])
name_cut name is = closed_word (texts.name_cut name is (form_ascii kinds.Name name is.0 refl))

pub key_cut : (code : ℕ) (word : List ℕ) → IsTrue (is_word word) → code_of reserved_words word ≡ Some code
    → CutBefore Ends word (piece_of (kinds.Key code) word ∷ [])
key_cut code word is found = closed_word (texts.key_cut code word is found (form_ascii (kinds.Key code) word found refl))

pub number_cut : (number : List ℕ) → IsTrue (is_number number) → CutBefore Ends number (NUMBER number ∷ [])
number_cut number is = texts.number_cut number is (form_ascii kinds.Number number is refl)

pub text_cut : (text : List ℕ) → IsShortText text → CutBefore Ends (quoted text) (TEXT text ∷ [])
text_cut text is =
    texts.text_cut text (is.0, is.2) (form_ascii kinds.Text (quoted text) (quoted_form text is.0) (ap has_other_byte (inside text) ∙ is.1))
