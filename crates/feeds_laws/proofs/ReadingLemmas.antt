-- What the lines of some text leave of a copy.
use Rattle.std.proofs.Common.{◌≡◌, ◌∙◌, ℕ, ◌+◌, Bool, true, false, cond, List, [], ◌∷◌, ◌++◌, Option, Some, None, refl, ap, sym, append-nil, append_assoc, inl, inr}
use Rattle.std.proofs.lemmas.Bool.{and_parts, cases_Bool}
use Rattle.std.specs.Prelude.{if◌then◌else◌}
use Rattle.std.specs.List.{list_all}
use Rattle.users.specs.Tagged.{is_no_feed, lines_in, split_lines}
use Rattle.users.proofs.CallerLemmas.{no_feed_on}
use Rattle.replica.specs.Copied.{copy_after, starting_after}
use Rattle.replica.specs.Feed.{Hearing, hearing_after, is_broken}
use Rattle.replica.specs.Line.{ToldLine, told_by_line}
use Rattle.replica.specs.declared.copied.Copied.{Copied}

-- the copy, and whether rows may follow
abbrev pub Following : Type 0
Following = Option Copied × Bool

abbrev pub then_told : Following → ToldLine → Following
then_told s told = (copy_after s.1 s.0 told, starting_after s.1 told)

-- what lines leave; None where one of them hasn't its form
abbrev pub read : List ℕ → Following → List (List ℕ) → Option Following
read name s [] = Some s
read name s (line ∷ lines) = if is_broken (told_by_line name line) then None else read name (then_told s (told_by_line name line)) lines

read_more : (name : List ℕ) (s m : Following) (xs ys : List (List ℕ)) → read name s xs ≡ Some m → read name s (xs ++ ys) ≡ read name m ys
read_more name s m [] ys e = let same : s ≡ m = cc in ap (λ s. read name s ys) same
read_more name s m (x ∷ xs) ys e = elim (cases_Bool (is_broken (told_by_line name x))) [
  | inl bad ↦ let none : None ≡ Some m = rw bad at e in absurd (cc)
  | inr good ↦
      let later : read name (then_told s (told_by_line name x)) xs ≡ Some m = rw good at e in
      rw good (read_more name (then_told s (told_by_line name x)) m xs ys later)
]

-- ---- Texts

-- the lines of a text, which ends with a line feed if it isn't empty, lead from one state to another
pub record Leads (name text : List ℕ) (s m : Following) : Type 0 where
  pub lines : List (List ℕ)
  pub are : (rest : List ℕ) → lines_in (text ++ rest) ≡ lines ++ lines_in rest
  pub leads : read name s lines ≡ Some m

pub nothing_leads : (name : List ℕ) (s : Following) → Leads name [] s s
nothing_leads name s = record { lines = []; are = λ rest. refl; leads = refl }

pub both_lead : (name text more : List ℕ) (a b c : Following) → Leads name text a b → Leads name more b c → Leads name (text ++ more) a c
both_lead name text more a b c first later = record {
  lines = first.lines ++ later.lines;
  are = λ rest.
      ap lines_in (append_assoc text more rest)
      ∙ first.are (more ++ rest)
      ∙ ap (λ l. first.lines ++ l) (later.are rest)
      ∙ sym (append_assoc first.lines later.lines (lines_in rest));
  leads = read_more name a b first.lines later.lines first.leads ∙ later.leads;
}

abbrev pub has_no_feed : List ℕ → Bool
has_no_feed line = list_all is_no_feed line

line_first : (begun line rest : List ℕ) → has_no_feed line ≡ true → split_lines begun (line ++ 10 ∷ rest) ≡ (begun ++ line) ∷ lines_in rest
line_first begun [] rest h = ap (λ l. l ∷ lines_in rest) (sym (append-nil begun))
line_first begun (b ∷ line) rest h =
    let both = and_parts (is_no_feed b) (has_no_feed line) h in
    rw (no_feed_on b both.0) (line_first (begun ++ b ∷ []) line rest both.1 ∙ ap (λ l. l ∷ lines_in rest) (append_assoc begun (b ∷ []) line))

pub line_leads : (name line : List ℕ) (told : ToldLine) (s : Following) → has_no_feed line ≡ true → told_by_line name line ≡ told → is_broken told ≡ false
    → Leads name (line ++ 10 ∷ []) s (then_told s told)
line_leads name line told s free is good = record {
  lines = line ∷ [];
  are = λ rest. ap lines_in (append_assoc line (10 ∷ []) rest) ∙ line_first [] line rest free;
  leads = ap (λ (t : ToldLine). cond (is_broken t) None (Some (then_told s t))) is ∙ ap (λ (b : Bool). cond b None (Some (then_told s told))) good;
}

-- the lines of the whole text
pub text_read : (name text : List ℕ) (s m : Following) → Leads name text s m → read name s (lines_in text) ≡ Some m
text_read name text s m leads =
    let lines : lines_in text ≡ leads.lines = ap lines_in (sym (append-nil text)) ∙ leads.are [] ∙ append-nil leads.lines in
    ap (read name s) lines ∙ leads.leads

pub texts_read : (name : List ℕ) (xs ys : List (List ℕ)) (s m : Following) → read name s xs ≡ Some m → read name s (xs ++ ys) ≡ read name m ys
texts_read name xs ys s m e = read_more name s m xs ys e

-- ---- A whole feed

abbrev hearing : List ℕ → Following → ℕ → Hearing
hearing name s n = record { name = name; copy = s.0; starting = s.1; lines = n; bad = None }

pub record Ends (h : Hearing) (s : Following) : Type 0 where
  pub copy : h.copy ≡ s.0
  pub good : h.bad ≡ None

pub feed_ends : (name : List ℕ) (lines : List (List ℕ)) (s m : Following) (n : ℕ) → read name s lines ≡ Some m → Ends (hearing_after (hearing name s n) lines) m
feed_ends name [] s m n e = let same : s ≡ m = cc in record { copy = ap (λ (s : Following). s.0) same; good = refl }
feed_ends name (line ∷ lines) s m n e = elim (cases_Bool (is_broken (told_by_line name line))) [
  | inl bad ↦ let none : None ≡ Some m = rw bad at e in absurd (cc)
  | inr good ↦
      let later : read name (then_told s (told_by_line name line)) lines ≡ Some m = rw good at e in
      rw good (feed_ends name lines (then_told s (told_by_line name line)) m (n + 1) later)
]
