-- For this crate and for the crates above: what is read of tokens and of lines, and why lines are refused, in words of the grammar.
use Rattle.command_text.proofs.Names.{◌≡◌, ℕ, Bool, true, false, List, [], ◌∷◌, Option, Some, None, option_map, refl, sym, ◌∙◌, ap, ap₂, subst, Result, Ok, Err, IfOk, IfErr, Command, CommandFault, Refusal, Piece, line_pieces, CommandTree, command_view, Notes, good, SpellsCommand, Reader, Read, notes, before, at_first, command_of, first_that_holds, is_comment, is_too_long, has_other_byte, has_bad_token, command_in, early_refusal, late_refusal, first_refusal, or_else, IsRead, AreReadByTheGrammar, PassesTheFirstThree, IsJudgedByTokens, SpellsWithinLimits, SpellsNoCommand, IsReadByTheGrammar, IsRefusedByTheGrammar, IsSpelled, IsFaultOf, first_notes}
use Rattle.command_text.specs.declared.fault.CommandFault.TheVariants as faults
use Rattle.command_text.specs.declared.refusal.Refusal.TheVariants as refusals
use Rattle.command_text.specs.Tree
use Rattle.command_text.specs.Line.{Explains}
use Rattle.command_text.proofs.grammar.SpelledCommands.{command_spelled, one_command}
use Rattle.command_text.proofs.reader.LineLemmas.{comment_in, other_in}
use Rattle.command_text.proofs.grammar.DerivedCommands.{command_derived}
use Rattle.exact.proofs.Items.{map_some}

pub tokens_are_read : (tokens : List Piece) → AreReadByTheGrammar tokens
tokens_are_read tokens = record {
  spelled_is_read = λ c s t spelled. command_spelled spelled;
  read_is_spelled = λ c s r e. command_derived tokens c s r e;
  one_command = λ c d s t u e f. one_command tokens c d s t u e f;
}

-- what is read of a line, where this is known of its numbers and sizes
derived_with : (line : List ℕ) (x : CommandTree × Reader) (t : Notes) → command_of (at_first line) ≡ Some x → x.1.fit ≡ t.0 → x.1.small ≡ t.1
    → SpellsCommand x.0 (first_notes line) t (line_pieces line)
derived_with line x t e fit small =
    subst (λ (m : Notes). SpellsCommand x.0 (first_notes line) m (line_pieces line)) (ap₂ (λ (f g : Bool). (f, g)) fit small)
    (command_derived (line_pieces line) x.0 (first_notes line) x.1 e)

-- ---- Which refusal is told

-- what a refusal by what was read means
abbrev LateMeans : Read CommandTree → Refusal → Type 0
LateMeans found refusals.BadSyntax = found ≡ None
LateMeans found refusals.NumberRange = (x : CommandTree × Reader) × (found ≡ Some x) × (x.1.fit ≡ false)
LateMeans found refusals.TooLarge = (x : CommandTree × Reader) × (found ≡ Some x) × (x.1.fit ≡ true) × (x.1.small ≡ false)
LateMeans found r = ⊥

late_by : (c : CommandTree) (rest : List Piece) (fit small : Bool) (r : Refusal) →
    late_refusal (Some (c, record { rest = rest; fit = fit; small = small })) ≡ Some r
    → LateMeans (Some (c, record { rest = rest; fit = fit; small = small })) r
late_by c rest true true r e = absurd (cc)
late_by c rest true false r e =
    let same : refusals.TooLarge ≡ r = cc in
    subst (LateMeans (Some (c, record { rest = rest; fit = true; small = false }))) same
    ((c, record { rest = rest; fit = true; small = false }), refl, refl, refl)
late_by c rest false small r e =
    let same : refusals.NumberRange ≡ r = cc in
    subst (LateMeans (Some (c, record { rest = rest; fit = false; small = small }))) same ((c, record { rest = rest; fit = false; small = small }), refl, refl)

late_means : (found : Read CommandTree) (r : Refusal) → late_refusal found ≡ Some r → LateMeans found r
late_means None r e = let same : refusals.BadSyntax ≡ r = cc in subst (LateMeans None) same refl
late_means (Some x) r e = late_by x.0 x.1.rest x.1.fit x.1.small r e

late_none : (c : CommandTree) (rest : List Piece) (fit small : Bool)
    → late_refusal (Some (c, record { rest = rest; fit = fit; small = small })) ≡ None → (fit ≡ true) × (small ≡ true)
late_none c rest true true e = (refl, refl)
late_none c rest true false e = absurd (cc)
late_none c rest false small e = absurd (cc)

-- the first three refusals
abbrev IsEarly : Refusal → Type 0
IsEarly refusals.LineTooLong = Unit {0}
IsEarly refusals.NotAscii = Unit {0}
IsEarly refusals.BadToken = Unit {0}
IsEarly r = ⊥

early_by : (long other bad : Bool) (r : Refusal) →
    first_that_holds ((refusals.LineTooLong, long) ∷ (refusals.NotAscii, other) ∷ (refusals.BadToken, bad) ∷ []) ≡ Some r → IsEarly r
early_by true other bad r e = let same : refusals.LineTooLong ≡ r = cc in subst IsEarly same tt
early_by false true bad r e = let same : refusals.NotAscii ≡ r = cc in subst IsEarly same tt
early_by false false true r e = let same : refusals.BadToken ≡ r = cc in subst IsEarly same tt
early_by false false false r e = absurd (cc)

early_means : (limit : ℕ) (line : List ℕ) (r : Refusal) → early_refusal limit line ≡ Some r → IsEarly r
early_means limit line r e = early_by (is_too_long limit line) (has_other_byte line) (has_bad_token line) r e

-- ---- Lines

first_of_late : (limit : ℕ) (line : List ℕ) → early_refusal limit line ≡ None → first_refusal limit line ≡ late_refusal (command_in line)
first_of_late limit line e = ap (λ o. or_else o (late_refusal (command_in line))) e

pub none_early : (o p : Option Refusal) → or_else o p ≡ None → o ≡ None
none_early None p e = refl
none_early (Some r) p e = absurd (cc)

-- the line is refused early, or else by what was read
one_of_both : {P : Type 0} (o p : Option Refusal) (r : Refusal) → or_else o p ≡ Some r → (o ≡ Some r → P) → (o ≡ None → p ≡ Some r → P) → P
one_of_both None p r e f g = g refl e
one_of_both (Some q) p r e f g = f e

passes : (limit : ℕ) (line : List ℕ) (c : CommandTree) → IsRead limit line c → PassesTheFirstThree limit line
passes limit line c r = none_early (early_refusal limit line) (late_refusal (command_in line)) r.taken

-- the tree of what was read
abbrev tree_of : CommandTree × Reader → CommandTree
tree_of found = found.0

-- a comment
comment_found : (line : List ℕ) → is_comment line ≡ true → option_map tree_of (command_in line) ≡ Some Tree.Nothing
comment_found line e = ap (option_map tree_of) (comment_in line e)

comment_is_nothing : (limit : ℕ) (line : List ℕ) (c : CommandTree) → is_comment line ≡ true → IsRead limit line c → c ≡ Tree.Nothing
comment_is_nothing limit line c e r = let found : Some Tree.Nothing ≡ Some c = sym (comment_found line e) ∙ r.command in cc

nothing_is_read : (limit : ℕ) (line : List ℕ) (c : CommandTree) → is_comment line ≡ true → PassesTheFirstThree limit line → c ≡ Tree.Nothing
    → IsRead limit line c
nothing_is_read limit line c e early h = record {
  taken = first_of_late limit line early ∙ ap late_refusal (comment_in line e);
  command = comment_found line e ∙ ap Some (sym h);
}

-- a command
read_is_spelled : (limit : ℕ) (line : List ℕ) (c : CommandTree) → is_comment line ≡ false → IsRead limit line c → SpellsWithinLimits line c
read_is_spelled limit line c e r =
    let a = map_some tree_of (command_of (at_first line)) c (sym (ap (option_map tree_of) (other_in line e)) ∙ r.command) in
    let late : late_refusal (Some a.0) ≡ None =
    sym (ap late_refusal (other_in line e ∙ a.1)) ∙ sym (first_of_late limit line (passes limit line c r)) ∙ r.taken in
    let fit = late_none a.0.0 a.0.1.rest a.0.1.fit a.0.1.small late in
    subst (SpellsWithinLimits line) a.2 (derived_with line a.0 good a.1 fit.0 fit.1)

spelled_is_read : (limit : ℕ) (line : List ℕ) (c : CommandTree) → is_comment line ≡ false → PassesTheFirstThree limit line
    → SpellsWithinLimits line c → IsRead limit line c
spelled_is_read limit line c e early d =
    let found : command_in line ≡ Some (c, before [] good) = other_in line e ∙ command_spelled d in
    record { taken = first_of_late limit line early ∙ ap late_refusal found; command = ap (option_map tree_of) found }

pub lines_are_read : (limit : ℕ) (line : List ℕ) → IsReadByTheGrammar limit line
lines_are_read limit line = record {
  comment = λ e c. ((λ r. (passes limit line c r, comment_is_nothing limit line c e r)), (λ h. nothing_is_read limit line c e h.0 h.1));
  other = λ e c. ((λ r. (passes limit line c r, read_is_spelled limit line c e r)), (λ h. spelled_is_read limit line c e h.0 h.1));
}

-- a refusal by what was read is one of a line of tokens
late_of_tokens : (line : List ℕ) (r : Refusal) (b : Bool) → is_comment line ≡ b → late_refusal (command_in line) ≡ Some r →
    (is_comment line ≡ false) × LateMeans (command_of (at_first line)) r
late_of_tokens line r true e h = let bad : None ≡ Some r = sym (ap late_refusal (comment_in line e)) ∙ h in absurd (cc)
late_of_tokens line r false e h = (e, late_means (command_of (at_first line)) r (sym (ap late_refusal (other_in line e)) ∙ h))

-- a refusal that isn't one of the first three
late_refused : (limit : ℕ) (line : List ℕ) (r : Refusal) → (IsEarly r → ⊥) → Explains limit line (faults.Refused r)
    → IsJudgedByTokens limit line × LateMeans (command_of (at_first line)) r
late_refused limit line r late e =
    one_of_both (early_refusal limit line) (late_refusal (command_in line)) r e
    (λ h. absurd (late (early_means limit line r h)))
    (λ passed h. let a = late_of_tokens line r (is_comment line) refl h in (record { passed = passed; no_comment = a.0 }, a.1))

-- one of the others
early_refused : (limit : ℕ) (line : List ℕ) (r : Refusal) → ((found : Read CommandTree) → LateMeans found r → ⊥)
    → Explains limit line (faults.Refused r) → early_refusal limit line ≡ Some r
early_refused limit line r early e =
    one_of_both (early_refusal limit line) (late_refusal (command_in line)) r e (λ h. h)
    (λ passed h. absurd (early (command_in line) (late_means (command_in line) r h)))

refused_early : (limit : ℕ) (line : List ℕ) (r : Refusal) → early_refusal limit line ≡ Some r → Explains limit line (faults.Refused r)
refused_early limit line r e = ap (λ o. or_else o (late_refusal (command_in line))) e

refused_late : (limit : ℕ) (line : List ℕ) (found : Read CommandTree) → IsJudgedByTokens limit line → command_of (at_first line) ≡ found
    → first_refusal limit line ≡ late_refusal found
refused_late limit line found o e = first_of_late limit line o.passed ∙ ap late_refusal (other_in line o.no_comment ∙ e)

-- no command
no_command : (line : List ℕ) → command_of (at_first line) ≡ None → SpellsNoCommand line
no_command line e c s d = let read = command_spelled d in cc

none_read : (line : List ℕ) → SpellsNoCommand line → command_of (at_first line) ≡ None
none_read line none = by_found (command_of (at_first line)) refl
  where
    by_found : (o : Read CommandTree) → command_of (at_first line) ≡ o → o ≡ None
    by_found None e = refl
    by_found (Some x) e = absurd (none x.0 (notes x.1) (command_derived (line_pieces line) x.0 (first_notes line) x.1 e))

pub lines_are_refused : (limit : ℕ) (line : List ℕ) → IsRefusedByTheGrammar limit line
lines_are_refused limit line refusals.BadSyntax = (
  (λ e. let a = late_refused limit line refusals.BadSyntax (λ h. h) e in (a.0, no_command line a.1)),
  (λ h. refused_late limit line None h.0 (none_read line h.1)),
)
lines_are_refused limit line refusals.NumberRange = (
  (λ e.
      let a = late_refused limit line refusals.NumberRange (λ h. h) e in
      let x = a.1.0 in
      (a.0, (x.0, x.1.small, derived_with line x (false, x.1.small) a.1.1 a.1.2 refl))),
  (λ h. refused_late limit line (Some (h.1.0, before [] (false, h.1.1))) h.0 (command_spelled h.1.2)),
)
lines_are_refused limit line refusals.TooLarge = (
  (λ e.
      let a = late_refused limit line refusals.TooLarge (λ h. h) e in
      (a.0, (a.1.0.0, derived_with line a.1.0 (true, false) a.1.1 a.1.2 a.1.3))),
  (λ h. refused_late limit line (Some (h.1.0, before [] (true, false))) h.0 (command_spelled h.1.1)),
)
lines_are_refused limit line r = (early_refused limit line r (λ found h. h), refused_early limit line r)

-- ---- What the program answers

read_spelled : (limit : ℕ) (line : List ℕ) (c : CommandTree) → IsRead limit line c → IsSpelled limit line c
read_spelled limit line c read = record {
  passed = passes limit line c read;
  comment = λ comment. comment_is_nothing limit line c comment read;
  other = λ other. (((lines_are_read limit line).other other c).0 read).1;
}

pub fault_told : (limit : ℕ) (line : List ℕ) (fault : CommandFault) → Explains limit line fault → IsFaultOf limit line fault
fault_told limit line (faults.Refused r) is = (lines_are_refused limit line r).0 is
fault_told limit line faults.NoMemory is = is

pub answers_spelled : (limit : ℕ) (line : List ℕ) (r : Result Command CommandFault) → IfOk r (λ c. IsRead limit line (command_view c))
    → IfOk r (λ c. IsSpelled limit line (command_view c))
answers_spelled limit line (Ok c) is = read_spelled limit line (command_view c) is
answers_spelled limit line (Err fault) is = tt

pub faults_told : (limit : ℕ) (line : List ℕ) (r : Result Command CommandFault) → IfErr r (Explains limit line) → IfErr r (IsFaultOf limit line)
faults_told limit line (Ok c) is = tt
faults_told limit line (Err fault) is = fault_told limit line fault is
