-- For this crate and for the crates above: what is done with a line by some texts that the shelf may have.
use Rattle.std.proofs.Common.{◌≡◌, ◌≤◌, ℕ, ◌+◌, Bool, true, false, Option, None, Some, List, refl, sym, ap, ◌∙◌, subst, inl, arith}
use Rattle.std.specs.Prelude.{is_err, option_map, Result, Ok, Err}
use Rattle.outside.specs.Shelf.{Texts}
use Rattle.object_rows.specs.declared.rows.ObjectRow.{ObjectRow}
use Rattle.command_text.specs.declared.reading.TheConstants.{LINE_LIMIT}
use Rattle.command_text.specs.declared.refusal.Refusal.{Refusal}
use Rattle.command_text.specs.declared.refusal.Refusal.TheVariants as refusals
use Rattle.command_text.specs.Journal.{Accepted, spelled}
use Rattle.command_text.specs.Line.{IsRead, first_refusal}
use Rattle.command_text.specs.Tree
use Rattle.command_text.specs.Tree.{CommandTree}
use Rattle.line_meaning.specs.Fault.{class_refusal}
use Rattle.line_meaning.specs.Import.{rows_for}
use Rattle.line_meaning.specs.Journal.{world}
use Rattle.line_meaning.specs.Looks.{looks_of, looks_of_rows}
use Rattle.line_meaning.specs.Role.{asks_shelf, is_import}
use Rattle.line_meaning.specs.Step.{Base, Held, base, held}
use Rattle.line_meaning.proofs.CallerLemmas.{spelled_is}
use Rattle.session.specs.declared.next.ApplyFault.{ApplyFault}
use Rattle.session.specs.declared.next.ApplyFault.TheVariants as apply_faults
use Rattle.session.specs.declared.next.Next.{Next}
use Rattle.session.specs.declared.next.Next.TheVariants as nexts
use Rattle.session.specs.Answers.{LeavesHeld, MayHave}
use Rattle.session.specs.Carried.{Moment, moment}
use Rattle.session.specs.Filed.{IsAnswered, IsApplied, IsBySome, IsStoppedByShelf, SufficesFor, WantsMemory, said_after}
use Rattle.session.specs.Imported.{Imports}
use Rattle.session.specs.Untold.{AppliesBySome}
use Rattle.session.proofs.AnswerLemmas.{does_answers, refused_applies, same_leaves}
use Rattle.session.proofs.FileLemmas.{import_fails, import_is_applied, import_lacks, import_no_file, import_unknown, rows_looks}

-- the told texts, or where none are told those that have this under each name
abbrev pub some_texts : Option Texts → Option (List ℕ) → Texts
some_texts None found = λ _. found
some_texts (Some texts) found = texts

pub same_texts : (x y : Texts) → Some x ≡ Some y → x ≡ y
same_texts x y h = cc h

agrees : (told : Option Texts) (found : Option (List ℕ)) → MayHave told (some_texts told found)
agrees None found all is = absurd (cc is)
agrees (Some texts) found all is = same_texts texts all is

-- what was found lies under the name
lies : (told : Option Texts) (file : List ℕ) (found : Option (List ℕ)) → ((texts : Texts) → told ≡ Some texts → found ≡ texts file) →
    (texts : Texts) → Some (some_texts told found) ≡ Some texts → found ≡ texts file
lies None file found finds texts is = ap (λ (t : Texts). t file) (same_texts (λ _. found) texts is)
lies (Some known) file found finds texts is = finds texts is

stays : (b : Base) (c : CommandTree) (new : Held) → new ≡ b.held → LeavesHeld b c new
stays b (Tree.Import class file) new same = inl same
stays b c new same = same

no_more : (reads more : ℕ) → reads ≤ reads + more
no_more reads more = omega arith

-- no text was found
pub no_text : {V : Type 0} (items : V → List ℕ) (o : Option V) (x : Option (List ℕ)) → option_map items o ≡ x → o ≡ None → None ≡ x
no_text items o x found is = ap (option_map items) (sym is) ∙ found

-- ---- a command

-- as it is for a shelf whose texts suffice
by_some : (told sure left : Option Texts) (c : CommandTree) (m n : Moment) (r : Result Next ApplyFault) (texts : Texts) → MayHave told texts →
    SufficesFor sure c texts → IsApplied sure left c m.holds n.holds m.tally.said n.tally.said r →
    n.tally.reads ≤ m.tally.reads + looks_of (base m.holds texts) c → IsBySome told c m n r
by_some told sure left c m n (Ok next) texts agree suffices applied most = record {
  texts = texts;
  agree = agree;
  does = applied.answers texts suffices;
  leaves = tt;
  most = most;
}
by_some told sure left c m n (Err apply_faults.NoMemory) texts agree suffices applied most =
    let fails : WantsMemory sure left c m.holds n.holds m.tally.said n.tally.said = applied.fails in
    record { texts = texts; agree = agree; does = tt; leaves = fails.leaves texts suffices; most = most }
by_some told sure left c m n (Err apply_faults.ShelfFault) texts agree suffices applied most =
    let fails : IsStoppedByShelf sure left c m.holds n.holds m.tally.said n.tally.said = applied.fails in
    record { texts = texts; agree = agree; does = tt; leaves = stays (base m.holds texts) c n.holds fails.held_stays; most = most }

-- for any other than an import all texts suffice
plain_by_some : (told left : Option Texts) (c : CommandTree) (m n : Moment) (r : Result Next ApplyFault) → is_import c ≡ false →
    IsAnswered told left c m n r → IsBySome told c m n r
plain_by_some told left c m n r plain answered =
    let texts = some_texts told None in
    let suffices : SufficesFor told c texts = λ import. absurd (cc (sym plain ∙ import)) in
    by_some told told left c m n r texts (agrees told None) suffices answered.applied (answered.most texts suffices)

-- ---- an import

module _ (told : Option Texts) (journal : List Accepted) (class file : List ℕ) (before : List ℕ) (reads probes : ℕ) where
  pub some_unknown : (r : Refusal) → class_refusal (world journal).history.catalog class ≡ Some r →
      IsBySome told (Tree.Import class file) (moment (held journal) before reads probes) (moment (held journal) before reads probes) (Ok (nexts.Refused r))
  some_unknown r is =
      let texts = some_texts told None in
      by_some told (Some texts) (Some texts) (Tree.Import class file) (moment (held journal) before reads probes) (moment (held journal) before reads probes)
      (Ok (nexts.Refused r)) texts (agrees told None) (λ import. refl)
      (import_unknown (Some texts) (Some texts) journal class file before refl r is) (no_more reads _)

  pub some_lacks : IsBySome told (Tree.Import class file) (moment (held journal) before reads probes) (moment (held journal) before reads probes) (Err apply_faults.NoMemory)
  some_lacks =
      let texts = some_texts told None in
      by_some told (Some texts) (Some texts) (Tree.Import class file) (moment (held journal) before reads probes) (moment (held journal) before reads probes)
      (Err apply_faults.NoMemory) texts (agrees told None) (λ import. refl)
      (import_lacks (Some texts) (Some texts) journal class file before refl (held journal) refl) (no_more reads _)

  module _ (there : class_refusal (world journal).history.catalog class ≡ None) where
    pub some_fails : IsBySome told (Tree.Import class file) (moment (held journal) before reads probes) (moment (held journal) before reads probes) (Err apply_faults.ShelfFault)
    some_fails =
        let texts = some_texts told None in
        by_some told (Some texts) (Some texts) (Tree.Import class file) (moment (held journal) before reads probes) (moment (held journal) before reads probes)
        (Err apply_faults.ShelfFault) texts (agrees told None) (λ import. refl)
        (import_fails (Some texts) (Some texts) journal class file before refl there) (no_more reads _)

    pub some_no_file : ((texts : Texts) → told ≡ Some texts → None ≡ texts file) →
        IsBySome told (Tree.Import class file) (moment (held journal) before reads probes) (moment (held journal) before reads probes) (Ok (nexts.Refused refusals.NoFile))
    some_no_file found =
        let texts = some_texts told None in
        by_some told (Some texts) (Some texts) (Tree.Import class file) (moment (held journal) before reads probes) (moment (held journal) before reads probes)
        (Ok (nexts.Refused refusals.NoFile)) texts (agrees told None) (λ import. refl)
        (import_no_file (Some texts) (Some texts) journal class file before refl there (lies told file None found)) (no_more reads _)

    pub some_text : (text : List ℕ) → ((texts : Texts) → told ≡ Some texts → Some text ≡ texts file) →
        (new : List Accepted) (after : List ℕ) (reads' probes' : ℕ) (r : Result Next ApplyFault) → Imports class text journal new before after r →
        ((rows : List ObjectRow) → rows_for journal class text ≡ Some rows → reads' ≤ reads + looks_of_rows class journal rows) →
        (rows_for journal class text ≡ None → reads' ≡ reads) →
        IsBySome told (Tree.Import class file) (moment (held journal) before reads probes) (moment (held new) (said_after r before after) reads' probes') r
    some_text text found new after reads' probes' r imports most idle =
        let texts = some_texts told (Some text) in
        let has : (others : Texts) → Some texts ≡ Some others → Some text ≡ others file = lies told file (Some text) found in
        by_some told (Some texts) (Some texts) (Tree.Import class file) (moment (held journal) before reads probes)
        (moment (held new) (said_after r before after) reads' probes') r texts (agrees told (Some text)) (λ import. refl)
        (import_is_applied (Some texts) (Some texts) journal class file before refl there text has new after r imports)
        (rows_looks (Some texts) journal class file text has reads reads' most idle texts refl)

-- ---- the end of what was written is cut off after an error

pub cut_by_some : (told : Option Texts) (c : CommandTree) (m n : Moment) (after : List ℕ) (r : Result Next ApplyFault) → is_err r ≡ true →
    (is_import c ≡ true → IsBySome told c m n r) → is_import c ≡ true → IsBySome told c m (moment n.holds after n.tally.reads n.tally.probes) r
cut_by_some told c m n after (Ok next) err by import = absurd (cc err)
cut_by_some told c m n after (Err fault) err by import =
    let some = by import in
    record { texts = some.texts; agree = some.agree; does = tt; leaves = some.leaves; most = some.most }

pub uncut_by_some : (told : Option Texts) (c : CommandTree) (m : Moment) (new : Held) (before after : List ℕ) (reads probes : ℕ) (r : Result Next ApplyFault) →
    is_err r ≡ false → (is_import c ≡ true → IsBySome told c m (moment new (said_after r before after) reads probes) r) → is_import c ≡ true →
    IsBySome told c m (moment new after reads probes) r
uncut_by_some told c m new before after reads probes (Ok next) right by import = by import
uncut_by_some told c m new before after reads probes (Err fault) right by import = absurd (cc right)

-- a command that asks nothing of the shelf is none
pub plain_is_no_import : {A : Type 0} (c : CommandTree) → asks_shelf c ≡ false → is_import c ≡ true → A
plain_is_no_import (Tree.Import class file) plain import = absurd (cc plain)
plain_is_no_import c plain import = absurd (cc import)

-- ---- a line

module _ (told left : Option Texts) (line : List ℕ) (c : CommandTree) (read : IsRead LINE_LIMIT line c) (m n : Moment) where
  line_by_some : (r : Result Next ApplyFault) → IsBySome told c m n r → AppliesBySome told line m n r
  line_by_some (Ok next) some = record {
    texts = some.texts;
    agree = some.agree;
    answers = does_answers line c read next (base m.holds some.texts) n.holds m.tally.said n.tally.said some.does;
    leaves = tt;
    most = subst (λ (d : CommandTree). n.tally.reads ≤ m.tally.reads + looks_of (base m.holds some.texts) d) (sym (spelled_is line c read)) some.most;
  }
  line_by_some (Err fault) some = record {
    texts = some.texts;
    agree = some.agree;
    answers = tt;
    leaves = subst (λ (d : CommandTree). LeavesHeld (base m.holds some.texts) d n.holds) (sym (spelled_is line c read)) some.leaves;
    most = subst (λ (d : CommandTree). n.tally.reads ≤ m.tally.reads + looks_of (base m.holds some.texts) d) (sym (spelled_is line c read)) some.most;
  }

  pub applies_by_some : (r : Result Next ApplyFault) → IsAnswered told left c m n r → (is_import c ≡ true → IsBySome told c m n r) →
      AppliesBySome told line m n r
  applies_by_some r answered by = line_by_some r (by_case (is_import c) refl)
    where
      by_case : (b : Bool) → is_import c ≡ b → IsBySome told c m n r
      by_case true import = by import
      by_case false plain = plain_by_some told left c m n r plain answered

pub refused_by_some : (told : Option Texts) (line : List ℕ) (m : Moment) (r : Refusal) → first_refusal LINE_LIMIT line ≡ Some r →
    AppliesBySome told line m m (Ok (nexts.Refused r))
refused_by_some told line m r first =
    let texts = some_texts told None in
    record {
      texts = texts;
      agree = agrees told None;
      answers = (refused_applies (Some texts) line m.holds m.tally.said r first).answers texts (λ import. refl);
      leaves = tt;
      most = no_more m.tally.reads _;
    }

pub lacks_by_some : (told : Option Texts) (line : List ℕ) (m : Moment) → AppliesBySome told line m m (Err apply_faults.NoMemory)
lacks_by_some told line m =
    let texts = some_texts told None in
    record {
      texts = texts;
      agree = agrees told None;
      answers = tt;
      leaves = same_leaves (base m.holds texts) (spelled line);
      most = no_more m.tally.reads _;
    }
