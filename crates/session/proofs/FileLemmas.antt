-- What is done with the commands on files.
use Rattle.std.proofs.Common.{◌≡◌, ℕ, ◌+◌, ◌≤◌, true, false, Option, None, Some, List, [], ◌∷◌, ◌++◌, length, map, refl, sym, ap, ◌∙◌, subst, inl, inr, append-nil, arith}
use Rattle.std.specs.Prelude.{is_none, is_some, option_and_then, option_map, unwrap_or, is_err, MatchOption, OnOk, IfOk, Result, Ok, Err}
use Rattle.std.specs.Option.{option_map_or}
use Rattle.std.specs.List.{AllByRecursion}
use Rattle.exact.specs.First.{first_that_holds, or_else}
use Rattle.outside.specs.Shelf.{Texts}
use Rattle.history.specs.Catalog.{attributes_of_class, class_of}
use Rattle.history.specs.World.{World}
use Rattle.object_rows.specs.declared.rows.ObjectRow.{ObjectRow}
use Rattle.object_rows.specs.Rows.{rows_in}
use Rattle.session_file.specs.Text.{session_text}
use Rattle.fixed_point.specs.declared.short_text.Word.{Word}
use Rattle.command_text.specs.declared.command.Command.{Command}
use Rattle.command_text.specs.declared.command.Command.TheVariants as commands
use Rattle.command_text.specs.declared.refusal.Refusal.{Refusal}
use Rattle.command_text.specs.declared.refusal.Refusal.TheVariants as refusals
use Rattle.command_text.specs.Journal.{Accepted, clock}
use Rattle.command_text.specs.Tree
use Rattle.command_text.specs.Tree.{CommandTree, command_view}
use Rattle.line_meaning.specs.Fault.{class_refusal}
use Rattle.line_meaning.specs.Files.{class_text}
use Rattle.line_meaning.specs.Import.{journal_after_rows, journal_after_text, lines_of_rows, rows_for}
use Rattle.line_meaning.specs.Journal.{world}
use Rattle.line_meaning.specs.Looks.{looks_of, looks_of_rows, objects_of_class}
use Rattle.line_meaning.specs.Reply.{ok_line}
use Rattle.line_meaning.specs.Role.{asks_shelf}
use Rattle.line_meaning.specs.Step.{Held, base, fault_of, file_refusal, held, journal_after_import, rows_imported}
use Rattle.session.specs.declared.next.ApplyFault.{ApplyFault}
use Rattle.session.specs.declared.next.ApplyFault.TheVariants as apply_faults
use Rattle.session.specs.declared.next.Next.{Next}
use Rattle.session.specs.declared.next.Next.TheVariants as nexts
use Rattle.session.specs.Answers.{HasFaultCause, IsUnread, LeavesHeld}
use Rattle.session.specs.Filed.{IsApplied, Puts, refusal_with, said_after}
use Rattle.session.specs.Imported.{Imports}
use Rattle.session.specs.Rows.{IsImportedRow, IsRowCommand, LeavesSome, journal_after_commands, lines_of_commands, looks_of_commands}
use Rattle.session.specs.Trial.{AreImported, AreTaken}
use Rattle.line_meaning.proofs.CallerLemmas.{or_none}
use Rattle.database.specs.declared.database.Database.{Database}
use Rattle.database.specs.Keeping.{Keeps, clock_of, world_of_database}
use Rattle.session.proofs.RowLemmas.{first_rows, journals_are, lines_are, looks_are, rows_are as rows_are_ready}

-- ---- `save`

pub save_is_applied : (told left : Option Texts) (journal : List Accepted) (file : List ℕ) (before after : List ℕ) (r : Result Next ApplyFault) →
    Puts told left file (session_text journal) r → OnOk r (after ≡ before ++ ok_line) →
    IsApplied told left (Tree.Save file) (held journal) (held journal) before (said_after r before after) r
save_is_applied told left journal file before after (Ok next) puts said =
    subst (λ (n : Next). IsApplied told left (Tree.Save file) (held journal) (held journal) before after (Ok n)) (sym puts.0) (record {
      answers = λ texts suffices. (refl, refl, ap held (sym (append-nil journal)), said);
      refused = tt;
      texts = puts.1;
      fails = tt;
    })
save_is_applied told left journal file before after (Err apply_faults.ShelfFault) puts said = record {
  answers = λ texts suffices. tt;
  refused = tt;
  texts = λ texts is. tt;
  fails = record { asks = refl; accepted = refl; held_stays = refl; said = refl; texts = puts };
}
save_is_applied told left journal file before after (Err apply_faults.NoMemory) puts said = record {
  answers = λ texts suffices. tt;
  refused = tt;
  texts = λ texts is. tt;
  fails = record { said = refl; texts = puts; leaves = λ texts suffices. refl };
}

pub save_lacks : (told left : Option Texts) (journal : List Accepted) (file before : List ℕ) → left ≡ told →
    IsApplied told left (Tree.Save file) (held journal) (held journal) before before (Err apply_faults.NoMemory)
save_lacks told left journal file before same = record {
  answers = λ texts suffices. tt;
  refused = tt;
  texts = λ texts is. tt;
  fails = record { said = refl; texts = λ texts is. same ∙ is; leaves = λ texts suffices. refl };
}

-- what was put is no refusal
pub put_unread : (told left : Option Texts) (file text : List ℕ) (reads reads' : ℕ) (r : Result Next ApplyFault) → Puts told left file text r →
    IfOk r (λ next. IsUnread next reads reads')
put_unread told left file text reads reads' (Ok next) puts = subst (λ (n : Next). IsUnread n reads reads') (sym puts.0) tt
put_unread told left file text reads reads' (Err fault) puts = tt

-- ---- `export`

export_fault : (journal : List Accepted) (class file : List ℕ) (r : Option Refusal) → class_refusal (world journal).history.catalog class ≡ r →
    fault_of (held journal) (Tree.Export class file) ≡ r
export_fault journal class file r is = ap (λ (f : Option Refusal). or_else (or_else f None) None) is ∙ or_none (or_else r None) ∙ or_none r

module _ (told left : Option Texts) (journal : List Accepted) (class file : List ℕ) (before : List ℕ) where
  pub export_refused : (r : Refusal) → left ≡ told → class_refusal (world journal).history.catalog class ≡ Some r →
      IsApplied told left (Tree.Export class file) (held journal) (held journal) before before (Ok (nexts.Refused r))
  export_refused r same is = record {
    answers = λ texts suffices. (ap (λ (f : Option Refusal). or_else f None) (export_fault journal class file (Some r) is), refl, refl);
    refused = (refl, refl);
    texts = λ texts told-is. same ∙ told-is;
    fails = tt;
  }

  pub export_lacks : left ≡ told →
      IsApplied told left (Tree.Export class file) (held journal) (held journal) before before (Err apply_faults.NoMemory)
  export_lacks same = record {
    answers = λ texts suffices. tt;
    refused = tt;
    texts = λ texts is. tt;
    fails = record { said = refl; texts = λ texts is. same ∙ is; leaves = λ texts suffices. refl };
  }

  pub export_is_applied : (after : List ℕ) (r : Result Next ApplyFault) → class_refusal (world journal).history.catalog class ≡ None →
      Puts told left file (class_text (world journal) (clock journal) class) r → OnOk r (after ≡ before ++ ok_line) →
      IsApplied told left (Tree.Export class file) (held journal) (held journal) before (said_after r before after) r
  export_is_applied after (Ok next) right puts said =
      subst (λ (n : Next). IsApplied told left (Tree.Export class file) (held journal) (held journal) before after (Ok n)) (sym puts.0) (record {
        answers = λ texts suffices. (
          ap (λ (f : Option Refusal). or_else f None) (export_fault journal class file None right),
          refl,
          ap held (sym (append-nil journal)),
          said,
        );
        refused = tt;
        texts = puts.1;
        fails = tt;
      })
  export_is_applied after (Err apply_faults.ShelfFault) right puts said = record {
    answers = λ texts suffices. tt;
    refused = tt;
    texts = λ texts is. tt;
    fails = record { asks = refl; accepted = export_fault journal class file None right; held_stays = refl; said = refl; texts = puts };
  }
  export_is_applied after (Err apply_faults.NoMemory) right puts said = record {
    answers = λ texts suffices. tt;
    refused = tt;
    texts = λ texts is. tt;
    fails = record { said = refl; texts = puts; leaves = λ texts suffices. refl };
  }

-- ---- `import`

module _ (told left : Option Texts) (journal : List Accepted) (class file : List ℕ) (before : List ℕ) (same : left ≡ told) where
  import_fault : (r : Option Refusal) → class_refusal (world journal).history.catalog class ≡ r → fault_of (held journal) (Tree.Import class file) ≡ r
  import_fault r is = ap (λ (f : Option Refusal). or_else (or_else f None) None) is ∙ or_none (or_else r None) ∙ or_none r

  import_refused : (new : Held) (r : Refusal) → new ≡ held journal →
      ((texts : Texts) → told ≡ Some texts → refusal_with (base (held journal) texts) (Tree.Import class file) ≡ Some r) →
      IsApplied told left (Tree.Import class file) (held journal) new before before (Ok (nexts.Refused r))
  import_refused new r still refusal = record {
    answers = λ texts suffices. (refusal texts (suffices refl), still, refl);
    refused = (still, refl);
    texts = λ texts is. same ∙ is;
    fails = tt;
  }

  pub import_unknown : (r : Refusal) → class_refusal (world journal).history.catalog class ≡ Some r →
      IsApplied told left (Tree.Import class file) (held journal) (held journal) before before (Ok (nexts.Refused r))
  import_unknown r is =
      import_refused (held journal) r refl
      (λ texts told-is. ap (λ (f : Option Refusal). or_else f (file_refusal (base (held journal) texts) (Tree.Import class file))) (import_fault (Some r) is))

  pub import_lacks : (new : Held) → new ≡ held journal → IsApplied told left (Tree.Import class file) (held journal) new before before (Err apply_faults.NoMemory)
  import_lacks new still = record {
    answers = λ texts suffices. tt;
    refused = tt;
    texts = λ texts is. tt;
    fails = record { said = refl; texts = λ texts is. same ∙ is; leaves = λ texts suffices. inl still };
  }

  module _ (there : class_refusal (world journal).history.catalog class ≡ None) where
    by_file : (texts : Texts) (r : Option Refusal) → file_refusal (base (held journal) texts) (Tree.Import class file) ≡ r →
        refusal_with (base (held journal) texts) (Tree.Import class file) ≡ r
    by_file texts r is = ap (λ (f : Option Refusal). or_else f (file_refusal (base (held journal) texts) (Tree.Import class file))) (import_fault None there) ∙ is

    pub import_fails : IsApplied told left (Tree.Import class file) (held journal) (held journal) before before (Err apply_faults.ShelfFault)
    import_fails = record {
      answers = λ texts suffices. tt;
      refused = tt;
      texts = λ texts is. tt;
      fails = record { asks = refl; accepted = import_fault None there; held_stays = refl; said = refl; texts = λ texts is. (texts, same ∙ is, refl) };
    }

    pub import_no_file : ((texts : Texts) → told ≡ Some texts → None ≡ texts file) →
        IsApplied told left (Tree.Import class file) (held journal) (held journal) before before (Ok (nexts.Refused refusals.NoFile))
    import_no_file found =
        import_refused (held journal) refusals.NoFile refl
        (λ texts is. by_file texts (Some refusals.NoFile)
        (ap (λ (o : Option (List ℕ)). first_that_holds ((refusals.NoFile, is_none o) ∷ (refusals.BadFile, is_none (option_and_then (journal_after_text journal class) o)) ∷ []))
        (sym (found texts is))))

    module _ (text : List ℕ) (found : (texts : Texts) → told ≡ Some texts → Some text ≡ texts file) where
      after_import : (texts : Texts) → told ≡ Some texts → journal_after_import (base (held journal) texts) class file ≡ journal_after_text journal class text
      after_import texts is = ap (option_and_then (journal_after_text journal class)) (sym (found texts is))

      rows_are : (texts : Texts) → told ≡ Some texts → rows_imported (base (held journal) texts) class file ≡ rows_for journal class text
      rows_are texts is = ap (option_and_then (rows_for journal class)) (sym (found texts is))

      refusal_is : (texts : Texts) → told ≡ Some texts → (after : Option (List Accepted)) → journal_after_text journal class text ≡ after →
          refusal_with (base (held journal) texts) (Tree.Import class file) ≡ first_that_holds ((refusals.BadFile, is_none after) ∷ [])
      refusal_is texts is after is-after =
          by_file texts (first_that_holds ((refusals.BadFile, is_none after) ∷ []))
          (ap (λ (o : Option (List ℕ)). first_that_holds ((refusals.NoFile, is_none o) ∷ (refusals.BadFile, is_none (option_and_then (journal_after_text journal class) o)) ∷ []))
          (sym (found texts is))
          ∙ ap (λ (o : Option (List Accepted)). first_that_holds ((refusals.BadFile, is_none o) ∷ [])) is-after)

      pub import_bad : (new : Held) → new ≡ held journal → journal_after_text journal class text ≡ None →
          IsApplied told left (Tree.Import class file) (held journal) new before before (Ok (nexts.Refused refusals.BadFile))
      import_bad new still none =
          import_refused new refusals.BadFile still (λ texts is. refusal_is texts is None none)

      module _ (commands : List Command) (are : AreImported class journal text commands) where
        commands_are : journal_after_text journal class text ≡ journal_after_commands journal (map command_view commands)
        commands_are =
            ap (option_and_then (journal_after_rows class journal)) are.are
            ∙ journals_are class journal are.rows ∙ ap (journal_after_commands journal) are.taken.are

        pub import_taken : is_some (journal_after_commands journal (map command_view commands)) ≡ true
        import_taken =
            ap is_some (sym (journals_are class journal are.rows ∙ ap (journal_after_commands journal) are.taken.are)) ∙ are.taken.all

        pub import_entered : (new : List Accepted) (after : List ℕ) → journal_after_commands journal (map command_view commands) ≡ Some new →
            after ≡ before ++ (lines_of_commands journal (map command_view commands) ++ ok_line) →
            IsApplied told left (Tree.Import class file) (held journal) (held new) before after (Ok nexts.Accepted)
        import_entered new after entered said = record {
          answers = λ texts suffices.
              let is = suffices refl in (
                refusal_is texts is (Some new) (commands_are ∙ entered),
                refl,
                sym (ap (λ (o : Option (List Accepted)). held (unwrap_or o journal)) (after_import texts is ∙ commands_are ∙ entered)),
                said
                    ∙ sym (ap (λ ls. before ++ (ls ++ ok_line))
                    (ap (λ (o : Option (List ObjectRow)). option_map_or (lines_of_rows class journal) o []) (rows_are texts is ∙ are.are)
                    ∙ lines_are class journal are.rows ∙ ap (lines_of_commands journal) are.taken.are)),
              );
          refused = tt;
          texts = λ texts is. same ∙ is;
          fails = tt;
        }

        leaves : (texts : Texts) → told ≡ Some texts → (new : List Accepted) → LeavesSome journal (map command_view commands) new →
            LeavesHeld (base (held journal) texts) (Tree.Import class file) (held new)
        leaves texts is new (inl still) = inl (ap held still)
        leaves texts is new (inr some) =
            let h = first_rows class journal are.rows some.first some.next some.later (are.taken.are ∙ some.all) in
            inr (record {
              first = h.first;
              row = h.row;
              later = h.later;
              rows = rows_are texts is ∙ are.are ∙ ap Some h.all;
              entered = journals_are class journal h.first ∙ ap (journal_after_commands journal) h.commands ∙ some.entered;
              indexes = refl;
            })

        pub import_left : (new : List Accepted) → LeavesSome journal (map command_view commands) new →
            IsApplied told left (Tree.Import class file) (held journal) (held new) before before (Err apply_faults.NoMemory)
        import_left new some = record {
          answers = λ texts suffices. tt;
          refused = tt;
          texts = λ texts is. tt;
          fails = record { said = refl; texts = λ texts is. same ∙ is; leaves = λ texts suffices. leaves texts (suffices refl) new some };
        }

        pub import_looks : (texts : Texts) → told ≡ Some texts →
            looks_of_commands journal (map command_view commands) ≡ looks_of (base (held journal) texts) (Tree.Import class file)
        import_looks texts is =
            sym (ap (λ (o : Option (List ObjectRow)). option_map_or (looks_of_rows class journal) o 0) (rows_are texts is ∙ are.are)
            ∙ looks_are class journal are.rows ∙ ap (looks_of_commands journal) are.taken.are)

module _ (told left : Option Texts) (journal : List Accepted) (class file : List ℕ) (before : List ℕ) (same : left ≡ told)
    (there : class_refusal (world journal).history.catalog class ≡ None) (text : List ℕ) (found : (texts : Texts) → told ≡ Some texts → Some text ≡ texts file) where
  pub import_is_applied : (new : List Accepted) (after : List ℕ) (r : Result Next ApplyFault) → Imports class text journal new before after r →
      IsApplied told left (Tree.Import class file) (held journal) (held new) before (said_after r before after) r
  import_is_applied new after (Ok (nexts.Refused r)) is =
      subst (λ (x : Refusal). IsApplied told left (Tree.Import class file) (held journal) (held new) before after (Ok (nexts.Refused x))) (sym is.0)
      (subst (λ said. IsApplied told left (Tree.Import class file) (held journal) (held new) before said (Ok (nexts.Refused refusals.BadFile))) (sym is.3)
      (import_bad told left journal class file before same there text found (held new) (ap held is.2) is.1))
  import_is_applied new after (Ok nexts.Accepted) is =
      import_entered told left journal class file before same there text found is.commands is.are new after is.entered is.said
  import_is_applied new after (Ok nexts.Silent) is = absurd is
  import_is_applied new after (Ok nexts.Quit) is = absurd is
  import_is_applied new after (Err apply_faults.NoMemory) (inl still) = import_lacks told left journal class file before same (held new) (ap held still)
  import_is_applied new after (Err apply_faults.NoMemory) (inr some) =
      import_left told left journal class file before same there text found some.commands some.are new some.leaves
  import_is_applied new after (Err apply_faults.ShelfFault) is = absurd is

pub import_cause : (faults now : ℕ) (class text : List ℕ) (old new : List Accepted) (before after : List ℕ) (r : Result Next ApplyFault) →
    now ≡ faults → Imports class text old new before after r → HasFaultCause faults now r
import_cause faults now class text old new before after (Ok next) same is = same
import_cause faults now class text old new before after (Err apply_faults.NoMemory) same is = same
import_cause faults now class text old new before after (Err apply_faults.ShelfFault) same is = absurd is

-- how many looks at objects its rows take
pub rows_looks : (told : Option Texts) (journal : List Accepted) (class file text : List ℕ) → ((texts : Texts) → told ≡ Some texts → Some text ≡ texts file) →
    (reads reads' : ℕ) → ((rows : List ObjectRow) → rows_for journal class text ≡ Some rows → reads' ≤ reads + looks_of_rows class journal rows) →
    (rows_for journal class text ≡ None → reads' ≡ reads) → (texts : Texts) → told ≡ Some texts →
    reads' ≤ reads + looks_of (base (held journal) texts) (Tree.Import class file)
rows_looks told journal class file text found reads reads' most idle texts is =
    let looks : option_map_or (looks_of_rows class journal) (rows_for journal class text) 0 ≡ looks_of (base (held journal) texts) (Tree.Import class file)
    = ap (λ (o : Option (List ℕ)). option_map_or (looks_of_rows class journal) (option_and_then (rows_for journal class) o) 0) (found texts is) in
    subst (λ n. reads' ≤ reads + n) looks (by_rows (rows_for journal class text) refl)
  where
    by_rows : (rows : Option (List ObjectRow)) → rows_for journal class text ≡ rows → reads' ≤ reads + option_map_or (looks_of_rows class journal) rows 0
    by_rows (Some rows) rows-are = most rows rows-are
    by_rows None none = let e = idle none in omega (arith, e)

-- ---- what a database that keeps the journal tells

module _ (journal : List Accepted) (d : Database) (keeps : Keeps journal d) (class : List ℕ) where
  pub class_told : (r : Option Refusal) → class_refusal (world_of_database d).history.catalog class ≡ r → class_refusal (world journal).history.catalog class ≡ r
  class_told r is = ap (λ (w : World). class_refusal w.history.catalog class) (sym keeps.told_is) ∙ is

  pub class_known : (r : Option Refusal) → class_refusal (world journal).history.catalog class ≡ r → class_refusal (world_of_database d).history.catalog class ≡ r
  class_known r is = ap (λ (w : World). class_refusal w.history.catalog class) keeps.told_is ∙ is

  pub rows_told : (text : List ℕ) (rows : Option (List ObjectRow)) →
      rows ≡ rows_in (attributes_of_class (class_of (world_of_database d).history.catalog class)) text → rows_for journal class text ≡ rows
  rows_told text rows is = sym (is ∙ ap (λ (w : World). rows_in (attributes_of_class (class_of w.history.catalog class)) text) keeps.told_is)

  pub rows_found : {V : Type 0} (text : List ℕ) (items : V → List ObjectRow) (found : Option V) (v : V) → found ≡ Some v →
      option_map items found ≡ rows_in (attributes_of_class (class_of (world_of_database d).history.catalog class)) text →
      rows_for journal class text ≡ Some (items v)
  rows_found text items found v is told-is = rows_told text (Some (items v)) (sym (ap (option_map items) is) ∙ told-is)

  pub text_told : class_text (world_of_database d) (clock_of d) class ≡ class_text (world journal) (clock journal) class
  text_told = λ i. class_text (keeps.told_is i) (keeps.clock_is i) class

  pub count_told : length (objects_of_class (world_of_database d).history.catalog class) ≡ length (objects_of_class (world journal).history.catalog class)
  count_told = ap (λ (w : World). length (objects_of_class w.history.catalog class)) keeps.told_is

-- ---- the end of what was written is cut off after an error

pub cut_is_applied : (told left : Option Texts) (c : CommandTree) (old new : Held) (before mid after : List ℕ) (r : Result Next ApplyFault) →
    is_err r ≡ true → after ≡ before → IsApplied told left c old new before (said_after r before mid) r → IsApplied told left c old new before after r
cut_is_applied told left c old new before mid after (Ok next) err cut is = absurd (cc err)
cut_is_applied told left c old new before mid after (Err fault) err cut is =
    subst (λ said. IsApplied told left c old new before said (Err fault)) (sym cut) is

pub uncut_is_applied : (told left : Option Texts) (c : CommandTree) (old new : Held) (before after : List ℕ) (r : Result Next ApplyFault) →
    is_err r ≡ false → IsApplied told left c old new before (said_after r before after) r → IsApplied told left c old new before after r
uncut_is_applied told left c old new before after (Ok next) right is = is
uncut_is_applied told left c old new before after (Err fault) right is = absurd (cc right)

-- ---- no other command asks the shelf

pub asks_by_name : (command : Command) → asks_shelf (command_view command) ≡ true → ((file : Word) → command ≡ commands.Save file → ⊥) →
    ((class file : Word) → command ≡ commands.Export class file → ⊥) → ((class file : Word) → command ≡ commands.Import class file → ⊥) → ⊥
asks_by_name (commands.Save file) asks save export import = save file refl
asks_by_name (commands.Export class file) asks save export import = export class file refl
asks_by_name (commands.Import class file) asks save export import = import class file refl
asks_by_name command asks save export import = cc asks

-- ---- the commands of a text whose rows were found

module _ (journal : List Accepted) (class text : List ℕ) (rows : List ObjectRow) (are : rows_for journal class text ≡ Some rows)
    (each : AllByRecursion (IsImportedRow class) rows) {E V : Type 0} (items : V → List Command) where
  pub imported_commands : (r : Result (Option V) E) →
      IfOk r (λ found. MatchOption found (journal_after_rows class journal rows ≡ None) (λ v. AreTaken class journal rows (items v))) →
      IfOk r (λ found. MatchOption found (journal_after_text journal class text ≡ None) (λ v. AreImported class journal text (items v)))
  imported_commands (Ok (Some v)) taken = record {
    rows = rows;
    are = are;
    taken = taken;
    ready = subst (AllByRecursion IsRowCommand) taken.are (rows_are_ready class journal rows each);
  }
  imported_commands (Ok None) none = ap (option_and_then (journal_after_rows class journal)) are ∙ none
  imported_commands (Err fault) none = tt

-- what is known of the commands of a text
module _ (journal : List Accepted) (class text : List ℕ) (commands : List Command) (are : AreImported class journal text commands) where
  pub imported_taken : is_some (journal_after_commands journal (map command_view commands)) ≡ true
  imported_taken =
      ap is_some (sym (journals_are class journal are.rows ∙ ap (journal_after_commands journal) are.taken.are)) ∙ are.taken.all

  pub imported_looks : (rows : List ObjectRow) → rows_for journal class text ≡ Some rows →
      looks_of_commands journal (map command_view commands) ≡ looks_of_rows class journal rows
  imported_looks rows is =
      let same : are.rows ≡ rows = let e = sym are.are ∙ is in cc in
      ap (looks_of_commands journal) (sym are.taken.are) ∙ sym (looks_are class journal are.rows) ∙ ap (looks_of_rows class journal) same

-- the text that a shelf found
pub found_text : {V : Type 0} (items : V → List ℕ) (o : Option V) (v : V) (x : Option (List ℕ)) → option_map items o ≡ x → o ≡ Some v →
    Some (items v) ≡ x
found_text items o v x found is = ap (option_map items) (sym is) ∙ found
