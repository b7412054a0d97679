-- What the calls on the indexes make of a session.
use Rattle.std.proofs.Common.{◌≡◌, ◌≤◌, ℕ, ◌+◌, ℤ, pos, negsuc, List, length, None, refl, sym, ap, subst, ◌∙◌, append-nil, arith}
use Rattle.std.specs.Prelude.{◌<ℤ◌, IfErr, IfOk, OnErr, OnOk, Result, Ok, Err}
use Rattle.std.proofs.lemmas.Int.{ints}
use Rattle.tick_set.specs.declared.spans.TheConstants.{LAST_TICK}
use Rattle.command_text.specs.Shape.{IsPrintable, IsWidth}
use Rattle.command_text.specs.declared.fault.CommandFault.{CommandFault}
use Rattle.command_text.specs.declared.fault.CommandFault.TheVariants as stops
use Rattle.command_text.specs.Journal.{Accepted, clock}
use Rattle.command_text.specs.Tree
use Rattle.command_text.specs.Tree.{CommandTree}
use Rattle.line_meaning.specs.Answering.{answer_lines}
use Rattle.line_meaning.specs.Indexed.{index_fault, indexes_after}
use Rattle.line_meaning.specs.Journal.{world}
use Rattle.line_meaning.specs.Judging.{all_after}
use Rattle.line_meaning.specs.Looks.{most_looks}
use Rattle.reply_text.specs.Begins.{Begins}
use Rattle.database.specs.declared.database.Database.{Database}
use Rattle.database.specs.Keeping.{Keeps, clock_of, world_of_database}
use Rattle.database.specs.Telling.{IsRefused, IsStoppedBy, RefusesOrWrites}
use Rattle.kept_indexes.specs.declared.indexes.Kept.{Kept}
use Rattle.kept_indexes.specs.Kept.{AreIndexes, AreRight, entries}
use Rattle.kept_indexes.specs.Making.{holding}
use Rattle.session.specs.Carried.{CarriesOut, moment}
use Rattle.session.proofs.CarriedLemmas.{begins_same}

module _ (journal : List Accepted) (d : Database) (keeps : Keeps journal d) (kept new : List Kept) where
  -- ---- an index is made
  module _ (class attribute : List ℕ) (width : ℤ) where
    abbrev index : CommandTree
    index = Tree.Index class attribute width

    fault_told : index_fault (entries kept) (world journal) (clock journal) index ≡ index_fault (entries kept) (world_of_database d) (clock_of d) index
    fault_told = λ i. index_fault (entries kept) (sym keeps.told_is i) (sym keeps.clock_is i) index

    made : (count : ℕ) → entries new ≡ indexes_after (entries kept) (world_of_database d) (clock_of d) count index →
        entries new ≡ indexes_after (entries kept) (world journal) (clock journal) count index
    made count is = is ∙ (λ i. indexes_after (entries kept) (keeps.told_is i) (keeps.clock_is i) count index)

    pub index_carries : (out out' : List ℕ) (reads probes : ℕ) (result : Result (Unit {0}) CommandFault) →
        IfOk result (λ _. index_fault (entries kept) (world_of_database d) (clock_of d) index ≡ None) →
        OnOk result ((count : ℕ) → entries new ≡ indexes_after (entries kept) (world_of_database d) (clock_of d) count index) →
        IfErr result (IsStoppedBy (index_fault (entries kept) (world_of_database d) (clock_of d) index)) →
        OnErr result (new ≡ kept) → out' ≡ out →
        CarriesOut index (moment (holding journal kept) out reads probes) (moment (holding journal new) out' reads probes) result
    index_carries out out' reads probes (Ok u) none is stopped same said = record {
      accepted = record {
        accepted = fault_told ∙ none;
        goes_on = λ i. record { journal = sym (append-nil journal) i; indexes = made (length journal) (is (length journal)) i };
        said = said ∙ sym (append-nil out);
      };
      stopped = tt;
      spends = record {
        within = record { begins = subst (Begins out) (sym said) (begins_same out); least = omega arith; most = omega arith };
        plain = λ no. refl;
      };
      free = record { unread = tt; unprobed = tt };
    }
    index_carries out out' reads probes (Err (stops.Refused r)) none is stopped same said = record {
      accepted = tt;
      stopped = (fault_told ∙ stopped, ap (holding journal) same);
      spends = record {
        within = record { begins = subst (Begins out) (sym said) (begins_same out); least = omega arith; most = omega arith };
        plain = λ no. refl;
      };
      free = record { unread = λ _. refl; unprobed = λ _. refl };
    }
    index_carries out out' reads probes (Err stops.NoMemory) none is stopped same said = record {
      accepted = tt;
      stopped = (λ _. refl, ap (holding journal) same);
      spends = record {
        within = record { begins = subst (Begins out) (sym said) (begins_same out); least = omega arith; most = omega arith };
        plain = λ no. refl;
      };
      free = record { unread = λ _. refl; unprobed = λ _. refl };
    }

  pub index_right : (result : Result (Unit {0}) CommandFault) →
      OnOk result ((j : List Accepted) → clock j ≡ clock_of d → AreRight j d.store kept → AreRight j d.store new) →
      OnErr result (new ≡ kept) → AreIndexes journal d.store kept → AreIndexes journal d.store new
  index_right (Ok u) right same are = record { begun = are.begun; right = right journal (sym keeps.clock_is) are.right }
  index_right (Err fault) right same are = subst (AreIndexes journal d.store) (sym same) are

  -- ---- a range is answered
  pub range_carries : (span : ℕ) (class attribute : List ℕ) (least greatest : ℤ) (out out' : List ℕ) (reads reads' probes : ℕ) (result : Result (Unit {0}) CommandFault) →
      OnOk result (entries new ≡ (all_after (holding journal kept) (Tree.Range span class attribute least greatest)).indexes) →
      OnErr result (entries new ≡ entries kept) →
      RefusesOrWrites (index_fault (entries kept) (world journal) (clock journal) (Tree.Range span class attribute least greatest)) (answer_lines (world journal) (clock journal) (Tree.Range span class attribute least greatest)) out out' result →
      Begins out out' → reads ≤ reads' → reads' ≤ reads + most_looks (holding journal kept) (Tree.Range span class attribute least greatest) →
      IfErr result (λ fault. IsRefused fault → reads' ≡ reads) →
      CarriesOut (Tree.Range span class attribute least greatest) (moment (holding journal kept) out reads probes) (moment (holding journal new) out' reads' probes) result
  range_carries span class attribute low high out out' reads reads' probes (Ok u) is same answered begins least most free = record {
    accepted = record {
      accepted = answered.0;
      goes_on = λ i. record { journal = sym (append-nil journal) i; indexes = is i };
      said = answered.1;
    };
    stopped = tt;
    spends = record { within = record { begins = begins; least = least; most = most }; plain = λ no. refl };
    free = record { unread = tt; unprobed = tt };
  }
  range_carries span class attribute low high out out' reads reads' probes (Err (stops.Refused x)) is same answered begins least most free = record {
    accepted = tt;
    stopped = (answered, λ i. record { journal = journal; indexes = same i });
    spends = record { within = record { begins = begins; least = least; most = most }; plain = λ no. refl };
    free = record { unread = free; unprobed = λ _. refl };
  }
  range_carries span class attribute low high out out' reads reads' probes (Err stops.NoMemory) is same answered begins least most free = record {
    accepted = tt;
    stopped = (λ _. refl, λ i. record { journal = journal; indexes = same i });
    spends = record { within = record { begins = begins; least = least; most = most }; plain = λ no. refl };
    free = record { unread = free; unprobed = λ _. refl };
  }

-- ---- what a printable command gives them

width_is : (w : ℤ) → IsWidth w → pos 0 <ℤ w
width_is (pos n) h = let low = h.0 in grind (arith, ints, low)
width_is (negsuc n) h = absurd h

pub wide : (class attribute : List ℕ) (width : ℤ) → IsPrintable (Tree.Index class attribute width) → pos 0 <ℤ width
wide class attribute width h = width_is width h.1.1.1

pub reach : (span : ℕ) (class attribute : List ℕ) (least greatest : ℤ) → IsPrintable (Tree.Range span class attribute least greatest) → span ≤ LAST_TICK
reach span class attribute least greatest h = h.1.0.1
