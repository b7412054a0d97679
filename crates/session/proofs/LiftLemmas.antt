-- What is done with a command that isn't on indexes is the same beside any indexes, which stay.
use Rattle.std.proofs.Common.{◌≡◌, ℕ, ◌+◌, ◌≤◌, true, false, Option, None, Some, List, ◌++◌, inl, inr, refl, sym, ap, subst, ◌∙◌}
use Rattle.std.specs.Prelude.{Result, Ok, Err}
use Rattle.std.proofs.lemmas.Bool.{false≢true}
use Rattle.exact.specs.First.{or_else}
use Rattle.outside.specs.Shelf.{Texts}
use Rattle.command_text.specs.declared.fault.CommandFault.{CommandFault}
use Rattle.command_text.specs.declared.fault.CommandFault.TheVariants as stops
use Rattle.command_text.specs.Journal.{Accepted}
use Rattle.command_text.specs.Tree
use Rattle.command_text.specs.Tree.{CommandTree}
use Rattle.line_meaning.specs.declared.role.Role.TheVariants.{Indexing}
use Rattle.line_meaning.specs.Indexed.{IndexEntry}
use Rattle.line_meaning.specs.Looks.{looks_of}
use Rattle.line_meaning.specs.Role.{asks_shelf, is_on_indexes, role_of}
use Rattle.line_meaning.specs.Step.{Held, all_after, base, base_after, fault_of, file_refusal, held, reply_of}
use Rattle.line_meaning.proofs.IndexLemmas.{plain_after, plain_fault, plain_looks}
use Rattle.database.specs.Telling.{TakesAtMost, Tally}
use Rattle.session.specs.declared.next.ApplyFault.{ApplyFault}
use Rattle.session.specs.declared.next.ApplyFault.TheVariants as apply_faults
use Rattle.session.specs.declared.next.Next.{Next}
use Rattle.session.specs.declared.next.Next.TheVariants as nexts
use Rattle.session.specs.Answers.{HasFirstRows, KeepsIfRefused, LeavesHeld, next_of}
use Rattle.session.specs.Carried.{CarriesOut, IsAccepted, IsStopped, Spends, lines_by}
use Rattle.session.specs.Filed.{Does, FailsAtCommand, IsAnswered, IsApplied, IsBySome, refusal_with, texts_by}

module _ (c : CommandTree) (plain : is_on_indexes c ≡ false) (indexes : List IndexEntry) where
  -- the same with the indexes
  abbrev pub lift : Held → Held
  lift h = record { journal = h.journal; indexes = indexes }

  lines_same : (c : CommandTree) → is_on_indexes c ≡ false → (j : List Accepted) → lines_by (role_of c) (held j) c ≡ lines_by (role_of c) (lift (held j)) c
  lines_same (Tree.Index class attribute width) plain j = absurd (false≢true (sym plain))
  lines_same (Tree.Range span class attribute least greatest) plain j = absurd (false≢true (sym plain))
  lines_same c plain j = refl

  fault_same : (j : List Accepted) → fault_of (lift (held j)) c ≡ fault_of (held j) c
  fault_same j = plain_fault (lift (held j)) c plain

  goes_same : (j : List Accepted) → lift (all_after (held j) c) ≡ all_after (lift (held j)) c
  goes_same j = ap lift (plain_after (held j) c plain) ∙ sym (plain_after (lift (held j)) c plain)

  module _ (j k : List Accepted) where
    accepted_lifts : (before after : List ℕ) → IsAccepted c (held j) (held k) before after → IsAccepted c (lift (held j)) (lift (held k)) before after
    accepted_lifts before after a = record {
      accepted = fault_same j ∙ a.accepted;
      goes_on = ap lift a.goes_on ∙ goes_same j;
      said = a.said ∙ ap (λ ls. before ++ ls) (lines_same c plain j);
    }

    stopped_lifts : (fault : CommandFault) → IsStopped c (held j) (held k) fault → IsStopped c (lift (held j)) (lift (held k)) fault
    stopped_lifts (stops.Refused r) is = (fault_same j ∙ is.0, ap lift is.1)
    stopped_lifts stops.NoMemory is = (is.0, ap lift is.1)

    spends_lifts : (old new : Tally) → Spends c (record { holds = held j; tally = old }) (record { holds = held k; tally = new }) →
        Spends c (record { holds = lift (held j); tally = old }) (record { holds = lift (held k); tally = new })
    spends_lifts old new s = record {
      within = subst (λ bound. TakesAtMost bound old new) (sym (plain_looks (lift (held j)) c plain)) s.within;
      plain = s.plain;
    }

    pub carries_lifts : {T : Type 0} (old new : Tally) (result : Result T CommandFault) →
        CarriesOut c (record { holds = held j; tally = old }) (record { holds = held k; tally = new }) result →
        CarriesOut c (record { holds = lift (held j); tally = old }) (record { holds = lift (held k); tally = new }) result
    carries_lifts old new (Ok x) h = record {
      accepted = accepted_lifts old.said new.said h.accepted;
      stopped = tt;
      spends = spends_lifts old new h.spends;
      free = h.free;
    }
    carries_lifts old new (Err fault) h = record {
      accepted = tt;
      stopped = stopped_lifts fault h.stopped;
      spends = spends_lifts old new h.spends;
      free = h.free;
    }

    -- ---- a command that asks the shelf
    file_same : (c : CommandTree) (texts : Texts) → file_refusal (base (lift (held j)) texts) c ≡ file_refusal (base (held j) texts) c
    file_same (Tree.Import class file) texts = refl
    file_same c texts = refl

    refusal_same : (texts : Texts) → refusal_with (base (lift (held j)) texts) c ≡ refusal_with (base (held j) texts) c
    refusal_same texts = λ i. or_else (fault_same j i) (file_same c texts i)

    base_same : (c : CommandTree) → is_on_indexes c ≡ false → (texts : Texts) →
        (base_after (base (lift (held j)) texts) c).held ≡ lift (base_after (base (held j) texts) c).held
    base_same (Tree.Index class attribute width) plain texts = absurd (false≢true (sym plain))
    base_same (Tree.Range span class attribute least greatest) plain texts = absurd (false≢true (sym plain))
    base_same (Tree.Import class file) plain texts = refl
    base_same c plain texts = refl

    texts_same : (c : CommandTree) (texts : Texts) → (base_after (base (lift (held j)) texts) c).texts ≡ (base_after (base (held j) texts) c).texts
    texts_same (Tree.Import class file) texts = refl
    texts_same c texts = refl

    reply_same : (c : CommandTree) → is_on_indexes c ≡ false → (texts : Texts) → reply_of (base (lift (held j)) texts) c ≡ reply_of (base (held j) texts) c
    reply_same (Tree.Index class attribute width) plain texts = absurd (false≢true (sym plain))
    reply_same (Tree.Range span class attribute least greatest) plain texts = absurd (false≢true (sym plain))
    reply_same (Tree.Import class file) plain texts = refl
    reply_same c plain texts = refl

    looks_same : (c : CommandTree) → is_on_indexes c ≡ false → (texts : Texts) → looks_of (base (lift (held j)) texts) c ≡ looks_of (base (held j) texts) c
    looks_same (Tree.Index class attribute width) plain texts = absurd (false≢true (sym plain))
    looks_same (Tree.Range span class attribute least greatest) plain texts = absurd (false≢true (sym plain))
    looks_same (Tree.Import class file) plain texts = refl
    looks_same c plain texts = refl

    module _ (before after : List ℕ) where
      did_lifts : (next : Next) (texts : Texts) →
          (refusal_with (base (held j) texts) c ≡ None) × (next ≡ next_of c) × (held k ≡ (base_after (base (held j) texts) c).held)
          × (after ≡ before ++ reply_of (base (held j) texts) c) →
          (refusal_with (base (lift (held j)) texts) c ≡ None) × (next ≡ next_of c) × (lift (held k) ≡ (base_after (base (lift (held j)) texts) c).held)
          × (after ≡ before ++ reply_of (base (lift (held j)) texts) c)
      did_lifts next texts h = (
        refusal_same texts ∙ h.0,
        h.1,
        ap lift h.2 ∙ sym (base_same c plain texts),
        h.3 ∙ ap (λ ls. before ++ ls) (sym (reply_same c plain texts)),
      )

      does_lifts : (next : Next) (texts : Texts) → Does next (base (held j) texts) c (held k) before after →
          Does next (base (lift (held j)) texts) c (lift (held k)) before after
      does_lifts (nexts.Refused r) texts h = (refusal_same texts ∙ h.0, ap lift h.1, h.2)
      does_lifts nexts.Silent texts h = did_lifts nexts.Silent texts h
      does_lifts nexts.Accepted texts h = did_lifts nexts.Accepted texts h
      does_lifts nexts.Quit texts h = did_lifts nexts.Quit texts h

      unchanged_lifts : (next : Next) → KeepsIfRefused next (held j) (held k) before after → KeepsIfRefused next (lift (held j)) (lift (held k)) before after
      unchanged_lifts (nexts.Refused r) h = (ap lift h.0, h.1)
      unchanged_lifts nexts.Silent h = tt
      unchanged_lifts nexts.Accepted h = tt
      unchanged_lifts nexts.Quit h = tt

      texts_lift : (next : Next) (texts : Texts) → texts_by next (base (lift (held j)) texts) c ≡ texts_by next (base (held j) texts) c
      texts_lift (nexts.Refused r) texts = refl
      texts_lift nexts.Silent texts = texts_same c texts
      texts_lift nexts.Accepted texts = texts_same c texts
      texts_lift nexts.Quit texts = texts_same c texts

      first_lifts : (texts : Texts) (class file : List ℕ) → HasFirstRows (base (held j) texts) class file (held k) →
          HasFirstRows (base (lift (held j)) texts) class file (lift (held k))
      first_lifts texts class file h = record { first = h.first; row = h.row; later = h.later; rows = h.rows; entered = h.entered; indexes = refl }

      leaves_lift : (c : CommandTree) (texts : Texts) → LeavesHeld (base (held j) texts) c (held k) → LeavesHeld (base (lift (held j)) texts) c (lift (held k))
      leaves_lift (Tree.Import class file) texts (inl same) = inl (ap lift same)
      leaves_lift (Tree.Import class file) texts (inr first) = inr (first_lifts texts class file first)
      leaves_lift c texts same = ap lift same

      fails_lift : (told left : Option Texts) (fault : ApplyFault) → FailsAtCommand fault told left c (held j) (held k) before after →
          FailsAtCommand fault told left c (lift (held j)) (lift (held k)) before after
      fails_lift told left apply_faults.ShelfFault h = record {
        asks = h.asks;
        accepted = fault_same j ∙ h.accepted;
        held_stays = ap lift h.held_stays;
        said = h.said;
        texts = h.texts;
      }
      fails_lift told left apply_faults.NoMemory h = record {
        said = h.said;
        texts = h.texts;
        leaves = λ texts suffices. leaves_lift c texts (h.leaves texts suffices);
      }

      applied_lifts : (told left : Option Texts) (result : Result Next ApplyFault) → IsApplied told left c (held j) (held k) before after result →
          IsApplied told left c (lift (held j)) (lift (held k)) before after result
      applied_lifts told left (Ok next) h = record {
        answers = λ texts suffices. does_lifts next texts (h.answers texts suffices);
        refused = unchanged_lifts next h.refused;
        texts = λ texts is. h.texts texts is ∙ ap Some (sym (texts_lift next texts));
        fails = tt;
      }
      applied_lifts told left (Err fault) h = record {
        answers = λ texts suffices. tt;
        refused = tt;
        texts = λ texts is. tt;
        fails = fails_lift told left fault h.fails;
      }

    pub answered_lifts : (told left : Option Texts) (old new : Tally) (result : Result Next ApplyFault) →
        IsAnswered told left c (record { holds = held j; tally = old }) (record { holds = held k; tally = new }) result →
        IsAnswered told left c (record { holds = lift (held j); tally = old }) (record { holds = lift (held k); tally = new }) result
    answered_lifts told left old new result h = record {
      applied = applied_lifts old.said new.said told left result h.applied;
      steps = h.steps;
      most = λ texts suffices. subst (λ n. new.reads ≤ old.reads + n) (sym (looks_same c plain texts)) (h.most texts suffices);
      plain = h.plain;
    }

    pub by_some_lifts : (told : Option Texts) (old new : Tally) (result : Result Next ApplyFault) →
        IsBySome told c (record { holds = held j; tally = old }) (record { holds = held k; tally = new }) result →
        IsBySome told c (record { holds = lift (held j); tally = old }) (record { holds = lift (held k); tally = new }) result
    by_some_lifts told old new (Ok next) h = record {
      texts = h.texts;
      agree = h.agree;
      does = does_lifts old.said new.said next h.texts h.does;
      leaves = tt;
      most = subst (λ n. new.reads ≤ old.reads + n) (sym (looks_same c plain h.texts)) h.most;
    }
    by_some_lifts told old new (Err fault) h = record {
      texts = h.texts;
      agree = h.agree;
      does = tt;
      leaves = leaves_lift old.said new.said c h.texts h.leaves;
      most = subst (λ n. new.reads ≤ old.reads + n) (sym (looks_same c plain h.texts)) h.most;
    }

pub role_is_plain : (c : CommandTree) → (role_of c ≡ Indexing → ⊥) → is_on_indexes c ≡ false
role_is_plain (Tree.Index class attribute width) other = absurd (other refl)
role_is_plain (Tree.Range span class attribute least greatest) other = absurd (other refl)
role_is_plain c other = refl

pub filing_is_plain : (c : CommandTree) → asks_shelf c ≡ true → is_on_indexes c ≡ false
filing_is_plain (Tree.Index class attribute width) asks = absurd (false≢true asks)
filing_is_plain (Tree.Range span class attribute least greatest) asks = absurd (false≢true asks)
filing_is_plain c asks = refl
