-- What is done leaves the list of the indexes, and leaves them right.
use Rattle.std.proofs.Common.{◌≡◌, ℕ, false, List, [], ◌∷◌, ◌++◌, refl, sym, ap, subst, ◌∙◌}
use Rattle.command_text.specs.Journal.{Accepted, spelled}
use Rattle.command_text.specs.Tree.{CommandTree}
use Rattle.database.specs.declared.change.Change.{Change}
use Rattle.database.specs.declared.database.Database.{Database}
use Rattle.database.specs.Attempt.{Carries}
use Rattle.database.specs.Keeping.{clock_of}
use Rattle.database.specs.Written.{writes_object}
use Rattle.kept_indexes.specs.declared.indexes.Kept.{Kept}
use Rattle.kept_indexes.specs.Kept.{AreIndexes, TouchesChange, entries}
use Rattle.kept_indexes.proofs.StandLemmas.{changed_entries, changed_stand, entered_stand}
use Rattle.formula.specs.declared.kind.QueryKind.{QueryKind}
use Rattle.formula.specs.declared.kind.QueryKind.TheVariants.{Keep, Watch}
use Rattle.registry.specs.declared.registering.Request.{Request}
use Rattle.session.specs.Asked.{command_by, request_command}
use Rattle.session.specs.declared.state.State.{State}
use Rattle.session.specs.State.{KeepsIndexes}

-- the same journal, database and indexes
pub keeps_all : (old new : State) → new.journal ≡ old.journal → new.database ≡ old.database → new.indexes ≡ old.indexes → KeepsIndexes old new
keeps_all old new journal database indexes = record {
  entries = ap entries indexes;
  right = λ is.
      subst (λ (j : List Accepted). AreIndexes j new.database.store new.indexes) (sym journal)
      (subst (λ (d : Database). AreIndexes old.journal d.store new.indexes) (sym database)
      (subst (λ (ks : List Kept). AreIndexes old.journal old.database.store ks) (sym indexes) is));
}

pub keeps_through : (old mid new : State) → KeepsIndexes old mid → KeepsIndexes mid new → KeepsIndexes old new
keeps_through old mid new first next = record { entries = next.entries ∙ first.entries; right = λ is. next.right (first.right is) }

-- an entry that writes to no object
pub keeps_entry : (old new : State) (now : ℕ) (c : CommandTree) → writes_object c ≡ false → new.journal ≡ old.journal ++ (now, c) ∷ [] →
    new.database ≡ old.database → new.indexes ≡ old.indexes → KeepsIndexes old new
keeps_entry old new now c other journal database indexes = record {
  entries = ap entries indexes;
  right = λ is.
      subst (λ (j : List Accepted). AreIndexes j new.database.store new.indexes) (sym journal)
      (subst (λ (d : Database). AreIndexes (old.journal ++ (now, c) ∷ []) d.store new.indexes) (sym database)
      (subst (λ (ks : List Kept). AreIndexes (old.journal ++ (now, c) ∷ []) old.database.store ks) (sym indexes)
      (entered_stand old.journal now c old.database.store old.indexes other is)));
}

-- an entry of a command that changed the database, whose object was touched
pub keeps_change : (old new : State) (d : Database) (c : CommandTree) (change : Change) → Carries c old.database d change → new.database ≡ d →
    new.journal ≡ old.journal ++ (clock_of old.database, c) ∷ [] → TouchesChange change d.store old.indexes new.indexes → KeepsIndexes old new
keeps_change old new d c change carries database journal touches = record {
  entries = changed_entries change d.store old.indexes new.indexes touches;
  right = λ is.
      subst (λ (j : List Accepted). AreIndexes j new.database.store new.indexes) (sym journal)
      (subst (λ (e : Database). AreIndexes (old.journal ++ (clock_of old.database, c) ∷ []) e.store new.indexes) (sym database)
      (changed_stand old.journal old.indexes new.indexes c change old.database d carries touches is));
}

-- the entry of a line that is read as a command which writes to no object
pub keeps_line : (old new : State) (now : ℕ) (line : List ℕ) (c : CommandTree) → writes_object c ≡ false → spelled line ≡ c →
    new.journal ≡ old.journal ++ (now, spelled line) ∷ [] → new.database ≡ old.database → new.indexes ≡ old.indexes → KeepsIndexes old new
keeps_line old new now line c other is journal database indexes =
    keeps_entry old new now (spelled line) (ap writes_object is ∙ other) journal database indexes

pub request_writes : (r : Request) → writes_object (request_command r) ≡ false
request_writes r = by_kind r.kind
  where
    by_kind : (k : QueryKind) → writes_object (command_by k r) ≡ false
    by_kind Watch = refl
    by_kind Keep = refl

-- a change whose object was touched once it was entered
pub keeps_touched : (old new : State) (d e : Database) (c : CommandTree) (change : Change) (indexes : List Kept) → Carries c old.database d change → new.database ≡ d →
    new.journal ≡ old.journal ++ (clock_of old.database, c) ∷ [] → indexes ≡ old.indexes → e ≡ d → TouchesChange change e.store indexes new.indexes →
    KeepsIndexes old new
keeps_touched old new d e c change indexes carries database journal same is touches =
    keeps_change old new d c change carries database journal
    (subst (λ (ks : List Kept). TouchesChange change d.store ks new.indexes) same
    (subst (λ (x : Database). TouchesChange change x.store indexes new.indexes) is touches))
