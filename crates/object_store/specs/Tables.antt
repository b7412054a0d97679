-- The tables of a store.
use Rattle.std.specs.Prelude.{◌≡◌, Option, None, Result, MatchResult, List, ℕ, unwrap_or}
use Rattle.object_store.specs.declared.fault.StoreFault.{StoreFault}
use Rattle.object_store.specs.declared.fault.StoreFault.TheVariants.{NoMemory}
use Rattle.object_store.specs.declared.tables.Tables.{Tables}
use Rattle.object_store.specs.Contents.{Contents}
use Rattle.object_store.specs.ObjectView.{objects_of}

abbrev pub contents_of : Tables → Contents
contents_of t = record { classes = t.schema; objects = objects_of t.objects.entries; last_tick = t.last_tick }

-- the ids of each class
abbrev pub members_of : Tables → List (List ℕ)
members_of t = t.members.items

-- nothing that can be seen has changed
pub record IsUnchanged (old new : Tables) : Type 0 where
  pub contents : contents_of new ≡ contents_of old
  pub ids : members_of new ≡ members_of old

-- A call is accepted where it has no fault, and else refused by the fault, or for want of memory where there is none.
abbrev pub IsJudged : {T : Type 0} → Option StoreFault → Result T StoreFault → Type 0
IsJudged fault result = MatchResult result (λ _. fault ≡ None) (λ error. error ≡ unwrap_or fault NoMemory)
