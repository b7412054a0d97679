-- What the tables of a store keep, over the contents that they are seen as.
use Rattle.std.specs.Prelude.{◌≡◌, ℕ, ◌<◌, Some, IsSomeAnd, List, length, slice_get}
use Rattle.std.specs.List.{position}
use Rattle.object_store.specs.declared.objects.Done.{Done}
use Rattle.object_store.specs.Contents.{Contents, is_named, ids_in}
use Rattle.object_store.specs.Sound.{IsSound, AreMembers}
use Rattle.object_store.specs.TakingBack.{Undoes}

-- The contents are sound, and the ids of each class are those of its objects.
pub record IsKept (ids : List (List ℕ)) (s : Contents) : Type 0 where
  pub sound : IsSound s
  pub members : AreMembers ids s

-- the class of a number is there, and has had fewer names than its capacity
abbrev pub HasFreeName : Contents → ℕ → Type 0
HasFreeName s number = IsSomeAnd (slice_get s.classes number) (λ k. length (ids_in s.objects number) < k.capacity)

-- a write to the object of a name led from old contents to the new ones, with these ids of each class, and answered how to take it back
pub record WritesNamed (name : List ℕ) (old after : Contents) (ids : List (List ℕ)) (new : Contents) (done : Done) : Type 0 where
  pub contents : new ≡ after
  pub kept : IsKept ids new
  pub id : position (is_named name) new.objects ≡ Some done.id
  pub undo : Undoes done.undo old new
