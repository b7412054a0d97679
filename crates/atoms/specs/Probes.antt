-- How many looks at the distance of two objects an atom may take.
use Rattle.std.specs.Prelude.{ℕ, nat_le, List, map, slice_index, if◌then◌else◌}
use Rattle.distance_crossing.specs.declared.near.TheConstants.{SHORT_WINDOW}
use Rattle.motion.specs.Timeline.{Epoch}
use Rattle.object_store.specs.Contents.{Contents}
use Rattle.formula.specs.declared.tree.RAtom.{RAtom}
use Rattle.formula.specs.declared.tree.RAtom.TheVariants as atoms
use Rattle.meaning.specs.Reads.{atom_variables}
use Rattle.atoms.specs.Parts.{epochs_of}

-- in a part of a window that has so many ticks after its first
abbrev pub probe_limit : RAtom → ℕ → ℕ
probe_limit (atoms.Compare q op r) ticks = 0
probe_limit (atoms.Inside v n) ticks = 0
probe_limit (atoms.Outside v n) ticks = 0
probe_limit (atoms.Dist v u op c) ticks = if nat_le ticks SHORT_WINDOW then 47 else 63
probe_limit (atoms.Sphere r vs) ticks = 360

-- the timelines of an atom's variables, one for each different variable
abbrev pub atom_timelines : Contents → List ℕ → RAtom → List (List Epoch)
atom_timelines s b a = map (λ v. epochs_of s (slice_index b v)) (atom_variables a)
