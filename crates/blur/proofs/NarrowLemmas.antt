-- What is told where positions may be off, of the objects that suffice for a query.
use Rattle.std.proofs.Common.{◌≡◌, ℕ, ◌≤◌, Bool, true, false, ◌&&◌, ◌⊎◌, List, refl, inl, inr}
use Rattle.formula_shape.specs.Shape as shapes
use Rattle.formula.specs.Tree.{ResolvedQuery}
use Rattle.geometry.specs.Region.{Region}
use Rattle.atoms.specs.Asked.{world_in}
use Rattle.narrowing.specs.Narrowed.{SufficeWithin}
use Rattle.narrowing.specs.Needed.{TellsPossible}
use Rattle.object_store.specs.Contents.{Contents}
use Rattle.relation.specs.Frames.{IsIn}
use Rattle.tick_set.specs.Ticks.{within}
use Rattle.worlds.specs.Between.{LiesBetween}
use Rattle.worlds.specs.Blurred.{blurred}
use Rattle.answers.proofs.NarrowLemmas.{never_there}
use Rattle.blur.specs.Answered.{holds_blurred, told_in}
use Rattle.blur.specs.Asked.{slack_of}
use Rattle.blur.specs.World.{blurred_by}
use Rattle.blur.specs.declared.objects.BlurredWorld.{BlurredWorld}

-- what surely holds is possible where nothing is off
blurred_possible : LiesBetween → (sure : Bool) (error : ℕ) (s : Contents) (regions : List Region) (b : ℕ → ℕ) →
    TellsPossible (slack_of sure error) s regions b (blurred sure error (world_in s regions) b)
blurred_possible law true error s regions b a x t holds =
    law.possibly 0 (shapes.Atom a) refl (world_in s regions) b x t t (law.surely error (shapes.Atom a) refl (world_in s regions) b x t t holds)
blurred_possible law false error s regions b a x t holds = holds

pub blurred_sound : LiesBetween → (x : BlurredWorld) (q : ResolvedQuery) (lo hi : ℕ) (domains some : List (List ℕ)) →
    SufficeWithin (slack_of x.blur.sure x.blur.error) x.store.now x.regions.now q lo hi domains some →
    (b : ℕ → ℕ) → IsIn domains b → IsIn some b ⊎ ((t : ℕ) → (within lo hi t && holds_blurred x q hi b t) ≡ false)
blurred_sound law x q lo hi domains some suffice b is_in =
    elim (suffice.sound b is_in) [
      | inl here ↦ inl here
      | inr fails ↦ inr (never_there (blurred_by x.blur x.store.now x.regions.now) (told_in x) q lo hi b
          (fails (blurred_by x.blur x.store.now x.regions.now b) (blurred_possible law x.blur.sure x.blur.error x.store.now x.regions.now b)))
    ]
