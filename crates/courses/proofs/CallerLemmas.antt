-- For the crates above: what is known of an epoch where its first two attributes are asked.
use Rattle.std.proofs.Common.{◌≡◌, ℕ, zero, suc, [], ◌∷◌, List, ap, arith}
use Rattle.std.specs.Borrow.{Bor}
use Rattle.std.specs.List.{list_any}
use Rattle.std.specs.Prelude.{◌==◌}
use Rattle.motion.specs.declared.asked.Asked.TheVariants as which
use Rattle.motion.specs.Timeline.{Epoch}
use Rattle.motion.specs.Pieces.{AreSteadyFor}
use Rattle.courses.specs.Places.{IsPlaceSteady}

pub place_steady : (indexes : Bor (List ℕ)) (p : Epoch) (lo hi : ℕ) → indexes.now ≡ 0 ∷ 1 ∷ [] → AreSteadyFor (which.These indexes) p lo hi → IsPlaceSteady p lo hi
place_steady indexes p lo hi both steady zero v few cell = steady 0 v (ap (list_any (λ index. index == 0)) both) cell
place_steady indexes p lo hi both steady (suc zero) v few cell = steady 1 v (ap (list_any (λ index. index == 1)) both) cell
place_steady indexes p lo hi both steady (suc (suc a)) v few cell = absurd (omega arith)
