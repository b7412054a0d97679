-- What still stands in front of a text.
use Rattle.std.proofs.Common.{◌≡◌, ℕ, List, [], ◌∷◌, ◌++◌, length, take, refl}
use Rattle.std.proofs.Math.Seq.{take-append_seam}
use Rattle.replica.specs.Text.{Begins}

pub begins_more : (old more : List ℕ) → Begins old (old ++ more)
begins_more old more = take-append_seam old more

pub begins_through : (old mid new : List ℕ) → Begins old mid → Begins mid new → Begins old new
begins_through [] mid new front rest = refl
begins_through (x ∷ old) [] new front rest = cc
begins_through (x ∷ old) (y ∷ mid) [] front rest = cc
begins_through (x ∷ old) (y ∷ mid) (z ∷ new) front rest =
    let f : take (length old) mid ≡ old = cc in
    let r : take (length mid) new ≡ mid = cc in
    let e : take (length old) new ≡ old = begins_through old mid new f r in
    cc
