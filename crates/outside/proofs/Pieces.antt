-- A write of the front of a piece is a write of the piece that takes fewer bytes.
use Rattle.std.proofs.Common.{ℕ, ◌<◌, ◌≤◌, List, length, take, Option, Result, Ok, Err, IfOk, arith}
use Rattle.std.proofs.lemmas.List.{take-take, length-take}
use Rattle.outside.specs.Sink.{Writes}

pub Writes-front : {E : Type 0} (old new : Option (List ℕ)) (r : Result ℕ E) (n : ℕ) (piece : List ℕ) →
    Writes old new r (take n piece) → IfOk r (λ m. (0 < m) × (m ≤ length (take n piece))) → Writes old new r piece
Writes-front old new (Ok m) n piece writes bound = λ written e.
    let le : m ≤ n = omega (arith, length-take n piece) in rw (← take-take m n piece le) (writes written e)
Writes-front old new (Err e) n piece writes bound = writes
