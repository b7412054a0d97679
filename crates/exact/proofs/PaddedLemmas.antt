-- For this crate and for the crates above: what is in the front of an array, and the array again.
use Rattle.std.proofs.Common.{◌≡◌, ℕ, ◌≤◌, List, ◌++◌, length, take, drop, replicate, ◌∙◌, ap, arith, length-append, length-drop, length-take-le, take-append-drop}
use Rattle.std.proofs.lemmas.List.{drop-replicate, length-replicate}
use Rattle.std.proofs.Math.Seq.{drop-append_seam}
use Rattle.exact.specs.Padded.{padded, IsPadded}

pub length-front : {A : Type 0} (filler : A) (room : ℕ) (places : List A) (count : ℕ) → IsPadded filler room places count → length (take count places) ≡ count
length-front filler room places count p =
    let short : count ≤ length places = omega (arith, p.fits, p.full) in
    length-take-le count places short

-- an array is its items and the filler after them
pub padded-front : {A : Type 0} (filler : A) (room : ℕ) (places : List A) (count : ℕ) → IsPadded filler room places count → padded filler room (take count places) ≡ places
padded-front filler room places count p =
    rw (length-front filler room places count p, ← p.unused) (take-append-drop count places)

-- items over the front of an array of fillers
pub padded_over : {A : Type 0} (filler : A) (room : ℕ) (items fillers : List A) → length items ≤ room → fillers ≡ replicate room filler → IsPadded filler room (items ++ drop (length items) fillers) (length items)
padded_over {A} filler room items fillers fits are = record {
  fits = fits;
  full = let long : length fillers ≡ room = ap length are ∙ length-replicate {A = A} room filler in omega (arith, length-append {A = A}, length-drop {A = A});
  unused = drop-append_seam items (drop (length items) fillers) ∙ ap (drop (length items)) are ∙ drop-replicate (length items) room filler;
}
