-- For this crate and for the crates above: one motion as another sees it.
use Rattle.std.proofs.Common.{◌≡◌, ℕ, ℤ, pos, ◌+ℤ◌, ◌-ℤ◌, ◌*ℤ◌, ◌∙◌, arith}
use Rattle.exact.proofs.Ring.{part, sum, difference, product, same}
use Rattle.geometry.specs.Plane.{square}
use Rattle.linear_crossing.specs.declared.quad.Line.{Line}
use Rattle.linear_crossing.specs.Moving.{distance_after}
use Rattle.linear_crossing.specs.Relative.{Relative, squared_distance_at}

regrouped : (x y v w k : ℤ) → (x -ℤ y) +ℤ (v -ℤ w) *ℤ k ≡ (x +ℤ v *ℤ k) -ℤ (y +ℤ w *ℤ k)
regrouped x y v w k =
    same (sum (difference (part x) (part y)) (product (difference (part v) (part w)) (part k)))
    (difference (sum (part x) (product (part v) (part k))) (sum (part y) (product (part w) (part k)))) (omega arith)

coordinate : (x y v w u d k : ℤ) → u ≡ x -ℤ y → d ≡ v -ℤ w → u +ℤ d *ℤ k ≡ (x +ℤ v *ℤ k) -ℤ (y +ℤ w *ℤ k)
coordinate x y v w u d k e f = (λ i. e i +ℤ f i *ℤ k) ∙ regrouped x y v w k

pub apart : (p q : Line) (m : Relative) (k : ℕ) → m.x ≡ q.at.x -ℤ p.at.x → m.y ≡ q.at.y -ℤ p.at.y → m.dx ≡ q.dx -ℤ p.dx → m.dy ≡ q.dy -ℤ p.dy
    → squared_distance_at m k ≡ distance_after p q k
apart p q m k a b c d =
    let e = coordinate q.at.x p.at.x q.dx p.dx m.x m.dx (pos k) a c in
    let f = coordinate q.at.y p.at.y q.dy p.dy m.y m.dy (pos k) b d in
    λ i. square (e i) +ℤ square (f i)
