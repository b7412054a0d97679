-- The places of some objects, one by one.
use Rattle.std.proofs.Common.{◌≡◌, ℕ, ◌+◌, ◌<◌, Bool, true, false, ◌||◌, Option, None, Some, List, [], ◌∷◌, ◌++◌, length, take, set, refl, ap, ◌∙◌}
use Rattle.std.specs.Prelude.{◌==◌, option_and_then}
use Rattle.std.specs.List.{list_any}
use Rattle.std.specs.Option.{option_map}
use Rattle.std.proofs.lemmas.List.{map-append, take_more_set}
use Rattle.fixed_point.specs.declared.number.Point.{Point}
use Rattle.distance_crossing.specs.NearTicks.{positions_after}
use Rattle.linear_crossing.specs.declared.quad.Line.{Line}
use Rattle.linear_crossing.specs.Moving.{position_after}
use Rattle.meaning.specs.Atom.{position_in, positions_of}
use Rattle.meaning.specs.Trace.{Trace}

-- the places before, and then those of the other objects
abbrev pub behind : List Point → Option (List Point) → Option (List Point)
behind before others = option_map (λ ps. before ++ ps) others

joined : (before : List Point) (p : Point) (others : List Point) → before ++ (p ∷ others) ≡ (before ++ p ∷ []) ++ others
joined [] p others = refl
joined (q ∷ before) p others = ap (λ ps. q ∷ ps) (joined before p others)

behind_one : (before : List Point) (p : Point) (others : Option (List Point)) →
    behind before (option_map (λ ps. p ∷ ps) others) ≡ behind (before ++ p ∷ []) others
behind_one before p None = refl
behind_one before p (Some others) = ap Some (joined before p others)

pub positions_next : (h : Trace) (t v : ℕ) (later : List ℕ) (before : List Point) (p : Point) → position_in t (h v t) ≡ Some p →
    behind before (positions_of h t (v ∷ later)) ≡ behind (before ++ p ∷ []) (positions_of h t later)
positions_next h t v later before p is =
    ap (λ (o : Option Point). behind before (option_and_then (λ q. option_map (λ qs. q ∷ qs) (positions_of h t later)) o)) is
    ∙ behind_one before p (positions_of h t later)

pub positions_stop : (h : Trace) (t v : ℕ) (later : List ℕ) (before : List Point) → position_in t (h v t) ≡ None →
    behind before (positions_of h t (v ∷ later)) ≡ None
positions_stop h t v later before none =
    ap (λ (o : Option Point). behind before (option_and_then (λ q. option_map (λ qs. q ∷ qs) (positions_of h t later)) o)) none

pub positions_all : (others : Option (List Point)) → behind [] others ≡ others
positions_all None = refl
positions_all (Some others) = refl

pub after_more : (lines : List Line) (n k : ℕ) (l : Line) → n < length lines →
    positions_after (take (n + 1) (set lines n l)) k ≡ positions_after (take n lines) k ++ position_after l k ∷ []
after_more lines n k l room =
    ap (λ (ls : List Line). positions_after ls k) (take_more_set lines n l room)
    ∙ map-append (λ (m : Line). position_after m k) (take n lines) (l ∷ [])

-- one that is absent is still ahead
pub still_ahead : (u v : ℕ) (later : List ℕ) → ((u == v) ≡ true → ⊥) → (u == v || list_any (λ w. w == v) later) ≡ true → list_any (λ w. w == v) later ≡ true
still_ahead u v later other any = ahead (u == v) (list_any (λ w. w == v) later) other any where
  ahead : (same later : Bool) → (same ≡ true → ⊥) → (same || later) ≡ true → later ≡ true
  ahead true later other any = absurd (other refl)
  ahead false later other any = any

behind_all : (before : List Point) → before ++ [] ≡ before
behind_all [] = refl
behind_all (p ∷ before) = ap (λ ps. p ∷ ps) (behind_all before)

pub positions_end : (h : Trace) (t : ℕ) (rest : List ℕ) (before : List Point) → rest ≡ [] → behind before (positions_of h t rest) ≡ Some before
positions_end h t rest before none = ap (λ (vs : List ℕ). behind before (positions_of h t vs)) none ∙ ap Some (behind_all before)
