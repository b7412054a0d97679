-- What is written back to a slice of a vector, where it has as many elements.
use Rattle.std.proofs.Common.{◌≡◌, ℕ, List, ◌++◌, length, take, drop, ap, ◌∙◌, arith}
use Rattle.std.proofs.lemmas.List.{append-nil, drop_all, take_all}

pub written_back : {X : Type 0} (new old : List X) (n : ℕ) → length new ≡ n → length old ≡ n → take n (new ++ drop (length new) old) ≡ new
written_back new old n is was =
    ap (λ rest. take n (new ++ rest)) (drop_all (length new) old (omega (arith, is, was)))
    ∙ ap (take n) (append-nil new)
    ∙ take_all n new (omega (arith, is))
