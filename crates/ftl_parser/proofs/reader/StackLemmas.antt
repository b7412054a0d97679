-- The stack as it is kept.
use Rattle.ftl_parser.proofs.Names.{◌≡◌, ℕ, ◌≤◌, List, [], ◌∷◌, ◌++◌, Option, Some, ap, ◌∙◌, MatchOption, option_to_list, fold-append, Frame, precedence, stack_of, StaysBelow}

-- a frame on top of others
pub stack_of-push : (below : List Frame) (w : Frame) → stack_of (below ++ w ∷ []) ≡ w ∷ stack_of below
stack_of-push below w = fold-append _ [] below (w ∷ [])

pub popped : (least : ℕ) (top : Frame) (old new : List Frame) (r : Option Frame) →
    r ≡ Some top → old ≡ new ++ option_to_list r → least ≤ precedence top →
    MatchOption r ((stack_of new ≡ stack_of old) × StaysBelow least (stack_of old))
    (λ w. (stack_of old ≡ w ∷ stack_of new) × (least ≤ precedence w))
popped least top old new r is items binds =
    let whole : old ≡ new ++ top ∷ [] = items ∙ ap (λ o. new ++ option_to_list o) is in
    rw is (ap stack_of whole ∙ stack_of-push new top, binds)
