use Rattle.std.proofs.Common.{◌≡◌, length}
use Rattle.std.specs.List.{list_all}
use Rattle.motion.specs.Function.{is_length_of}
use Rattle.motion.proofs.legs.have_lengths.Given as goal

-- the legs that are left decide
abbrev pub invariant-loop-leg : goal.invariant-loop-leg
invariant-loop-leg l =
    list_all (λ leg. is_length_of leg.1) l.rest ≡ list_all (λ leg. is_length_of leg.1) l.firsts

abbrev pub decreases-loop-leg : goal.decreases-loop-leg
decreases-loop-leg l = length l.rest
