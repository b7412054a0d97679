-- What becomes of a part with a part that isn't read.
use Rattle.command_text.proofs.Names.{◌≡◌, Option, Some, ◌∙◌, ap, ◌>>=◌, CommandFault, Reader, Read, StopsPart}
use Rattle.command_text.specs.declared.fault.CommandFault.TheVariants as faults

pub stops_part : {A B : Type 0} (part : Read A) (rest : A × Reader → Read B) (e : CommandFault) → StopsPart part e → StopsPart (part >>= rest) e
stops_part part rest (faults.Refused r) h = (h.0, ap (λ o. o >>= rest) h.1)
stops_part part rest faults.NoMemory h = tt

pub stops_behind : {A B : Type 0} (part : Option A) (x : A) (rest : A → Read B) (e : CommandFault) →
    part ≡ Some x → StopsPart (rest x) e → StopsPart (part >>= rest) e
stops_behind part x rest (faults.Refused r) d h = (h.0, ap (λ o. o >>= rest) d ∙ h.1)
stops_behind part x rest faults.NoMemory d h = tt

-- by what a part is
pub stops_same : {A : Type 0} (part other : Read A) (e : CommandFault) → part ≡ other → StopsPart other e → StopsPart part e
stops_same part other (faults.Refused r) d h = (h.0, d ∙ h.1)
stops_same part other faults.NoMemory d h = tt

pub ruleset stop_steps = (stops_part, stops_behind, stops_same)
