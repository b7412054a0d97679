-- Commands that were read, and what is left after them.
use Rattle.std.proofs.Common.{◌≡◌, ℕ, List, [], ◌∷◌, ◌++◌, ◌∙◌, Result, Ok, Err, ap, inr, sym}
use Rattle.std.specs.Prelude.{IfErr}
use Rattle.std.proofs.lemmas.List.{append_assoc}
use Rattle.command_text.specs.Tree.{CommandTree}
use Rattle.session_file.specs.declared.fault.FileFault.{FileFault}
use Rattle.session_file.specs.declared.fault.FileFault.TheVariants as faults
use Rattle.session_file.specs.Lacks.{IsAtCommand, LacksMemoryAt, after_commands}
use Rattle.session_file.specs.Reading.{Reading, with_first}

-- one more was read
pub one_more_read : (whole left later : Reading) (first : List (ℕ × CommandTree)) (c : ℕ × CommandTree) → whole ≡ after_commands first left →
    left ≡ with_first c later → whole ≡ after_commands (first ++ c ∷ []) later
one_more_read whole left later first c parts is =
    parts
    ∙ ap (after_commands first) is
    ∙ ap (λ (commands : List (ℕ × CommandTree)). record { commands = commands; fault = later.fault })
    (sym (append_assoc first (c ∷ []) later.commands))

-- memory was out at what is left
pub lacks_after : {T : Type 0} (whole left : Reading) (first : List (ℕ × CommandTree)) (r : Result T FileFault) → whole ≡ after_commands first left →
    IfErr r (λ fault. fault ≡ faults.NoMemory → IsAtCommand left) → IfErr r (λ fault. fault ≡ faults.NoMemory → LacksMemoryAt whole)
lacks_after whole left first (Ok x) parts at = tt
lacks_after whole left first (Err fault) parts at = λ none. record { first = first; left = left; parts = parts; at = inr (at none) }
