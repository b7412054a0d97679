-- The lines of rows, of what changes and of registered queries, one after another.
use Rattle.std.proofs.Common.{◌≡◌, ℕ, ◌≤◌, Bool, true, List, [], ◌∷◌, ◌++◌, length, map, take, sym, ap, ◌∙◌, append_assoc, append-nil, arith}
use Rattle.std.specs.List.{flat_map, list_all}
use Rattle.std.proofs.lemmas.Bool.{and_parts}
use Rattle.std.proofs.lemmas.List.{take_all}
use Rattle.std.proofs.lemmas.List.Folds.{flat_map-map}
use Rattle.line_meaning.specs.Reply.{registration_line}
use Rattle.live_queries.specs.Kept.{KeptQuery}
use Rattle.registry.specs.Standing.{registration_of}

-- ---- walking down a list

-- one more line
pub line_step : {A : Type 0} (line : A → List ℕ) (x : A) (later rest : List A) (written out next whole : List ℕ) → rest ≡ x ∷ later →
    next ≡ out ++ written → written ≡ line x → out ++ flat_map line rest ≡ whole → next ++ flat_map line later ≡ whole
line_step line x later rest written out next whole split made same so_far =
    ap (λ o. o ++ flat_map line later) (made ∙ ap (λ l. out ++ l) same)
    ∙ append_assoc out (line x) (flat_map line later)
    ∙ ap (λ xs. out ++ flat_map line xs) (sym split)
    ∙ so_far

pub test_step : {A : Type 0} (test : A → Bool) (x : A) (later rest : List A) → rest ≡ x ∷ later → list_all test rest ≡ true →
    (test x ≡ true) × (list_all test later ≡ true)
test_step test x later rest split all = and_parts (test x) (list_all test later) (ap (list_all test) (sym split) ∙ all)

-- no line is left
pub line_end : {A : Type 0} (line : A → List ℕ) (rest : List A) (out whole : List ℕ) → length rest ≡ 0 → out ++ flat_map line rest ≡ whole → out ≡ whole
line_end line [] out whole none so_far = sym (append-nil out) ∙ so_far
line_end line (x ∷ rest) out whole none so_far = absurd (omega (arith, none))

-- ---- by place

-- the lines of all registered queries
pub all_queries : (live : List KeptQuery) (i : ℕ) (start out : List ℕ) → length live ≤ i →
    out ≡ start ++ flat_map (λ k. registration_line (registration_of k)) (take i live) →
    out ≡ start ++ flat_map registration_line (map registration_of live)
all_queries live i start out all so_far =
    so_far
    ∙ ap (λ ks. start ++ flat_map (λ (k : KeptQuery). registration_line (registration_of k)) ks) (take_all i live all)
    ∙ ap (λ lines. start ++ lines) (sym (flat_map-map registration_line registration_of live))
