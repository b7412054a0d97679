-- What is found in a part, as the timelines and the store have it.
use Rattle.std.proofs.Common.{◌≡◌, ℕ, ◌≤◌, Bool, true, false, ◌&&◌, ◌||◌, Option, None, Some, is_some, List, [], ◌∷◌, map, refl, ap, sym, subst, ◌∙◌, arith}
use Rattle.std.specs.Prelude.{All, ◌==◌, option_and_then, if◌then◌else◌}
use Rattle.std.specs.List.{list_any}
use Rattle.std.proofs.lemmas.Bool.{false≢true}
use Rattle.std.proofs.lemmas.Bool.Decides.{nat_tests}
use Rattle.std.proofs.lemmas.List.Elements.{All-head, All-tail}
use Rattle.geometry.specs.Region.{Region}
use Rattle.formula.specs.declared.tree.RAtom.{RAtom}
use Rattle.formula.specs.declared.tree.RTerm.{RTerm}
use Rattle.formula.specs.declared.value.Env.{Env}
use Rattle.meaning.specs.Atom.{atom_holds}
use Rattle.meaning.specs.Trace.{Trace}
use Rattle.meaning.specs.Value.{term_value}
use Rattle.meaning.proofs.LocalityLemmas.{atom_same, term_same}
use Rattle.motion.specs.Timeline.{Epoch, epoch_at, state_at}
use Rattle.tick_set.specs.Ticks.{within}
use Rattle.tick_set.specs.Runs.{IsRuns, spans_have}
use Rattle.tick_set.specs.declared.spans.Span.{Span}
use Rattle.atoms.specs.declared.parts.Part.{Part}
use Rattle.atoms.specs.Parts.{shown, trace_by}
use Rattle.atoms.specs.Presence.{is_as, is_there}
use Rattle.atoms.proofs.PartLemmas.{beside-map}
use Rattle.atoms.proofs.RunLemmas.{within_same}

-- the part shows the states of the trace
abbrev pub IsShown : Trace → Part → Type 0
IsShown h part = (v t : ℕ) → part.span.lo ≤ t → t ≤ part.span.hi → h v t ≡ shown part v t

pub part_found : (regions : List Region) (a : RAtom) (x : Env) (h : Trace) (part : Part) (found : List Span) → IsShown h part →
    IsRuns (λ t. within part.span.lo part.span.hi t && atom_holds regions (shown part) a x t) found →
    (t : ℕ) → spans_have found t ≡ (within part.span.lo part.span.hi t && atom_holds regions h a x t)
part_found regions a x h part found are runs t =
    runs.ticks t
    ∙ within_same part.span.lo part.span.hi t (atom_holds regions (shown part) a x t) (atom_holds regions h a x t)
    (λ from up_to. atom_same regions (shown part) h a x t (λ v has. sym (are v t from up_to)))

pub part_value : (q : RTerm) (x : Env) (h : Trace) (part : Part) → IsShown h part → (t : ℕ) → part.span.lo ≤ t → t ≤ part.span.hi →
    term_value h q x t ≡ term_value (shown part) q x t
part_value q x h part are t from up_to = term_same h (shown part) x t q (λ v has. are v t from up_to)

pub part_present : (there : Bool) (epochs : List Epoch) (e : Option Epoch) (lo hi : ℕ) (found : List Span) →
    ((t : ℕ) → lo ≤ t → t ≤ hi → epoch_at epochs t ≡ e) → ((t : ℕ) → spans_have found t ≡ (within lo hi t && is_as there (is_there e))) →
    (t : ℕ) → spans_have found t ≡ (within lo hi t && is_as there (is_some (state_at epochs t)))
part_present there epochs e lo hi found are is t =
    is t
    ∙ within_same lo hi t (is_as there (is_there e)) (is_as there (is_some (state_at epochs t)))
    (λ from up_to. ap (λ (o : Option Epoch). is_as there (is_there o)) (sym (are t from up_to)))

-- ---- the states of the variables' objects

listed_at : (P : ℕ → Type 0) (same : Bool) (u : ℕ) (vs : List ℕ) (v : ℕ) → (u == v) ≡ same → P u → (list_any (λ w. w == v) vs ≡ true → P v) →
    (same || list_any (λ w. w == v) vs) ≡ true → P v
listed_at P true u vs v is first rest any = let equal : u ≡ v = grind (arith, nat_tests) in subst P equal first
listed_at P false u vs v is first rest any = rest any

all_listed : (P : ℕ → Type 0) (vs : List ℕ) (v : ℕ) → All P vs → list_any (λ u. u == v) vs ≡ true → P v
all_listed P [] v all any = absurd (false≢true any)
all_listed P (u ∷ vs) v all any = listed_at P (u == v) u vs v refl (All-head P u vs all) (all_listed P vs v (All-tail P u vs all)) any

pub trace_is : (h : Trace) (f : ℕ → List Epoch) (vs : List ℕ) (timelines : List (List Epoch)) (v t : ℕ) → timelines ≡ map f vs →
    All (λ u. (s : ℕ) → h u s ≡ state_at (f u) s) vs → list_any (λ u. u == v) vs ≡ true → trace_by vs timelines v t ≡ h v t
trace_is h f vs timelines v t are states any =
    ap (λ ts. trace_by vs ts v t) are
    ∙ ap (λ (o : Option (List Epoch)). option_and_then (λ epochs. state_at epochs t) o) (beside-map f vs v)
    ∙ ap (λ (any : Bool). option_and_then (λ epochs. state_at epochs t) (if any then Some (f v) else None)) any
    ∙ sym (all_listed (λ u. (s : ℕ) → h u s ≡ state_at (f u) s) vs v states any t)
