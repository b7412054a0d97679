-- The ticks that the rows of a copy have, after changes.
use Rattle.std.proofs.Common.{◌≡◌, ◌∙◌, ℕ, Bool, true, false, ◌&&◌, ◌||◌, not, cond, List, [], ◌∷◌, refl, ap, sym, subst, inl, inr}
use Rattle.std.proofs.lemmas.Bool.{cases_Bool, false≢true}
use Rattle.std.proofs.lemmas.Slice.Eq.{bytes_eq-Decides}
use Rattle.std.specs.Prelude.{if◌then◌else◌}
use Rattle.std.specs.Str.{bytes_eq}
use Rattle.meaning.specs.Answer.{has_ticks}
use Rattle.tick_set.specs.Runs.{runs_of}
use Rattle.tick_set.specs.SetOperation.{kept}
use Rattle.tick_set.specs.Ticks.{listed, within}
use Rattle.tick_set.specs.declared.operation.SetOperation.{SetOperation}
use Rattle.tick_set.specs.declared.operation.SetOperation.TheVariants.{Union, Without}
use Rattle.tick_set.proofs.CallerLemmas.{has_listed}
use Rattle.replica.specs.Rows.{TargetRow, rows_after_told, ticks_at}
use Rattle.replica.specs.Ticks.{combined, have}
use Rattle.replica.proofs.CallerLemmas.{have_combined, have_runs, others_left, row_made}
use Rattle.feeds_laws.proofs.TurningLemmas.{turned, turned_all}

-- whether rows have a tick of a target
abbrev pub has_at : List TargetRow → List ℕ → ℕ → Bool
has_at rows target t = have (ticks_at target rows) t

changed_at : (operation : SetOperation) (told : TargetRow) (rows : List TargetRow) (target : List ℕ) (t : ℕ) →
    has_at (rows_after_told operation told rows) target t
    ≡ (if bytes_eq told.0 target then kept operation (has_at rows target t) (have told.1 t) else has_at rows target t)
changed_at operation told rows target t = elim (cases_Bool (bytes_eq told.0 target)) [
  | inl same ↦
      let is : told.0 ≡ target = (bytes_eq-Decides told.0 target).0 same in
      let made : ticks_at target (rows_after_told operation told rows) ≡ combined operation (ticks_at target rows) told.1 =
      subst (λ (T : List ℕ). ticks_at T (rows_after_told operation told rows) ≡ combined operation (ticks_at T rows) told.1) is (row_made operation told rows) in
      rw same (ap (λ spans. have spans t) made ∙ have_combined operation (ticks_at target rows) told.1 t)
  | inr other ↦
      rw other (ap (λ spans. have spans t) (others_left operation told rows target (λ e. false≢true (sym other ∙ (bytes_eq-Decides told.0 target).1 (sym e)))))
]

-- ---- A change that is told where it has ticks

abbrev pub changed_if : SetOperation → List ℕ → List (ℕ × ℕ) → List TargetRow → List TargetRow
changed_if operation target runs rows = if has_ticks runs then rows_after_told operation (target, runs) rows else rows

-- Meet with no ticks would leave none
abbrev pub KeepsWithNone : SetOperation → Type 0
KeepsWithNone operation = (b : Bool) → kept operation b false ≡ b

pub union_keeps : KeepsWithNone Union
union_keeps true = refl
union_keeps false = refl

without_keeps : KeepsWithNone Without
without_keeps true = refl
without_keeps false = refl

same_either : (b x : Bool) → x ≡ cond b x x
same_either true x = refl
same_either false x = refl

pub changed_if_at : (operation : SetOperation) → KeepsWithNone operation → (target : List ℕ) (runs : List (ℕ × ℕ)) (rows : List TargetRow) (T : List ℕ) (t : ℕ) →
    has_at (changed_if operation target runs rows) T t
    ≡ (if bytes_eq target T then kept operation (has_at rows T t) (have runs t) else has_at rows T t)
changed_if_at operation keeps target [] rows T t =
    same_either (bytes_eq target T) (has_at rows T t)
    ∙ ap (λ b. cond (bytes_eq target T) b (has_at rows T t)) (sym (keeps (has_at rows T t)))
changed_if_at operation keeps target (run ∷ runs) rows T t = changed_at operation (target, run ∷ runs) rows T t

-- ---- What the objects of a target gain and lose

abbrev pub after_change : List ℕ → (gained lost : List (ℕ × ℕ)) → List TargetRow → List TargetRow
after_change target gained lost rows = changed_if Without target lost (changed_if Union target gained rows)

two_at : (same : Bool) (had gain lose mid : Bool) → mid ≡ cond same (had || gain) had →
    cond same (mid && not lose) mid ≡ cond same ((had || gain) && not lose) had
two_at true had gain lose mid e = ap (λ m. m && not lose) e
two_at false had gain lose mid e = e

after_change_at : (target : List ℕ) (gained lost : List (ℕ × ℕ)) (rows : List TargetRow) (T : List ℕ) (t : ℕ) →
    has_at (after_change target gained lost rows) T t
    ≡ (if bytes_eq target T then (has_at rows T t || have gained t) && not (have lost t) else has_at rows T t)
after_change_at target gained lost rows T t =
    changed_if_at Without without_keeps target lost (changed_if Union target gained rows) T t
    ∙ two_at (bytes_eq target T) (has_at rows T t) (have gained t) (have lost t) (has_at (changed_if Union target gained rows) T t)
    (changed_if_at Union union_keeps target gained rows T t)

-- of some keys, one after another
abbrev pub after_keys : (text : List ℕ → List ℕ) (gains losses : List ℕ → List (ℕ × ℕ)) → List (List ℕ) → List TargetRow → List TargetRow
after_keys text gains losses [] rows = rows
after_keys text gains losses (key ∷ keys) rows =
    after_keys text gains losses keys (after_change (text key) (gains key) (losses key) rows)

pub have_listed : (p : ℕ → Bool) (from e t : ℕ) → have (runs_of (listed p from e)) t ≡ (within from e t && p t)
have_listed p from e t = have_runs (listed p from e) t ∙ has_listed p from e t

clipped : (here old now had : Bool) →
    ((had || (here && (now && not old))) && not (here && (old && not now))) ≡ turned (here && old) (here && now) had
clipped true true true had = refl
clipped true true false had = refl
clipped true false true had = refl
clipped true false false had = refl
clipped false old now had = refl

module _ (text : List ℕ → List ℕ) (before after : List ℕ → ℕ → Bool) (from e : ℕ) where
  abbrev pub gains : List ℕ → List (ℕ × ℕ)
  gains key = runs_of (listed (λ t. after key t && not (before key t)) from e)

  abbrev pub losses : List ℕ → List (ℕ × ℕ)
  losses key = runs_of (listed (λ t. before key t && not (after key t)) from e)

  one_key : (key : List ℕ) (rows : List TargetRow) (T : List ℕ) (t : ℕ) →
      has_at (after_change (text key) (gains key) (losses key) rows) T t
      ≡ (if bytes_eq (text key) T then turned (within from e t && before key t) (within from e t && after key t) (has_at rows T t) else has_at rows T t)
  one_key key rows T t =
      let gained = have_listed (λ t. after key t && not (before key t)) from e t in
      let lost = have_listed (λ t. before key t && not (after key t)) from e t in
      after_change_at (text key) (gains key) (losses key) rows T t
      ∙ ap (λ g. cond (bytes_eq (text key) T) ((has_at rows T t || g) && not (have (losses key) t)) (has_at rows T t)) gained
      ∙ ap (λ l. cond (bytes_eq (text key) T) ((has_at rows T t || (within from e t && (after key t && not (before key t)))) && not l) (has_at rows T t)) lost
      ∙ ap (λ b. cond (bytes_eq (text key) T) b (has_at rows T t)) (clipped (within from e t) (before key t) (after key t) (has_at rows T t))

  pub keys_at : (keys : List (List ℕ)) (rows : List TargetRow) (T : List ℕ) (t : ℕ) →
      has_at (after_keys text gains losses keys rows) T t
      ≡ turned_all text (λ key. within from e t && before key t) (λ key. within from e t && after key t) T keys (has_at rows T t)
  keys_at [] rows T t = refl
  keys_at (key ∷ keys) rows T t =
      keys_at keys (after_change (text key) (gains key) (losses key) rows) T t
      ∙ ap (turned_all text (λ key. within from e t && before key t) (λ key. within from e t && after key t) T keys) (one_key key rows T t)

-- ---- The rows of an answer

abbrev pub with_rows : (text : List ℕ → List ℕ) (runs : List ℕ → List (ℕ × ℕ)) → List (List ℕ) → List TargetRow → List TargetRow
with_rows text runs [] rows = rows
with_rows text runs (key ∷ keys) rows = with_rows text runs keys (changed_if Union (text key) (runs key) rows)
