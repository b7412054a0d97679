-- The ticks of rows that are changed target by target: what is gained and lost of each leads from one test to another.
use Rattle.std.proofs.Common.{◌≡◌, ◌∙◌, ℕ, Bool, true, false, ◌&&◌, ◌||◌, not, cond, List, [], ◌∷◌, refl, ap, sym, arith, inl, inr, ◌⊎◌}
use Rattle.std.proofs.lemmas.Bool.{cases_Bool, false≢true}
use Rattle.std.proofs.lemmas.Slice.Eq.{bytes_eq-Decides}
use Rattle.std.specs.Prelude.{if◌then◌else◌}
use Rattle.std.specs.List.{AllByRecursion, list_any}
use Rattle.std.specs.Str.{bytes_eq}

-- a tick of a target, which it had or not, after what its objects gain and lose, by whether they had it and have it
abbrev pub turned : (old now had : Bool) → Bool
turned old now had = (had || (now && not old)) && not (old && not now)

turned_once : (old now : Bool) → turned old now old ≡ now
turned_once true true = refl
turned_once true false = refl
turned_once false true = refl
turned_once false false = refl

turned_again : (old now : Bool) → turned old now now ≡ now
turned_again true true = refl
turned_again true false = refl
turned_again false true = refl
turned_again false false = refl

-- of all objects whose text is the target
abbrev pub turned_all : (text : List ℕ → List ℕ) (old now : List ℕ → Bool) (target : List ℕ) → List (List ℕ) → Bool → Bool
turned_all text old now target [] had = had
turned_all text old now target (key ∷ keys) had =
    turned_all text old now target keys (if bytes_eq (text key) target then turned (old key) (now key) had else had)

abbrev pub is_some_now : (text : List ℕ → List ℕ) → List ℕ → (List ℕ → Bool) → List (List ℕ) → Bool
is_some_now text target test keys = list_any (λ key. bytes_eq (text key) target && test key) keys

-- no two keys with the property have the same text
module _ (P : List ℕ → Type 0) (text : List ℕ → List ℕ) (one : (k l : List ℕ) → P k → P l → text k ≡ text l → k ≡ l) (target : List ℕ) where
  is_text : List ℕ → Bool
  is_text key = bytes_eq (text key) target

  same_key : (k l : List ℕ) → P k → P l → bytes_eq (text k) target ≡ true → bytes_eq (text l) target ≡ true → k ≡ l
  same_key k l pk pl hk hl = one k l pk pl ((bytes_eq-Decides (text k) target).0 hk ∙ sym ((bytes_eq-Decides (text l) target).0 hl))

  pub record IsThere : Type 0 where
    pub key : List ℕ
    pub is : P key
    pub at : bytes_eq (text key) target ≡ true

  there : (keys : List (List ℕ)) → AllByRecursion P keys → list_any (λ key. bytes_eq (text key) target) keys ≡ true → IsThere
  there [] all h = absurd (false≢true h)
  there (k ∷ keys) all h = elim (cases_Bool (bytes_eq (text k) target)) [
    | inl at ↦ record { key = k; is = all.0; at = at }
    | inr other ↦ there keys all.1 (rw other at h)
  ]

  module _ (x : IsThere) where
    pub any_is : (test : List ℕ → Bool) (keys : List (List ℕ)) → AllByRecursion P keys →
        is_some_now text target test keys ≡ (list_any (λ key. bytes_eq (text key) target) keys && test x.key)
    any_is test [] all = refl
    any_is test (k ∷ keys) all = elim (cases_Bool (bytes_eq (text k) target)) [
      | inl at ↦
          let same : test k ≡ test x.key = ap test (same_key k x.key all.0 x.is at x.at) in
          let later = any_is test keys all.1 in
          rw at (grind (arith, same, later))
      | inr other ↦ rw other (any_is test keys all.1)
    ]

    turns : (old now : List ℕ → Bool) (keys : List (List ℕ)) → AllByRecursion P keys → (had : Bool) → (had ≡ old x.key) ⊎ (had ≡ now x.key) →
        turned_all text old now target keys had ≡ (if list_any (λ key. bytes_eq (text key) target) keys then now x.key else had)
    turns old now [] all had is = refl
    turns old now (k ∷ keys) all had is = elim (cases_Bool (bytes_eq (text k) target)) [
      | inl at ↦
          let same : k ≡ x.key = same_key k x.key all.0 x.is at x.at in
          let next : turned (old k) (now k) had ≡ now x.key = next_is same is in
          let later = turns old now keys all.1 (turned (old k) (now k) had) (inr next) in
          rw at (later ∙ either (list_any (λ key. bytes_eq (text key) target) keys) (turned (old k) (now k) had) next)
      | inr other ↦ rw other (turns old now keys all.1 had is)
    ]
      where
        next_is : k ≡ x.key → (had ≡ old x.key) ⊎ (had ≡ now x.key) → turned (old k) (now k) had ≡ now x.key
        next_is same (inl was) = ap (λ k. turned (old k) (now k) had) same ∙ ap (turned (old x.key) (now x.key)) was ∙ turned_once (old x.key) (now x.key)
        next_is same (inr is) = ap (λ k. turned (old k) (now k) had) same ∙ ap (turned (old x.key) (now x.key)) is ∙ turned_again (old x.key) (now x.key)

        either : (b had : Bool) → had ≡ now x.key → (if b then now x.key else had) ≡ now x.key
        either true had e = refl
        either false had e = e

  none_turns : (old now : List ℕ → Bool) (keys : List (List ℕ)) (had : Bool) → list_any (λ key. bytes_eq (text key) target) keys ≡ false →
      turned_all text old now target keys had ≡ had
  none_turns old now [] had h = refl
  none_turns old now (k ∷ keys) had h = elim (cases_Bool (bytes_eq (text k) target)) [
    | inl at ↦ let wrong : true ≡ false = rw at at h in absurd (cc)
    | inr other ↦ let later : list_any (λ key. bytes_eq (text key) target) keys ≡ false = rw other at h in rw other (none_turns old now keys had later)
  ]

  none_some : (test : List ℕ → Bool) (keys : List (List ℕ)) → list_any (λ key. bytes_eq (text key) target) keys ≡ false → is_some_now text target test keys ≡ false
  none_some test [] h = refl
  none_some test (k ∷ keys) h = elim (cases_Bool (bytes_eq (text k) target)) [
    | inl at ↦ let wrong : true ≡ false = rw at at h in absurd (cc)
    | inr other ↦ let later : list_any (λ key. bytes_eq (text key) target) keys ≡ false = rw other at h in rw other (none_some test keys later)
  ]

  -- what held of some key holds after all changes where it holds of some key now
  pub all_turned : (old now : List ℕ → Bool) (keys : List (List ℕ)) → AllByRecursion P keys →
      turned_all text old now target keys (is_some_now text target old keys) ≡ is_some_now text target now keys
  all_turned old now keys all = elim (cases_Bool (list_any (λ key. bytes_eq (text key) target) keys)) [
    | inl some ↦
        let x = there keys all some in
        let was : is_some_now text target old keys ≡ old x.key = any_is x old keys all ∙ ap (λ b. b && old x.key) some in
        turns x old now keys all (is_some_now text target old keys) (inl was)
        ∙ ap (λ (b : Bool). cond b (now x.key) (is_some_now text target old keys)) some
        ∙ sym (any_is x now keys all ∙ ap (λ b. b && now x.key) some)
    | inr none ↦ none_turns old now keys (is_some_now text target old keys) none ∙ none_some old keys none ∙ sym (none_some now keys none)
  ]
