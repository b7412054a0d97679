-- Registered queries by their names.
use Rattle.std.proofs.Common.{◌≡◌, ℕ, Bool, true, false, not, ◌||◌, Option, Some, List, [], ◌∷◌, map, refl, sym, ap, subst, ◌∙◌, arith}
use Rattle.std.specs.Prelude.{◌==◌, All, cond, is_some, unwrap_or}
use Rattle.std.specs.List.{find, list_any}
use Rattle.std.specs.Option.{option_map}
use Rattle.std.specs.Str.{bytes_eq}
use Rattle.std.proofs.lemmas.Bool.Decides.{nat_tests}
use Rattle.std.proofs.lemmas.List.Elements.{All-head, All-tail}
use Rattle.exact.specs.First.{first_that_holds}
use Rattle.exact.proofs.Items.{any_mapped, bytes_eq_swap}
use Rattle.command_text.specs.declared.refusal.Refusal.TheVariants as refusals
use Rattle.line_meaning.specs.QueryFault.{unregistered_refusal}
use Rattle.line_meaning.specs.Registry.{has_name, is_registered, registration_named}
use Rattle.live_queries.specs.Kept.{KeptQuery}
use Rattle.live_queries.specs.Told.{query_named}
use Rattle.registry.specs.Standing.{registration_of}

-- ---- a name is another one both ways

number_turned : (x y : ℕ) → (x == y) ≡ (y == x)
number_turned x y = grind (arith, nat_tests)

-- ---- the first of a list that passes

found_mapped : {A B : Type 0} (test : B → Bool) (f : A → B) (xs : List A) → find test (map f xs) ≡ option_map f (find (λ x. test (f x)) xs)
found_mapped test f [] = refl
found_mapped test f (x ∷ xs) = one f (test (f x)) x _ _ (found_mapped test f xs)
  where
    one : {X Y : Type 0} (g : X → Y) (b : Bool) (y : X) (rest : Option Y) (rest' : Option X) → rest ≡ option_map g rest' →
        cond b (Some (g y)) rest ≡ option_map g (cond b (Some y) rest')
    one g true y rest rest' e = refl
    one g false y rest rest' e = e

pub any_found : {A : Type 0} (test : A → Bool) (xs : List A) → list_any test xs ≡ is_some (find test xs)
any_found test [] = refl
any_found test (x ∷ xs) = one (test x) x _ _ (any_found test xs)
  where
    one : {Y : Type 0} (b : Bool) (y : Y) (rest : Bool) (found : Option Y) → rest ≡ is_some found → (b || rest) ≡ is_some (cond b (Some y) found)
    one true y rest found e = refl
    one false y rest found e = e

-- what is so of all is so of it
pub found_is : {A : Type 0} (P : A → Type 0) (test : A → Bool) (x : A) (xs : List A) → find test xs ≡ Some x → All P xs → P x
found_is P test x [] found all = absurd (cc found)
found_is P test x (y ∷ xs) found all =
    one (test y) found (found_is P test x xs)
  where
    one : (b : Bool) → cond b (Some y) (find test xs) ≡ Some x → (find test xs ≡ Some x → All P xs → P x) → P x
    one true e later = subst P (ap (λ o. unwrap_or o y) e) (All-head P y xs all)
    one false e later = later e (All-tail P y xs all)

-- ---- registered queries

-- whether one has the name, with the name on either side
pub named_either : (live : List KeptQuery) (name : List ℕ) → list_any (λ k. bytes_eq k.name name) live ≡ list_any (λ k. bytes_eq name k.name) live
named_either [] name = refl
named_either (k ∷ live) name = λ i. bytes_eq_swap k.name name i || named_either live name i

pub registered_is : (live : List KeptQuery) (name : List ℕ) → is_registered (map registration_of live) name ≡ list_any (λ k. bytes_eq name k.name) live
registered_is live name = any_mapped (has_name name) registration_of live

-- the query of the name
pub query_is : (live : List KeptQuery) (name : List ℕ) → registration_named (map registration_of live) name ≡ option_map registration_of (query_named live name)
query_is live name =
    found_mapped (has_name name) registration_of live
    ∙ ap (option_map registration_of) (turned live)
  where
    turned : (ks : List KeptQuery) → find (λ k. bytes_eq name k.name) ks ≡ find (λ k. bytes_eq k.name name) ks
    turned [] = refl
    turned (k ∷ ks) = λ i. cond (bytes_eq_swap name k.name i) (Some k) (turned ks i)

-- the refusal of a name that none has
pub unregistered_is : (live : List KeptQuery) (name : List ℕ) (there : Bool) → there ≡ list_any (λ k. bytes_eq k.name name) live →
    unregistered_refusal (map registration_of live) name ≡ first_that_holds ((refusals.UnknownName, not there) ∷ [])
unregistered_is live name there is =
    let named : is_registered (map registration_of live) name ≡ there = registered_is live name ∙ sym (named_either live name) ∙ sym is in
    ap (λ b. first_that_holds ((refusals.UnknownName, not b) ∷ [])) named
