-- Operators on what is cut to a window, at a tick of the window: nothing after its last tick counts.
use Rattle.std.proofs.Common.{◌≡◌, ℕ, ◌+◌, ◌≤◌, min, Bool, true, false, not, ◌&&◌, refl, ap, inl, inr, arith}
use Rattle.std.proofs.lemmas.Bool.{and_from, cases_Bool, le-leb}
use Rattle.tick_set.specs.Ticks.{AgreeIn, all_in, some_in, within}
use Rattle.tick_set.specs.Operators.{always_at, eventually_at, next_at}
use Rattle.tick_set.proofs.Between.{within_parts}
use Rattle.tick_set.proofs.CallerLemmas.{always_for_same, always_same, eventually_after_same, eventually_same, eventually_within_same, next_same, until_after_same, until_same, until_within_same}
use Rattle.fixed_point.specs.declared.variants.BoundForm.{BoundForm}
use Rattle.fixed_point.specs.declared.variants.BoundForm.TheVariants as bounds
use Rattle.fixed_point.specs.declared.variants.UntilForm.{UntilForm}
use Rattle.fixed_point.specs.declared.variants.UntilForm.TheVariants as untils
use Rattle.formula.specs.Forms.{bounded_at, until_form_at}

pub complement_cut : (w x : Bool) → (w && not (w && x)) ≡ (w && not x)
complement_cut true x = refl
complement_cut false x = refl

pub join_cut : (w x y : Bool) → ((w && x) && (w && y)) ≡ (w && (x && y))
join_cut true x y = refl
join_cut false x y = refl

module _ (lo hi : ℕ) where
  abbrev pub cut : (ℕ → Bool) → ℕ → Bool
  cut p u = within lo hi u && p u

  agrees_ahead : (p : ℕ → Bool) (t : ℕ) → lo ≤ t → AgreeIn t hi (cut p) p
  agrees_ahead p t l u from to = ap (λ (b : Bool). b && p u) (and_from _ _ (le-leb lo u (omega (arith, l, from))) (le-leb u hi to))

  in_window : (t : ℕ) (x y : Bool) → (lo ≤ t → x ≡ y) → (within lo hi t && x) ≡ (within lo hi t && y)
  in_window t x y same =
      elim (cases_Bool (within lo hi t)) [
        | inl e ↦ ap (λ (b : Bool). within lo hi t && b) (same (within_parts lo hi t e).0)
        | inr e ↦ outside (within lo hi t) x y e
      ]
    where
      outside : (w a b : Bool) → w ≡ false → (w && a) ≡ (w && b)
      outside true a b e = absurd (let f : true ≡ false = e in cc)
      outside false a b e = refl

  pub next_cut : (p : ℕ → Bool) (t : ℕ) → (within lo hi t && next_at (cut p) hi t) ≡ (within lo hi t && next_at p hi t)
  next_cut p t = in_window t (next_at (cut p) hi t) (next_at p hi t) (λ l. next_same (cut p) p hi t (agrees_ahead p t l))

  pub eventually_cut : (p : ℕ → Bool) (t : ℕ) → (within lo hi t && eventually_at (cut p) hi t) ≡ (within lo hi t && eventually_at p hi t)
  eventually_cut p t = in_window t (eventually_at (cut p) hi t) (eventually_at p hi t) (λ l. eventually_same (cut p) p hi t (agrees_ahead p t l))

  pub always_cut : (p : ℕ → Bool) (t : ℕ) → (within lo hi t && always_at (cut p) hi t) ≡ (within lo hi t && always_at p hi t)
  always_cut p t = in_window t (always_at (cut p) hi t) (always_at p hi t) (λ l. always_same (cut p) p hi t (agrees_ahead p t l))

  pub bounded_cut : (form : BoundForm) (c : ℕ) (p : ℕ → Bool) (t : ℕ) → (within lo hi t && bounded_at form c (cut p) hi t) ≡ (within lo hi t && bounded_at form c p hi t)
  bounded_cut bounds.Within c p t = in_window t (bounded_at bounds.Within c (cut p) hi t) (bounded_at bounds.Within c p hi t) (λ l. eventually_within_same c (cut p) p hi t (agrees_ahead p t l))
  bounded_cut bounds.After c p t = in_window t (bounded_at bounds.After c (cut p) hi t) (bounded_at bounds.After c p hi t) (λ l. eventually_after_same c (cut p) p hi t (agrees_ahead p t l))
  bounded_cut bounds.Always c p t = in_window t (bounded_at bounds.Always c (cut p) hi t) (bounded_at bounds.Always c p hi t) (λ l. always_for_same c (cut p) p hi t (agrees_ahead p t l))

  pub until_cut : (form : UntilForm) (c : ℕ) (p q : ℕ → Bool) (t : ℕ) → (within lo hi t && until_form_at form c (cut p) (cut q) hi t) ≡ (within lo hi t && until_form_at form c p q hi t)
  until_cut untils.Plain c p q t =
      in_window t (until_form_at untils.Plain c (cut p) (cut q) hi t) (until_form_at untils.Plain c p q hi t) (λ l. until_same (cut p) p (cut q) q hi t (agrees_ahead p t l) (agrees_ahead q t l))
  until_cut untils.Within c p q t =
      in_window t (until_form_at untils.Within c (cut p) (cut q) hi t) (until_form_at untils.Within c p q hi t) (λ l. until_within_same c (cut p) p (cut q) q hi t (agrees_ahead p t l) (agrees_ahead q t l))
  until_cut untils.After c p q t =
      in_window t (until_form_at untils.After c (cut p) (cut q) hi t) (until_form_at untils.After c p q hi t) (λ l. until_after_same c (cut p) p (cut q) q hi t (agrees_ahead p t l) (agrees_ahead q t l))

-- after 0 ticks
pub after_none : (p : ℕ → Bool) (e t : ℕ) → bounded_at bounds.After 0 p e t ≡ eventually_at p e t
after_none p e t = ap (λ (n : ℕ). some_in p n e) (let f : t + 0 ≡ t = omega arith in f)

-- for as many ticks as there are
pub always_for_all : (p : ℕ → Bool) (last e t : ℕ) → e ≤ last → bounded_at bounds.Always last p e t ≡ always_at p e t
always_for_all p last e t l = ap (λ (n : ℕ). all_in p t n) (let f : min (t + last) e ≡ e = omega (arith, l) in f)
