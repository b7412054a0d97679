-- A machine over lines in two parts.
use Rattle.std.proofs.Common.{◌≡◌, ℕ, List, [], ◌∷◌, ◌++◌, ◌∙◌, ap, sym, refl, append_assoc, if◌then◌else◌, true, false, arith}
use Rattle.std.proofs.lemmas.Grind.{common_steps}
use Rattle.line_loop.specs.Machine.{Machine, after, replies}
use Rattle.line_loop.specs.Stop.{Point, point_after}

module _ {T : Type 0} (m : Machine T) where
  pub after-done : (s : T) (lines : List (List ℕ)) → m.done s ≡ true → after m s lines ≡ s
  after-done s [] d = refl
  after-done s (line ∷ lines) d = rw d

  pub replies-done : (s : T) (lines : List (List ℕ)) → m.done s ≡ true → replies m s lines ≡ []
  replies-done s [] d = refl
  replies-done s (line ∷ lines) d = rw d

  pub after-append : (s : T) (xs ys : List (List ℕ)) → after m s (xs ++ ys) ≡ after m (after m s xs) ys
  after-append s [] ys = refl
  after-append s (x ∷ xs) ys =
      elim (m.done s) as (λ b. m.done s ≡ b → (if b then s else after m (m.next s x) (xs ++ ys)) ≡ after m (if b then s else after m (m.next s x) xs) ys)
      [ true ↦ λ d. sym (after-done s ys d) | false ↦ λ d. after-append (m.next s x) xs ys ] refl

  pub replies-append : (s : T) (xs ys : List (List ℕ)) → replies m s (xs ++ ys) ≡ replies m s xs ++ replies m (after m s xs) ys
  replies-append s [] ys = refl
  replies-append s (x ∷ xs) ys =
      elim (m.done s) as (λ b. m.done s ≡ b → (if b then [] else m.reply s x ++ replies m (m.next s x) (xs ++ ys))
      ≡ (if b then [] else m.reply s x ++ replies m (m.next s x) xs) ++ replies m (if b then s else after m (m.next s x) xs) ys) [
        | true ↦ λ d. sym (replies-done s ys d)
        | false ↦ λ d. ap (λ r. m.reply s x ++ r) (replies-append (m.next s x) xs ys) ∙ sym (append_assoc (m.reply s x) (replies m (m.next s x) xs) (replies m (after m (m.next s x) xs) ys))
      ] refl

  pub reach-append : (p : Point T) (xs ys : List (List ℕ)) → point_after m p (xs ++ ys) ≡ point_after m (point_after m p xs) ys
  reach-append p xs ys = λ i. record {
    state = after-append p.state xs ys i;
    written = (ap (λ r. p.written ++ r) (replies-append p.state xs ys) ∙ sym (append_assoc p.written (replies m p.state xs) (replies m (after m p.state xs) ys))) i;
  }

  pub reach-none : (p : Point T) → point_after m p [] ≡ p
  reach-none p = grind (arith, common_steps)

  pub reach-done : (p : Point T) (lines : List (List ℕ)) → m.done p.state ≡ true → point_after m p lines ≡ p
  reach-done p lines d = grind (arith, common_steps, after-done p.state lines d, replies-done p.state lines d)
