-- The users up to a place were told of a data command.
use Rattle.std.proofs.Common.{◌≡◌, ℕ, zero, suc, ◌+◌, ◌<◌, ◌≤◌, List, [], ◌∷◌, ◌++◌, length, map, take, get_or, refl, sym, ap, ◌∙◌, subst, append-nil, append_assoc, add-one, arith}
use Rattle.std.specs.Prelude.{slice_set}
use Rattle.std.specs.List.{All, flat_map}
use Rattle.std.proofs.lemmas.List.Elements.{All-get_or}
use Rattle.command_text.specs.Tree.{CommandTree}
use Rattle.reply_text.specs.Begins.{Begins}
use Rattle.reply_text.proofs.BeginLemmas.{begins_through}
use Rattle.hub.specs.Told.{HeldUser as Kept}
use Rattle.hub.specs.Told.{AreTold, kept_told, told_kept}

-- so many at the front are changed
abbrev pub changed : {A : Type 0} → (A → A) → ℕ → List A → List A
changed f n [] = []
changed f zero (x ∷ xs) = x ∷ xs
changed f (suc n) (x ∷ xs) = f x ∷ changed f n xs

changed_none : {A : Type 0} (f : A → A) (xs : List A) → changed f 0 xs ≡ xs
changed_none f [] = refl
changed_none f (x ∷ xs) = refl

changed_length : {A : Type 0} (f : A → A) (n : ℕ) (xs : List A) → length (changed f n xs) ≡ length xs
changed_length f n [] = refl
changed_length f zero (x ∷ xs) = refl
changed_length f (suc n) (x ∷ xs) = let later = changed_length f n xs in omega arith

changed_all : {A : Type 0} (f : A → A) (n : ℕ) (xs : List A) → length xs ≤ n → changed f n xs ≡ map f xs
changed_all f n [] all = refl
changed_all f zero (x ∷ xs) all = absurd (omega arith)
changed_all f (suc n) (x ∷ xs) all = ap (λ l. f x ∷ l) (changed_all f n xs (omega arith))

changed_at : {A : Type 0} (f : A → A) (n : ℕ) (xs : List A) (d : A) → get_or (changed f n xs) n d ≡ get_or xs n d
changed_at f n [] d = refl
changed_at f zero (x ∷ xs) d = refl
changed_at f (suc n) (x ∷ xs) d = changed_at f n xs d

changed_more : {A : Type 0} (f : A → A) (n : ℕ) (xs : List A) (d y : A) → n < length xs → y ≡ f (get_or xs n d) →
    slice_set (changed f n xs) n y ≡ changed f (suc n) xs
changed_more f n [] d y inside e = absurd (omega arith)
changed_more f zero (x ∷ xs) d y inside e = let none = sym (changed_none f xs) in λ i. e i ∷ none i
changed_more f (suc n) (x ∷ xs) d y inside e = ap (λ l. f x ∷ l) (changed_more f n xs d y (omega arith) e)

text_more : {A : Type 0} (g : A → List ℕ) (n : ℕ) (xs : List A) (d : A) → n < length xs →
    flat_map g (take (suc n) xs) ≡ flat_map g (take n xs) ++ g (get_or xs n d)
text_more g n [] d inside = absurd (omega arith)
text_more g zero (x ∷ xs) d inside = append-nil (g x)
text_more g (suc n) (x ∷ xs) d inside =
    ap (λ l. g x ++ l) (text_more g n xs d (omega arith)) ∙ sym (append_assoc (g x) (flat_map g (take n xs)) (g (get_or xs n d)))

text_all : {A : Type 0} (g : A → List ℕ) (n : ℕ) (xs : List A) → length xs ≤ n → flat_map g (take n xs) ≡ flat_map g xs
text_all g zero [] all = refl
text_all g (suc n) [] all = refl
text_all g zero (x ∷ xs) all = absurd (omega arith)
text_all g (suc n) (x ∷ xs) all = ap (λ l. g x ++ l) (text_all g n xs (omega arith))

pub record AreToldSoFar (sender own : List ℕ) (c : CommandTree) (place : ℕ) (old now : List Kept) (before after : List ℕ) : Type 0 where
  pub within : place ≤ length old
  pub seats : now ≡ changed (kept_told sender c) place old
  pub said : after ≡ before ++ flat_map (told_kept sender own c) (take place old)
  pub begins : Begins before after

module _ (sender own : List ℕ) (c : CommandTree) (old : List Kept) (before : List ℕ) where
  pub none_told : Begins before before → AreToldSoFar sender own c 0 old old before before
  none_told begins = record {
    within = omega arith;
    seats = sym (changed_none (kept_told sender c) old);
    said = sym (append-nil before);
    begins = begins;
  }

  module _ (place : ℕ) (now : List Kept) (after : List ℕ) (so_far : AreToldSoFar sender own c place old now before after) where
    pub long : length now ≡ length old
    long = ap length so_far.seats ∙ changed_length (kept_told sender c) place old

    pub next_told : (d : Kept) → get_or now place d ≡ get_or old place d
    next_told d = ap (λ l. get_or l place d) so_far.seats ∙ changed_at (kept_told sender c) place old d

    -- what holds of all holds of the next one
    pub holds_next : (P : Kept → Type 0) (d : Kept) → place < length now → All P old → P (get_or now place d)
    holds_next P d inside all =
        let length_is = long in
        let here : P (get_or old place d) = All-get_or P old place d (omega arith) all in
        subst P (sym (next_told d)) here

    pub one_told : (s d t : Kept) (text : List ℕ) → place < length now → s ≡ get_or now place d → t ≡ kept_told sender c s →
        text ≡ after ++ told_kept sender own c s → Begins after text →
        AreToldSoFar sender own c (place + 1) old (slice_set now place t) before text
    one_told s d t text inside is taken said begins =
        let length_is = long in
        let inside_old : place < length old = omega arith in
        let same : s ≡ get_or old place d = is ∙ next_told d in
        let seats : slice_set now place t ≡ changed (kept_told sender c) (suc place) old =
        ap (λ l. slice_set l place t) so_far.seats
        ∙ changed_more (kept_told sender c) place old d t inside_old (taken ∙ ap (kept_told sender c) same) in
        let more : flat_map (told_kept sender own c) (take (suc place) old) ≡ flat_map (told_kept sender own c) (take place old) ++ told_kept sender own c s =
        text_more (told_kept sender own c) place old d inside_old ∙ ap (λ x. flat_map (told_kept sender own c) (take place old) ++ told_kept sender own c x) (sym same) in
        let up : suc place ≡ place + 1 = sym (add-one place) in
        record {
          within = omega arith;
          seats = seats ∙ ap (λ n. changed (kept_told sender c) n old) up;
          said =
              said ∙ ap (λ l. l ++ told_kept sender own c s) so_far.said
              ∙ append_assoc before (flat_map (told_kept sender own c) (take place old)) (told_kept sender own c s)
              ∙ ap (λ l. before ++ l) (sym more ∙ ap (λ n. flat_map (told_kept sender own c) (take n old)) up);
          begins = begins_through before after text so_far.begins begins;
        }

    pub all_told : length now ≤ place → AreTold sender own c old now before after
    all_told end =
        let length_is = long in
        record {
          kept = so_far.seats ∙ changed_all (kept_told sender c) place old (omega arith);
          said = so_far.said ∙ ap (λ l. before ++ l) (text_all (told_kept sender own c) place old (omega arith));
        }
