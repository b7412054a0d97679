-- The rows of AND and UNTIL, where their right part leaves objects out.
use Rattle.std.proofs.Common.{◌≡◌, ℕ, ◌+◌, ◌<◌, ◌≤◌, Bool, true, false, ◌&&◌, ◌||◌, if◌then◌else◌, List, [], length, map, refl, sym, ap, ◌∙◌, subst, inl, inr, arith}
use Rattle.std.proofs.lemmas.Bool.{cases_Bool}
use Rattle.tick_set.specs.Ticks.{within}
use Rattle.formula_shape.specs.Sizes.{nodes}
use Rattle.formula.specs.declared.tree.RAtom.{RAtom}
use Rattle.formula.specs.declared.tree.RTerm.{RTerm}
use Rattle.formula.specs.declared.value.Env.{Env}
use Rattle.formula.specs.Tree.{ResolvedQuery, ResolvedTree}
use Rattle.formula.specs.Variables.{has_variable, variables_in, variables_of}
use Rattle.formula.proofs.CallerLemmas.{variables_same}
use Rattle.meaning.specs.Reads.{query_reads, reads}
use Rattle.meaning.specs.Satisfaction.{Interpretation, sat}
use Rattle.relation.specs.Frames.{Frame, IsIn, frame, frame_of, vars_of_both}
use Rattle.relation.specs.Order.{has_row}
use Rattle.relation.specs.Rows.{Table, has_at, table_has}
use Rattle.evaluator.specs.declared.node.Pairing.{Pairing}
use Rattle.evaluator.specs.declared.node.Pairing.TheVariants as pairings
use Rattle.evaluator.specs.Interpreting.{CanAsk}
use Rattle.evaluator.specs.Rows.{AreRowsOf, reads_upto}
use Rattle.evaluator.specs.inner.Column.{AreForRows, AreRowsBeside}
use Rattle.evaluator.specs.inner.Nodes.{needs_right, ordered_tree, paired_in, paired_tree, turns}
use Rattle.evaluator.proofs.FullLemmas.{sum_none}
use Rattle.evaluator.proofs.NodeLemmas.{paired_cut, paired_has, paired_sat}
use Rattle.evaluator.proofs.OperatorLemmas.{cut}
use Rattle.evaluator.proofs.TickLemmas.{none_led}
use Rattle.evaluator.proofs.VariableLemmas.{both_variables}
use Rattle.exact.proofs.Truths.{and_false, and_swap}

-- ---- AND the other way round

-- the number of a formula's variables
pub count_of : (p : ℕ → Bool) (f : ResolvedTree) (vars : List ℕ) → ((v : ℕ) → v < 4 → p v ≡ has_variable v f) → vars ≡ variables_in p → length vars ≡ length (variables_of f)
count_of p f vars same is = ap length (is ∙ variables_same p (λ v. has_variable v f) same)

or_turned : (a b : Bool) → (a || b) ≡ (b || a)
or_turned true true = refl
or_turned true false = refl
or_turned false true = refl
or_turned false false = refl

sum_turned : (a b : ℕ) → a + b ≡ b + a
sum_turned a b = omega arith

chosen_same : {A : Type 0} (c : Bool) (x y : A) → x ≡ y → (if c then x else y) ≡ y
chosen_same true x y e = e
chosen_same false x y e = refl

moved : {A : Type 0} (k : ResolvedTree → A) (c : Bool) (f g : ResolvedTree) → k (if c then f else g) ≡ (if c then k f else k g)
moved k true f g = refl
moved k false f g = refl

-- what AND's two orders have in common all orders have
ordered_alike : {A : Type 0} (k : ResolvedTree → A) (p : Pairing) (f g : ResolvedTree) → k (paired_tree pairings.And g f) ≡ k (paired_tree pairings.And f g) →
    k (ordered_tree p f g) ≡ k (paired_tree p f g)
ordered_alike k pairings.And f g e = moved k (turns pairings.And f g) (paired_tree pairings.And g f) (paired_tree pairings.And f g) ∙ chosen_same (turns pairings.And f g) _ _ e
ordered_alike k pairings.Or f g e = refl
ordered_alike k (pairings.Until form c) f g e = refl

pub ordered_sat : (j : Interpretation) (x : Env) (e t : ℕ) (p : Pairing) (f g : ResolvedTree) → sat j (ordered_tree p f g) x e t ≡ sat j (paired_tree p f g) x e t
ordered_sat j x e t p f g = ordered_alike (λ h. sat j h x e t) p f g (and_swap (sat j g x e t) (sat j f x e t))

pub ordered_has : (v : ℕ) (p : Pairing) (f g : ResolvedTree) → has_variable v (ordered_tree p f g) ≡ has_variable v (paired_tree p f g)
ordered_has v p f g = ordered_alike (has_variable v) p f g (or_turned (has_variable v g) (has_variable v f))

pub ordered_reads : (size : ℕ → ℕ) (ticks : ℕ) (p : Pairing) (f g : ResolvedTree) → reads size ticks (ordered_tree p f g) ≡ reads size ticks (paired_tree p f g)
ordered_reads size ticks p f g = ordered_alike (reads size ticks) p f g (sum_turned (reads size ticks g) (reads size ticks f))

pub ordered_nodes : (p : Pairing) (f g : ResolvedTree) → nodes (ordered_tree p f g) ≡ nodes (paired_tree p f g)
ordered_nodes p f g = ordered_alike nodes p f g (let e : nodes g + nodes f + 1 ≡ nodes f + nodes g + 1 = omega arith in e)

pub ordered_asks : (j : (ℕ → ℕ) → Interpretation) (P : (ℕ → ℕ) → RAtom → Env → Type 0) (Q : (ℕ → ℕ) → RTerm → Env → Type 0) (domains : List (List ℕ)) (lo hi : ℕ) (x : Env)
    (p : Pairing) (f g : ResolvedTree) → CanAsk j P Q domains lo hi (paired_tree p f g) x → CanAsk j P Q domains lo hi (ordered_tree p f g) x
ordered_asks j P Q domains lo hi x pairings.And f g can = either (turns pairings.And f g)
  where
    either : (c : Bool) → CanAsk j P Q domains lo hi (if c then paired_tree pairings.And g f else paired_tree pairings.And f g) x
    either true = (can.1, can.0)
    either false = can
ordered_asks j P Q domains lo hi x pairings.Or f g can = can
ordered_asks j P Q domains lo hi x (pairings.Until form c) f g can = can

pub ordered_rows : {S : Type 0} (member : S → ℕ → Bool) (j : (ℕ → ℕ) → Interpretation) (domains : List (List ℕ)) (lo hi : ℕ) (x : Env) (p : Pairing) (f g : ResolvedTree) (r : Table S) →
    AreRowsOf member j domains lo hi (ordered_tree p f g) x r → AreRowsOf member j domains lo hi (paired_tree p f g) x r
ordered_rows member j domains lo hi x p f g r are = record {
  ticks = λ b is_in t. are.ticks b is_in t ∙ ap (λ (y : Bool). within lo hi t && y) (ordered_sat (j b) x hi t p f g);
  vars = are.vars ∙ (λ i. variables_in (λ v. ordered_has v p f g i));
  frame = are.frame;
}

-- ---- fewer objects

no_more : (a b m n : ℕ) → m ≡ 0 → n ≡ 0 → a + m ≤ b + n → a ≤ b
no_more a b m n d e h = omega (arith, d, e, h)

-- the law of looks, of a formula alone
pub fewer_reads : ((fewer more : ℕ → ℕ) → ((v : ℕ) → fewer v ≤ more v) → (ticks : ℕ) (q : ResolvedQuery) → query_reads fewer ticks q ≤ query_reads more ticks q) →
    (fewer more : ℕ → ℕ) → ((v : ℕ) → fewer v ≤ more v) → (ticks : ℕ) (f : ResolvedTree) → reads fewer ticks f ≤ reads more ticks f
fewer_reads law fewer more few ticks f =
    no_more (reads fewer ticks f) (reads more ticks f) _ _ (sum_none fewer) (sum_none more) (law fewer more few ticks (record { targets = []; classes = []; formula = f }))

-- ---- looks of both parts, the right one first

pub most_second : (old mid all left right : ℕ) → all ≡ left + right → mid ≤ old + right → mid ≤ old + all
most_second old mid all left right e h = omega (arith, e, h)

pub most_turned : (old mid new all left right : ℕ) → all ≡ left + right → mid ≤ old + right → new ≤ mid + left → new ≤ old + all
most_turned old mid new all left right e h l = omega (arith, e, h, l)

pub most_fewer : (old new few all : ℕ) → few ≤ all → new ≤ old + few → new ≤ old + all
most_fewer old new few all f h = omega (arith, f, h)

-- over the same objects
pub most_over : (lo hi : ℕ) (f : ResolvedTree) (own all : List (List ℕ)) → own ≡ all → (old new : ℕ) → new ≤ old + reads_upto own lo hi f → new ≤ old + reads_upto all lo hi f
most_over lo hi f own all same old new h = subst (λ (ds : List (List ℕ)). new ≤ old + reads_upto ds lo hi f) same h

-- ---- rows

nothing_right : (p : Pairing) → needs_right p ≡ true → (lo hi : ℕ) (g h : ℕ → Bool) → ((u : ℕ) → h u ≡ false) → (t : ℕ) → paired_in p lo hi g h t ≡ false
nothing_right pairings.And needs lo hi g h none t = ap (λ (y : Bool). g t && y) (none t) ∙ and_false (g t)
nothing_right pairings.Or needs lo hi g h none t = absurd (let f : false ≡ true = needs in cc)
nothing_right (pairings.Until form c) needs lo hi g h none t =
    ap (λ (y : Bool). within lo hi t && y) (none_led form c g h none hi t) ∙ and_false (within lo hi t)

module _ {S : Type 0} (member : S → ℕ → Bool) (j : (ℕ → ℕ) → Interpretation) (domains : List (List ℕ)) (lo hi : ℕ) (x : Env) (f : ResolvedTree) (other : Table S) where
  -- rows over fewer objects, widened
  pub beside_few : (few : List (List ℕ)) (near wide : Table S) → AreForRows other domains few → AreRowsOf member j few lo hi f x near →
      ((b : ℕ → ℕ) (t : ℕ) → table_has member wide b t ≡ table_has member near b t) → wide.vars ≡ near.vars → frame wide ≡ frame_of domains lo hi →
      AreRowsBeside member j domains lo hi f x other wide
  beside_few few near wide for are same vars whole = record {
    ticks = λ b is_in here t. same b t ∙ are.ticks b (for.all b is_in here) t;
    vars = vars ∙ are.vars;
    frame = whole;
  }

  -- and those over all objects
  pub beside_all : (made : Table S) → AreRowsOf member j domains lo hi f x made → AreRowsBeside member j domains lo hi f x other made
  beside_all made are = record {
    ticks = λ b is_in here t. are.ticks b is_in t;
    vars = are.vars;
    frame = are.frame;
  }

module _ {S : Type 0} (member : S → ℕ → Bool) (j : (ℕ → ℕ) → Interpretation) (domains : List (List ℕ)) (lo hi : ℕ) (x : Env) (p : Pairing) (needs : needs_right p ≡ true)
    (f g : ResolvedTree) (left right made : Table S) (are : AreRowsBeside member j domains lo hi f x right left) (also : AreRowsOf member j domains lo hi g x right) where
  pub led_rows : ((key : List ℕ) → has_row right.rows key ≡ false → (t : ℕ) → has_at member right.rows key t ≡ false) →
      ((b : ℕ → ℕ) → IsIn left.domains b → (t : ℕ) → table_has member made b t ≡ paired_in p left.lo left.hi (table_has member left b) (table_has member right b) t) →
      made.vars ≡ vars_of_both left.vars right.vars → frame made ≡ frame left → AreRowsOf member j domains lo hi (paired_tree p f g) x made
  led_rows none ticks vars same = record {
    ticks = λ b is_in t.
        ticks b (subst (λ (d : List (List ℕ)). IsIn d b) (sym (ap (λ (z : Frame). z.domains) are.frame)) is_in) t
        ∙ (λ i. paired_in p (ap (λ (z : Frame). z.lo) are.frame i) (ap (λ (z : Frame). z.hi) are.frame i) (table_has member left b) (table_has member right b) t)
        ∙ by_row b is_in t
        ∙ paired_cut lo hi p (sat (j b) f x hi) (sat (j b) g x hi) t
        ∙ ap (λ (y : Bool). within lo hi t && y) (sym (paired_sat (j b) x hi t p f g));
    vars =
        vars
        ∙ (λ i. vars_of_both (are.vars i) (also.vars i))
        ∙ both_variables (λ v. has_variable v f) (λ v. has_variable v g)
        ∙ (λ i. variables_in (λ v. sym (paired_has v p f g) i));
    frame = same ∙ are.frame;
  }
    where
      by_row : (b : ℕ → ℕ) → IsIn domains b → (t : ℕ) → paired_in p lo hi (table_has member left b) (table_has member right b) t ≡ paired_in p lo hi (cut lo hi (sat (j b) f x hi)) (cut lo hi (sat (j b) g x hi)) t
      by_row b is_in t =
          elim (cases_Bool (has_row right.rows (map b right.vars))) [
            | inl e ↦ (λ i. paired_in p lo hi (λ u. are.ticks b is_in e u i) (λ u. also.ticks b is_in u i) t)
            | inr e ↦
                nothing_right p needs lo hi (table_has member left b) (table_has member right b) (none (map b right.vars) e) t
                ∙ sym (nothing_right p needs lo hi (cut lo hi (sat (j b) f x hi)) (cut lo hi (sat (j b) g x hi)) (λ u. sym (also.ticks b is_in u) ∙ none (map b right.vars) e u) t)
          ]
