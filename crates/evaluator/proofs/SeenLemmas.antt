-- A formula over the ticks that it sees from some of a window's.
use Rattle.std.proofs.Common.{◌≡◌, ℕ, ◌+◌, ◌*◌, ◌-◌, ◌≤◌, min, max, Bool, true, false, not, ◌&&◌, ltb, Option, None, Some, refl, sym, ap, ◌∙◌, inl, inr, arith, length, List}
use Rattle.std.proofs.lemmas.Bool.{cases_lt}
use Rattle.std.proofs.lemmas.Bool.Decides.{nat_tests}
use Rattle.std.proofs.lemmas.Nat.{mul-le}
use Rattle.std.proofs.lemmas.Option.{none-some, same_Some}
use Rattle.fixed_point.specs.declared.variants.BoundForm.{BoundForm}
use Rattle.fixed_point.specs.declared.variants.BoundForm.TheVariants as bounds
use Rattle.fixed_point.specs.declared.variants.UntilForm.{UntilForm}
use Rattle.fixed_point.specs.declared.variants.UntilForm.TheVariants as untils
use Rattle.tick_set.specs.Operators.{until_in}
use Rattle.tick_set.specs.Ticks.{all_in, some_in, within}
use Rattle.tick_set.specs.declared.spans.TheConstants.{LAST_TICK}
use Rattle.tick_set.proofs.Between.{within_from, within_parts}
use Rattle.tick_set.proofs.CallerLemmas.{always_for_seen, eventually_within_seen, until_within_seen}
use Rattle.formula_shape.specs.Shape as shapes
use Rattle.formula.specs.declared.tree.RAtom.{RAtom}
use Rattle.formula.specs.declared.tree.RTerm.{RTerm}
use Rattle.formula.specs.declared.value.Env.{Env}
use Rattle.formula.specs.Forms.{bounded_at, until_form_at}
use Rattle.formula.specs.Reach.{bounded_reach, counted, farther, further, reach, until_reach}
use Rattle.formula.specs.Tree.{ResolvedTree}
use Rattle.formula.specs.Value.{with_value}
use Rattle.meaning.specs.Reads.{atom_variables, choices, looks, made_single, reads, term_variables}
use Rattle.meaning.specs.Satisfaction.{Interpretation, sat}
use Rattle.meaning.proofs.LocalityLemmas.{bound_same, same_either}
use Rattle.evaluator.specs.Interpreting.{CanAsk}
use Rattle.evaluator.specs.inner.ByBinding.{CanAskHere}
use Rattle.evaluator.specs.inner.Seen.{last_seen}
use Rattle.exact.proofs.Naturals.{at_most_itself, sum_within}
use Rattle.exact.proofs.Truths.{both_and}

-- no window goes so far that a count of 32 bits ends before
pub last_counted : (n : Option ℕ) (t e : ℕ) → e ≤ LAST_TICK → last_seen (counted n) t e ≡ last_seen n t e
last_counted None t e most = refl
last_counted (Some n) t e most = omega (arith, most)

-- ---- the reach of parts

record Further (c : ℕ) (part : Option ℕ) (n : ℕ) : Type 0 where
  own : ℕ
  is : part ≡ Some own
  sum : c + own ≡ n

further_parts : (c : ℕ) (part : Option ℕ) (n : ℕ) → further c part ≡ Some n → Further c part n
further_parts c (Some k) n is = record { own = k; is = refl; sum = same_Some (c + k) n is }
further_parts c None n is = absurd (none-some n is)

record Farther (left right : Option ℕ) (n : ℕ) : Type 0 where
  first : ℕ
  second : ℕ
  of_left : left ≡ Some first
  of_right : right ≡ Some second
  left_within : first ≤ n
  right_within : second ≤ n

farther_parts : (left right : Option ℕ) (n : ℕ) → farther left right ≡ Some n → Farther left right n
farther_parts (Some j) (Some k) n is =
    let e : max j k ≡ n = same_Some (max j k) n is in
    record { first = j; second = k; of_left = refl; of_right = refl; left_within = omega (arith, e); right_within = omega (arith, e) }
farther_parts (Some j) None n is = absurd (none-some n is)
farther_parts None right n is = absurd (none-some n is)

-- ---- two last ticks that count, of which a formula sees neither, or the nearer one is the last

module _ (near far : ℕ) (most : near ≤ far) where
  -- what a part with a smaller reach sees
  nearer : (t k n : ℕ) → k ≤ n → min (t + n) far ≤ near → min (t + k) far ≤ near
  nearer t k n less seen = omega (arith, less, seen)

  same_last : (c own n t : ℕ) → c + own ≡ n → min (t + n) far ≤ near → min (t + c) near ≡ min (t + c) far
  same_last c own n t sum seen = omega (arith, sum, seen, most)

  upto_near : (c own n t u : ℕ) → c + own ≡ n → min (t + n) far ≤ near → u ≤ min (t + c) far → u ≤ near
  upto_near c own n t u sum seen upto = omega (arith, sum, seen, upto)

  seen_there : (c own n t u : ℕ) → c + own ≡ n → min (t + n) far ≤ near → u ≤ min (t + c) far → min (u + own) far ≤ near
  seen_there c own n t u sum seen upto = omega (arith, sum, seen, upto)

  bounded_ends : (form : BoundForm) (c : ℕ) (part : Option ℕ) (n : ℕ) → bounded_reach form c part ≡ Some n →
      (g h : ℕ → Bool) (t : ℕ) → min (t + n) far ≤ near →
      ((k : ℕ) → part ≡ Some k → (u : ℕ) → u ≤ near → min (u + k) far ≤ near → g u ≡ h u) →
      bounded_at form c g near t ≡ bounded_at form c h far t
  bounded_ends bounds.Within c part n is g h t seen same =
      let f = further_parts c part n is in
      ap (λ (u : ℕ). some_in g t u) (same_last c f.own n t f.sum seen)
      ∙ eventually_within_seen c g h far t
      (λ u from upto. same f.own f.is u (upto_near c f.own n t u f.sum seen upto) (seen_there c f.own n t u f.sum seen upto))
  bounded_ends bounds.After c part n is g h t seen same = absurd (none-some n is)
  bounded_ends bounds.Always c part n is g h t seen same =
      let f = further_parts c part n is in
      ap (λ (u : ℕ). all_in g t u) (same_last c f.own n t f.sum seen)
      ∙ always_for_seen c g h far t
      (λ u from upto. same f.own f.is u (upto_near c f.own n t u f.sum seen upto) (seen_there c f.own n t u f.sum seen upto))

  until_ends : (form : UntilForm) (c : ℕ) (parts : Option ℕ) (n : ℕ) → until_reach form c parts ≡ Some n →
      (g g' h h' : ℕ → Bool) (t : ℕ) → min (t + n) far ≤ near →
      ((k : ℕ) → parts ≡ Some k → (u : ℕ) → u ≤ near → min (u + k) far ≤ near → g u ≡ g' u) →
      ((k : ℕ) → parts ≡ Some k → (u : ℕ) → u ≤ near → min (u + k) far ≤ near → h u ≡ h' u) →
      until_form_at form c g h near t ≡ until_form_at form c g' h' far t
  until_ends untils.Plain c parts n is g g' h h' t seen guards goals = absurd (none-some n is)
  until_ends untils.Within c parts n is g g' h h' t seen guards goals =
      let f = further_parts c parts n is in
      ap (λ (u : ℕ). until_in g h t u t) (same_last c f.own n t f.sum seen)
      ∙ until_within_seen c g g' h h' far t
      (λ u from upto. guards f.own f.is u (upto_near c f.own n t u f.sum seen upto) (seen_there c f.own n t u f.sum seen upto))
      (λ u from upto. goals f.own f.is u (upto_near c f.own n t u f.sum seen upto) (seen_there c f.own n t u f.sum seen upto))
  until_ends untils.After c parts n is g g' h h' t seen guards goals = absurd (none-some n is)

  next_ends : (own n : ℕ) → 1 + own ≡ n → (g h : ℕ → Bool) (t : ℕ) → min (t + n) far ≤ near → t ≤ near →
      (t + 1 ≤ near → min (t + 1 + own) far ≤ near → g (t + 1) ≡ h (t + 1)) → (ltb t near && g (t + 1)) ≡ (ltb t far && h (t + 1))
  next_ends own n sum g h t seen to same =
      elim (cases_lt t far) [
        | inl below ↦
            (λ i. ltb t near && same (omega (arith, sum, seen, below)) (omega (arith, sum, seen)) i)
            ∙ ap (λ (b : Bool). b && h (t + 1)) (let e : ltb t near ≡ ltb t far = grind (arith, nat_tests, sum, seen, below) in e)
        | inr past ↦
            ap (λ (b : Bool). b && g (t + 1)) (let e : ltb t near ≡ false = grind (arith, nat_tests, most, past) in e)
            ∙ sym (ap (λ (b : Bool). b && h (t + 1)) (let e : ltb t far ≡ false = grind (arith, nat_tests, past) in e))
      ]

  same_ends : (j : Interpretation) (f : ResolvedTree) (n : ℕ) → reach f ≡ Some n → (x : Env) (t : ℕ) → t ≤ near → min (t + n) far ≤ near →
      sat j f x near t ≡ sat j f x far t
  same_ends j (shapes.Truth b) n is x t to seen = refl
  same_ends j (shapes.Atom a) n is x t to seen = refl
  same_ends j (shapes.Not f) n is x t to seen = ap not (same_ends j f n is x t to seen)
  same_ends j (shapes.And f g) n is x t to seen =
      let parts = farther_parts (reach f) (reach g) n is in
      both_and (sat j f x near t) (sat j f x far t) (sat j g x near t) (sat j g x far t)
      (same_ends j f parts.first parts.of_left x t to (nearer t parts.first n parts.left_within seen))
      (same_ends j g parts.second parts.of_right x t to (nearer t parts.second n parts.right_within seen))
  same_ends j (shapes.Or f g) n is x t to seen =
      let parts = farther_parts (reach f) (reach g) n is in
      same_either (sat j f x near t) (sat j f x far t) (sat j g x near t) (sat j g x far t)
      (same_ends j f parts.first parts.of_left x t to (nearer t parts.first n parts.left_within seen))
      (same_ends j g parts.second parts.of_right x t to (nearer t parts.second n parts.right_within seen))
  same_ends j (shapes.Next f) n is x t to seen =
      let part = further_parts 1 (reach f) n is in
      next_ends part.own n part.sum (sat j f x near) (sat j f x far) t seen to (λ upto beyond. same_ends j f part.own part.is x (t + 1) upto beyond)
  same_ends j (shapes.Eventually f) n is x t to seen = absurd (none-some n is)
  same_ends j (shapes.Always f) n is x t to seen = absurd (none-some n is)
  same_ends j (shapes.Bounded form c f) n is x t to seen =
      bounded_ends form c (reach f) n is (sat j f x near) (sat j f x far) t seen (λ k own u upto beyond. same_ends j f k own x u upto beyond)
  same_ends j (shapes.Until form c f g) n is x t to seen =
      until_ends form c (farther (reach f) (reach g)) n is (sat j f x near) (sat j f x far) (sat j g x near) (sat j g x far) t seen
      (λ k own u upto beyond.
      let parts = farther_parts (reach f) (reach g) k own in
      same_ends j f parts.first parts.of_left x u upto (nearer u parts.first k parts.left_within beyond))
      (λ k own u upto beyond.
      let parts = farther_parts (reach f) (reach g) k own in
      same_ends j g parts.second parts.of_right x u upto (nearer u parts.second k parts.right_within beyond))
  same_ends j (shapes.Assign (d, q) f) n is x t to seen =
      bound_same (j.term q x t) (j.term q x t) (λ v. sat j f (with_value x d v) near t) (λ v. sat j f (with_value x d v) far t) refl
      (λ v. same_ends j f n is (with_value x d v) t to seen)

-- where nothing counts after what a formula sees from the last of some ticks, it holds at each of them where it holds by all
sat_seen : (n : Option ℕ) (j : Interpretation) (f : ResolvedTree) → reach f ≡ n → (x : Env) (hi e t : ℕ) → t ≤ hi → hi ≤ e →
    sat j f x (last_seen n hi e) t ≡ sat j f x e t
sat_seen None j f is x hi e t to most = refl
sat_seen (Some n) j f is x hi e t to most =
    same_ends (min (hi + n) e) e (omega arith) j f n is x t (omega (arith, to, most)) (omega (arith, to))

seen_hi : (n : Option ℕ) (hi e : ℕ) → hi ≤ e → hi ≤ last_seen n hi e
seen_hi None hi e most = most
seen_hi (Some n) hi e most = omega (arith, most)

before_last : (n : Option ℕ) (hi e : ℕ) → hi ≤ e → last_seen n hi e ≤ e
before_last None hi e most = omega arith
before_last (Some n) hi e most = omega arith

-- what is seen lies in the window
pub seen_upto : (n : Option ℕ) (hi e upto : ℕ) → hi ≤ e → upto ≡ last_seen n hi e → upto ≤ e
seen_upto n hi e upto most ends = let less = before_last n hi e most in omega (arith, ends, less)

pub seen_from : (lo first from : ℕ) → lo ≤ first → from ≡ first → lo ≤ from
seen_from lo first from begins is = omega (arith, begins, is)

-- ---- the ticks of a section

cut_alike : (w v p q : Bool) → (w ≡ true → (v && p) ≡ q) → (w && (v && p)) ≡ (w && q)
cut_alike true v p q same = same refl
cut_alike false v p q same = refl

-- those that are told of what it sees are those of the whole window
pub section_alike : (j : Interpretation) (f : ResolvedTree) (x : Env) (lo hi e from upto : ℕ) → hi ≤ e → from ≡ lo → upto ≡ last_seen (reach f) hi e → (t : ℕ) →
    (within lo hi t && (within from upto t && sat j f x upto t)) ≡ (within lo hi t && sat j f x e t)
section_alike j f x lo hi e from upto most begins ends t =
    cut_alike (within lo hi t) (within from upto t) (sat j f x upto t) (sat j f x e t)
    (λ inside.
    let parts = within_parts lo hi t inside in
    let far = seen_hi (reach f) hi e most in
    ap (λ (b : Bool). b && sat j f x upto t) (within_from from upto t (omega (arith, begins, parts.0)) (omega (arith, ends, far, parts.1)))
    ∙ ap (λ (u : ℕ). sat j f x u t) ends
    ∙ sat_seen (reach f) j f refl x hi e t parts.1 most)

-- ---- what may be asked over fewer ticks

module _ (j : (ℕ → ℕ) → Interpretation) (P P' : (ℕ → ℕ) → RAtom → Env → Type 0) (Q Q' : (ℕ → ℕ) → RTerm → Env → Type 0)
    (lo hi from upto : ℕ) (begins : lo ≤ from) (ends : upto ≤ hi)
    (atoms : (b : ℕ → ℕ) (a : RAtom) (x : Env) → P b a x → P' b a x)
    (terms : (b : ℕ → ℕ) (q : RTerm) (x : Env) → Q b q x → Q' b q x) where
  within_more : (t : ℕ) → within from upto t ≡ true → within lo hi t ≡ true
  within_more t inside =
      let parts = within_parts from upto t inside in
      within_from lo hi t (omega (arith, begins, parts.0)) (omega (arith, ends, parts.1))

  pub can_ask_fewer : (domains : List (List ℕ)) (f : ResolvedTree) (x : Env) → CanAsk j P Q domains lo hi f x → CanAsk j P' Q' domains from upto f x
  can_ask_fewer domains (shapes.Truth b) x can = tt
  can_ask_fewer domains (shapes.Atom a) x can = λ b is_in. atoms b a x (can b is_in)
  can_ask_fewer domains (shapes.Not f) x can = can_ask_fewer domains f x can
  can_ask_fewer domains (shapes.And f g) x can = (can_ask_fewer domains f x can.0, can_ask_fewer domains g x can.1)
  can_ask_fewer domains (shapes.Or f g) x can = (can_ask_fewer domains f x can.0, can_ask_fewer domains g x can.1)
  can_ask_fewer domains (shapes.Next f) x can = can_ask_fewer domains f x can
  can_ask_fewer domains (shapes.Eventually f) x can = can_ask_fewer domains f x can
  can_ask_fewer domains (shapes.Always f) x can = can_ask_fewer domains f x can
  can_ask_fewer domains (shapes.Bounded form c f) x can = can_ask_fewer domains f x can
  can_ask_fewer domains (shapes.Until form c f g) x can = (can_ask_fewer domains f x can.0, can_ask_fewer domains g x can.1)
  can_ask_fewer domains (shapes.Assign (d, q) f) x can = λ b is_in.
      let own = can b is_in in
      (terms b q x own.0, λ t inside v is. can_ask_fewer domains f (with_value x d v) (own.1 t (within_more t inside) v is))

  pub can_here_fewer : (b : ℕ → ℕ) (f : ResolvedTree) (x : Env) → CanAskHere (j b) (P b) (Q b) lo hi f x → CanAskHere (j b) (P' b) (Q' b) from upto f x
  can_here_fewer b (shapes.Truth c) x can = tt
  can_here_fewer b (shapes.Atom a) x can = atoms b a x can
  can_here_fewer b (shapes.Not f) x can = can_here_fewer b f x can
  can_here_fewer b (shapes.And f g) x can = (can_here_fewer b f x can.0, can_here_fewer b g x can.1)
  can_here_fewer b (shapes.Or f g) x can = (can_here_fewer b f x can.0, can_here_fewer b g x can.1)
  can_here_fewer b (shapes.Next f) x can = can_here_fewer b f x can
  can_here_fewer b (shapes.Eventually f) x can = can_here_fewer b f x can
  can_here_fewer b (shapes.Always f) x can = can_here_fewer b f x can
  can_here_fewer b (shapes.Bounded form c f) x can = can_here_fewer b f x can
  can_here_fewer b (shapes.Until form c f g) x can = (can_here_fewer b f x can.0, can_here_fewer b g x can.1)
  can_here_fewer b (shapes.Assign (d, q) f) x can =
      (terms b q x can.0, λ t inside v is. can_here_fewer b f (with_value x d v) (can.1 t (within_more t inside) v is))

-- ---- looks over fewer ticks

reads_fewer : (few many : ℕ) → few ≤ many → (size : ℕ → ℕ) (f : ResolvedTree) → reads size few f ≤ reads size many f
reads_fewer few many less size (shapes.Truth b) = omega arith
reads_fewer few many less size (shapes.Atom a) = at_most_itself (looks size (atom_variables a))
reads_fewer few many less size (shapes.Not f) = reads_fewer few many less size f
reads_fewer few many less size (shapes.And f g) =
    sum_within (reads size few f) (reads size few g) (reads size many f) (reads size many g) (reads_fewer few many less size f) (reads_fewer few many less size g)
reads_fewer few many less size (shapes.Or f g) =
    sum_within (reads size few f) (reads size few g) (reads size many f) (reads size many g) (reads_fewer few many less size f) (reads_fewer few many less size g)
reads_fewer few many less size (shapes.Next f) = reads_fewer few many less size f
reads_fewer few many less size (shapes.Eventually f) = reads_fewer few many less size f
reads_fewer few many less size (shapes.Always f) = reads_fewer few many less size f
reads_fewer few many less size (shapes.Bounded form c f) = reads_fewer few many less size f
reads_fewer few many less size (shapes.Until form c f g) =
    sum_within (reads size few f) (reads size few g) (reads size many f) (reads size many g) (reads_fewer few many less size f) (reads_fewer few many less size g)
reads_fewer few many less size (shapes.Assign (d, q) f) =
    let vs = term_variables q in
    let part = reads_fewer few many less (made_single size vs) f in
    mul-le (choices size vs) (length vs + few * reads (made_single size vs) few f) (choices size vs) (length vs + many * reads (made_single size vs) many f)
    (at_most_itself (choices size vs))
    (sum_within (length vs) (few * reads (made_single size vs) few f) (length vs) (many * reads (made_single size vs) many f) (at_most_itself (length vs))
    (mul-le few (reads (made_single size vs) few f) many (reads (made_single size vs) many f) less part))

-- those of what is seen of a window
pub section_reads : (size : ℕ → ℕ) (f : ResolvedTree) (lo e first hi from upto : ℕ) → lo ≤ first → hi ≤ e → from ≡ first → upto ≡ last_seen (reach f) hi e →
    reads size (upto + 1 - from) f ≤ reads size (e + 1 - lo) f
section_reads size f lo e first hi from upto begins most is ends =
    let after = seen_from lo first from begins is in
    let before = seen_upto (reach f) hi e upto most ends in
    reads_fewer (upto + 1 - from) (e + 1 - lo) (omega (arith, after, before)) size f

pub most_seen : (old new few many : ℕ) → few ≤ many → new ≤ old + few → new ≤ old + many
most_seen old new few many less h = omega (arith, less, h)
