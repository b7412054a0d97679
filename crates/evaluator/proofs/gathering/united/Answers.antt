use Rattle.std.proofs.Common.{◌≡◌, ℕ, true, List, ◌∷◌, ap, subst, ◌∙◌, sym}
use Rattle.std.specs.List.Sorted.{IsStrictlyIncreasing}
use Rattle.relation.specs.Frames.{Frame, IsIn, vars_of_both}
use Rattle.relation.specs.Key.{are_known}
use Rattle.relation.specs.Rows.{Table}
use Rattle.formula.specs.VarSet.{set_has}
use Rattle.formula.specs.Variables.{variables_in}
use Rattle.evaluator.specs.Gathered.{ShareFrame, some_part_has}
use Rattle.evaluator.proofs.GatherLemmas.{alike_frame, alike_later, alike_push, alike_vars, any_has-moved}
use Rattle.evaluator.proofs.VariableLemmas.{ascending_variables, known_variables, same_variables_twice}
use Rattle.evaluator.proofs.gathering.united.Goals as goal

pub unite-requires-clause-left : goal.unite-requires-clause-left
unite-requires-clause-left g c =
    let vars = variables_in (set_has c.args.set) in
    let first = c.in-Some.first in
    let later = c.pop_front.new.self.items in
    let alike = subst (λ (rs : List (Table g.row.S.Denot)). ShareFrame vars c.args.d.now c.args.w.lo c.args.w.hi rs) c.in-Some.ensures.items c.parts.invariant.alike in
    subst (λ (vs : List ℕ). IsStrictlyIncreasing vs) (sym (alike_vars vars c.args.d.now c.args.w.lo c.args.w.hi first later alike)) (ascending_variables (set_has c.args.set))

pub unite-requires-clause-right : goal.unite-requires-clause-right
unite-requires-clause-right g c =
    let vars = variables_in (set_has c.args.set) in
    let first = c.in-Some.first in
    let second = c.in-Some-pop_front.second in
    let rest = c.pop_front-in-Some.new.self.items in
    let split = c.in-Some.ensures.items ∙ ap (λ (rs : List (Table g.row.S.Denot)). first ∷ rs) c.in-Some-pop_front.ensures.items in
    let alike = subst (λ (rs : List (Table g.row.S.Denot)). ShareFrame vars c.args.d.now c.args.w.lo c.args.w.hi rs) split c.parts.invariant.alike in
    let later = alike_later vars c.args.d.now c.args.w.lo c.args.w.hi first (second ∷ rest) alike in
    subst (λ (vs : List ℕ). IsStrictlyIncreasing vs) (sym (alike_vars vars c.args.d.now c.args.w.lo c.args.w.hi second rest later)) (ascending_variables (set_has c.args.set))

pub empty-requires-clause-known : goal.empty-requires-clause-known
empty-requires-clause-known g c =
    subst (λ (vs : List ℕ). are_known c.args.d.now vs ≡ true) (sym c.list.ensures)
    (known_variables c.args.d.now (set_has c.args.set) (λ v l h. c.requires.known v l h))

pub parts-preserved : goal.parts-preserved
parts-preserved g c =
    let member = g.S.TickSet.member in
    let vars = variables_in (set_has c.args.set) in
    let first = c.in-Some.first in
    let second = c.in-Some-pop_front.second in
    let both = c.in_ok-both.both in
    let rest = c.pop_front-in-Some.new.self.items in
    let split = c.in-Some.ensures.items ∙ ap (λ (rs : List (Table g.row.S.Denot)). first ∷ rs) c.in-Some-pop_front.ensures.items in
    let D = c.args.d.now in
    let lo = c.args.w.lo in
    let hi = c.args.w.hi in
    let alike = subst (λ (rs : List (Table g.row.S.Denot)). ShareFrame vars D lo hi rs) split c.parts.invariant.alike in
    let later = alike_later vars D lo hi first (second ∷ rest) alike in
    let in_domains = ap (λ (f : Frame). f.domains) (alike_frame vars D lo hi first (second ∷ rest) alike) in
    record {
      alike = subst (λ (rs : List (Table g.row.S.Denot)). ShareFrame vars D lo hi rs) (sym c.in_ok-push_back.ensures.items)
          (alike_push vars D lo hi rest both (alike_later vars D lo hi second rest later)
          (c.in_ok-both.ensures.vars
          ∙ (λ i. vars_of_both (alike_vars vars D lo hi first (second ∷ rest) alike i) (alike_vars vars D lo hi second rest later i))
          ∙ same_variables_twice (set_has c.args.set))
          (c.in_ok-both.ensures.frame ∙ alike_frame vars D lo hi first (second ∷ rest) alike));
      same = λ b is_in t.
          ap (λ (rs : List (Table g.row.S.Denot)). some_part_has member rs b t) c.in_ok-push_back.ensures.items
          ∙ any_has-moved member first second both rest b t (c.in_ok-both.ensures.ticks b (subst (λ (d : List (List ℕ)). IsIn d b) (sym in_domains) is_in) t)
          ∙ sym (ap (λ (rs : List (Table g.row.S.Denot)). some_part_has member rs b t) split)
          ∙ c.parts.invariant.same b is_in t;
    }
