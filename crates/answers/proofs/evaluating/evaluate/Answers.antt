use Rattle.std.proofs.Common.{◌≡◌, List, ℕ, ◌+◌, ◌-◌, false, ap, sym, subst, ◌∙◌, arith}
use Rattle.std.specs.Prelude.{IfSome}
use Rattle.std.proofs.lemmas.Bool.{not-true}
use Rattle.tick_set.specs.Ticks.{between}
use Rattle.tick_set.specs.Runs.{spans_have}
use Rattle.formula.specs.Tree.{resolved_view}
use Rattle.narrowing.specs.Narrowed.{Suffice}
use Rattle.narrowing.specs.Needed.{told}
use Rattle.relation.specs.Frames.{Frame}
use Rattle.relation.specs.Key.{has_id, ids_of_variable}
use Rattle.relation.specs.Rows.{table_has}
use Rattle.atoms.specs.Asked.{world_in}
use Rattle.answers.proofs.NarrowLemmas.{never_there, reads_suffice, rows_suffice}
use Rattle.answers.proofs.evaluating.evaluate.Goals as goal

pub returns-clause-rows : goal.returns-clause-rows
returns-clause-rows g c =
    let s = c.args.store.now in
    let regions = c.args.regions.now in
    let q = resolved_view c.args.q.now in
    let suffice : Suffice s regions q c.args.w.lo c.args.w.hi c.args.d.now c.in-Some.some =
    subst (λ found. IfSome found (λ some. Suffice s regions q c.args.w.lo c.args.w.hi c.args.d.now some)) c.in-Some.is c.in_ok-some.ensures in
    let own : c.in_ok-rows-2.rows.domains ≡ c.in-Some.some = ap (λ (f : Frame). f.domains) c.in_ok-rows-2.ensures.frame in
    rows_suffice s regions q c.args.w.lo c.args.w.hi c.args.d.now c.in-Some.some c.requires.domains suffice (λ b t. table_has spans_have c.in_ok-made.made b t)
    (λ b here t. c.in_ok-made.ensures.ticks b t ∙ c.in_ok-rows-2.ensures.rows b here t)
    (λ b t there v among.
    ap (λ (d : List (List ℕ)). has_id (ids_of_variable d v) (b v)) (sym own)
    ∙ c.in_ok-made.ensures.inside b t there v (ap (λ (vars : List ℕ). has_id vars v) c.in_ok-rows-2.ensures.vars ∙ among))

pub returns-clause-reads : goal.returns-clause-reads
returns-clause-reads g c = record {
  least = omega arith;
  most = (reads_suffice c.args.store.now c.args.regions.now (resolved_view c.args.q.now) c.args.w.lo c.args.w.hi c.args.d.now c.in-Some.some c.requires.domains
      (subst (λ found. IfSome found (λ some. Suffice c.args.store.now c.args.regions.now (resolved_view c.args.q.now) c.args.w.lo c.args.w.hi c.args.d.now some)) c.in-Some.is c.in_ok-some.ensures)
      (c.args.w.hi + 1 - c.args.w.lo) _ _ c.in_ok-rows-2.ensures.reads.most);
}

pub returns-in_err-made-clause-reads : goal.returns-in_err-made-clause-reads
returns-in_err-made-clause-reads g c = record {
  least = omega arith;
  most = (reads_suffice c.args.store.now c.args.regions.now (resolved_view c.args.q.now) c.args.w.lo c.args.w.hi c.args.d.now c.in-Some.some c.requires.domains
      (subst (λ found. IfSome found (λ some. Suffice c.args.store.now c.args.regions.now (resolved_view c.args.q.now) c.args.w.lo c.args.w.hi c.args.d.now some)) c.in-Some.is c.in_ok-some.ensures)
      (c.args.w.hi + 1 - c.args.w.lo) _ _ c.in_ok-rows-2.ensures.reads.most);
}

pub returns-in_err-rows-2-clause-reads : goal.returns-in_err-rows-2-clause-reads
returns-in_err-rows-2-clause-reads g c = record {
  least = omega arith;
  most = (reads_suffice c.args.store.now c.args.regions.now (resolved_view c.args.q.now) c.args.w.lo c.args.w.hi c.args.d.now c.in-Some.some c.requires.domains
      (subst (λ found. IfSome found (λ some. Suffice c.args.store.now c.args.regions.now (resolved_view c.args.q.now) c.args.w.lo c.args.w.hi c.args.d.now some)) c.in-Some.is c.in_ok-some.ensures)
      (c.args.w.hi + 1 - c.args.w.lo) _ _ c.in_err-rows-2.ensures.reads.most);
}

pub returns-then-not-can_hold-clause-rows : goal.returns-then-not-can_hold-clause-rows
returns-then-not-can_hold-clause-rows g c b is_in t =
    let never : c.can_hold.result ≡ false = grind (arith, not-true, c.if-not-can_hold.true) in
    c.no_rows.ensures.ticks b t
    ∙ sym (never_there (told c.args.store.now c.args.regions.now) (world_in c.args.store.now c.args.regions.now) (resolved_view c.args.q.now) c.args.w.lo c.args.w.hi b (c.can_hold.ensures never b is_in) t)

pub returns-then-not-can_hold-clause-vars : goal.returns-then-not-can_hold-clause-vars
returns-then-not-can_hold-clause-vars g c = c.no_rows.ensures.vars ∙ ap (between 0) c.requires.domains.many
