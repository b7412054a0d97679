use Rattle.std.proofs.Common.{ℕ, List, map, ap, ◌∙◌, subst, sym}
use Rattle.relation.specs.Part.{has_from}
use Rattle.relation.specs.Rows.{AreRows}
use Rattle.relation.proofs.GroupLemmas.{fixed_has, group_part}
use Rattle.relation.proofs.RowLemmas.{ids_rise}
use Rattle.relation.proofs.part.Part.fixed.Goals as goal

pub returns-in-Some-clause-fixed : goal.returns-in-Some-clause-fixed
returns-in-Some-clause-fixed g c = λ domains lo hi part.
    let member = g.S.TickSet.member in
    let p = c.args.self.now in
    let next = c.in-Some.next.now in
    let later = c.in-Some.later.now in
    let opened = subst (λ (vs : List ℕ). AreRows member domains vs lo hi p.place p.rows.now) c.in-Some.ensures.cases.0 part in
    let found = c.group.ensures (ids_rise member domains next later lo hi p.place p.rows.now opened) in
    record {
      rows = group_part member domains lo hi next later p.place c.args.id p.rows.now c.group.result.now opened found;
      same = λ b at t.
          fixed_has member domains lo hi c.args.var c.args.id next later p.place p.rows.now c.group.result.now opened c.if-next-var.true found b at t
          ∙ sym (ap (λ (vs : List ℕ). has_from member p.place p.rows.now (map b vs) t) c.in-Some.ensures.cases.0);
    }
