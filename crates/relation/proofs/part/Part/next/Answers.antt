use Rattle.relation.proofs.GroupLemmas.{part_rises}
use Rattle.relation.proofs.part.Part.next.Goals as goal

pub returns : goal.returns
returns g c = λ domains lo hi var part offered.
    c.next_in_rows.ensures (part_rises g.S.TickSet.member domains lo hi var c.args.self.now.vars.now c.args.self.now.place c.args.self.now.rows.now part offered)
