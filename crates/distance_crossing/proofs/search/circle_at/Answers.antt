use Rattle.distance_crossing.proofs.TrialLemmas.{side_most}
use Rattle.distance_crossing.proofs.search.circle_at.Goals as goal

pub least_circle-requires-clause-a_most : goal.least_circle-requires-clause-a_most
least_circle-requires-clause-a_most c =
    side_most c.args.m.now.r c.args.m.now.p c.args.m.now.q c.args.k _ _ c.position-p.ensures c.position-q.ensures c.args.m.now.least c.args.m.now.most c.requires.first

pub least_circle-requires-clause-b_most : goal.least_circle-requires-clause-b_most
least_circle-requires-clause-b_most c =
    side_most c.args.m.now.r c.args.m.now.q c.args.m.now.s c.args.k _ _ c.position-q.ensures c.position-s.ensures c.args.m.now.least c.args.m.now.most c.requires.second

pub least_circle-requires-clause-c_most : goal.least_circle-requires-clause-c_most
least_circle-requires-clause-c_most c =
    side_most c.args.m.now.r c.args.m.now.s c.args.m.now.p c.args.k _ _ c.position-s.ensures c.position-p.ensures c.args.m.now.least c.args.m.now.most c.requires.third
