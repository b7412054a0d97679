use Rattle.std.proofs.Common.{sym, ◌∙◌, rules}
use Rattle.live_queries.proofs.SpreadLemmas.{behind_kept, next_kept, next_made, next_missing, next_ready, next_there, none_touched}
use Rattle.live_queries.proofs.live.+commit_each.Goals as goal

pub returns-in_default-clause-made : goal.returns-in_default-clause-made
returns-in_default-clause-made t c =
    none_touched c.args.object c.args.class c.args.queries.now c.args.touched.rest.items c.args.rest
    (sym c.args.touched.rest.ok.0 ∙ c.in_default.ensures.cases.0) c.requires.kept c.requires.prepared

pub split_at_mut-queries-requires : goal.split_at_mut-queries-requires
split_at_mut-queries-requires t c =
    next_there c.args.queries.now c.args.queries.now c.args.touched.rest.items c.next.new.self.rest.items c.in-Some.first c.args.rest
    c.in-Some.ensures.cases.0 c.args.class c.requires.prepared

pub returns-in_default-split_first_mut-clause-made : goal.returns-in_default-split_first_mut-clause-made
returns-in_default-split_first_mut-clause-made t c =
    absurd (next_missing c.args.queries.now c.split_at_mut-queries.result.1.now c.args.touched.rest.items c.next.new.self.rest.items c.in-Some.first c.args.rest
    c.in-Some.ensures.cases.0 c.args.class c.requires.prepared c.split_at_mut-queries.ensures.back c.in_default-split_first_mut.ensures.cases)

pub returns-in_default-split_first_mut-clause-kept : goal.returns-in_default-split_first_mut-clause-kept
returns-in_default-split_first_mut-clause-kept t c =
    absurd (next_missing c.args.queries.now c.split_at_mut-queries.result.1.now c.args.touched.rest.items c.next.new.self.rest.items c.in-Some.first c.args.rest
    c.in-Some.ensures.cases.0 c.args.class c.requires.prepared c.split_at_mut-queries.ensures.back c.in_default-split_first_mut.ensures.cases)

pub commit-requires : goal.commit-requires
commit-requires t c =
    (next_ready c.args.queries.now c.split_at_mut-queries.result.1.now c.args.touched.rest.items c.next.new.self.rest.items c.in-Some.first c.args.rest
    c.in-Some.ensures.cases.0 c.args.class c.requires.prepared c.split_at_mut-queries.ensures.back
    c.in-Some-split_first_mut.query.now c.in-Some-split_first_mut.queries.now c.in-Some-split_first_mut.ensures.cases.0).0

pub commit_each-requires : goal.commit_each-requires
commit_each-requires t c = (
  search rules,
  (
    behind_kept c.args.queries.now c.split_at_mut-queries.result.1.now c.args.touched.rest.items c.next.new.self.rest.items c.in-Some.first c.args.rest
        c.in-Some.ensures.cases.0 c.split_at_mut-queries.ensures.back
        c.in-Some-split_first_mut.query.now c.in-Some-split_first_mut.queries.now c.in-Some-split_first_mut.ensures.cases.0 c.requires.kept,
    (next_ready c.args.queries.now c.split_at_mut-queries.result.1.now c.args.touched.rest.items c.next.new.self.rest.items c.in-Some.first c.args.rest
        c.in-Some.ensures.cases.0 c.args.class c.requires.prepared c.split_at_mut-queries.ensures.back
        c.in-Some-split_first_mut.query.now c.in-Some-split_first_mut.queries.now c.in-Some-split_first_mut.ensures.cases.0).1,
  ),
)

pub returns-clause-made : goal.returns-clause-made
returns-clause-made t c =
    next_made c.args.queries.now c.split_at_mut-queries.result.1.now c.args.touched.rest.items c.next.new.self.rest.items c.in-Some.first c.args.rest
    c.in-Some.ensures.cases.0 c.split_at_mut-queries.ensures.back
    c.in-Some-split_first_mut.query.now c.in-Some-split_first_mut.queries.now c.in-Some-split_first_mut.ensures.cases.0 c.requires.kept
    c.split_at_mut-queries.result.0.now c.split_at_mut-queries.ensures.front c.commit.new.self c.commit_each.new.queries
    c.args.object c.args.class c.commit.ensures.made c.commit_each.ensures.made

pub returns-clause-kept : goal.returns-clause-kept
returns-clause-kept t c =
    next_kept c.args.queries.now c.split_at_mut-queries.result.1.now c.args.touched.rest.items c.next.new.self.rest.items c.in-Some.first c.args.rest
    c.in-Some.ensures.cases.0 c.split_at_mut-queries.ensures.back
    c.in-Some-split_first_mut.query.now c.in-Some-split_first_mut.queries.now c.in-Some-split_first_mut.ensures.cases.0 c.requires.kept
    c.split_at_mut-queries.result.0.now c.split_at_mut-queries.ensures.front c.commit.new.self c.commit_each.new.queries
    c.commit.ensures.kept c.commit_each.ensures.kept
