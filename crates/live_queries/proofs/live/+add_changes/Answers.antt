use Rattle.std.proofs.Common.{◌≡◌, List, ◌++◌, sym, ap, ◌∙◌, subst, rules}
use Rattle.std.specs.Prelude.{OnOk}
use Rattle.std.proofs.lemmas.List.{append-nil, append_assoc}
use Rattle.live_queries.specs.Told.{Told, changes_of}
use Rattle.live_queries.specs.Untouched.{spread}
use Rattle.live_queries.proofs.SpreadLemmas.{next_changes, next_missing, next_ready, next_there, none_change}
use Rattle.live_queries.proofs.live.+add_changes.Goals as goal

pub returns-in_default : goal.returns-in_default
returns-in_default t c =
    sym (ap (λ (ms : List Told). c.args.moves.now.items ++ ms)
    (none_change c.args.prepared.now.object c.args.now c.args.queries.now c.args.prepared.now.touched.now c.args.prepared.now.rest c.in_default.ensures.cases)
    ∙ append-nil c.args.moves.now.items)

pub after-requires : goal.after-requires
after-requires t c =
    next_there c.args.queries.now c.args.queries.now c.args.prepared.now.touched.now c.in-Some.touched.now c.in-Some.first.now c.args.prepared.now.rest
    c.in-Some.ensures.cases.0 c.args.prepared.now.class c.requires

pub returns-in_default-split_first : goal.returns-in_default-split_first
returns-in_default-split_first t c =
    absurd (next_missing c.args.queries.now c.after.result.now c.args.prepared.now.touched.now c.in-Some.touched.now c.in-Some.first.now c.args.prepared.now.rest
    c.in-Some.ensures.cases.0 c.args.prepared.now.class c.requires c.after.ensures c.in_default-split_first.ensures.cases)

pub add_moves-requires : goal.add_moves-requires
add_moves-requires t c =
    (next_ready c.args.queries.now c.after.result.now c.args.prepared.now.touched.now c.in-Some.touched.now c.in-Some.first.now c.args.prepared.now.rest
    c.in-Some.ensures.cases.0 c.args.prepared.now.class c.requires c.after.ensures
    c.in-Some-split_first.query.now c.in-Some-split_first.queries.now c.in-Some-split_first.ensures.cases.0).0.rising

pub add_changes-requires : goal.add_changes-requires
add_changes-requires t c = (
  search rules,
  (next_ready c.args.queries.now c.after.result.now c.args.prepared.now.touched.now c.in-Some.touched.now c.in-Some.first.now c.args.prepared.now.rest
      c.in-Some.ensures.cases.0 c.args.prepared.now.class c.requires c.after.ensures
      c.in-Some-split_first.query.now c.in-Some-split_first.queries.now c.in-Some-split_first.ensures.cases.0).1,
)

pub returns : goal.returns
returns t c =
    subst (λ (ms : List Told). OnOk c.add_changes.result (c.add_changes.new.moves.items ≡ ms))
    (ap (λ (ms : List Told). ms ++ changes_of c.args.prepared.now.object c.args.now c.in-Some-split_first.queries.now (spread c.in-Some.touched.now c.args.prepared.now.rest))
    c.in_ok-add_moves.ensures
    ∙ append_assoc c.args.moves.now.items _ _
    ∙ ap (λ (ms : List Told). c.args.moves.now.items ++ ms)
    (sym (next_changes c.args.queries.now c.after.result.now c.args.prepared.now.touched.now c.in-Some.touched.now c.in-Some.first.now c.args.prepared.now.rest
    c.in-Some.ensures.cases.0 c.after.ensures
    c.in-Some-split_first.query.now c.in-Some-split_first.queries.now c.in-Some-split_first.ensures.cases.0 c.args.prepared.now.object c.args.now)))
    c.add_changes.ensures
