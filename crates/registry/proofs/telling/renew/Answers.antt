use Rattle.std.proofs.Common.{[], ◌∙◌, append-nil, rules, subst}
use Rattle.reply_text.specs.Begins.{Begins}
use Rattle.reply_text.proofs.BeginLemmas.{begins_more}
use Rattle.registry.proofs.KeyLemmas.{looks_are, told_below}
use Rattle.registry.proofs.telling.renew.Goals as goal

pub push_moves-requires : goal.push_moves-requires
push_moves-requires g c =
    told_below c.store-store.result.now c.args.database.now.store c.args.live.now c.in_ok-fresh.fresh.renewals c.deref.result.now
    c.in_ok-fresh.fresh.object c.args.id c.clock-now.result c.store-store.ensures c.in_ok-fresh.ensures.object
    (c.deref.ensures.value ∙ c.in_ok-moves.ensures) c.requires.there c.requires.before

pub returns-in_err-moves-clause-takes : goal.returns-in_err-moves-clause-takes
returns-in_err-moves-clause-takes g c = record {
  begins = subst (Begins c.args.out.now.items) (append-nil c.args.out.now.items) (begins_more c.args.out.now.items []);
  least = search rules;
  most = looks_are c.store-store.result.now c.args.database.now.store c.args.live.now c.clock-now.result c.args.database.now.clock c.args.id _ _
      c.store-store.ensures c.clock-now.ensures c.in_ok-fresh.ensures.reads.most;
}

pub returns-in_err-push_moves-clause-takes : goal.returns-in_err-push_moves-clause-takes
returns-in_err-push_moves-clause-takes g c = record {
  begins = search rules;
  least = search rules;
  most = looks_are c.store-store.result.now c.args.database.now.store c.args.live.now c.clock-now.result c.args.database.now.clock c.args.id _ _
      c.store-store.ensures c.clock-now.ensures c.in_ok-fresh.ensures.reads.most;
}

pub returns-clause-takes : goal.returns-clause-takes
returns-clause-takes g c = record {
  begins = search rules;
  least = search rules;
  most = looks_are c.store-store.result.now c.args.database.now.store c.args.live.now c.clock-now.result c.args.database.now.clock c.args.id _ _
      c.store-store.ensures c.clock-now.ensures c.in_ok-fresh.ensures.reads.most;
}
