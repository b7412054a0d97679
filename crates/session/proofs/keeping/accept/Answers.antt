use Rattle.std.proofs.Common.{◌≡◌, List, [], ◌∷◌, ◌++◌, refl, sym, ap, ◌∙◌, subst}
use Rattle.std.specs.Prelude.{IfSome}
use Rattle.command_text.specs.Tree.{command_view}
use Rattle.live_queries.specs.Kept.{AreKept, KeptQuery}
use Rattle.live_queries.specs.Prepared.{IsPrepared}
use Rattle.session.specs.Followed.{Settles, lines_told, with_database}
use Rattle.session.proofs.FollowLemmas.{changed_done, changed_state, prepared_is}
use Rattle.session.proofs.KeepLemmas.{keeps_touched}
use Rattle.session.proofs.keeping.accept.Goals as goal

pub settle-requires : goal.settle-requires
settle-requires g c =
    subst (λ (ks : List KeptQuery). IfSome c.in_ok-fresh.fresh (IsPrepared ks)) (sym c.in_ok-fresh.ensures.follows.live)
    (prepared_is (command_view c.args.printed.now.command.now) c.args.changed.now.change c.args.state.now.database c.args.state.now.live c.in_ok-fresh.fresh
    c.in_ok-fresh.ensures.follows.prepared)

pub returns-clause-accepts : goal.returns-clause-accepts
returns-clause-accepts g c =
    let command = command_view c.args.printed.now.command.now in
    record {
      state = changed_state (record {
        goes_on = c.queries_go_on_fitting_worlds.ensures;
        stays = c.writes_to_no_object_keep_queries_current.ensures;
        commits = c.committed_writes_keep_queries_current.ensures;
        renews = c.prepared_writes_renew_queries.ensures;
        tells = c.prepared_changes_tell_what_a_write_changes.ensures;
        passed = c.current_queries_tell_their_answers.ensures.passed;
      })
          (with_database c.args.state.now c.requires.changed.old) c.args.state.now.database c.settle.new.live command c.args.changed.now.change
          c.requires.changed.state c.requires.changed.carries c.requires.data.kept c.requires.data.other c.in_ok-fresh.ensures.follows.accepted
          (subst (λ (ks : List KeptQuery). AreKept ks) c.in_ok-fresh.ensures.follows.live c.settle.ensures.before) c.settle.ensures.after c.in_ok-fresh.fresh
          c.in_ok-fresh.ensures.follows.prepared
          (subst (λ (ks : List KeptQuery). Settles c.in_ok-fresh.fresh ks c.settle.new.live) c.in_ok-fresh.ensures.follows.live c.settle.ensures.made)
          _ c.requires.legible.printable c.requires.legible.short
          (c.in_ok-fresh.ensures.follows.entered ∙ ap (λ t. c.args.state.now.journal ++ (t, command) ∷ []) c.requires.changed.tick)
          c.in_ok-fresh.ensures.follows.database refl;
      indexes = λ before made.
          keeps_touched (with_database c.args.state.now before) _ c.args.state.now.database c.follow.new.state.database command c.args.changed.now.change
          c.follow.new.state.indexes made.carries c.in_ok-fresh.ensures.follows.database
          (c.in_ok-fresh.ensures.follows.entered ∙ ap (λ t. c.args.state.now.journal ++ (t, command) ∷ []) made.tick)
          c.in_ok-fresh.ensures.indexes c.in_ok-fresh.ensures.follows.database c.touch.ensures;
      database = c.in_ok-fresh.ensures.follows.database;
      journal = tt;
      live = tt;
      index_list = tt;
    }

pub returns-clause-carries : goal.returns-clause-carries
returns-clause-carries g c =
    let command = command_view c.args.printed.now.command.now in
    record {
      accepted = changed_done (record {
        goes_on = c.queries_go_on_fitting_worlds.ensures;
        stays = c.writes_to_no_object_keep_queries_current.ensures;
        commits = c.committed_writes_keep_queries_current.ensures;
        renews = c.prepared_writes_renew_queries.ensures;
        tells = c.prepared_changes_tell_what_a_write_changes.ensures;
        passed = c.current_queries_tell_their_answers.ensures.passed;
      })
          (with_database c.args.state.now c.requires.changed.old) c.args.state.now.database c.settle.new.live command c.args.changed.now.change
          c.requires.changed.state c.requires.changed.carries c.requires.data.kept c.requires.data.other c.in_ok-fresh.ensures.follows.accepted
          (subst (λ (ks : List KeptQuery). AreKept ks) c.in_ok-fresh.ensures.follows.live c.settle.ensures.before) c.settle.ensures.after c.in_ok-fresh.fresh
          c.in_ok-fresh.ensures.follows.prepared
          (subst (λ (ks : List KeptQuery). Settles c.in_ok-fresh.fresh ks c.settle.new.live) c.in_ok-fresh.ensures.follows.live c.settle.ensures.made)
          c.follow.new.state.journal c.args.out.now.items c.follow.new.out.items
          (c.in_ok-fresh.ensures.follows.entered ∙ ap (λ t. c.args.state.now.journal ++ (t, command) ∷ []) c.requires.changed.tick)
          (c.in_ok-fresh.ensures.follows.told
          ∙ ap (λ t. c.args.out.now.items ++ lines_told command t c.args.state.now.database c.args.state.now.live c.in_ok-fresh.fresh) c.requires.changed.tick);
      stopped = tt;
      spends = c.in_ok-fresh.ensures.spends;
      free = record { unread = tt; unprobed = tt };
    }
