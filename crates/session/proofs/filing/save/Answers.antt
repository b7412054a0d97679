use Rattle.std.proofs.Common.{◌≤◌, refl, subst}
use Rattle.tick_set.specs.declared.spans.TheConstants.{LAST_TICK}
use Rattle.session.proofs.FileLemmas.{save_lacks}
use Rattle.session.proofs.filing.save.Goals as goal

pub save_text-requires : goal.save_text-requires
save_text-requires g c =
    subst (λ n. n ≤ LAST_TICK) c.requires.keeps.clock_is c.requires.keeps.timely.in_range

pub returns-in-Err-clause-applied : goal.returns-in-Err-clause-applied
returns-in-Err-clause-applied g c =
    save_lacks (g.F.Shelf.texts c.args.shelf.now) (g.F.Shelf.texts c.args.shelf.now) c.args.state.now.journal c.args.file.now c.args.out.now.items refl
