use Rattle.std.proofs.Common.{ap, sym, ◌∙◌}
use Rattle.std.specs.Prelude.{is_some, unwrap_or}
use Rattle.object_store.specs.declared.fault.StoreFault.TheVariants.{NoMemory}
use Rattle.object_store.specs.Contents.{Contents, state_of}
use Rattle.object_store.specs.Tables.{contents_of}
use Rattle.object_store.proofs.CommandLemmas.{update_unknown}
use Rattle.object_store.proofs.tables.Tables.update.Goals as goal

pub returns-in_default-clause-judged : goal.returns-in_default-clause-judged
returns-in_default-clause-judged c =
    let s : Contents = contents_of c.args.self.now in
    ap (λ fault. unwrap_or fault NoMemory)
    (sym (update_unknown s c.args.name.now (is_some (state_of s c.args.name.now c.args.now)) c.args.place.now c.args.sets.now (sym c.index_of.ensures.index ∙ c.in_default.is)))
