use Rattle.std.proofs.Common.{ap, sym, ◌∙◌}
use Rattle.std.specs.Prelude.{is_some, unwrap_or}
use Rattle.object_store.specs.declared.fault.StoreFault.TheVariants.{NoMemory}
use Rattle.object_store.specs.Contents.{Contents, state_of}
use Rattle.object_store.specs.Tables.{contents_of}
use Rattle.object_store.proofs.CommandLemmas.{insert_unknown}
use Rattle.object_store.proofs.tables.Tables.insert.Goals as goal

pub returns-in_default-clause-judged : goal.returns-in_default-clause-judged
returns-in_default-clause-judged c =
    let s : Contents = contents_of c.args.self.now in
    ap (λ fault. unwrap_or fault NoMemory)
    (sym (insert_unknown s c.args.insertion.now.class.now c.args.insertion.now.name.now (is_some (state_of s c.args.insertion.now.name.now c.args.insertion.now.tick)) c.args.insertion.now.place.now c.args.insertion.now.sets.now (sym c.class_of.ensures ∙ c.in_default.is)))
