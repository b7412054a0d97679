use Rattle.std.proofs.Common.{subst}
use Rattle.std.specs.Prelude.{OnOk}
use Rattle.history.specs.Write.{Class}
use Rattle.object_store.specs.Contents.{Contents}
use Rattle.object_store.specs.Effects.{with_class}
use Rattle.object_store.specs.StandsFor.{GrowsBy}
use Rattle.object_store.specs.Tables.{contents_of}
use Rattle.object_store.proofs.StoreLemmas.{class_stands}
use Rattle.object_store.proofs.WriteLemmas.{stands_class}
use Rattle.object_store.proofs.store.Store.add_class.Goals as goal

pub returns-clause-stands : goal.returns-clause-stands
returns-clause-stands c =
    let s : Contents = contents_of c.self.inside.tables in
    subst (λ (s : Contents). OnOk c.add_class.result (GrowsBy s (contents_of c.add_class.new.self) (Class c.args.name c.args.capacity c.args.point c.args.attrs.now))) c.self.view_is
    (class_stands c.add_class.result s (with_class s c.args.name c.args.capacity c.args.point c.args.attrs.now) (contents_of c.add_class.new.self)
    (Class c.args.name c.args.capacity c.args.point c.args.attrs.now) c.add_class.ensures.ok
    (stands_class s c.args.name c.args.capacity c.args.point c.args.attrs.now))
