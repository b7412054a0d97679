use Rattle.std.proofs.Common.{◌∙◌}
use Rattle.std.specs.Str.{bytes_eq}
use Rattle.indexmap.proofs.CallerLemmas.{insert_entry-new}
use Rattle.polygon.proofs.NamedLemmas.{name_is_new, region_added}
use Rattle.polygon.proofs.named.Regions.add.Goals as goal

pub returns-clause-ok : goal.returns-clause-ok
returns-clause-ok c =
    let new = name_is_new c.args.name c.self.inside.polygons.entries c.args.self.now c.self.view_is c.requires.new in
    region_added c.self.inside.polygons.entries _ c.args.self.now c.args.name c.args.p c.self.view_is
    (c.in_ok-insert.ensures.entries ∙ insert_entry-new bytes_eq c.self.inside.polygons c.args.name c.args.p new)
