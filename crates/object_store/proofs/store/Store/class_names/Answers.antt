use Rattle.std.proofs.Common.{◌≡◌, ◌≤◌, [], map, length, sym, ap, subst, ◌∙◌, arith}
use Rattle.std.proofs.lemmas.Bool.Decides.{nat_tests}
use Rattle.std.proofs.lemmas.Grind.{common_steps}
use Rattle.history.specs.Catalog.{ids_of, names}
use Rattle.object_store.specs.Contents.{Contents, catalog_of, ids_in, object_name}
use Rattle.object_store.specs.Tables.{contents_of, members_of}
use Rattle.object_store.proofs.IdLemmas.{ids-told, names-ids}
use Rattle.object_store.proofs.StoreLemmas.{no_class}
use Rattle.object_store.proofs.store.Store.class_names.Goals as goal

pub returns-in-Some-clause-told : goal.returns-in-Some-clause-told
returns-in-Some-clause-told c =
    let s : Contents = contents_of c.self.inside.tables in
    let ids_are : c.ids.result.now ≡ ids_in s.objects c.args.c = grind (arith, common_steps, nat_tests, c.self.invariant.kept.members.each c.args.c) in
    subst (λ (s : Contents). c.ids.result.now ≡ ids_of (catalog_of s) c.args.c) c.self.view_is (ids_are ∙ sym (ids-told s c.args.c))

pub returns-in-Some-clause-names : goal.returns-in-Some-clause-names
returns-in-Some-clause-names c =
    let s : Contents = contents_of c.self.inside.tables in
    let ids_are : c.ids.result.now ≡ ids_in s.objects c.args.c = grind (arith, common_steps, nat_tests, c.self.invariant.kept.members.each c.args.c) in
    subst (λ (s : Contents). map (object_name s.objects) c.ids.result.now ≡ names (catalog_of s) c.args.c) c.self.view_is
    (ap (map (object_name s.objects)) ids_are ∙ names-ids s c.args.c)

pub returns-in-None-clause-ids : goal.returns-in-None-clause-ids
returns-in-None-clause-ids c =
    let past : length (members_of c.self.inside.tables) ≤ c.args.c = grind (arith, nat_tests) in
    subst (λ (s : Contents). [] ≡ ids_in s.objects c.args.c) c.self.view_is
    (sym (no_class (contents_of c.self.inside.tables) (members_of c.self.inside.tables) c.args.c c.self.invariant.kept past))

pub returns-in-None-clause-told : goal.returns-in-None-clause-told
returns-in-None-clause-told c =
    let s : Contents = contents_of c.self.inside.tables in
    let past : length (members_of c.self.inside.tables) ≤ c.args.c = grind (arith, nat_tests) in
    subst (λ (s : Contents). [] ≡ ids_of (catalog_of s) c.args.c) c.self.view_is
    (sym (ids-told s c.args.c ∙ no_class s (members_of c.self.inside.tables) c.args.c c.self.invariant.kept past))

pub returns-in-None-clause-names : goal.returns-in-None-clause-names
returns-in-None-clause-names c =
    let s : Contents = contents_of c.self.inside.tables in
    let past : length (members_of c.self.inside.tables) ≤ c.args.c = grind (arith, nat_tests) in
    subst (λ (s : Contents). [] ≡ names (catalog_of s) c.args.c) c.self.view_is
    (ap (map (object_name s.objects)) (sym (no_class s (members_of c.self.inside.tables) c.args.c c.self.invariant.kept past)) ∙ names-ids s c.args.c)
