use Rattle.std.proofs.Common.{◌≡◌, ◌<◌, List, [], ◌∷◌, ◌++◌, None, length, sym, ap, subst, ◌∙◌}
use Rattle.std.specs.List.{find}
use Rattle.std.specs.Map.{values_of, lookup}
use Rattle.std.specs.Str.{bytes_eq}
use Rattle.history.specs.Catalog.{ClassInfo}
use Rattle.indexmap.proofs.CallerLemmas.{insert_entry-new}
use Rattle.object_store.specs.declared.schema.TheConstants.{CLASS_LIMIT}
use Rattle.object_store.specs.ClassMap.{AreKeyed}
use Rattle.object_store.proofs.ClassLemmas.{entered, lookup_keyed, name_of}
use Rattle.object_store.proofs.schema.Schema.add.Goals as goal

pub invariant_of-self-2 : goal.invariant_of-self-2
invariant_of-self-2 c =
    let es = c.self.inside.classes.entries in
    let k : ClassInfo = c.args.class in
    let fits : length (values_of es) < CLASS_LIMIT = subst (λ (ks : List ClassInfo). length ks < CLASS_LIMIT) (sym c.self.view_is) c.requires.few in
    let absent : find (λ j. bytes_eq k.name (name_of j)) (values_of es) ≡ None = subst (λ (ks : List ClassInfo). find (λ j. bytes_eq k.name (name_of j)) ks ≡ None) (sym c.self.view_is) c.requires.new in
    (entered es c.name.result.now k c.insert.new.self.entries c.self.invariant c.name.ensures.value c.name.ensures.sound fits absent
    (c.in_ok-insert.ensures.entries ∙ insert_entry-new bytes_eq c.self.inside.classes c.name.result.now k
    (ap (λ n. lookup (bytes_eq n) es) c.name.ensures.value ∙ lookup_keyed k.name es c.self.invariant ∙ absent))).0

pub returns-clause-ok : goal.returns-clause-ok
returns-clause-ok c =
    let es = c.self.inside.classes.entries in
    let k : ClassInfo = c.args.class in
    let fits : length (values_of es) < CLASS_LIMIT = subst (λ (ks : List ClassInfo). length ks < CLASS_LIMIT) (sym c.self.view_is) c.requires.few in
    let absent : find (λ j. bytes_eq k.name (name_of j)) (values_of es) ≡ None = subst (λ (ks : List ClassInfo). find (λ j. bytes_eq k.name (name_of j)) ks ≡ None) (sym c.self.view_is) c.requires.new in
    rw (← c.self.view_is) (entered es c.name.result.now k c.insert.new.self.entries c.self.invariant c.name.ensures.value c.name.ensures.sound fits absent
    (c.in_ok-insert.ensures.entries ∙ insert_entry-new bytes_eq c.self.inside.classes c.name.result.now k
    (ap (λ n. lookup (bytes_eq n) es) c.name.ensures.value ∙ lookup_keyed k.name es c.self.invariant ∙ absent))).1

pub returns-clause-sound : goal.returns-clause-sound
returns-clause-sound c =
    let es = c.self.inside.classes.entries in
    let k : ClassInfo = c.args.class in
    let fits : length (values_of es) < CLASS_LIMIT = subst (λ (ks : List ClassInfo). length ks < CLASS_LIMIT) (sym c.self.view_is) c.requires.few in
    let absent : find (λ j. bytes_eq k.name (name_of j)) (values_of es) ≡ None = subst (λ (ks : List ClassInfo). find (λ j. bytes_eq k.name (name_of j)) ks ≡ None) (sym c.self.view_is) c.requires.new in
    (entered es c.name.result.now k c.insert.new.self.entries c.self.invariant c.name.ensures.value c.name.ensures.sound fits absent
    (c.in_ok-insert.ensures.entries ∙ insert_entry-new bytes_eq c.self.inside.classes c.name.result.now k
    (ap (λ n. lookup (bytes_eq n) es) c.name.ensures.value ∙ lookup_keyed k.name es c.self.invariant ∙ absent))).0.classes
