-- What holds of a journal that accepted commands lead to: names are names, the clock isn't past the last tick, and each
-- registered query has its targets.
use Rattle.std.proofs.Common.{◌≡◌, ◌∙◌, ℕ, ◌+◌, ◌<◌, ◌≤◌, Bool, true, false, ◌&&◌, ◌||◌, not, List, [], ◌∷◌, ◌++◌, length, Option, Some, None, refl, ap, sym, subst, append-nil, arith}
use Rattle.std.proofs.lemmas.Bool.{and_from, and_parts, or_parts}
use Rattle.std.proofs.lemmas.Bool.Decides.{nat_tests}
use Rattle.std.proofs.lemmas.List.Sums.{fold-append}
use Rattle.std.specs.Prelude.{is_none, filter, if◌then◌else◌, nat_le, nat_lt, option_and_then}
use Rattle.std.specs.List.{AllByRecursion, fold, list_all}
use Rattle.case_table.specs.Language.{reserved_words}
use Rattle.case_table.specs.Rows.{code_of}
use Rattle.fixed_point.specs.declared.short_text.TheConstants.{WORD_LIMIT}
use Rattle.ftl_lexer.specs.Cut.{is_word}
use Rattle.exact.specs.First.{first_that_holds, or_else}
use Rattle.exact.proofs.Items.{all_joined}
use Rattle.formula.specs.Resolved.{IsResolved}
use Rattle.formula.specs.Tree.{ResolvedQuery}
use Rattle.formula.specs.declared.kind.QueryKind.{QueryKind}
use Rattle.formula.specs.declared.kind.QueryKind.TheVariants as kinds
use Rattle.formula.specs.declared.limits.TheConstants.{QUERY_LIMIT}
use Rattle.formula_shape.specs.declared.limits.TheConstants.{OBJECT_LIMIT}
use Rattle.geometry.specs.Region.{Region}
use Rattle.tick_set.specs.declared.spans.TheConstants.{LAST_TICK}
use Rattle.history.specs.Catalog.{Catalog, ClassInfo, ObjectInfo, catalog, catalog_after, empty_catalog, has_object, number_of_class, with_new_object}
use Rattle.history.specs.World.{World, world_of}
use Rattle.meaning.specs.Fits.{FitsItsClasses}
use Rattle.ftl_parser.specs.Lawful.{IsLawful}
use Rattle.ftl_parser.specs.Tree.{QueryTree}
use Rattle.ftl_typer.specs.Faults.{faults}
use Rattle.ftl_typer.specs.First.{first_fault, first_found, found_after, nothing_found}
use Rattle.ftl_typer.specs.Resolved.{resolved}
use Rattle.ftl_typer.specs.declared.found.FaultKind.TheVariants as fault_kinds
use Rattle.command_text.specs.declared.refusal.Refusal.TheVariants as refusals
use Rattle.command_text.specs.Journal.{Accepted, clock}
use Rattle.command_text.specs.Shape.{IsPrintable, IsShortName}
use Rattle.command_text.specs.Tree
use Rattle.command_text.specs.Tree.{CommandTree}
use Rattle.line_meaning.specs.Ask.{bindings_asked, has_fault, is_past_span, query_in, span_limit}
use Rattle.line_meaning.specs.FirstFault.{refusal_by_type, register_size_refusal, registered_refusal, type_refusal, unknown_among}
use Rattle.line_meaning.specs.Journal.{regions, regions_of, world, writes, writes_of}
use Rattle.line_meaning.specs.QueryFault.{command_fault, passes_bindings, register_refusal}
use Rattle.line_meaning.specs.Registry.{Known, Registration, has_name, is_registered, known, live_after, registered, registration}
use Rattle.line_meaning.proofs.JournalLemmas.{clock_more, regions_more, registered_more, world_more, writes_more}
use Rattle.line_meaning.proofs.ReachedLemmas.{none_of_both}
use Rattle.line_meaning.proofs.RefusalLemmas.{registered_by_fault}
use Rattle.line_meaning.proofs.ImportLemmas.{classes_kept}
use Rattle.line_meaning.proofs.LoadingLemmas.{clock_by}
use Rattle.replica.specs.Text.{is_free_name}
use Rattle.feeds_laws.proofs.KeyLemmas.{IsNamed, all_mapped}

-- ---- Names

pub short_is_name : (word : List ℕ) → IsShortName word → is_free_name word ≡ true
short_is_name word short =
    let few : nat_le (length word) WORD_LIMIT ≡ true = grind (arith, nat_tests, short.1) in
    and_from (is_word word && nat_le (length word) WORD_LIMIT) (is_none (code_of reserved_words word))
    (and_from (is_word word) (nat_le (length word) WORD_LIMIT) short.0.0 few) (ap (λ (o : Option ℕ). is_none o) short.0.1)

-- a registered query may be told
pub record IsRight (r : Registration) : Type 0 where
  pub named : is_free_name r.name ≡ true
  pub last : r.query.expiry ≤ LAST_TICK
  pub some : 0 < length r.query.query.targets
  pub few : length r.query.query.targets ≤ OBJECT_LIMIT
  pub below : list_all (λ v. nat_lt v (length r.query.query.classes)) r.query.query.targets ≡ true

abbrev pub AreNamed : Catalog → Type 0
AreNamed c = AllByRecursion (λ (k : ClassInfo). is_free_name k.name ≡ true) c.classes

-- it fits the classes and regions of a world
abbrev pub FitsIn : World → Registration → Type 0
FitsIn w r = FitsItsClasses w r.query.query

pub record IsFine (journal : List Accepted) : Type 0 where
  pub objects : AllByRecursion IsNamed (world journal).history.catalog.objects
  pub classes : AreNamed (world journal).history.catalog
  pub regions : AllByRecursion (λ (r : Region). is_free_name r.name ≡ true) (world journal).regions
  pub live : AllByRecursion IsRight (registered journal)
  pub fits : AllByRecursion (FitsIn (world journal)) (registered journal)
  pub last : clock journal ≤ LAST_TICK

-- ---- What a query that is registered asks

-- queries without a fault are right by number
abbrev pub AreRight : Type 0
AreRight = (w : World) (q : QueryTree) → IsLawful q → first_fault (faults w.history.catalog.classes w.regions q) ≡ None
    → IsResolved (resolved w.history.catalog.classes w.regions q) × FitsItsClasses w (resolved w.history.catalog.classes w.regions q)

none_found : (unknown taken wrong past : Option ℕ) →
    option_and_then refusal_by_type (first_found (record { unknown = unknown; taken = taken; kind = wrong; range = past })) ≡ None →
    first_found (record { unknown = unknown; taken = taken; kind = wrong; range = past }) ≡ None
none_found (Some place) taken wrong past none = absurd (cc none)
none_found None (Some place) wrong past none = absurd (cc none)
none_found None None (Some place) past none = absurd (cc none)
none_found None None None (Some place) none = absurd (cc none)
none_found None None None None none = refl

no_fault : (w : World) (q : QueryTree) → type_refusal w q ≡ None → first_fault (faults w.history.catalog.classes w.regions q) ≡ None
no_fault w q none =
    let f = found_after nothing_found (faults w.history.catalog.classes w.regions q) in
    none_found f.unknown f.taken f.kind f.range none

-- a query whose registration nothing refuses
record IsAsked (k : Known) (name : List ℕ) (span : ℕ) (q : QueryTree) : Type 0 where
  new : is_registered k.live name ≡ false
  right : first_fault (faults k.world.history.catalog.classes k.world.regions q) ≡ None
  last : k.now + span ≤ LAST_TICK

by_tests : (unknown taken has wrong range past full many : Bool) →
    first_that_holds (
    (refusals.UnknownName, unknown)
    ∷ (refusals.NameTaken, taken || has)
    ∷ (refusals.WrongKind, wrong)
    ∷ (refusals.TermRange, range)
    ∷ (refusals.SpanRange, past)
    ∷ (refusals.StoreFull, full)
    ∷ (refusals.BindingLimit, many)
    ∷ [])
    ≡ None → (has ≡ false) × (past ≡ false)
by_tests true taken has wrong range past full many none = absurd (cc none)
by_tests false true has wrong range past full many none = absurd (cc none)
by_tests false false true wrong range past full many none = absurd (cc none)
by_tests false false false true range past full many none = absurd (cc none)
by_tests false false false false true past full many none = absurd (cc none)
by_tests false false false false false true full many none = absurd (cc none)
by_tests false false false false false false full many none = (refl, refl)

asked : (k : Known) (name : List ℕ) (span : ℕ) (q : QueryTree) → register_refusal k name span q ≡ None → IsAsked k name span q
asked k name span q none =
    let tests = by_tests (has_fault fault_kinds.UnknownName k.world q) (has_fault fault_kinds.NameTaken k.world q) (is_registered k.live name) (has_fault fault_kinds.WrongKind k.world q)
    (has_fault fault_kinds.TermRange k.world q) (is_past_span k.now span q.formula) (nat_le QUERY_LIMIT (length k.live)) (passes_bindings k (bindings_asked k.world q)) none in
    let order : registered_refusal k name span q ≡ None = sym (registered_by_fault k name span q) ∙ none in
    let first = none_of_both (unknown_among (type_refusal k.world q))
    (or_else (first_that_holds ((refusals.NameTaken, is_registered k.live name) ∷ [])) (or_else (type_refusal k.world q) (register_size_refusal k span q))) order in
    let second = none_of_both (first_that_holds ((refusals.NameTaken, is_registered k.live name) ∷ [])) (or_else (type_refusal k.world q) (register_size_refusal k span q)) first.1 in
    let third = none_of_both (type_refusal k.world q) (register_size_refusal k span q) second.1 in
    let upto = (or_parts (nat_lt (span_limit q.formula) span) (nat_lt LAST_TICK (k.now + span)) tests.1).1 in
    record { new = tests.0; right = no_fault k.world q third.0; last = grind (arith, nat_tests, upto) }

-- ---- One more entry

catalog_more : (journal : List Accepted) (now : ℕ) (c : CommandTree) →
    (world (journal ++ (now, c) ∷ [])).history.catalog ≡ fold catalog_after (world journal).history.catalog (writes_of now c)
catalog_more journal now c = ap catalog (writes_more journal now c) ∙ fold-append catalog_after empty_catalog (writes journal) (writes_of now c)

insert_named : (there : Bool) (c : Catalog) (class : Option ℕ) (name : List ℕ) → is_free_name name ≡ true → AllByRecursion IsNamed c.objects →
    AllByRecursion IsNamed (if there then c else with_new_object c class name).objects
insert_named true c class name named all = all
insert_named false c None name named all = all
insert_named false c (Some number) name named all = all_joined IsNamed c.objects (record { name = name; class = number } ∷ []) all (named, tt)

objects_named : (c : Catalog) (now : ℕ) (x : CommandTree) → IsPrintable x → AllByRecursion IsNamed c.objects → AllByRecursion IsNamed (fold catalog_after c (writes_of now x)).objects
objects_named c now (Tree.Insert class name place sets) printable all = insert_named (has_object c name) c (number_of_class c class) name (short_is_name name printable.1.1.0) all
objects_named c now (Tree.Class name capacity point attributes) printable all = all
objects_named c now x printable all = all

classes_named : (c : Catalog) (now : ℕ) (x : CommandTree) → IsPrintable x → AreNamed c → AreNamed (fold catalog_after c (writes_of now x))
classes_named c now (Tree.Class name capacity point attributes) printable all =
    all_joined (λ (k : ClassInfo). is_free_name k.name ≡ true) c.classes _ all (short_is_name name printable.1.0, tt)
classes_named c now (Tree.Insert class name place sets) printable all =
    subst (AllByRecursion (λ (k : ClassInfo). is_free_name k.name ≡ true)) (sym (classes_kept (has_object c name) (number_of_class c class) c name)) all
classes_named c now x printable all = all

regions_named : (regions : List Region) (x : CommandTree) → IsPrintable x → AllByRecursion (λ (r : Region). is_free_name r.name ≡ true) regions →
    AllByRecursion (λ (r : Region). is_free_name r.name ≡ true) (regions ++ regions_of x)
regions_named regions (Tree.Region name points) printable all = all_joined (λ (r : Region). is_free_name r.name ≡ true) regions _ all (short_is_name name printable.1.0, tt)
regions_named regions x printable all = subst (AllByRecursion (λ (r : Region). is_free_name r.name ≡ true)) (sym (append-nil regions)) all

all_filtered : (P : Registration → Type 0) (test : Registration → Bool) (live : List Registration) → AllByRecursion P live → AllByRecursion P (filter test live)
all_filtered P test [] all = tt
all_filtered P test (r ∷ live) all = by (test r) (all_filtered P test live all.1)
  where
    by : (b : Bool) → AllByRecursion P (filter test live) → AllByRecursion P (if b then r ∷ filter test live else filter test live)
    by true later = (all.0, later)
    by false later = later

pub registration_right : AreRight → (kind : QueryKind) (k : Known) (name : List ℕ) (span : ℕ) (q : QueryTree) → IsShortName name → IsLawful q → register_refusal k name span q ≡ None →
    IsRight (registration kind k.world k.now name span q)
registration_right right kind k name span q short lawful none =
    let is = asked k name span q none in
    let fit = (right k.world q lawful is.right).0 in
    let targets = (query_in k.world q).targets in
    let parts = and_parts (nat_lt 0 (length targets) && nat_le (length targets) OBJECT_LIMIT) (list_all (λ v. nat_lt v (length (query_in k.world q).classes)) targets) fit.targets in
    let sizes = and_parts (nat_lt 0 (length targets)) (nat_le (length targets) OBJECT_LIMIT) parts.0 in
    record {
      named = short_is_name name short;
      last = is.last;
      some = grind (arith, nat_tests, sizes.0);
      few = grind (arith, nat_tests, sizes.1);
      below = parts.1;
    }

registration_fits : AreRight → (kind : QueryKind) (k : Known) (name : List ℕ) (span : ℕ) (q : QueryTree) → IsLawful q → register_refusal k name span q ≡ None →
    FitsIn k.world (registration kind k.world k.now name span q)
registration_fits right kind k name span q lawful none = (right k.world q lawful (asked k name span q none).right).1

live_fits : AreRight → (k : Known) (x : CommandTree) → IsPrintable x → command_fault k x ≡ None → AllByRecursion (FitsIn k.world) k.live →
    AllByRecursion (FitsIn k.world) (live_after k.world k.now k.live x)
live_fits right k (Tree.Watch name span q) printable none all =
    all_joined (FitsIn k.world) k.live _ all (registration_fits right kinds.Watch k name span q printable.1.1.1.lawful none, tt)
live_fits right k (Tree.Keep name span q) printable none all =
    all_joined (FitsIn k.world) k.live _ all (registration_fits right kinds.Keep k name span q printable.1.1.1.lawful none, tt)
live_fits right k (Tree.Drop name) printable none all = all_filtered (FitsIn k.world) (λ r. not (has_name name r)) k.live all
live_fits right k x printable none all = all

-- queries go on fitting where classes and regions are added
abbrev pub GoOnFitting : Type 0
GoOnFitting = (old new : World) (m : List ClassInfo) (n : List Region) → new.history.catalog.classes ≡ old.history.catalog.classes ++ m → new.regions ≡ old.regions ++ n
    → (q : ResolvedQuery) → FitsItsClasses old q → FitsItsClasses new q

classes_grow : (c : Catalog) (now : ℕ) (x : CommandTree) → (more : List ClassInfo) × ((fold catalog_after c (writes_of now x)).classes ≡ c.classes ++ more)
classes_grow c now (Tree.Class name capacity point attributes) = (_, refl)
classes_grow c now (Tree.Insert class name place sets) = ([], classes_kept (has_object c name) (number_of_class c class) c name ∙ sym (append-nil c.classes))
classes_grow c now x = ([], sym (append-nil c.classes))

fits_after : AreRight → GoOnFitting → (journal : List Accepted) (x : CommandTree) → IsPrintable x → command_fault (known journal) x ≡ None → AllByRecursion (FitsIn (world journal)) (registered journal) →
    AllByRecursion (FitsIn (world (journal ++ (clock journal, x) ∷ []))) (registered (journal ++ (clock journal, x) ∷ []))
fits_after right goes journal x printable none fits =
    let new = world (journal ++ (clock journal, x) ∷ []) in
    let g = classes_grow (world journal).history.catalog (clock journal) x in
    let classes : new.history.catalog.classes ≡ (world journal).history.catalog.classes ++ g.0 = ap (λ (c : Catalog). c.classes) (catalog_more journal (clock journal) x) ∙ g.1 in
    subst (AllByRecursion (FitsIn new)) (sym (registered_more journal (clock journal) x))
    (all_mapped (FitsIn (world journal)) (FitsIn new) (λ r. goes (world journal) new g.0 (regions_of x) classes (regions_more journal (clock journal) x) r.query.query)
    (live_after (world journal) (clock journal) (registered journal) x) (live_fits right (known journal) x printable none fits))

live_right : AreRight → (k : Known) (x : CommandTree) → IsPrintable x → command_fault k x ≡ None → AllByRecursion IsRight k.live → AllByRecursion IsRight (live_after k.world k.now k.live x)
live_right right k (Tree.Watch name span q) printable none all =
    all_joined IsRight k.live _ all (registration_right right _ k name span q printable.1.0 printable.1.1.1.lawful none, tt)
live_right right k (Tree.Keep name span q) printable none all =
    all_joined IsRight k.live _ all (registration_right right _ k name span q printable.1.0 printable.1.1.1.lawful none, tt)
live_right right k (Tree.Drop name) printable none all = all_filtered IsRight (λ r. not (has_name name r)) k.live all
live_right right k x printable none all = all

no_tick_past : (past : Bool) → or_else (first_that_holds ((refusals.ClockEnd, past) ∷ [])) None ≡ None → past ≡ false
no_tick_past true none = absurd (cc none)
no_tick_past false none = refl

-- after a command that nothing refuses
pub fine_after : AreRight → GoOnFitting → (journal : List Accepted) (x : CommandTree) → IsPrintable x → command_fault (known journal) x ≡ None → IsFine journal →
    IsFine (journal ++ (clock journal, x) ∷ [])
fine_after right goes journal x printable none fine =
    let now = clock journal in
    let grown = catalog_more journal now x in
    record {
      objects = subst (λ (c : Catalog). AllByRecursion IsNamed c.objects) (sym grown) (objects_named (world journal).history.catalog now x printable fine.objects);
      classes = subst AreNamed (sym grown) (classes_named (world journal).history.catalog now x printable fine.classes);
      regions = subst (AllByRecursion (λ (r : Region). is_free_name r.name ≡ true)) (sym (regions_more journal now x)) (regions_named (regions journal) x printable fine.regions);
      live = subst (AllByRecursion IsRight) (sym (registered_more journal now x)) (live_right right (known journal) x printable none fine.live);
      fits = fits_after right goes journal x printable none fine.fits;
      last = subst (λ (n : ℕ). n ≤ LAST_TICK) (sym (clock_more journal now x)) (clock_by journal x none fine.last);
    }

pub fine_none : IsFine []
fine_none = record { objects = tt; classes = tt; regions = tt; live = tt; fits = tt; last = omega arith }

-- ---- What stays

pub record IsGrown (journal : List Accepted) (x : CommandTree) : Type 0 where
  pub more : List ObjectInfo
  pub is : (world (journal ++ (clock journal, x) ∷ [])).history.catalog.objects ≡ (world journal).history.catalog.objects ++ more

insert_grows : (there : Bool) (c : Catalog) (class : Option ℕ) (name : List ℕ) → (more : List ObjectInfo) × ((if there then c else with_new_object c class name).objects ≡ c.objects ++ more)
insert_grows true c class name = ([], sym (append-nil c.objects))
insert_grows false c None name = ([], sym (append-nil c.objects))
insert_grows false c (Some number) name = (record { name = name; class = number } ∷ [], refl)

objects_grow : (c : Catalog) (now : ℕ) (x : CommandTree) → (more : List ObjectInfo) × ((fold catalog_after c (writes_of now x)).objects ≡ c.objects ++ more)
objects_grow c now (Tree.Insert class name place sets) = insert_grows (has_object c name) c (number_of_class c class) name
objects_grow c now (Tree.Class name capacity point attributes) = ([], sym (append-nil c.objects))
objects_grow c now x = ([], sym (append-nil c.objects))

pub grown_after : (journal : List Accepted) (x : CommandTree) → IsGrown journal x
grown_after journal x =
    let g = objects_grow (world journal).history.catalog (clock journal) x in
    record { more = g.0; is = ap (λ (c : Catalog). c.objects) (catalog_more journal (clock journal) x) ∙ g.1 }

-- the world stays where nothing is written
pub world_stays : (journal : List Accepted) (x : CommandTree) → writes_of (clock journal) x ≡ [] → regions_of x ≡ [] → world (journal ++ (clock journal, x) ∷ []) ≡ world journal
world_stays journal x no_writes no_regions =
    world_more journal (clock journal) x
    ∙ (λ i. world_of ((ap (λ ws. writes journal ++ ws) no_writes ∙ append-nil (writes journal)) i) ((ap (λ rs. regions journal ++ rs) no_regions ∙ append-nil (regions journal)) i))

-- a name that isn't registered yet
pub is_new : (k : Known) (name : List ℕ) (span : ℕ) (q : QueryTree) → register_refusal k name span q ≡ None → is_registered k.live name ≡ false
is_new k name span q none = (asked k name span q none).new
