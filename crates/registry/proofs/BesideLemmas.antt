-- The refusals of a query beside registered ones, by what decides of those.
use Rattle.std.proofs.Common.{◌≡◌, ℕ, ◌<◌, Bool, false, Option, List, length, sym, ap, ◌∙◌, arith}
use Rattle.std.specs.Prelude.{nat_le, sum_by}
use Rattle.std.specs.List.{list_any}
use Rattle.std.specs.Str.{bytes_eq}
use Rattle.std.proofs.lemmas.Bool.Decides.{nat_tests}
use Rattle.std.proofs.lemmas.List.{length-map}
use Rattle.formula.specs.declared.limits.TheConstants.{QUERY_LIMIT}
use Rattle.history.specs.World.{World}
use Rattle.kept_rows.specs.Numbers.{size_of}
use Rattle.command_text.specs.declared.refusal.Refusal.{Refusal}
use Rattle.ftl_parser.specs.Tree.{QueryTree}
use Rattle.line_meaning.specs.Ask.{bindings_asked, is_past_span}
use Rattle.line_meaning.specs.FirstFault.{refusal_in_order, registered_refusal, size_refusal_by, type_refusal}
use Rattle.line_meaning.specs.QueryFault.{bindings_of, passes_beside, register_refusal}
use Rattle.line_meaning.specs.Registry.{Known, is_registered}
use Rattle.line_meaning.proofs.RefusalLemmas.{registered_by_fault}
use Rattle.live_queries.specs.Columns.{column_variables}
use Rattle.live_queries.specs.Kept.{AreKept, KeptQuery}
use Rattle.database.specs.declared.database.Database.{Database}
use Rattle.database.specs.Keeping.{clock_of, world_of_database}
use Rattle.registry.specs.declared.judging.Others.{Others}
use Rattle.registry.specs.Beside.{refusal_beside, size_refusal_beside}
use Rattle.registry.specs.Standing.{Stand, known_of, registration_of}
use Rattle.registry.proofs.NameLemmas.{named_either, registered_is}
use Rattle.registry.proofs.SizeLemmas.{all_bindings}

pub few_count : (n : ℕ) → n < QUERY_LIMIT → nat_le QUERY_LIMIT n ≡ false
few_count n few = grind (arith, nat_tests, few)

pub beside_is : (w : World) (now : ℕ) (others : Others) (span : ℕ) (q : QueryTree) (type : Option Refusal) (taken : Bool) (size : Option Refusal) →
    type_refusal w q ≡ type → others.taken ≡ taken → size ≡ size_refusal_beside w now others span q →
    refusal_beside w now others span q ≡ refusal_in_order type taken size
beside_is w now others span q type taken size a b c = λ i. refusal_in_order (a i) (b i) (sym c i)

-- of what is known of the registered queries
known_beside : (k : Known) (others : Others) (name : List ℕ) (span : ℕ) (q : QueryTree) → others.taken ≡ is_registered k.live name →
    others.count ≡ length k.live →
    ((b : ℕ) → passes_beside b others.bindings ≡ passes_beside b (bindings_of k)) →
    refusal_beside k.world k.now others span q ≡ registered_refusal k name span q
known_beside k others name span q taken count all = λ i. refusal_in_order (type_refusal k.world q) (taken i)
    (size_refusal_by (is_past_span k.now span q.formula) (nat_le QUERY_LIMIT (count i))
    (all (bindings_asked k.world q) i))

pub live_beside : (d : Database) (live : List KeptQuery) → AreKept live → Stand d live → (others : Others) (name : List ℕ) (span : ℕ) (q : QueryTree) →
    others.taken ≡ list_any (λ k. bytes_eq k.name name) live → others.count ≡ length live →
    others.bindings ≡ sum_by (λ k. size_of (column_variables k.columns)) live →
    refusal_beside (world_of_database d) (clock_of d) others span q ≡ register_refusal (known_of d live) name span q
live_beside d live are stand others name span q taken count all =
    known_beside (known_of d live) others name span q (taken ∙ named_either live name ∙ sym (registered_is live name))
    (count ∙ sym (length-map live registration_of))
    (λ b. ap (passes_beside b) (all ∙ all_bindings (world_of_database d) live are.each stand.fits))
    ∙ sym (registered_by_fault (known_of d live) name span q)
