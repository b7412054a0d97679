-- Tokens that are read as a query are read as no other, and in no other way.
use Rattle.ftl_parser.proofs.Names.{◌≡◌, ℕ, List, refl, sym, ap, ◌∙◌, none-some, ParseFault, QueryTree, Lexeme, pieces, has_long, first_too_large, ExplainsTokens, ReadsQuery, HasUnfit, ReadsOneQuery}
use Rattle.ftl_parser.specs.declared.fault.ParseFault.TheVariants as faults
use Rattle.ftl_parser.proofs.grammar.Drives.{one_query}
use Rattle.ftl_parser.proofs.grammar.Marks.{one_first_unfit}

only_memory : (from : ℕ) (tokens : List Lexeme) (q : QueryTree) → ReadsQuery tokens q → (fault : ParseFault) → ExplainsTokens from tokens fault → fault ≡ faults.NoMemory
only_memory from tokens q read (faults.BadSyntax place) why = absurd (why.2.none q read.spelled)
only_memory from tokens q read (faults.NumberRange place) why =
    let unfit : HasUnfit (pieces tokens) why.0 = why.2 in
    absurd (none-some why.0 (sym read.fit ∙ (one_first_unfit (pieces tokens) q unfit.q read.spelled unfit.spelled ∙ unfit.unfit)))
only_memory from tokens q read (faults.TooLarge size) why =
    let same : q ≡ why.0 = one_query (pieces tokens) q why.0 read.spelled why.1 in
    absurd (none-some size (sym read.small ∙ (ap (first_too_large (has_long tokens)) same ∙ why.3)))
only_memory from tokens q read faults.NoMemory why = refl

pub reads_one_query : ReadsOneQuery
reads_one_query from tokens q read = (λ r other. one_query (pieces tokens) r q other.spelled read.spelled, only_memory from tokens q read)
