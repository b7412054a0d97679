-- What is answered of tokens, from what the machine, the scan and the sizes say.
use Rattle.ftl_parser.proofs.Names.{◌≡◌, ℕ, ◌+◌, List, Option, None, Some, option_map, Err, refl, sym, ap, ◌∙◌, Lexeme, ParseFault, QueryTree, Piece, pieces, has_long, SpellsQuery, first_unfit, first_too_large, start, parsed, tokens_taken, scan, first_from, ExplainsTokens, ReadsQuery}
use Rattle.ftl_parser.specs.declared.fault.ParseFault.TheVariants as faults
use Rattle.ftl_parser.specs.declared.fault.Size.{Size}
use Rattle.ftl_parser.specs.declared.scan.Coming.TheVariants as comings
use Rattle.ftl_parser.specs.inner.Parses.{Parses}
use Rattle.ftl_parser.proofs.reader.TokenLemmas.{first_from-position}
use Rattle.ftl_parser.proofs.grammar.Found.{found_query}
use Rattle.ftl_parser.proofs.grammar.Stuck.{stuck}
use Rattle.ftl_parser.proofs.grammar.Marks.{first_unfit-scan}
use Rattle.exact.proofs.Items.{map_some}

-- what a map of none came from
map-none : {A B : Type 0} (f : A → B) (o : Option A) → option_map f o ≡ None → o ≡ None
map-none f None h = refl
map-none f (Some x) h = absurd (cc h)

-- tokens that are stuck
pub syntax-explained : (from : ℕ) (tokens : List Lexeme) (e : ParseFault) → Parses from (pieces tokens) (Err e) → ExplainsTokens from tokens e
syntax-explained from tokens (faults.BadSyntax place) h = (tokens_taken start (pieces tokens), h.1, stuck (pieces tokens) h.0)
syntax-explained from tokens (faults.NumberRange place) h = absurd h
syntax-explained from tokens (faults.TooLarge size) h = absurd h
syntax-explained from tokens faults.NoMemory h = tt

unfit-spelled : (from : ℕ) (tokens : List Piece) (q : QueryTree) (d : SpellsQuery q tokens) →
    first_from from (scan comings.Factor tokens) ≡ option_map (λ n. from + n) (first_unfit d)
unfit-spelled from tokens q d = first_from-position from (scan comings.Factor tokens) ∙ ap (option_map (λ n. from + n)) (sym (first_unfit-scan d))

module _ (from : ℕ) (tokens : List Lexeme) (q : QueryTree) (is : parsed start (pieces tokens) ≡ Some q) where
  spelled : SpellsQuery q (pieces tokens)
  spelled = found_query (pieces tokens) q is

  fitting : first_from from (scan comings.Factor (pieces tokens)) ≡ None → first_unfit spelled ≡ None
  fitting fit = map-none (λ m. from + m) (first_unfit spelled) (sym (unfit-spelled from (pieces tokens) q spelled) ∙ fit)

  -- a number that doesn't fit
  pub unfit-explained : (place : ℕ) → first_from from (scan comings.Factor (pieces tokens)) ≡ Some place → ExplainsTokens from tokens (faults.NumberRange place)
  unfit-explained place k =
      let (n, unfit, at) = map_some (λ m. from + m) (first_unfit spelled) place (sym (unfit-spelled from (pieces tokens) q spelled) ∙ k) in
      (n, sym at, record { q = q; spelled = spelled; unfit = unfit })

  -- a size that passes its limit
  pub large-explained : (size : Size) → first_from from (scan comings.Factor (pieces tokens)) ≡ None →
      first_too_large (has_long tokens) q ≡ Some size → ExplainsTokens from tokens (faults.TooLarge size)
  large-explained size fit large = (q, spelled, fitting fit, large)

  -- a query that is read
  pub reads : first_from from (scan comings.Factor (pieces tokens)) ≡ None → first_too_large (has_long tokens) q ≡ None → ReadsQuery tokens q
  reads fit small = record { spelled = spelled; fit = fitting fit; small = small }

pub ruleset judgements = (syntax-explained, unfit-explained, large-explained, reads)
