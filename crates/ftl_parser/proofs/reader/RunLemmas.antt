-- The machine on the tokens of a line, one after the other.
use Rattle.ftl_parser.proofs.Names.{◌≡◌, ℕ, suc, ◌+◌, ◌≤◌, List, length, None, Some, option_and_then, slice_get, refl, sym, ap, ◌∙◌, arith, option_map_or, lexemes, tokens_of, Piece, pieces, pieces_from, State, step_by_token, parsed, tokens_taken, ended_query, start}
use Rattle.ftl_parser.proofs.reader.TokenLemmas.{pieces_from-step, pieces_from-end}

-- a state from which the tokens that are left give what all tokens give
pub record GoesOn (line : List ℕ) (from at : ℕ) (x : State) : Type 0 where
  pub query : parsed x (pieces_from at line) ≡ parsed start (pieces_from from line)
  pub place : at + tokens_taken x (pieces_from at line) ≡ from + tokens_taken start (pieces_from from line)

module _ (line : List ℕ) (from at : ℕ) (x : State) (goes : GoesOn line from at x) where
  -- one more token is taken
  pub goes-on : (p : Piece) (y : State) → slice_get (pieces (lexemes line)) at ≡ Some p → step_by_token x p ≡ Some y → GoesOn line from (at + 1) y
  goes-on p y token takes =
      let tokens = pieces_from-step line at p token in
      let more = pieces_from (at + 1) line in
      record {
        query = sym (ap (λ t. parsed x t) tokens ∙ ap (option_and_then (λ z. parsed z more)) takes) ∙ goes.query;
        place = omega (arith, goes.place, ap (λ t. tokens_taken x t) tokens ∙ ap (λ o. option_map_or (λ z. suc (tokens_taken z more)) o 0) takes);
      }

  -- no token is taken here
  pub stops : (p : Piece) → slice_get (pieces (lexemes line)) at ≡ Some p → step_by_token x p ≡ None →
      (parsed start (pieces_from from line) ≡ None) × (at ≡ from + tokens_taken start (pieces_from from line))
  stops p token none =
      let tokens = pieces_from-step line at p token in
      let more = pieces_from (at + 1) line in
      let zero_taken = ap (λ t. tokens_taken x t) tokens ∙ ap (λ o. option_map_or (λ z. suc (tokens_taken z more)) o 0) none in (
        sym goes.query ∙ (ap (λ t. parsed x t) tokens ∙ ap (option_and_then (λ z. parsed z more)) none),
        omega (arith, goes.place, zero_taken),
      )

  -- all tokens are taken
  pub ends : length (tokens_of line) ≤ at →
      (ended_query x ≡ parsed start (pieces_from from line)) × (at ≡ from + tokens_taken start (pieces_from from line))
  ends past =
      let tokens = pieces_from-end line at past in (
        sym (ap (λ t. parsed x t) tokens) ∙ goes.query,
        omega (arith, goes.place, ap (λ t. tokens_taken x t) tokens),
      )

pub goes-from : (line : List ℕ) (from : ℕ) → GoesOn line from from start
goes-from line from = record { query = refl; place = refl }

pub ruleset run_steps = (goes-on, stops, ends, goes-from)
