-- The first refusal of a user's line that doesn't depend on what is held.
use Rattle.std.proofs.Common.{◌≡◌, ℕ, ◌<◌, true, false, Bool, List, Some, refl, ap, ◌∙◌, arith}
use Rattle.std.proofs.lemmas.Bool.Decides.{nat_tests}
use Rattle.std.specs.Prelude.{nat_le, ◌&&◌, ◌||◌, unwrap_or}
use Rattle.command_text.specs.declared.fault.CommandFault.{CommandFault}
use Rattle.command_text.specs.declared.fault.CommandFault.TheVariants as faults
use Rattle.command_text.specs.declared.reading.TheConstants.{LINE_LIMIT}
use Rattle.command_text.specs.declared.refusal.Refusal.TheVariants.{BadSyntax, JournalFull}
use Rattle.command_text.specs.GrammarLaws.{IsReadByTheGrammar}
use Rattle.command_text.specs.Journal.{spelled}
use Rattle.command_text.specs.Line as lines
use Rattle.command_text.specs.Line.{IsRead, first_refusal}
use Rattle.command_text.specs.Tree
use Rattle.command_text.specs.Tree.{CommandTree}
use Rattle.feeds_meaning.specs.declared.limits.TheConstants.{DATA_LINES_LIMIT, QUERY_LINES_LIMIT}
use Rattle.feeds_meaning.specs.Lines.{is_barred, is_data_line, is_query_line}
use Rattle.hub.specs.Judging.{CanBeCounted, ExplainsSent, IsTaken, is_one_too_many, refusal_by_line}
use Rattle.hub.proofs.WordLemmas.{AreCut, data_line, query_line}

-- the command that a line is read as
pub read_is : (limit : ℕ) (line : List ℕ) (c : CommandTree) → IsRead limit line c → spelled line ≡ c
read_is limit line c read = ap (λ o. unwrap_or o Tree.Nothing) read.command

module _ (data_lines query_lines : ℕ) (line : List ℕ) where
  pub limit_explains : is_one_too_many data_lines query_lines line ≡ true → refusal_by_line data_lines query_lines line ≡ Some JournalFull
  limit_explains h = rw h refl

  pub read_explains : (fault : CommandFault) → is_one_too_many data_lines query_lines line ≡ false → lines.Explains LINE_LIMIT line fault →
      ExplainsSent data_lines query_lines line fault
  read_explains (faults.Refused r) h refused = rw (h, refused) refl
  read_explains faults.NoMemory h late = tt

  pub barred_explains : (c : CommandTree) → is_one_too_many data_lines query_lines line ≡ false → IsRead LINE_LIMIT line c → is_barred c ≡ true →
      refusal_by_line data_lines query_lines line ≡ Some BadSyntax
  barred_explains c h read barred =
      let of_line : is_barred (spelled line) ≡ true = ap is_barred (read_is LINE_LIMIT line c read) ∙ barred in
      rw (h, read.taken, of_line) refl

-- one command more than the limit would have the word that is refused
first_within : (is : Bool) (limit count : ℕ) (rest : Bool) → (is && nat_le limit count) || rest ≡ false → is ≡ true → count < limit
first_within true limit count rest h is = grind (arith, nat_tests)
first_within false limit count rest h is = absurd (cc)

second_within : (first is : Bool) (limit count : ℕ) → first || (is && nat_le limit count) ≡ false → is ≡ true → count < limit
second_within true is limit count h e = absurd (cc)
second_within false true limit count h e = grind (arith, nat_tests)
second_within false false limit count h e = absurd (cc)

module _ (data_lines query_lines : ℕ) (line : List ℕ) (c : CommandTree) where
  pub taken_has_room : AreCut line → IsReadByTheGrammar LINE_LIMIT line → IsTaken data_lines query_lines line c → CanBeCounted data_lines query_lines c
  taken_has_room cuts grammar taken = record {
    of_data = λ is. first_within (is_data_line line) DATA_LINES_LIMIT data_lines (is_query_line line && nat_le QUERY_LINES_LIMIT query_lines) taken.within (data_line LINE_LIMIT line c cuts grammar taken.read is);
    of_queries = λ is. second_within (is_data_line line && nat_le DATA_LINES_LIMIT data_lines) (is_query_line line) QUERY_LINES_LIMIT query_lines taken.within (query_line LINE_LIMIT line c cuts grammar taken.read is);
  }
