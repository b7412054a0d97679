-- A database that keeps a journal refuses and answers as the journal says.
use Rattle.std.proofs.Common.{◌≡◌, List, true, ap}
use Rattle.history.specs.Catalog.{empty_catalog}
use Rattle.history.specs.World.{World}
use Rattle.meaning.specs.Accepted.{are_accepted}
use Rattle.command_text.specs.Journal.{Accepted, clock}
use Rattle.command_text.specs.Tree.{CommandTree}
use Rattle.line_meaning.specs.Answering.{answer_lines}
use Rattle.line_meaning.specs.Fault.{fault_among}
use Rattle.line_meaning.specs.Journal.{world, writes}
use Rattle.line_meaning.specs.Looks.{looks_asked}
use Rattle.database.specs.declared.database.Database.{Database}
use Rattle.database.specs.Attempt.{fault_told}
use Rattle.database.specs.Keeping.{clock_of, world_of_database, Keeps, TellsAcceptedWrites}

pub fault_is_told : (journal : List Accepted) (d : Database) (c : CommandTree) → Keeps journal d →
    fault_told d c ≡ fault_among (world journal) (clock journal) c
fault_is_told journal d c k = λ i. fault_among (k.told_is i) (k.clock_is i) c

pub lines_are_told : (journal : List Accepted) (d : Database) (c : CommandTree) → Keeps journal d →
    answer_lines (world_of_database d) (clock_of d) c ≡ answer_lines (world journal) (clock journal) c
lines_are_told journal d c k = λ i. answer_lines (k.told_is i) (k.clock_is i) c

pub looks_are_told : (journal : List Accepted) (d : Database) (c : CommandTree) → Keeps journal d →
    looks_asked (world_of_database d) c ≡ looks_asked (world journal) c
looks_are_told journal d c k = λ i. looks_asked (k.told_is i) c

-- the objects of a journal that steps lead to are those of writes within their limits
pub accepted_is_told : (journal : List Accepted) (d : Database) → Keeps journal d → are_accepted empty_catalog 0 (writes journal) ≡ true →
    TellsAcceptedWrites d
accepted_is_told journal d k accepted = record {
  writes = writes journal;
  accepted = accepted;
  told = ap (λ (w : World). w.history) k.told_is;
}
