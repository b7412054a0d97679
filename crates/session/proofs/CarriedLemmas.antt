-- For this crate and for the crates above: what is done with a command and what it takes, from one moment to the next.
use Rattle.std.proofs.Common.{◌≡◌, ℕ, false, List, [], ◌++◌, refl, sym, ap, ◌∙◌, subst, append-nil, arith}
use Rattle.std.specs.Prelude.{None, Ok, Err}
use Rattle.command_text.specs.declared.fault.CommandFault.{CommandFault}
use Rattle.command_text.specs.declared.fault.CommandFault.TheVariants as stops
use Rattle.command_text.specs.declared.command.Command.{Command}
use Rattle.command_text.specs.declared.command.Command.TheVariants as commands
use Rattle.command_text.specs.Journal.{Accepted, clock}
use Rattle.command_text.specs.Tree
use Rattle.command_text.specs.Tree.{CommandTree, command_view}
use Rattle.fixed_point.specs.declared.short_text.Word.{Word}
use Rattle.line_meaning.specs.declared.role.Role.TheVariants.{Telling}
use Rattle.line_meaning.specs.Answering.{answer_lines, query_lines}
use Rattle.line_meaning.specs.Journal.{world}
use Rattle.line_meaning.specs.Looks.{looks_asked, most_looks}
use Rattle.line_meaning.specs.Registry.{Known, known}
use Rattle.line_meaning.specs.Role.{role_of}
use Rattle.line_meaning.specs.Step.{Held, held}
use Rattle.reply_text.specs.Begins.{Begins}
use Rattle.reply_text.proofs.BeginLemmas.{begins_more}
use Rattle.session.specs.Carried.{CarriesOut, IsAccepted, IsStopped, Moment, Spends}
use Rattle.session.specs.Told.{IsTold}
use Rattle.database.specs.declared.database.Database.{Database}
use Rattle.database.specs.Attempt.{fault_told}
use Rattle.database.specs.Keeping.{Keeps, clock_of, world_of_database}
use Rattle.database.specs.Telling.{Tally, TakesAtMost}
use Rattle.database.proofs.CallerLemmas.{fault_is_told}
use Rattle.session.proofs.FaultLemmas.{data_fault, told_accepted, told_stopped}
use Rattle.session.proofs.KnownLemmas.{shown}

pub begins_same : (before : List ℕ) → Begins before before
begins_same before = subst (Begins before) (append-nil before) (begins_more before [])

-- nothing was done yet
pub spends_nothing : (c : CommandTree) (m : Moment) → Spends c m m
spends_nothing c m = record {
  within = record { begins = begins_same m.tally.said; least = omega arith; most = omega arith };
  plain = λ no. refl;
}

pub stopped_at_once : {T : Type 0} (c : CommandTree) (m : Moment) (fault : CommandFault) → IsStopped c m.holds m.holds fault →
    CarriesOut {T = T} c m m (Err fault)
stopped_at_once c m fault stopped = record {
  accepted = tt;
  stopped = stopped;
  spends = spends_nothing c m;
  free = record { unread = λ _. refl; unprobed = λ _. refl };
}

-- ---- the same of another result

pub accepted_as : {T U : Type 0} (c : CommandTree) (m n : Moment) (x : T) (y : U) → CarriesOut {T = T} c m n (Ok x) → CarriesOut {T = U} c m n (Ok y)
accepted_as c m n x y h = record { accepted = h.accepted; stopped = tt; spends = h.spends; free = record { unread = tt; unprobed = tt } }

pub stopped_as : {T U : Type 0} (c : CommandTree) (m n : Moment) (fault : CommandFault) → CarriesOut {T = T} c m n (Err fault) →
    CarriesOut {T = U} c m n (Err fault)
stopped_as c m n fault h = record {
  accepted = tt;
  stopped = h.stopped;
  spends = h.spends;
  free = record { unread = h.free.unread; unprobed = h.free.unprobed };
}

-- ---- a command that changes nothing, once its lines were written

module _ (journal : List Accepted) (c : CommandTree) (telling : role_of c ≡ Telling) (before mid : List ℕ)
    (told : IsTold journal c before mid) where
  pub told_ends : (after : List ℕ) → after ≡ mid → IsAccepted c (held journal) (held journal) before after
  told_ends after ends = told_accepted journal c telling before after told.right (ends ∙ told.said)

  -- memory was wanting after them
  pub told_lacks : IsStopped c (held journal) (held journal) stops.NoMemory
  told_lacks = told_stopped journal c telling stops.NoMemory told.right

-- no other command tells of registered queries
no_queries : (k : Known) (command : Command) → (command ≡ commands.List → ⊥) → ((name : Word) → command ≡ commands.Show name → ⊥) →
    query_lines k (command_view command) ≡ []
no_queries k commands.List list show = absurd (list refl)
no_queries k (commands.Show name) list show = absurd (show name refl)
no_queries k command list show = refl

looks_are : (h : Held) (c : CommandTree) → role_of c ≡ Telling → looks_asked (world h.journal) c ≡ most_looks h c
looks_are h (Tree.Insert class name place sets) telling = absurd (cc telling)
looks_are h (Tree.Update name place sets) telling = absurd (cc telling)
looks_are h (Tree.Remove name) telling = absurd (cc telling)
looks_are h (Tree.Watch name span q) telling = absurd (cc telling)
looks_are h (Tree.Keep name span q) telling = absurd (cc telling)
looks_are h (Tree.Save file) telling = absurd (cc telling)
looks_are h (Tree.Export class file) telling = absurd (cc telling)
looks_are h (Tree.Range span class attribute least greatest) telling = absurd (cc telling)
looks_are h c telling = refl

module _ (journal : List Accepted) (d : Database) (keeps : Keeps journal d) (command : Command) (telling : role_of (command_view command) ≡ Telling) where
  -- by what the database tells
  pub told_by : (command ≡ commands.List → ⊥) → ((name : Word) → command ≡ commands.Show name → ⊥) → (before after : List ℕ) →
      fault_told d (command_view command) ≡ None → after ≡ before ++ answer_lines (world_of_database d) (clock_of d) (command_view command) →
      IsTold journal (command_view command) before after
  told_by list show before after right said =
      let c : CommandTree = command_view command in
      let lines : List ℕ = answer_lines (world journal) (clock journal) c in
      record {
        right = data_fault (known journal) c (shown command telling show) ∙ sym (fault_is_told journal d c keeps) ∙ right;
        said = said
            ∙ (λ i. before ++ answer_lines (keeps.told_is i) (keeps.clock_is i) c)
            ∙ ap (λ ls. before ++ ls) (sym (append-nil lines))
            ∙ ap (λ qs. before ++ (lines ++ qs)) (sym (no_queries (known journal) command list show));
      }

  pub told_looks : (old new : Tally) → TakesAtMost (looks_asked (world_of_database d) (command_view command)) old new →
      TakesAtMost (most_looks (held journal) (command_view command)) old new
  told_looks old new =
      subst (λ bound. TakesAtMost bound old new)
      ((λ i. looks_asked (keeps.told_is i) (command_view command)) ∙ looks_are (held journal) (command_view command) telling)
