-- What is known of a state is what its journal tells, also with one more entry.
use Rattle.std.proofs.Common.{◌≡◌, ◌≤◌, ℕ, ◌+◌, Bool, true, false, None, List, [], ◌∷◌, ◌++◌, length, map, refl, sym, ap, ◌∙◌, subst, append-nil, arith, if◌then◌else◌}
use Rattle.history.specs.World.{world_of}
use Rattle.fixed_point.specs.declared.short_text.Word.{Word}
use Rattle.command_text.specs.declared.command.Command.{Command}
use Rattle.command_text.specs.declared.command.Command.TheVariants as commands
use Rattle.command_text.specs.Journal.{Accepted, clock, is_kept, ticks_of}
use Rattle.command_text.specs.Shape.{IsPrintable}
use Rattle.command_text.specs.Text.{text_of}
use Rattle.command_text.specs.Tree.{CommandTree, command_view}
use Rattle.session_file.specs.declared.kept.TheConstants.{SESSION_LINE_LIMIT}
use Rattle.line_meaning.specs.Journal.{regions, regions_of, world, writes, writes_of}
use Rattle.line_meaning.specs.Reached.{AreReached}
use Rattle.line_meaning.specs.Registry.{known, live_after, registered}
use Rattle.line_meaning.specs.declared.role.Role.TheVariants.{Telling}
use Rattle.line_meaning.specs.Role.{is_on_queries, role_of}
use Rattle.line_meaning.specs.Step.{fault_of, held}
use Rattle.line_meaning.proofs.JournalLemmas.{clock_more, registered_more, world_more}
use Rattle.line_meaning.proofs.ReachedLemmas.{command_is_reached, writes_are_accepted}
use Rattle.live_queries.specs.Kept.{KeptQuery}
use Rattle.database.specs.declared.database.Database.{Database}
use Rattle.database.specs.Keeping.{Keeps, TellsAcceptedWrites, clock_of}
use Rattle.database.proofs.CallerLemmas.{accepted_is_told}
use Rattle.registry.specs.Standing.{Stand, known_of, registration_of}
use Rattle.session.specs.declared.state.State.{State}
use Rattle.session.specs.State.{IsState}

pub known_is : (journal : List Accepted) (s : State) → IsState journal s → known_of s.database s.live ≡ known journal
known_is journal s is = λ i. record { world = is.keeps.told_is i; now = is.keeps.clock_is i; live = is.queries i }

pub accepted_told : (journal : List Accepted) (d : Database) → Keeps journal d → AreReached [] journal → TellsAcceptedWrites d
accepted_told journal d keeps reached = accepted_is_told journal d keeps (writes_are_accepted journal reached)

-- the line that was printed last is no part of what a state is
pub same_state : (s n : State) → n.journal ≡ s.journal → n.database ≡ s.database → n.live ≡ s.live → IsState s.journal s → IsState n.journal n
same_state s n journal database live is = record {
  journal_is = refl;
  keeps = subst (λ (j : List Accepted). Keeps j n.database) (sym journal) (subst (λ (d : Database). Keeps s.journal d) (sym database) is.keeps);
  queries = ap (map registration_of) live ∙ is.queries ∙ ap registered (sym journal);
  stand = subst (λ (d : Database). Stand d n.live) (sym database) (subst (λ (ks : List KeptQuery). Stand s.database ks) (sym live) is.stand);
  reached = subst (λ (j : List Accepted). AreReached [] j) (sym journal) is.reached;
}

-- ---- one more entry

module _ (journal : List Accepted) (now : ℕ) (c : CommandTree) where
  pub reached_entry : now ≡ clock journal → is_kept c ≡ true → IsPrintable c → length (text_of c) ≤ SESSION_LINE_LIMIT →
      fault_of (held journal) c ≡ None → AreReached [] journal →
      AreReached [] (journal ++ (now, c) ∷ [])
  reached_entry tick kept printable short none reached =
      subst (λ (j : List Accepted). AreReached [] j)
      (ap (λ (k : Bool). journal ++ (if k then (clock journal, c) ∷ [] else [])) kept ∙ ap (λ t. journal ++ (t, c) ∷ []) (sym tick))
      (command_is_reached (held journal) c printable short none reached)

  -- a command that writes nothing and moves no clock
  pub keeps_same : (d : Database) → writes_of now c ≡ [] → regions_of c ≡ [] → ticks_of c ≡ 0 → Keeps journal d →
      Keeps (journal ++ (now, c) ∷ []) d
  keeps_same d no-write no-region no-ticks keeps = record {
    told_is = keeps.told_is ∙ sym (world_more journal now c
        ∙ (λ i. world_of (writes journal ++ no-write i) (regions journal ++ no-region i))
        ∙ (λ i. world_of (append-nil (writes journal) i) (append-nil (regions journal) i)));
    clock_is = let more : clock (journal ++ (now, c) ∷ []) ≡ clock journal + ticks_of c = clock_more journal now c in
        let was : clock_of d ≡ clock journal = keeps.clock_is in omega (arith, more, was, no-ticks);
    timely = keeps.timely;
  }

  pub entered_state : (s n : State) → s.journal ≡ journal → IsState s.journal s → now ≡ clock journal → is_kept c ≡ true → IsPrintable c →
      length (text_of c) ≤ SESSION_LINE_LIMIT → fault_of (held journal) c ≡ None → n.journal ≡ journal ++ (now, c) ∷ [] → Keeps (journal ++ (now, c) ∷ []) n.database →
      map registration_of n.live ≡ live_after (world journal) now (registered journal) c → Stand n.database n.live → IsState n.journal n
  entered_state s n same is tick kept printable short none entered keeps queries stand = record {
    journal_is = refl;
    keeps = subst (λ (j : List Accepted). Keeps j n.database) (sym entered) keeps;
    queries = queries ∙ sym (registered_more journal now c) ∙ ap registered (sym entered);
    stand = stand;
    reached = subst (λ (j : List Accepted). AreReached [] j) (sym entered)
        (reached_entry tick kept printable short none (subst (λ (j : List Accepted). AreReached [] j) same is.reached));
  }

-- a command that tells, and shows no answer of a registered query, is none on them
pub shown : (command : Command) → role_of (command_view command) ≡ Telling → ((name : Word) → command ≡ commands.Show name → ⊥) →
    is_on_queries (command_view command) ≡ false
shown (commands.Show name) telling other = absurd (other name refl)
shown (commands.Watch name span q) telling other = absurd (cc telling)
shown (commands.Keep name span q) telling other = absurd (cc telling)
shown (commands.Drop name) telling other = absurd (cc telling)
shown command telling other = refl
