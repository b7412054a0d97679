-- Lemmas for the crates above: desks that are right beside a database.
use Rattle.std.proofs.Common.{◌≡◌, ◌+◌, List, [], map, refl, sym, ap, ◌∙◌, subst, arith}
use Rattle.command_text.specs.Journal.{Accepted, clock, ticks_of}
use Rattle.command_text.specs.Tree.{CommandTree}
use Rattle.history.specs.Catalog.{name_of}
use Rattle.history.specs.Write.{Write}
use Rattle.object_store.specs.Contents.{catalog_of}
use Rattle.plane.specs.Recorded.{last_written}
use Rattle.line_meaning.specs.Journal.{world, writes}
use Rattle.line_meaning.specs.Reached.{AreReached}
use Rattle.line_meaning.specs.Registry.{registered}
use Rattle.line_meaning.specs.Step.{held}
use Rattle.database.specs.declared.database.Database.{Database}
use Rattle.database.specs.Keeping.{Keeps, clock_of}
use Rattle.kept_indexes.specs.declared.indexes.Kept.{Kept}
use Rattle.kept_indexes.specs.Kept.{AreRight, BeginAtLastWrites, entries}
use Rattle.live_queries.specs.Kept.{KeptQuery}
use Rattle.registry.specs.Standing.{Stand, registration_of}
use Rattle.session.specs.declared.sharing.Desk.{Desk}
use Rattle.session.specs.declared.sharing.Shared.{Shared}
use Rattle.session.specs.Sharing.{Awaits, IsBare, IsBehind, IsRightBeside, IsRightOver, IsSameFor, held_at}
use Rattle.session.proofs.ChangeLemmas.{clock_after}

-- ---- A desk without queries and indexes

-- nothing is asked of queries and indexes where there are none
bare_is_right : (d : Database) (journal : List Accepted) (k : Desk) → IsBare journal k → Keeps journal d → registered journal ≡ [] →
    AreReached [] journal → BeginAtLastWrites journal d.store → IsRightBeside d k
bare_is_right d journal k bare keeps none reached begun = record {
  state = record {
    journal_is = refl;
    keeps = subst (λ j. Keeps j d) (sym bare.journal_is) keeps;
    queries = ap (map registration_of) bare.live ∙ sym none ∙ ap registered (sym bare.journal_is);
    stand = subst (λ (ks : List KeptQuery). Stand d ks) (sym bare.live)
        (record { current = λ i x within. absurd (omega arith); fits = λ i x within. absurd (omega arith); entered = λ i x within. absurd (omega arith) });
    reached = subst (AreReached []) (sym bare.journal_is) reached;
  };
  indexed = record {
    begun = subst (λ j. BeginAtLastWrites j d.store) (sym bare.journal_is) begun;
    right = subst (λ (ks : List Kept). AreRight k.journal d.store ks) (sym bare.indexes) (λ i x within. absurd (omega arith));
  };
}

pub bare_held : (journal : List Accepted) (k : Desk) → IsBare journal k → held_at k ≡ held journal
bare_held journal k bare = λ i. record { journal = bare.journal_is i; indexes = entries (bare.indexes i) }

-- beside a desk that is right another without queries and indexes is, whose journal tells the same
pub copied_is_right : (s : Shared) (journal : List Accepted) (first k : Desk) → IsRightOver s first → IsBare journal k → world journal ≡ world first.journal →
    clock journal ≡ clock first.journal → writes journal ≡ writes first.journal → registered journal ≡ [] → AreReached [] journal → IsRightOver s k
copied_is_right s journal first k right bare same-world same-clock same-writes none reached =
    let keeps : Keeps journal s.state.database = record {
      told_is = right.state.keeps.told_is ∙ sym same-world;
      clock_is = right.state.keeps.clock_is ∙ sym same-clock;
      timely = right.state.keeps.timely;
    } in
    bare_is_right s.state.database journal k bare keeps none reached
    (λ id inside. right.indexed.begun id inside ∙ ap (λ (ws : List Write). last_written ws (name_of (catalog_of s.state.database.store) id)) (sym same-writes))

-- ---- While other users follow a change

pub same_is_right : (old new : Shared) (k : Desk) → IsSameFor old new → IsRightOver old k → IsRightOver new k
same_is_right old new k same right = subst (λ (d : Database). IsRightBeside d k) (sym same.database) right

pub same_is_awaited : (c : CommandTree) (old new : Shared) (k : Desk) → IsSameFor old new → Awaits c old k → Awaits c new k
same_is_awaited c old new k same waits = record {
  changed = waits.changed;
  last = same.changed ∙ waits.last;
  behind = subst (λ (d : Database). IsBehind c waits.changed d k) (sym same.database) waits.behind;
}

-- the clock has moved by the ticks of the command
pub awaits_clock : (c : CommandTree) (s : Shared) (k : Desk) → Awaits c s k → clock_of s.state.database ≡ clock k.journal + ticks_of c
awaits_clock c s k waits =
    let before = waits.behind.before in
    let keeps = waits.behind.right.state.keeps in
    clock_after k.journal (clock_of before) c before s.state.database keeps (waits.behind.made.carries.keeps k.journal keeps)
    ∙ ap (λ n. n + ticks_of c) keeps.clock_is
