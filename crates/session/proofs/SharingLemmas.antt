-- A database that several users share, before and after a command of one of them.
use Rattle.std.proofs.Common.{◌≡◌, true, false, Bool, None, Some, refl, sym, ap, ◌∙◌, subst}
use Rattle.std.specs.Prelude.{Result, Ok, Err, IfErr, IfOk}
use Rattle.command_text.specs.declared.fault.CommandFault.{CommandFault}
use Rattle.command_text.specs.declared.fault.CommandFault.TheVariants as stops
use Rattle.command_text.specs.declared.refusal.Refusal.{Refusal}
use Rattle.command_text.specs.Tree
use Rattle.command_text.specs.Tree.{CommandTree}
use Rattle.line_meaning.specs.Step.{Held, fault_of, held}
use Rattle.line_meaning.proofs.IndexLemmas.{plain_fault}
use Rattle.database.specs.declared.database.Database.{Database}
use Rattle.database.specs.Attempt.{Carries}
use Rattle.database.specs.Keeping.{clock_of}
use Rattle.session.specs.declared.next.Next.{Next}
use Rattle.session.specs.declared.sharing.Desk.{Desk}
use Rattle.session.specs.declared.sharing.Shared.{Shared}
use Rattle.session.specs.declared.state.State.{State}
use Rattle.session.specs.Carried.{IsOnData, IsStopped, is_on_data}
use Rattle.session.specs.Sharing.{IsLeftBy, IsRightBeside, IsRightOver, LeavesDatabase, LeavesOthers, changes_data, held_at, user_state}
use Rattle.session.proofs.AnswerLemmas.{kept_on_no_index}

leaves_others : (b : Bool) (c : CommandTree) (old new : Shared) → LeavesDatabase b c old new → (k : Desk) → IsRightOver old k → IsLeftBy b c new k
leaves_others true c old new (changed, last, made) k right = record {
  changed = changed;
  last = last;
  behind = record { before = old.state.database; right = right; made = made };
}
leaves_others false c old new same k right = subst (λ (d : Database). IsRightBeside d k) (sym same) right

database_moved : (b : Bool) (c : CommandTree) (old first last new : Shared) → first.state.database ≡ old.state.database →
    new.state.database ≡ last.state.database → new.changed ≡ last.changed → LeavesDatabase b c first last → LeavesDatabase b c old new
database_moved true c old first last new before after same (changed, is, made) = (
  changed,
  same ∙ is,
  record {
    carries = subst (λ (d : Database). Carries c old.state.database d changed.change) (sym after)
        (subst (λ (d : Database). Carries c d last.state.database changed.change) before made.carries);
    tick = made.tick ∙ ap clock_of before;
  },
)
database_moved false c old first last new before after same stays = after ∙ stays ∙ before

-- so it is of what was done while one of them was at the database
pub left_by_all : {E : Type 0} (c : CommandTree) (old first last new : Shared) (r : Result Next E) → first.state.database ≡ old.state.database →
    new.state.database ≡ last.state.database → new.changed ≡ last.changed → IfOk r (λ next. LeavesDatabase (changes_data next c) c first last) →
    IfOk r (λ next. LeavesOthers next c old new)
left_by_all c old first last new (Ok next) before after same leaves = λ k right.
    leaves_others (changes_data next c) c old new (database_moved (changes_data next c) c old first last new before after same leaves) k right
left_by_all c old first last new (Err fault) before after same leaves = tt

-- ---- A command on data isn't refused where another user's desk follows it

on_data : (c : CommandTree) → is_on_data c ≡ true → IsOnData c
on_data (Tree.Class name capacity point attributes) is = record { kept = refl; other = refl }
on_data (Tree.Region name points) is = record { kept = refl; other = refl }
on_data (Tree.Insert class name place sets) is = record { kept = refl; other = refl }
on_data (Tree.Update name place sets) is = record { kept = refl; other = refl }
on_data (Tree.Remove name) is = record { kept = refl; other = refl }
on_data (Tree.Tick ticks) is = record { kept = refl; other = refl }
on_data c is = absurd (cc)

-- what is held at the desk that came to the database doesn't refuse it
pub never_refused : (c : CommandTree) (d : Database) (k : Desk) (s : State) (new : Held) (r : Result (Unit {0}) CommandFault) → s ≡ user_state d k →
    is_on_data c ≡ true → fault_of (held_at k) c ≡ None → IfErr r (IsStopped c (held s.journal) new) →
    (fault : CommandFault) → r ≡ Err fault → fault ≡ stops.NoMemory
never_refused c d k s new r came is none stopped (stops.NoMemory) failed = refl
never_refused c d k s new r came is none stopped (stops.Refused x) failed =
    let here : IsStopped c (held s.journal) new (stops.Refused x) = subst (λ o. IfErr o (IsStopped c (held s.journal) new)) failed stopped in
    let plain : fault_of (held_at k) c ≡ fault_of (held k.journal) c = plain_fault (held_at k) c (kept_on_no_index c (on_data c is).kept) in
    some_is_none x (sym here.0 ∙ ap (λ (n : State). fault_of (held n.journal) c) came ∙ sym plain ∙ none)
  where
    some_is_none : (y : Refusal) → Some y ≡ None → stops.Refused y ≡ stops.NoMemory
    some_is_none y e = absurd (cc)
