-- What a command leaves of one session, by what carrying it out does.
use Rattle.std.specs.Prelude.{◌&&◌}
use Rattle.std.proofs.Common.{◌≡◌, ℕ, true, false, Bool, List, [], ◌++◌, None, Some, refl, sym, ap, ◌∙◌, subst, append_assoc}
use Rattle.command_text.specs.declared.refusal.Refusal.{Refusal}
use Rattle.command_text.specs.Refusals.{refusal_line}
use Rattle.command_text.specs.Tree
use Rattle.command_text.specs.Tree.{CommandTree}
use Rattle.line_meaning.specs.declared.role.Role.{Role}
use Rattle.line_meaning.specs.declared.role.Role.TheVariants.{Blank, Journalled, Telling, Indexing, Filing, Ending}
use Rattle.line_meaning.specs.Judging.{Held, fault_of}
use Rattle.line_meaning.specs.Reply.{line_feed, ok_line}
use Rattle.line_meaning.specs.Role.{role_of}
use Rattle.line_meaning.specs.Step.{reply_by}
use Rattle.session.specs.declared.next.Next.{Next}
use Rattle.session.specs.declared.next.Next.TheVariants as nexts
use Rattle.session.specs.Answers.{next_by, next_of}
use Rattle.session.specs.declared.sharing.Shared.{Shared}
use Rattle.session.specs.Carried.{CarriedAs, IsAccepted, is_on_data, lines_by}
use Rattle.session.specs.Sharing.{LeavesOthers}
use Rattle.hub.specs.Desks.{LeavesDesks}
use Rattle.feeds_meaning.specs.Lines.{is_data, notice}
use Rattle.hub.specs.Answering.{Finishes, IsOther, IsOwn, answer_by}
use Rattle.hub.proofs.KindLemmas.{of_data}

-- a reply is its lines and an `ok`, but that of a blank line
ended : (r : Role) (h : Held) (c : CommandTree) → (next_by r ≡ nexts.Silent → ⊥) → lines_by r h c ++ ok_line ≡ reply_by r h c
ended Blank h c loud = absurd (loud refl)
ended Journalled h c loud = refl
ended Telling h c loud = refl
ended Indexing h c loud = refl
ended Filing h c loud = refl
ended Ending h c loud = refl

silent : (r : Role) (h : Held) (c : CommandTree) → next_by r ≡ nexts.Silent → lines_by r h c ≡ reply_by r h c
silent Blank h c is = refl
silent Journalled h c is = absurd (cc)
silent Telling h c is = absurd (cc)
silent Indexing h c is = absurd (cc)
silent Filing h c is = absurd (cc)
silent Ending h c is = absurd (cc)

-- ---- What it leaves of the others

pub data_alike : (c : CommandTree) → is_on_data c ≡ is_data c
data_alike (Tree.Class name capacity point attributes) = refl
data_alike (Tree.Region name points) = refl
data_alike (Tree.Insert class name place sets) = refl
data_alike (Tree.Update name place sets) = refl
data_alike (Tree.Remove name) = refl
data_alike (Tree.Tick ticks) = refl
data_alike (Tree.Watch name span q) = refl
data_alike (Tree.Keep name span q) = refl
data_alike (Tree.Drop name) = refl
data_alike (Tree.Show name) = refl
data_alike c = refl

pub leaves_desks : (next : Next) (lines text : List ℕ) (accepted : Bool) (c : CommandTree) (old new : Shared) → Finishes next lines text accepted →
    LeavesOthers next c old new → LeavesDesks (accepted && is_data c) c old new
leaves_desks (nexts.Refused r) lines text accepted c old new ends leaves =
    subst (λ b. LeavesDesks (b && is_data c) c old new) (sym ends.0) leaves
leaves_desks nexts.Silent lines text accepted c old new ends leaves =
    subst (λ b. LeavesDesks (b && is_data c) c old new) (sym ends.0) (subst (λ b. LeavesDesks b c old new) (data_alike c) leaves)
leaves_desks nexts.Accepted lines text accepted c old new ends leaves =
    subst (λ b. LeavesDesks (b && is_data c) c old new) (sym ends.0) (subst (λ b. LeavesDesks b c old new) (data_alike c) leaves)
leaves_desks nexts.Quit lines text accepted c old new ends leaves =
    subst (λ b. LeavesDesks (b && is_data c) c old new) (sym ends.0) (subst (λ b. LeavesDesks b c old new) (data_alike c) leaves)

-- ---- What is told of it

module _ (c : CommandTree) (old new : Held) where
  own_refused : (refusal : Refusal) (text : List ℕ) → fault_of old c ≡ Some refusal → new ≡ old → text ≡ refusal_line refusal ++ line_feed →
      IsOwn c old new text false
  own_refused refusal text fault same e = record { told = rw fault refl; held_is = same; text_is = e ∙ sym (ap (answer_by old c) fault) }

  own_accepted : (lines text : List ℕ) → IsAccepted c old new (notice old c) lines → text ≡ notice old c ++ reply_by (role_of c) old c →
      IsOwn c old new text true
  own_accepted lines text taken e = record { told = rw taken.accepted refl; held_is = taken.goes_on; text_is = e ∙ sym (ap (answer_by old c) taken.accepted) }

  own_silent : (lines text : List ℕ) → nexts.Silent ≡ next_of c → IsAccepted c old new (notice old c) lines → text ≡ lines →
      IsOwn c old new text true
  own_silent lines text next taken e =
      own_accepted lines text taken (e ∙ taken.said ∙ ap (λ ls. notice old c ++ ls) (silent (role_of c) old c (sym next)))

  own_ended : (lines text : List ℕ) → (next_of c ≡ nexts.Silent → ⊥) → IsAccepted c old new (notice old c) lines →
      text ≡ lines ++ ok_line → IsOwn c old new text true
  own_ended lines text loud taken e =
      own_accepted lines text taken (
      e
      ∙ ap (λ ls. ls ++ ok_line) taken.said
      ∙ append_assoc (notice old c) (lines_by (role_of c) old c) ok_line
      ∙ ap (λ ls. notice old c ++ ls) (ended (role_of c) old c loud))

  accepted_is_loud : nexts.Accepted ≡ next_of c → next_of c ≡ nexts.Silent → ⊥
  accepted_is_loud is bad = let both : nexts.Accepted ≡ nexts.Silent = is ∙ bad in absurd (cc)

  quit_is_loud : nexts.Quit ≡ next_of c → next_of c ≡ nexts.Silent → ⊥
  quit_is_loud is bad = let both : nexts.Quit ≡ nexts.Silent = is ∙ bad in absurd (cc)

  pub own_finished : (next : Next) (lines text : List ℕ) (accepted : Bool) → CarriedAs next c old new (notice old c) lines →
      Finishes next lines text accepted → IsOwn c old new text accepted
  own_finished (nexts.Refused r) lines text accepted carried ends =
      subst (IsOwn c old new text) (sym ends.0) (own_refused r text carried.0 carried.1 ends.1)
  own_finished nexts.Silent lines text accepted carried ends =
      subst (IsOwn c old new text) (sym ends.0) (own_silent lines text carried.0 carried.1 ends.1)
  own_finished nexts.Accepted lines text accepted carried ends =
      subst (IsOwn c old new text) (sym ends.0) (own_ended lines text (accepted_is_loud carried.0) carried.1 ends.1)
  own_finished nexts.Quit lines text accepted carried ends =
      subst (IsOwn c old new text) (sym ends.0) (own_ended lines text (quit_is_loud carried.0) carried.1 ends.1)

  -- a data command that what is held doesn't refuse
  pub other_accepted : (text : List ℕ) → IsAccepted c old new (notice old c) text → is_data c ≡ true → IsOther c old new text
  other_accepted text taken data_is = record {
    held_is = taken.goes_on ∙ (of_data c data_is).same old;
    text_is = taken.said ∙ ap (λ r. notice old c ++ lines_by r old c) (of_data c data_is).keeping;
  }

  pub other_followed : (start before text : List ℕ) → start ≡ [] → before ≡ start ++ notice old c → IsAccepted c old new before text → is_data c ≡ true →
      IsOther c old new text
  other_followed start before text none said taken data_is =
      other_accepted text (subst (λ (l : List ℕ). IsAccepted c old new l text) (said ∙ ap (λ l. l ++ notice old c) none) taken) data_is
