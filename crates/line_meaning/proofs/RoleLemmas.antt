-- The roles of the commands that a journal keeps and of those that it doesn't, also for the crates above.
use Rattle.std.proofs.Common.{◌≡◌, true, false, refl}
use Rattle.std.proofs.lemmas.Bool.{false≢true}
use Rattle.command_text.specs.Journal.{is_kept}
use Rattle.command_text.specs.Tree
use Rattle.command_text.specs.Tree.{CommandTree}
use Rattle.line_meaning.specs.declared.role.Role.TheVariants.{Journalled, Telling}
use Rattle.line_meaning.specs.Role.{role_of}

pub kept_is_journalled : (c : CommandTree) → is_kept c ≡ true → role_of c ≡ Journalled
kept_is_journalled (Tree.Class name capacity point attributes) kept = refl
kept_is_journalled (Tree.Region name points) kept = refl
kept_is_journalled (Tree.Insert class name place sets) kept = refl
kept_is_journalled (Tree.Update name place sets) kept = refl
kept_is_journalled (Tree.Remove name) kept = refl
kept_is_journalled (Tree.Tick ticks) kept = refl
kept_is_journalled (Tree.Watch name span q) kept = refl
kept_is_journalled (Tree.Keep name span q) kept = refl
kept_is_journalled (Tree.Drop name) kept = refl
kept_is_journalled c kept = absurd (false≢true kept)

pub telling_is_not_kept : (c : CommandTree) → role_of c ≡ Telling → is_kept c ≡ false
telling_is_not_kept (Tree.Class name capacity point attributes) telling = absurd (cc telling)
telling_is_not_kept (Tree.Region name points) telling = absurd (cc telling)
telling_is_not_kept (Tree.Insert class name place sets) telling = absurd (cc telling)
telling_is_not_kept (Tree.Update name place sets) telling = absurd (cc telling)
telling_is_not_kept (Tree.Remove name) telling = absurd (cc telling)
telling_is_not_kept (Tree.Tick ticks) telling = absurd (cc telling)
telling_is_not_kept (Tree.Watch name span q) telling = absurd (cc telling)
telling_is_not_kept (Tree.Keep name span q) telling = absurd (cc telling)
telling_is_not_kept (Tree.Drop name) telling = absurd (cc telling)
telling_is_not_kept c telling = refl
