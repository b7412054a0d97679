-- What holds of data commands, and of those that users may give.
use Rattle.std.proofs.Common.{◌≡◌, ℕ, true, false, [], None, refl}
use Rattle.command_text.specs.Journal.{is_kept, ticks_of}
use Rattle.command_text.specs.Tree
use Rattle.command_text.specs.Tree.{CommandTree}
use Rattle.line_meaning.specs.declared.role.Role.{Role}
use Rattle.line_meaning.specs.declared.role.Role.TheVariants.{Journalled, Filing}
use Rattle.line_meaning.specs.Journal.{regions_of, writes_of}
use Rattle.line_meaning.specs.Judging.{Held, all_after, held_after}
use Rattle.line_meaning.specs.QueryFault.{query_fault}
use Rattle.line_meaning.specs.Registry.{Known}
use Rattle.line_meaning.specs.Role.{asks_shelf, is_filing, role_of}
use Rattle.feeds_meaning.specs.Lines.{is_barred, is_barred_role, is_data}

-- what isn't one writes nothing, makes no region and moves no clock
pub no_writes : (tick : ℕ) (c : CommandTree) → is_data c ≡ false → writes_of tick c ≡ []
no_writes tick (Tree.Class name capacity point attributes) h = absurd (cc)
no_writes tick (Tree.Insert class name place sets) h = absurd (cc)
no_writes tick (Tree.Update name place sets) h = absurd (cc)
no_writes tick (Tree.Remove name) h = absurd (cc)
no_writes tick c h = refl

pub no_regions : (c : CommandTree) → is_data c ≡ false → regions_of c ≡ []
no_regions (Tree.Region name points) h = absurd (cc)
no_regions c h = refl

pub no_ticks : (c : CommandTree) → is_data c ≡ false → ticks_of c ≡ 0
no_ticks (Tree.Tick ticks) h = absurd (cc)
no_ticks c h = refl

-- a data command
pub record IsOfData (c : CommandTree) : Type 0 where
  pub keeping : role_of c ≡ Journalled
  pub kept : is_kept c ≡ true
  pub alone : (k : Known) → query_fault k c ≡ None
  -- it makes nothing of indexes
  pub same : (h : Held) → all_after h c ≡ held_after h c

pub of_data : (c : CommandTree) → is_data c ≡ true → IsOfData c
of_data (Tree.Class name capacity point attributes) h = record { keeping = refl; kept = refl; alone = λ k. refl; same = λ h. refl }
of_data (Tree.Region name points) h = record { keeping = refl; kept = refl; alone = λ k. refl; same = λ h. refl }
of_data (Tree.Insert class name place sets) h = record { keeping = refl; kept = refl; alone = λ k. refl; same = λ h. refl }
of_data (Tree.Update name place sets) h = record { keeping = refl; kept = refl; alone = λ k. refl; same = λ h. refl }
of_data (Tree.Remove name) h = record { keeping = refl; kept = refl; alone = λ k. refl; same = λ h. refl }
of_data (Tree.Tick ticks) h = record { keeping = refl; kept = refl; alone = λ k. refl; same = λ h. refl }
of_data c h = absurd (cc)

-- what a user may give asks nothing of the shelf
pub plain_role : (r : Role) → is_barred_role r ≡ false → is_filing r ≡ false
plain_role Filing h = absurd (cc)
plain_role r h = refl

pub plain_command : (c : CommandTree) → is_barred c ≡ false → asks_shelf c ≡ false
plain_command c h = plain_role (role_of c) h
