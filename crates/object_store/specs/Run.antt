-- Numbers of which none is left out.
use Rattle.std.specs.Prelude.{ℕ, nat_le, Bool, false, ◌&&◌, Option, None, Some}
use Rattle.object_store.specs.declared.run.Run.{Run}

-- whether a number is in a run, if there is one
abbrev pub is_in_run : Option Run → ℕ → Bool
is_in_run None number = false
is_in_run (Some run) number = nat_le run.first number && nat_le number run.last
