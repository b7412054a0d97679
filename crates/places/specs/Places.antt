-- Four horizons, and which objects they tell to be near an area.
use Rattle.std.specs.Prelude.{ℕ, ◌-◌, nat_le, nat_lt, Option, None, option_map, List, [], ◌∷◌, ◌++◌, find, length, slice_set, take, if◌then◌else◌}
use Rattle.places.specs.declared.horizons.Places.{Places}
use Rattle.places.specs.declared.horizons.Patches.{Patches}
use Rattle.places.specs.declared.patch.Patch.{Patch}
use Rattle.places.specs.Boxes.{Horizon, numbers_near}

abbrev pub no_places : Places
no_places = record {
  from = 0;
  short = record { upto = 256; patches = [] };
  middle = record { upto = 1024; patches = [] };
  long = record { upto = 4096; patches = [] };
  longest = record { upto = 65536; patches = [] };
}

-- a horizon with the patch of one more object, with another one of an object, and without that of the last
abbrev pub with_patch : Horizon → Patch → Horizon
with_patch h patch = record h { patches = h.patches ++ patch ∷ [] }

abbrev pub with_other : Horizon → ℕ → Patch → Horizon
with_other h number patch = record h { patches = slice_set h.patches number patch }

abbrev pub without_last : Horizon → Horizon
without_last h = record h { patches = take (length h.patches - 1) h.patches }

abbrev pub pushed : Places → Patches → Places
pushed p patches = record p {
  short = with_patch p.short patches.short;
  middle = with_patch p.middle patches.middle;
  long = with_patch p.long patches.long;
  longest = with_patch p.longest patches.longest;
}

abbrev pub replaced : Places → ℕ → Patches → Places
replaced p number patches = record p {
  short = with_other p.short number patches.short;
  middle = with_other p.middle number patches.middle;
  long = with_other p.long number patches.long;
  longest = with_other p.longest number patches.longest;
}

abbrev pub popped : Places → Places
popped p = record p {
  short = without_last p.short;
  middle = without_last p.middle;
  long = without_last p.long;
  longest = without_last p.longest;
}

-- the horizons, the shortest first
abbrev pub horizons_of : Places → List Horizon
horizons_of p = p.short ∷ p.middle ∷ p.long ∷ p.longest ∷ []

-- the first horizon that reaches up to a tick
abbrev pub horizon_for : Places → ℕ → Option Horizon
horizon_for p hi = find (λ h. nat_le hi h.upto) (horizons_of p)

-- the numbers that are told for the ticks from lo to hi
abbrev pub near_in : Places → (lo hi : ℕ) → Patch → Option (List ℕ)
near_in p lo hi area =
    if nat_lt lo p.from then None else option_map (λ h. numbers_near h.patches area) (horizon_for p hi)
