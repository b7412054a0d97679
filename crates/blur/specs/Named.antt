-- The values that an atom names, where positions may be off.
use Rattle.std.specs.Prelude.{◌≡◌, ℕ, Bool, true, false, refl, List}
use Rattle.geometry.specs.Region.{Region}
use Rattle.formula.specs.declared.tree.RAtom.{RAtom}
use Rattle.formula.specs.declared.tree.RAtom.TheVariants as atoms
use Rattle.formula.specs.declared.value.Env.{Env}
use Rattle.meaning.specs.Atom.{atom_holds}
use Rattle.meaning.specs.Trace.{Trace}
use Rattle.worlds.specs.Blurred.{atom_blurred}

-- an atom whose truth is the same by two lists of bound values holds by both alike, surely and possibly
pub blurred_alike : (sure : Bool) (error : ℕ) (regions : List Region) (h : Trace) (b : ℕ → ℕ) (a : RAtom) (x y : Env) (t : ℕ) →
    atom_holds regions h a x t ≡ atom_holds regions h a y t → atom_blurred sure error regions h b a x t ≡ atom_blurred sure error regions h b a y t
blurred_alike true error regions h b (atoms.Compare q op r) x y t same = same
blurred_alike true error regions h b (atoms.Inside v n) x y t same = refl
blurred_alike true error regions h b (atoms.Outside v n) x y t same = refl
blurred_alike true error regions h b (atoms.Dist v u op c) x y t same = refl
blurred_alike true error regions h b (atoms.Sphere r vs) x y t same = refl
blurred_alike false error regions h b (atoms.Compare q op r) x y t same = same
blurred_alike false error regions h b (atoms.Inside v n) x y t same = refl
blurred_alike false error regions h b (atoms.Outside v n) x y t same = refl
blurred_alike false error regions h b (atoms.Dist v u op c) x y t same = refl
blurred_alike false error regions h b (atoms.Sphere r vs) x y t same = refl
