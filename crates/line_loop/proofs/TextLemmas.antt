-- The lines of bytes are the parts between line feeds, as std says of a text.
use Rattle.std.proofs.Common.{◌≡◌, ℕ, List, [], ◌∷◌, ◌++◌, ◌∙◌, ◌==◌, ap, sym, subst, refl, arith, append_assoc, append-nil, true, false, if◌then◌else◌}
use Rattle.std.proofs.lemmas.Grind.{common_steps}
use Rattle.std.specs.List.{slice_split, onto_first}
use Rattle.std.specs.Str.Lines.{lines, lines_of_parts, strip_carriage_return}
use Rattle.line_loop.specs.Lines.{ended_from, open_from, last_line, lines_of_input}

-- the parts, of which the first begins with these bytes
abbrev onto : List ℕ → List (List ℕ) → List (List ℕ)
onto begun [] = []
onto begun (part ∷ parts) = (begun ++ part) ∷ parts

abbrev parts_of : List ℕ → List (List ℕ)
parts_of bytes = slice_split (λ b. b == 10) bytes

-- there is at least one part
is_parted : (bytes : List ℕ) → (part : List ℕ) × (parts : List (List ℕ)) × (parts_of bytes ≡ part ∷ parts)
is_parted [] = ([], [], refl)
is_parted (x ∷ xs) = elim (x == 10) as (λ b. (part : List ℕ) × (parts : List (List ℕ)) × ((if b then [] ∷ parts_of xs else onto_first x (parts_of xs)) ≡ part ∷ parts)) [
  | true ↦ ([], parts_of xs, refl)
  | false ↦ let rest = is_parted xs in (x ∷ rest.0, rest.1, ap (onto_first x) rest.2)
]

last : (begun : List ℕ) → lines_of_parts ((begun ++ []) ∷ []) ≡ last_line begun
last [] = refl
last (byte ∷ bytes) = grind (arith, common_steps, append-nil bytes)

module _ (parts : List (List ℕ)) (first : List ℕ) (others : List (List ℕ)) (is : parts ≡ first ∷ others) where
  onto-nil : onto [] parts ≡ parts
  onto-nil = subst (λ ps. onto [] ps ≡ ps) (sym is) refl

  onto-onto_first : (begun : List ℕ) (x : ℕ) → onto begun (onto_first x parts) ≡ onto (begun ++ x ∷ []) parts
  onto-onto_first begun x = subst (λ ps. onto begun (onto_first x ps) ≡ onto (begun ++ x ∷ []) ps) (sym is)
      (ap (λ l. l ∷ others) (sym (append_assoc begun (x ∷ []) first)))

  ended_part : (part : List ℕ) → lines_of_parts (part ∷ parts) ≡ strip_carriage_return part ∷ lines_of_parts parts
  ended_part part = subst (λ ps. lines_of_parts (part ∷ ps) ≡ strip_carriage_return part ∷ lines_of_parts ps) (sym is) refl

parted : (begun bytes : List ℕ) → lines_of_parts (onto begun (parts_of bytes)) ≡ ended_from begun bytes ++ last_line (open_from begun bytes)
parted begun [] = last begun
parted begun (x ∷ xs) =
    let rest = is_parted xs in
    elim (x == 10) as (λ b. lines_of_parts (onto begun (if b then [] ∷ parts_of xs else onto_first x (parts_of xs)))
    ≡ (if b then strip_carriage_return begun ∷ ended_from [] xs else ended_from (begun ++ x ∷ []) xs) ++ last_line (if b then open_from [] xs else open_from (begun ++ x ∷ []) xs)) [
      | true ↦ ended_part (parts_of xs) rest.0 rest.1 rest.2 (begun ++ [])
          ∙ ap (λ l. strip_carriage_return l ∷ lines_of_parts (parts_of xs)) (append-nil begun)
          ∙ ap (λ ls. strip_carriage_return begun ∷ ls) (ap lines_of_parts (sym (onto-nil (parts_of xs) rest.0 rest.1 rest.2)) ∙ parted [] xs)
      | false ↦ ap lines_of_parts (onto-onto_first (parts_of xs) rest.0 rest.1 rest.2 begun x) ∙ parted (begun ++ x ∷ []) xs
    ]

pub lines_of-lines : (bytes : List ℕ) → lines_of_input bytes ≡ lines bytes
lines_of-lines bytes =
    let rest = is_parted bytes in sym (parted [] bytes) ∙ ap lines_of_parts (onto-nil (parts_of bytes) rest.0 rest.1 rest.2)
