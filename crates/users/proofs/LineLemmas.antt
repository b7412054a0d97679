-- How bytes fall into lines.
use Rattle.std.proofs.Common.{◌≡◌, ℕ, suc, ◌+◌, ◌<◌, false, List, [], ◌∷◌, ◌++◌, length, take, drop, refl, sym, ap, ◌∙◌, append-nil, append_assoc, length-drop, one-add, add-one, arith, inl, inr}
use Rattle.std.proofs.lemmas.Bool.{cases_Bool}
use Rattle.std.proofs.lemmas.Bool.Decides.{nat_tests}
use Rattle.std.specs.Prelude.{◌==◌}
use Rattle.std.specs.List.{flat_map}
use Rattle.users.specs.Tagged.{IsFirstLine, line_len, lines_in, split_lines, tagged, tagged_line}

not_empty : (xs : List ℕ) → 0 < length xs → (length xs == 0) ≡ false
not_empty [] h = absurd (omega arith)
not_empty (x ∷ xs) h = grind (arith, nat_tests)

one_more : (begun : List ℕ) (b : ℕ) (bytes : List ℕ) → 0 < length (begun ++ b ∷ []) + length bytes
one_more [] b bytes = omega arith
one_more (x ∷ xs) b bytes = omega arith

-- the first line is what stands before the first line feed
next_line : (begun bytes : List ℕ) → 0 < length begun + length bytes →
    split_lines begun bytes ≡ (begun ++ take (line_len bytes) bytes) ∷ lines_in (drop (suc (line_len bytes)) bytes)
next_line begun [] h =
    let some : (length begun == 0) ≡ false = not_empty begun (omega arith) in
    rw (some, append-nil begun) refl
next_line begun (b ∷ bytes) h = elim (cases_Bool (b == 10)) [
  | inl feed ↦ rw (feed, append-nil begun) refl
  | inr other ↦
      let later = next_line (begun ++ b ∷ []) bytes (one_more begun b bytes) in
      rw (other, one-add) (later ∙ ap (λ first. first ∷ lines_in (drop (suc (line_len bytes)) bytes)) (append_assoc begun (b ∷ []) (take (line_len bytes) bytes)))
]

-- so the lines of a user are those of the first line and of the rest
tagged_next : (user bytes : List ℕ) → 0 < length bytes →
    tagged user bytes ≡ tagged_line user (take (line_len bytes) bytes) ++ tagged user (drop (line_len bytes + 1) bytes)
tagged_next user bytes h = rw add-one (ap (flat_map (tagged_line user)) (next_line [] bytes (omega arith)))

-- some lines were written, and with those of what is left they are all
pub record IsPart (user bytes before left out : List ℕ) : Type 0 where
  pub written : List ℕ
  pub said : out ≡ before ++ written
  pub whole : tagged user bytes ≡ written ++ tagged user left

module _ (user bytes before left out : List ℕ) (p : IsPart user bytes before left out) where
  pub part_more : (line rest more : List ℕ) → IsFirstLine left line rest → more ≡ out ++ tagged_line user line →
      IsPart user bytes before rest more
  part_more line rest more first e =
      let next : tagged user left ≡ tagged_line user line ++ tagged user rest =
      tagged_next user left first.some
      ∙ ap (λ l. tagged_line user l ++ tagged user (drop (line_len left + 1) left)) (sym first.line_is)
      ∙ ap (λ r. tagged_line user line ++ tagged user r) (sym first.rest_is) in
      record {
        written = p.written ++ tagged_line user line;
        said = e ∙ ap (λ o. o ++ tagged_line user line) p.said ∙ append_assoc before p.written (tagged_line user line);
        whole = p.whole ∙ ap (λ t. p.written ++ t) next ∙ sym (append_assoc p.written (tagged_line user line) (tagged user rest));
      }

  pub part_all : left ≡ [] → out ≡ before ++ tagged user bytes
  part_all e = p.said ∙ ap (λ w. before ++ w) (sym (p.whole ∙ ap (λ l. p.written ++ tagged user l) e ∙ append-nil p.written))

pub front_stays : (before written out : List ℕ) → out ≡ before ++ written → take (length before) out ≡ before
front_stays [] written out e = refl
front_stays (b ∷ before) written out e = rw e (ap (λ f. b ∷ f) (front_stays before written (before ++ written) refl))

pub rest_shorter : (left line rest : List ℕ) → IsFirstLine left line rest → length rest < length left
rest_shorter left line rest first = let some = first.some in rw first.rest_is (omega (arith, length-drop (line_len left + 1) left))
