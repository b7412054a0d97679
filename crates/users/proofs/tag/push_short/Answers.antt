use Rattle.std.proofs.Common.{◌≡◌, ◌+◌, ◌-◌, ◌<◌, ◌++◌, ◌∷◌, [], length, take, refl, ap, ◌∙◌, append_assoc, length-drop, arith}
use Rattle.std.specs.Prelude.{vec_capacity, vec_len}
use Rattle.users.specs.Tagged.{IsFirstLine, line_len, tagged_line}
use Rattle.users.proofs.FirstLemmas.{room_left}
use Rattle.users.proofs.GroupLemmas.{len_within}
use Rattle.users.proofs.LineLemmas.{part_more}
use Rattle.users.proofs.tag.push_short.Goals as goal

pub lines-preserved : goal.lines-preserved
lines-preserved c =
    let user = c.args.user.now in
    let left = c.lines.left.now in
    let out = c.lines.out.items in
    let line = take (line_len left) left in
    let some : 0 < length left = grind (arith, c.lines-test.true, c.is_empty.ensures) in
    let first : IsFirstLine left line c.push_first-left.result.now = record { some = some; line_is = refl; rest_is = c.push_first-left.ensures.rest } in
    let tag : c.push_reserved.new.self.items ≡ out ++ (user ++ 32 ∷ []) =
    c.push_reserved.ensures.items ∙ ap (λ o. o ++ 32 ∷ []) c.push_each.ensures.items ∙ append_assoc out user (32 ∷ []) in
    let said : c.push_first-left.new.out.items ≡ out ++ tagged_line user line =
    c.push_first-left.ensures.items ∙ ap (λ o. o ++ (line ++ 10 ∷ [])) tag ∙ append_assoc out (user ++ 32 ∷ []) (line ++ 10 ∷ []) in
    let grown : vec_len c.push_first-left.new.out ≡ vec_len c.lines.out + length user + 1 + line_len left + 1 =
    omega (arith, c.push_first-left.ensures.len, c.push_reserved.ensures.len, c.push_each.ensures.len) in
    let kept : vec_capacity c.push_first-left.new.out ≡ vec_capacity c.lines.out =
    c.push_first-left.ensures.capacity ∙ c.push_reserved.ensures.capacity ∙ c.push_each.ensures.capacity in
    let later : length c.push_first-left.result.now ≡ length left - (line_len left + 1) =
    ap length c.push_first-left.ensures.rest ∙ length-drop (line_len left + 1) left in (
      part_more user c.args.bytes.now c.args.out.now.items left out c.lines.invariant.0 line c.push_first-left.result.now c.push_first-left.new.out.items first said,
      rw kept (room_left (vec_len c.lines.out) (length user) (line_len left) (length left) (vec_len c.push_first-left.new.out) (length c.push_first-left.result.now)
          (vec_capacity c.lines.out) c.lines.invariant.1 c.requires.user some (len_within left) grown later),
    )
