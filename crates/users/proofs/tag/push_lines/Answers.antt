use Rattle.std.proofs.Common.{refl, [], append-nil, sym}
use Rattle.users.proofs.LineLemmas.{front_stays, part_all, part_more, rest_shorter}
use Rattle.users.proofs.tag.push_lines.Goals as goal

pub lines-init : goal.lines-init
lines-init c = record { written = []; said = sym (append-nil c.args.out.now.items); whole = refl }

pub lines-preserved : goal.lines-preserved
lines-preserved c =
    part_more c.args.user.now c.args.bytes.now c.args.out.now.items c.lines.left.now c.lines.out.items c.lines.invariant
    c.in-Some.line.now c.in-Some.rest.now c.push_line.new.out.items c.in-Some.ensures.some c.in_ok-push_line.ensures.ok

pub lines-smaller : goal.lines-smaller
lines-smaller c = rest_shorter c.lines.left.now c.in-Some.line.now c.in-Some.rest.now c.in-Some.ensures.some

pub returns : goal.returns
returns c = record {
  ok = part_all c.args.user.now c.args.bytes.now c.args.out.now.items c.lines.left.now c.lines.out.items c.lines.invariant c.in_default.ensures.none;
  begins = front_stays c.args.out.now.items c.lines.invariant.written c.lines.out.items c.lines.invariant.said;
}

pub returns-in_err-push_line-clause-begins : goal.returns-in_err-push_line-clause-begins
returns-in_err-push_line-clause-begins c =
    rw c.in_err-push_line.ensures.err (front_stays c.args.out.now.items c.lines.invariant.written c.lines.out.items c.lines.invariant.said)
