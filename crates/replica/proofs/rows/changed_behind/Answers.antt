use Rattle.replica.proofs.FrontLemmas.{front_combined, front_normal, normal_tail}
use Rattle.replica.proofs.rows.changed_behind.Goals as goal

pub tail_after-requires : goal.tail_after-requires
tail_after-requires c = normal_tail c.args.front.now c.args.tail.now 0 c.requires.normal

pub joined-requires : goal.joined-requires
joined-requires c =
    let normal = rw c.spans.ensures.value at c.spans.ensures.normal in
    rw c.spans.ensures.value (front_normal c.args.operation c.args.front.now c.args.tail.now c.args.told.now _ c.requires.normal normal c.in_ok-made.ensures c.requires.stay)

pub returns : goal.returns
returns c =
    let normal = rw c.spans.ensures.value at c.spans.ensures.normal in
    let whole = rw c.spans.ensures.value at c.in_ok-whole.ensures in
    rw whole (front_combined c.args.operation c.args.front.now c.args.tail.now c.args.told.now _ c.requires.normal normal c.in_ok-made.ensures c.requires.stay)
