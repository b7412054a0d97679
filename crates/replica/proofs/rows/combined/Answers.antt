use Rattle.std.proofs.lemmas.List.{take-append-drop}
use Rattle.replica.proofs.rows.combined.Goals as goal

pub changed_behind-requires-clause-normal : goal.changed_behind-requires-clause-normal
changed_behind-requires-clause-normal c =
    rw (c.split_at.ensures.front, c.split_at.ensures.back, take-append-drop c.front_len-count.result c.spans-runs.result.now) c.spans-runs.ensures.normal

pub changed_behind-requires-clause-stay : goal.changed_behind-requires-clause-stay
changed_behind-requires-clause-stay c =
    let stay = rw c.spans.ensures.value at c.front_len-count.ensures.stay in
    rw c.split_at.ensures.front stay

pub returns : goal.returns
returns c =
    let changed = rw (c.split_at.ensures.front, c.split_at.ensures.back, take-append-drop c.front_len-count.result c.spans-runs.result.now, c.spans-runs.ensures.value) at c.changed_behind.ensures in
    changed
