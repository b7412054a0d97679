use Rattle.std.proofs.Common.{◌≡◌, ◌∙◌, ◌++◌, ◌+◌, ◌≤◌, Some, refl, ap, sym, subst, take, drop, arith}
use Rattle.line_loop.specs.Kept.{kept_part}
use Rattle.line_loop.specs.Lines.{ended_from, ended_lines, last_line, open_line}
use Rattle.line_loop.specs.Machine.{after}
use Rattle.line_loop.specs.Run.{answered_lines}
use Rattle.line_loop.specs.Spending.{total_cost}
use Rattle.line_loop.specs.Stop.{IsAt, point_after, Stops}
use Rattle.line_loop.specs.Ending.{HasTaken, KeepsLimit, HasEnding}
use Rattle.line_loop.proofs.StopLemmas.{Stops-after}
use Rattle.line_loop.proofs.MachineLemmas.{reach-append}
use Rattle.line_loop.proofs.RunLemmas.{ended_lines-more, open_line-more, heard-front, heard_at_end, stops_within, done_within, done_at_end, stops_at_end, ends_at_limit, ends_stopped, keeps_stopped, memory_at_start, more_taken, piece_is, room_keeps, room_passes}
use Rattle.line_loop.proofs.SpendingLemmas.{front_spent, more_spent}
use Rattle.line_loop.proofs.run.run_lines.Goals as goal

pub returns-in_default-clause-ends : goal.returns-in_default-clause-ends
returns-in_default-clause-ends g c = λ start bytes at told. memory_at_start g.H.Handler.machine g.H.Handler.leaves c.args.limit start bytes _ _ at

pub returns-in_default-with_capacity-clause-ends : goal.returns-in_default-with_capacity-clause-ends
returns-in_default-with_capacity-clause-ends g c =
    λ start bytes at told. memory_at_start g.H.Handler.machine g.H.Handler.leaves c.args.limit start bytes _ _ at

pub returns-in-Err-finish-clause-taken : goal.returns-in-Err-finish-clause-taken
returns-in-Err-finish-clause-taken g c = λ bytes told.
    let so_far = c.reading.invariant.left bytes told in
    let got = c.in-Ok-eq0.ensures.bytes (drop c.reading.taken bytes) so_far.rest in
    let none = c.in-Ok-eq0.field-0-test in
    subst (λ e. KeepsLimit c.args.limit bytes e (g.S.Source.left c.read.new.self)) (sym c.from.ensures)
    (keeps_stopped c.args.limit bytes c.in-Err-finish.stop _
    (c.reading.taken + c.in-Ok-eq0.field-0, omega (arith, none, c.reading.invariant.within), more_taken bytes c.reading.taken c.in-Ok-eq0.field-0 _ _ so_far got.0 got.2))

pub returns-in-Err-finish-clause-ends : goal.returns-in-Err-finish-clause-ends
returns-in-Err-finish-clause-ends g c = λ start bytes at told.
    let so_far = c.reading.invariant.left bytes told in
    let got = c.in-Ok-eq0.ensures.bytes (drop c.reading.taken bytes) so_far.rest in
    let m = g.H.Handler.machine in
    let n = c.reading.taken in
    subst (λ e. HasEnding m g.H.Handler.leaves c.args.limit start bytes e (g.H.Handler.state c.finish.new.handler c.finish.new.context) (g.K.Sink.written c.finish.new.sink) (g.S.Source.left c.read.new.self))
    (sym c.from.ensures)
    (ends_stopped m g.H.Handler.leaves c.args.limit start bytes c.in-Err-finish.stop _ _ _
    (stops_at_end m g.H.Handler.leaves c.args.limit start bytes n c.reading.invariant.within so_far.there (got.3 c.in-Ok-eq0.field-0-test) c.in-Err-finish.stop _ _
    (c.in-Err-finish.ensures.takes (point_after m start (ended_lines (take n bytes))) (open_line (take n bytes)) (c.reading.invariant.reached start bytes at told) (c.reading.invariant.kept bytes told))))

pub returns-in-Ok-eq0-clause-taken : goal.returns-in-Ok-eq0-clause-taken
returns-in-Ok-eq0-clause-taken g c = λ bytes told.
    let so_far = c.reading.invariant.left bytes told in
    let got = c.in-Ok-eq0.ensures.bytes (drop c.reading.taken bytes) so_far.rest in
    let none = c.in-Ok-eq0.field-0-test in
    (c.reading.taken + c.in-Ok-eq0.field-0, omega (arith, none, c.reading.invariant.within), more_taken bytes c.reading.taken c.in-Ok-eq0.field-0 _ _ so_far got.0 got.2)

pub returns-in-Ok-eq0-clause-ends : goal.returns-in-Ok-eq0-clause-ends
returns-in-Ok-eq0-clause-ends g c = λ start bytes at told.
    let so_far = c.reading.invariant.left bytes told in
    let got = c.in-Ok-eq0.ensures.bytes (drop c.reading.taken bytes) so_far.rest in
    let m = g.H.Handler.machine in
    let n = c.reading.taken in
    done_at_end m g.H.Handler.leaves c.args.limit start bytes n c.reading.invariant.within so_far.there (got.3 c.in-Ok-eq0.field-0-test) _ _ _
    (got.0 ∙ ap (λ k. Some (drop k (drop n bytes))) c.in-Ok-eq0.field-0-test)
    (c.in_default-finish.ensures.takes (point_after m start (ended_lines (take n bytes))) (open_line (take n bytes)) (c.reading.invariant.reached start bytes at told) (c.reading.invariant.kept bytes told))

pub returns-in-Ok-read-clause-taken : goal.returns-in-Ok-read-clause-taken
returns-in-Ok-read-clause-taken g c = λ bytes told.
    let so_far = c.reading.invariant.left bytes told in
    let got = c.in-Ok-read.ensures.bytes (drop c.reading.taken bytes) so_far.rest in
    let l = c.read.auto.buf in
    let one : c.reading.taken + c.in-Ok-read.field-0 ≡ c.args.limit + 1 =
    room_passes c.args.limit c.reading.taken c.room.result c.in-Ok-read.field-0 c.read.new.buf c.reading.piece c.if-taken-limit.true c.in-Ok-read.field-0-test.1 c.room.ensures c.read.auto.buf c.in-Ok-read.ensures.bound in
    subst (λ n. HasTaken bytes n (g.S.Source.left c.read.new.self)) one (more_taken bytes c.reading.taken c.in-Ok-read.field-0 _ _ so_far got.0 got.2)

pub returns-in-Ok-read-clause-ends : goal.returns-in-Ok-read-clause-ends
returns-in-Ok-read-clause-ends g c = λ start bytes at told.
    let so_far = c.reading.invariant.left bytes told in
    let got = c.in-Ok-read.ensures.bytes (drop c.reading.taken bytes) so_far.rest in
    let one : c.reading.taken + c.in-Ok-read.field-0 ≡ c.args.limit + 1 =
    room_passes c.args.limit c.reading.taken c.room.result c.in-Ok-read.field-0 c.read.new.buf c.reading.piece c.if-taken-limit.true c.in-Ok-read.field-0-test.1 c.room.ensures c.read.auto.buf c.in-Ok-read.ensures.bound in
    let taken : HasTaken bytes (c.args.limit + 1) (g.S.Source.left c.read.new.self) =
    subst (λ n. HasTaken bytes n (g.S.Source.left c.read.new.self)) one (more_taken bytes c.reading.taken c.in-Ok-read.field-0 _ _ so_far got.0 got.2) in
    let m = g.H.Handler.machine in
    let reached : IsAt (point_after m start (ended_lines (take c.args.limit bytes))) (g.H.Handler.state c.reading.handler c.reading.context) (g.K.Sink.written c.reading.sink) =
    subst (λ n. IsAt (point_after m start (ended_lines (take n bytes))) (g.H.Handler.state c.reading.handler c.reading.context) (g.K.Sink.written c.reading.sink))
    c.if-taken-limit.true (c.reading.invariant.reached start bytes at told) in
    ends_at_limit m g.H.Handler.leaves c.args.limit start bytes (omega (arith, taken.there))
    (sym (c.is_done.ensures c.reading.context (after m start.state (ended_lines (take c.args.limit bytes))) reached.in_state) ∙ c.reading-test.true)
    _ _ _ taken reached

pub returns-in-Err-taking-clause-taken : goal.returns-in-Err-taking-clause-taken
returns-in-Err-taking-clause-taken g c = λ bytes told.
    let so_far = c.reading.invariant.left bytes told in
    let got = c.in-Ok-read.ensures.bytes (drop c.reading.taken bytes) so_far.rest in
    let within : c.reading.taken + c.in-Ok-read.field-0 ≤ c.args.limit =
    room_keeps c.args.limit c.reading.taken c.room.result c.in-Ok-read.field-0 c.read.new.buf c.reading.piece c.reading.invariant.within c.if-taken-limit.false c.room.ensures c.read.auto.buf c.in-Ok-read.ensures.bound in
    subst (λ e. KeepsLimit c.args.limit bytes e (g.S.Source.left c.read.new.self)) (sym c.from-in-Err-taking.ensures)
    (keeps_stopped c.args.limit bytes c.in-Err-taking.stop _
    (c.reading.taken + c.in-Ok-read.field-0, within, more_taken bytes c.reading.taken c.in-Ok-read.field-0 _ _ so_far got.0 got.2))

pub returns-in-Err-taking-clause-ends : goal.returns-in-Err-taking-clause-ends
returns-in-Err-taking-clause-ends g c = λ start bytes at told.
    let so_far = c.reading.invariant.left bytes told in
    let got = c.in-Ok-read.ensures.bytes (drop c.reading.taken bytes) so_far.rest in
    let within : c.reading.taken + c.in-Ok-read.field-0 ≤ c.args.limit =
    room_keeps c.args.limit c.reading.taken c.room.result c.in-Ok-read.field-0 c.read.new.buf c.reading.piece c.reading.invariant.within c.if-taken-limit.false c.room.ensures c.read.auto.buf c.in-Ok-read.ensures.bound in
    let m = g.H.Handler.machine in
    let n = c.reading.taken in
    let len = c.in-Ok-read.field-0 in
    let piece = take len (c.read.new.buf ++ drop c.room.result c.reading.piece) in
    let stops = c.in-Err-taking.ensures.takes (point_after m start (ended_lines (take n bytes))) (open_line (take n bytes)) (c.reading.invariant.reached start bytes at told) (c.reading.invariant.kept bytes told) in
    subst (λ e. HasEnding m g.H.Handler.leaves c.args.limit start bytes e (g.H.Handler.state c.take_piece-taking.new.handler c.take_piece-taking.new.context) (g.K.Sink.written c.take_piece-taking.new.sink) (g.S.Source.left c.read.new.self))
    (sym c.from-in-Err-taking.ensures)
    (ends_stopped m g.H.Handler.leaves c.args.limit start bytes c.in-Err-taking.stop _ _ _
    (stops_within m g.H.Handler.leaves c.args.limit start bytes (n + len) within c.in-Err-taking.stop _ _
    (subst (λ ls. Stops m g.H.Handler.leaves start ls c.in-Err-taking.stop (g.H.Handler.state c.take_piece-taking.new.handler c.take_piece-taking.new.context) (g.K.Sink.written c.take_piece-taking.new.sink))
    (sym (ended_lines-more bytes piece n len (piece_is bytes c.read.new.buf (drop c.room.result c.reading.piece) n len got.1 c.in-Ok-read.ensures.bound)))
    (Stops-after m g.H.Handler.leaves start (ended_lines (take n bytes)) (ended_from (open_line (take n bytes)) piece) c.in-Err-taking.stop _ _ stops))))

pub reading-preserved : goal.reading-preserved
reading-preserved g c =
    let m = g.H.Handler.machine in
    let n = c.reading.taken in
    let len = c.in-Ok-read.field-0 in
    let piece = take len (c.read.new.buf ++ drop c.room.result c.reading.piece) in
    record {
      within = room_keeps c.args.limit c.reading.taken c.room.result c.in-Ok-read.field-0 c.read.new.buf c.reading.piece c.reading.invariant.within c.if-taken-limit.false c.room.ensures c.read.auto.buf c.in-Ok-read.ensures.bound;
      longest = c.in_default-taking.ensures.longest ∙ c.reading.invariant.longest;
      none = c.in_default-taking.ensures.none;
      source_faults = c.in-Ok-read.ensures.cause ∙ c.reading.invariant.source_faults;
      sink_faults = c.in_default-taking.ensures.cause.0 ∙ c.reading.invariant.sink_faults;
      context_faults = c.in_default-taking.ensures.cause.1 ∙ c.reading.invariant.context_faults;
      left = λ bytes told.
          let so_far = c.reading.invariant.left bytes told in
          let got = c.in-Ok-read.ensures.bytes (drop n bytes) so_far.rest in
          more_taken bytes n len _ _ so_far got.0 got.2;
      reached = λ start bytes at told.
          let so_far = c.reading.invariant.left bytes told in
          let got = c.in-Ok-read.ensures.bytes (drop n bytes) so_far.rest in
          subst (λ p. IsAt p (g.H.Handler.state c.take_piece-taking.new.handler c.take_piece-taking.new.context) (g.K.Sink.written c.take_piece-taking.new.sink))
          (sym (ap (point_after m start) (ended_lines-more bytes piece n len (piece_is bytes c.read.new.buf (drop c.room.result c.reading.piece) n len got.1 c.in-Ok-read.ensures.bound))
          ∙ reach-append m start (ended_lines (take n bytes)) (ended_from (open_line (take n bytes)) piece)))
          (c.in_default-taking.ensures.takes (point_after m start (ended_lines (take n bytes))) (open_line (take n bytes)) (c.reading.invariant.reached start bytes at told) (c.reading.invariant.kept bytes told));
      kept = λ bytes told.
          let so_far = c.reading.invariant.left bytes told in
          let got = c.in-Ok-read.ensures.bytes (drop n bytes) so_far.rest in
          c.in_default-taking.ensures.begins (open_line (take n bytes)) (c.reading.invariant.kept bytes told)
          ∙ ap (kept_part g.H.Handler.LONGEST) (sym (open_line-more bytes piece n len (piece_is bytes c.read.new.buf (drop c.room.result c.reading.piece) n len got.1 c.in-Ok-read.ensures.bound)));
      spent = λ start bytes at told.
          let so_far = c.reading.invariant.left bytes told in
          let got = c.in-Ok-read.ensures.bytes (drop n bytes) so_far.rest in
          let now = point_after m start (ended_lines (take n bytes)) in
          let reached = c.reading.invariant.reached start bytes at told in
          subst (λ ls. g.H.Handler.spent c.take_piece-taking.new.handler ≤ g.H.Handler.spent c.args.handler.now + total_cost m g.H.Handler.cost start.state ls)
          (sym (ended_lines-more bytes piece n len (piece_is bytes c.read.new.buf (drop c.room.result c.reading.piece) n len got.1 c.in-Ok-read.ensures.bound)))
          (more_spent m g.H.Handler.cost start.state now.state (ended_lines (take n bytes)) (ended_from (open_line (take n bytes)) piece)
          (g.H.Handler.spent c.args.handler.now) (g.H.Handler.spent c.reading.handler) (g.H.Handler.spent c.take_piece-taking.new.handler) refl
          (c.reading.invariant.spent start bytes at told)
          (c.in_default-taking.ensures.spends now (open_line (take n bytes)) reached (c.reading.invariant.kept bytes told)));
    }

pub returns-clause-ends : goal.returns-clause-ends
returns-clause-ends g c = λ start bytes at told.
    let m = g.H.Handler.machine in
    let n = c.reading.taken in
    let reached = c.reading.invariant.reached start bytes at told in
    done_within m g.H.Handler.leaves c.args.limit start bytes n c.reading.invariant.within
    (sym (c.is_done.ensures c.reading.context (after m start.state (ended_lines (take n bytes))) reached.in_state) ∙ c.reading-test.false) _ _ _ (c.reading.invariant.left bytes told) reached

pub returns-clause-spends : goal.returns-clause-spends
returns-clause-spends g c = λ start bytes at told.
    let m = g.H.Handler.machine in
    let n = c.reading.taken in
    let front = heard-front m g.H.Handler.leaves c.args.limit start bytes n c.reading.invariant.within in
    front_spent m g.H.Handler.cost start.state (answered_lines m c.args.limit start.state bytes) (ended_lines (take n bytes)) front.0
    (g.H.Handler.spent c.args.handler.now) (g.H.Handler.spent c.reading.handler) front.1 (c.reading.invariant.spent start bytes at told)

pub returns-in-Ok-read-clause-spends : goal.returns-in-Ok-read-clause-spends
returns-in-Ok-read-clause-spends g c = λ start bytes at told.
    let m = g.H.Handler.machine in
    let n = c.reading.taken in
    let front = heard-front m g.H.Handler.leaves c.args.limit start bytes n c.reading.invariant.within in
    front_spent m g.H.Handler.cost start.state (answered_lines m c.args.limit start.state bytes) (ended_lines (take n bytes)) front.0
    (g.H.Handler.spent c.args.handler.now) (g.H.Handler.spent c.reading.handler) front.1 (c.reading.invariant.spent start bytes at told)

pub returns-in-Err-clause-spends : goal.returns-in-Err-clause-spends
returns-in-Err-clause-spends g c = λ start bytes at told.
    let m = g.H.Handler.machine in
    let n = c.reading.taken in
    let front = heard-front m g.H.Handler.leaves c.args.limit start bytes n c.reading.invariant.within in
    front_spent m g.H.Handler.cost start.state (answered_lines m c.args.limit start.state bytes) (ended_lines (take n bytes)) front.0
    (g.H.Handler.spent c.args.handler.now) (g.H.Handler.spent c.reading.handler) front.1 (c.reading.invariant.spent start bytes at told)

pub returns-in_default-clause-spends : goal.returns-in_default-clause-spends
returns-in_default-clause-spends g c = λ start bytes at told. omega arith

pub returns-in_default-with_capacity-clause-spends : goal.returns-in_default-with_capacity-clause-spends
returns-in_default-with_capacity-clause-spends g c = λ start bytes at told. omega arith

pub returns-in-Err-finish-clause-spends : goal.returns-in-Err-finish-clause-spends
returns-in-Err-finish-clause-spends g c = λ start bytes at told.
    let so_far = c.reading.invariant.left bytes told in
    let got = c.in-Ok-eq0.ensures.bytes (drop c.reading.taken bytes) so_far.rest in
    let m = g.H.Handler.machine in
    let n = c.reading.taken in
    let now = point_after m start (ended_lines (take n bytes)) in
    let reached = c.reading.invariant.reached start bytes at told in
    subst (λ ls. g.H.Handler.spent c.finish.new.handler ≤ g.H.Handler.spent c.args.handler.now + total_cost m g.H.Handler.cost start.state ls)
    (sym (heard_at_end m g.H.Handler.leaves c.args.limit start bytes n c.reading.invariant.within so_far.there (got.3 c.in-Ok-eq0.field-0-test)))
    (more_spent m g.H.Handler.cost start.state now.state (ended_lines (take n bytes)) (last_line (open_line (take n bytes)))
    (g.H.Handler.spent c.args.handler.now) (g.H.Handler.spent c.reading.handler) (g.H.Handler.spent c.finish.new.handler) refl
    (c.reading.invariant.spent start bytes at told)
    (c.in-Err-finish.ensures.spends now.state (open_line (take n bytes)) reached.in_state (c.reading.invariant.kept bytes told)))

pub returns-in-Ok-eq0-clause-spends : goal.returns-in-Ok-eq0-clause-spends
returns-in-Ok-eq0-clause-spends g c = λ start bytes at told.
    let so_far = c.reading.invariant.left bytes told in
    let got = c.in-Ok-eq0.ensures.bytes (drop c.reading.taken bytes) so_far.rest in
    let m = g.H.Handler.machine in
    let n = c.reading.taken in
    let now = point_after m start (ended_lines (take n bytes)) in
    let reached = c.reading.invariant.reached start bytes at told in
    subst (λ ls. g.H.Handler.spent c.finish.new.handler ≤ g.H.Handler.spent c.args.handler.now + total_cost m g.H.Handler.cost start.state ls)
    (sym (heard_at_end m g.H.Handler.leaves c.args.limit start bytes n c.reading.invariant.within so_far.there (got.3 c.in-Ok-eq0.field-0-test)))
    (more_spent m g.H.Handler.cost start.state now.state (ended_lines (take n bytes)) (last_line (open_line (take n bytes)))
    (g.H.Handler.spent c.args.handler.now) (g.H.Handler.spent c.reading.handler) (g.H.Handler.spent c.finish.new.handler) refl
    (c.reading.invariant.spent start bytes at told)
    (c.in_default-finish.ensures.spends now.state (open_line (take n bytes)) reached.in_state (c.reading.invariant.kept bytes told)))

pub returns-in-Err-taking-clause-spends : goal.returns-in-Err-taking-clause-spends
returns-in-Err-taking-clause-spends g c = λ start bytes at told.
    let so_far = c.reading.invariant.left bytes told in
    let got = c.in-Ok-read.ensures.bytes (drop c.reading.taken bytes) so_far.rest in
    let within : c.reading.taken + c.in-Ok-read.field-0 ≤ c.args.limit =
    room_keeps c.args.limit c.reading.taken c.room.result c.in-Ok-read.field-0 c.read.new.buf c.reading.piece c.reading.invariant.within c.if-taken-limit.false c.room.ensures c.read.auto.buf c.in-Ok-read.ensures.bound in
    let m = g.H.Handler.machine in
    let n = c.reading.taken in
    let len = c.in-Ok-read.field-0 in
    let piece = take len (c.read.new.buf ++ drop c.room.result c.reading.piece) in
    let now = point_after m start (ended_lines (take n bytes)) in
    let reached = c.reading.invariant.reached start bytes at told in
    let front = heard-front m g.H.Handler.leaves c.args.limit start bytes (n + len) within in
    front_spent m g.H.Handler.cost start.state (answered_lines m c.args.limit start.state bytes)
    (ended_lines (take n bytes) ++ ended_from (open_line (take n bytes)) piece) front.0
    (g.H.Handler.spent c.args.handler.now) (g.H.Handler.spent c.take_piece-taking.new.handler)
    (front.1 ∙ ap (λ ls. ls ++ front.0) (ended_lines-more bytes piece n len (piece_is bytes c.read.new.buf (drop c.room.result c.reading.piece) n len got.1 c.in-Ok-read.ensures.bound)))
    (more_spent m g.H.Handler.cost start.state now.state (ended_lines (take n bytes)) (ended_from (open_line (take n bytes)) piece)
    (g.H.Handler.spent c.args.handler.now) (g.H.Handler.spent c.reading.handler) (g.H.Handler.spent c.take_piece-taking.new.handler) refl
    (c.reading.invariant.spent start bytes at told)
    (c.in-Err-taking.ensures.spends now (open_line (take n bytes)) reached (c.reading.invariant.kept bytes told)))
