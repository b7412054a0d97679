use Rattle.std.proofs.Common.{◌≡◌, ◌≤◌, ◌∙◌, ◌++◌, ◌∷◌, [], ◌+◌, ◌-◌, ◌==◌, Some, None, ap, sym, subst, refl, take, drop, length, arith}
use Rattle.std.proofs.lemmas.List.{take_rest}
use Rattle.std.specs.List.{position}
use Rattle.std.specs.Str.Lines.{strip_carriage_return}
use Rattle.line_loop.specs.Kept.{kept_part}
use Rattle.line_loop.specs.Lines.{ended_from, open_from, line_feed_byte}
use Rattle.line_loop.specs.Machine.{after}
use Rattle.line_loop.specs.Spending.{total_cost}
use Rattle.line_loop.specs.Stop.{Stops, StopsForMemory}
use Rattle.line_loop.specs.Gathered.{Gathers}
use Rattle.line_loop.proofs.LinesLemmas.{kept_more, kept_nil, ok_is, ok_anyway}
use Rattle.line_loop.proofs.StopLemmas.{Stops-more}
use Rattle.line_loop.proofs.GatherLemmas.{gathers_nothing, memory_here, sends_all}
use Rattle.line_loop.proofs.PieceLemmas.{next-within, next-ended, next-open, lines-split, last-ended, last-open}
use Rattle.line_loop.proofs.SpendingLemmas.{front_spent, more_spent}
use Rattle.line_loop.proofs.lines.take_piece.Goals as goal

pub lines-init : goal.lines-init
lines-init g c = record {
  within = omega arith;
  longest = c.requires.longest;
  sink_faults = refl;
  context_faults = refl;
  gathers = λ start begun at begins. gathers_nothing g.H.Handler.machine g.H.Handler.leaves start
      (g.H.Handler.state c.args.handler.now c.args.context.now) (g.K.Sink.written c.args.sink.now) c.args.replies.now.items c.requires.none at;
  kept = λ begun begins. begins;
  spent = λ start begun at begins. omega arith;
}

pub returns-in-Err-clause-takes : goal.returns-in-Err-clause-takes
returns-in-Err-clause-takes g c = λ start begun at begins.
    let r = g.H.Handler in
    let piece = c.args.piece.now in
    let taken = c.lines.taken in
    let len = c.in-Some.len in
    let rest = drop taken piece in
    let answered = ended_from begun (take taken piece) in
    let open_before = open_from begun (take taken piece) in
    let state = r.state c.answer_ended.new.handler c.answer_ended.new.context in
    let written = g.K.Sink.written c.answer_ended.new.sink in
    let found : position (λ b. b == line_feed_byte) rest ≡ Some len =
    ap (position (λ b. b == line_feed_byte)) (sym (take_rest piece taken)) ∙ sym c.line_end.ensures ∙ c.in-Some.is in
    let same : taken + len - taken ≡ len = omega arith in
    let stops : Stops r.machine r.leaves start (answered ++ strip_carriage_return (open_before ++ take len rest) ∷ []) c.in-Err.stop state written =
    subst (λ end. Stops r.machine r.leaves start (answered ++ strip_carriage_return (open_before ++ end) ∷ []) c.in-Err.stop state written)
    (ap (λ n. take n rest) same)
    (c.in-Err.ensures.collects start answered open_before (c.lines.invariant.gathers start begun at begins) (c.lines.invariant.kept begun begins)) in
    subst (λ ls. Stops r.machine r.leaves start ls c.in-Err.stop state written)
    (sym (lines-split begun piece rest taken c.lines.invariant.within refl len found))
    (Stops-more r.machine r.leaves start _ _ c.in-Err.stop state written stops)

pub lines-preserved : goal.lines-preserved
lines-preserved g c =
    let r = g.H.Handler in
    let piece = c.args.piece.now in
    let taken = c.lines.taken in
    let len = c.in-Some.len in
    let rest = drop taken piece in
    let found : position (λ b. b == line_feed_byte) rest ≡ Some len =
    ap (position (λ b. b == line_feed_byte)) (sym (take_rest piece taken)) ∙ sym c.line_end.ensures ∙ c.in-Some.is in
    let same : taken + len - taken ≡ len = omega arith in
    let cleared = c.in_default-answer_ended.ensures.cleared in
    record {
      within = next-within [] piece rest taken c.lines.invariant.within refl len found;
      longest = ap (λ b. b.longest) cleared ∙ c.lines.invariant.longest;
      sink_faults = c.in_default-answer_ended.ensures.cause.0 ∙ c.lines.invariant.sink_faults;
      context_faults = c.in_default-answer_ended.ensures.cause.1 ∙ c.lines.invariant.context_faults;
      gathers = λ start begun at begins.
          let answered = ended_from begun (take taken piece) in
          let open_before = open_from begun (take taken piece) in
          let state = r.state c.answer_ended.new.handler c.answer_ended.new.context in
          let written = g.K.Sink.written c.answer_ended.new.sink in
          let gathered = c.answer_ended.new.replies.items in
          let more : Gathers r.machine start (answered ++ strip_carriage_return (open_before ++ take len rest) ∷ []) state written gathered =
          subst (λ end. Gathers r.machine start (answered ++ strip_carriage_return (open_before ++ end) ∷ []) state written gathered)
          (ap (λ n. take n rest) same)
          (c.in_default-answer_ended.ensures.collects start answered open_before (c.lines.invariant.gathers start begun at begins) (c.lines.invariant.kept begun begins)) in
          subst (λ ls. Gathers r.machine start ls state written gathered)
          (sym (next-ended begun piece rest taken c.lines.invariant.within refl len found)) more;
      kept = λ begun begins. ap (λ b. b.kept) cleared ∙ sym (kept_nil r.LONGEST)
          ∙ ap (kept_part r.LONGEST) (sym (next-open begun piece rest taken c.lines.invariant.within refl len found));
      spent = λ start begun at begins.
          let answered = ended_from begun (take taken piece) in
          let open_before = open_from begun (take taken piece) in
          let old = r.spent c.args.handler.now in
          let new = r.spent c.answer_ended.new.handler in
          subst (λ ls. new ≤ old + total_cost r.machine r.cost start.state ls)
          (sym (next-ended begun piece rest taken c.lines.invariant.within refl len found))
          (more_spent r.machine r.cost start.state (after r.machine start.state answered) answered (strip_carriage_return (open_before ++ take len rest) ∷ [])
          old (r.spent c.lines.handler) new refl (c.lines.invariant.spent start begun at begins)
          (subst (λ end. new ≤ r.spent c.lines.handler + total_cost r.machine r.cost (after r.machine start.state answered) (strip_carriage_return (open_before ++ end) ∷ []))
          (ap (λ n. take n rest) same)
          (c.in_default-answer_ended.ensures.spends (after r.machine start.state answered) open_before
          (c.lines.invariant.gathers start begun at begins).in_state (c.lines.invariant.kept begun begins))));
    }

pub returns-then-is_err-clause-takes : goal.returns-then-is_err-clause-takes
returns-then-is_err-clause-takes g c = λ start begun at begins.
    let r = g.H.Handler in
    let piece = c.args.piece.now in
    let taken = c.lines.taken in
    let none : position (λ b. b == line_feed_byte) (drop taken piece) ≡ None =
    ap (position (λ b. b == line_feed_byte)) (sym (take_rest piece taken)) ∙ sym c.line_end.ensures ∙ c.in_default.is in
    subst (λ ls. StopsForMemory r.machine r.leaves start ls (r.state c.lines.handler c.lines.context) (g.K.Sink.written c.lines.sink))
    (sym (last-ended begun piece (drop taken piece) taken c.lines.invariant.within refl none))
    (memory_here r.machine r.leaves start (ended_from begun (take taken piece)) (r.state c.lines.handler c.lines.context) (g.K.Sink.written c.lines.sink) c.lines.replies.items
    (c.lines.invariant.gathers start begun at begins))

pub returns-clause-takes : goal.returns-clause-takes
returns-clause-takes g c = λ start begun at begins.
    let r = g.H.Handler in
    let piece = c.args.piece.now in
    let taken = c.lines.taken in
    let state = r.state c.lines.handler c.lines.context in
    let written = g.K.Sink.written c.lines.sink in
    let gathered = c.lines.replies.items in
    let none : position (λ b. b == line_feed_byte) (drop taken piece) ≡ None =
    ap (position (λ b. b == line_feed_byte)) (sym (take_rest piece taken)) ∙ sym c.line_end.ensures ∙ c.in_default.is in
    let all : Gathers r.machine start (ended_from begun piece) state written gathered =
    subst (λ ls. Gathers r.machine start ls state written gathered)
    (sym (last-ended begun piece (drop taken piece) taken c.lines.invariant.within refl none))
    (c.lines.invariant.gathers start begun at begins) in
    sends_all r.machine r.leaves start (ended_from begun piece) state written gathered all c.send.result
    c.send.new.replies.items (g.K.Sink.written c.send.new.sink) c.send.ensures.sends c.send.ensures.few

pub returns-clause-begins : goal.returns-clause-begins
returns-clause-begins g c = λ begun begins.
    let r = g.H.Handler in
    let piece = c.args.piece.now in
    let taken = c.lines.taken in
    let whole = open_from begun (take taken piece) in
    let rest = take (length piece - taken) (drop taken piece) in
    let none : position (λ b. b == line_feed_byte) (drop taken piece) ≡ None =
    ap (position (λ b. b == line_feed_byte)) (sym (take_rest piece taken)) ∙ sym c.line_end.ensures ∙ c.in_default.is in
    let extended = ok_is c.extend.result (sym c.is_err.ensures.value ∙ c.if-is_err.false) c.extend.ensures.extended in
    ok_anyway c.send.result (ap (λ b. b.kept) extended
    ∙ ap (λ l. kept_part l (c.lines.line.kept ++ rest)) c.lines.invariant.longest
    ∙ ap (λ l. kept_part r.LONGEST (l ++ rest)) (c.lines.invariant.kept begun begins)
    ∙ kept_more r.LONGEST whole rest
    ∙ ap (λ l. kept_part r.LONGEST (whole ++ l)) (take_rest piece taken)
    ∙ ap (kept_part r.LONGEST) (sym (last-open begun piece (drop taken piece) taken c.lines.invariant.within refl none)))

pub returns-in-Err-clause-spends : goal.returns-in-Err-clause-spends
returns-in-Err-clause-spends g c = λ start begun at begins.
    let r = g.H.Handler in
    let piece = c.args.piece.now in
    let taken = c.lines.taken in
    let len = c.in-Some.len in
    let rest = drop taken piece in
    let answered = ended_from begun (take taken piece) in
    let open_before = open_from begun (take taken piece) in
    let old = r.spent c.args.handler.now in
    let new = r.spent c.answer_ended.new.handler in
    let found : position (λ b. b == line_feed_byte) rest ≡ Some len =
    ap (position (λ b. b == line_feed_byte)) (sym (take_rest piece taken)) ∙ sym c.line_end.ensures ∙ c.in-Some.is in
    let same : taken + len - taken ≡ len = omega arith in
    front_spent r.machine r.cost start.state (ended_from begun piece) (answered ++ strip_carriage_return (open_before ++ take len rest) ∷ [])
    (ended_from (open_from begun (take (taken + (len + 1)) piece)) (drop (taken + (len + 1)) piece)) old new
    (lines-split begun piece rest taken c.lines.invariant.within refl len found)
    (more_spent r.machine r.cost start.state (after r.machine start.state answered) answered (strip_carriage_return (open_before ++ take len rest) ∷ [])
    old (r.spent c.lines.handler) new refl (c.lines.invariant.spent start begun at begins)
    (subst (λ end. new ≤ r.spent c.lines.handler + total_cost r.machine r.cost (after r.machine start.state answered) (strip_carriage_return (open_before ++ end) ∷ []))
    (ap (λ n. take n rest) same)
    (c.in-Err.ensures.spends (after r.machine start.state answered) open_before
    (c.lines.invariant.gathers start begun at begins).in_state (c.lines.invariant.kept begun begins))))

pub returns-then-is_err-clause-spends : goal.returns-then-is_err-clause-spends
returns-then-is_err-clause-spends g c = λ start begun at begins.
    let r = g.H.Handler in
    let piece = c.args.piece.now in
    let taken = c.lines.taken in
    let none : position (λ b. b == line_feed_byte) (drop taken piece) ≡ None =
    ap (position (λ b. b == line_feed_byte)) (sym (take_rest piece taken)) ∙ sym c.line_end.ensures ∙ c.in_default.is in
    subst (λ ls. r.spent c.lines.handler ≤ r.spent c.args.handler.now + total_cost r.machine r.cost start.state ls)
    (sym (last-ended begun piece (drop taken piece) taken c.lines.invariant.within refl none)) (c.lines.invariant.spent start begun at begins)

pub returns-clause-spends : goal.returns-clause-spends
returns-clause-spends g c = λ start begun at begins.
    let r = g.H.Handler in
    let piece = c.args.piece.now in
    let taken = c.lines.taken in
    let none : position (λ b. b == line_feed_byte) (drop taken piece) ≡ None =
    ap (position (λ b. b == line_feed_byte)) (sym (take_rest piece taken)) ∙ sym c.line_end.ensures ∙ c.in_default.is in
    subst (λ ls. r.spent c.lines.handler ≤ r.spent c.args.handler.now + total_cost r.machine r.cost start.state ls)
    (sym (last-ended begun piece (drop taken piece) taken c.lines.invariant.within refl none)) (c.lines.invariant.spent start begun at begins)
