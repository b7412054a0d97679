-- Lines were answered, and some of their replies are gathered: a send, one more line, and each failure.
use Rattle.std.proofs.Common.{◌≡◌, ℕ, ◌+◌, ◌≤◌, Bool, List, [], ◌∷◌, ◌++◌, ◌∙◌, ap, sym, subst, refl, append-nil, append_assoc, length-append, true, false, Option, Some, length, take, arith, inr, inl, Result, Ok, Err, IfOk}
use Rattle.std.proofs.Math.Seq.{take-append-add, take-append_seam}
use Rattle.outside.specs.Sink.{Grows}
use Rattle.outside.specs.declared.fault.OutFail.TheVariants.{Failed, NoMemory as MemoryFailed}
use Rattle.line_loop.specs.Kept.{IsLonger, IsKeptLine}
use Rattle.line_loop.specs.Machine.{Machine, Failures, StepsAlike, after, replies}
use Rattle.line_loop.specs.Stop.{Point, IsAt, point_after, Stops, StopsAtWrite, StopsAtContext, StopsForMemory, IsLeftForMemory, Takes, WritesPart}
use Rattle.line_loop.specs.Gathered.{Gathers, SendStops, Sends}
use Rattle.line_loop.specs.declared.stop.Stop.{Stop}
use Rattle.line_loop.specs.declared.stop.Stop.TheVariants.{Write, Context, NoMemory}
use Rattle.line_loop.proofs.MachineLemmas.{after-append, after-done, replies-append, replies-done}
use Rattle.line_loop.proofs.StopLemmas.{Stops-more}

module _ {T : Type 0} (m : Machine T) (leaves : Failures T) where
  pub alike_kept : (longest : Option ℕ) (kept line : List ℕ) →
      ((a b : List ℕ) → IsLonger longest a → IsLonger longest b → StepsAlike m leaves a b) →
      IsKeptLine longest kept line → StepsAlike m leaves kept line
  alike_kept longest kept line long_lines (inl is) = record {
    next = λ state. ap (m.next state) is;
    reply = λ state. ap (m.reply state) is;
    failure = λ fail state told h. subst (λ l. leaves fail state l told) is h;
  }
  alike_kept longest kept line long_lines (inr both) = long_lines kept line both.0 both.1

  no_bytes : (xs : List ℕ) → length xs ≤ 0 → xs ≡ []
  no_bytes [] few = refl
  no_bytes (x ∷ xs) few = absurd (omega (arith, few))

  -- nothing waits before a line that may ask
  pub none_waits : (asks : Bool) (most : ℕ) (gathered : List ℕ) → (asks ≡ true → most ≡ 0) → length gathered ≤ most → (asks ≡ false → ⊥) → gathered ≡ []
  none_waits true most gathered zero few never = no_bytes gathered (subst (λ n. length gathered ≤ n) (zero refl) few)
  none_waits false most gathered zero few never = absurd (never refl)

  pub lacks_nothing : (now : T) (lines : List (List ℕ)) (state : Option T) → state ≡ Some now → IsLeftForMemory m leaves now lines state
  lacks_nothing now [] state is = is
  lacks_nothing now (line ∷ lines) state is = inl is

  -- nothing was answered yet
  pub gathers_nothing : (start : Point T) (state : Option T) (written : Option (List ℕ)) (gathered : List ℕ) → gathered ≡ [] →
      IsAt start state written → Gathers m start [] state written gathered
  gathers_nothing start state written gathered none at = record {
    in_state = at.in_state;
    sent = [];
    whole = sym none;
    has_written = at.has_written ∙ ap Some (sym (append-nil start.written));
  }

  module _ (start : Point T) (before : List (List ℕ)) (state : Option T) (written : Option (List ℕ)) (gathered : List ℕ)
      (h : Gathers m start before state written gathered) where
    abbrev now : T
    now = after m start.state before

    -- nothing waits
    pub all_sent : gathered ≡ [] → IsAt (point_after m start before) state written
    all_sent none = record {
      in_state = h.in_state;
      has_written = h.has_written ∙ ap (λ r. Some (start.written ++ r)) (sym (h.whole ∙ ap (λ r. h.sent ++ r) none ∙ append-nil h.sent));
    }

    pub sent_more : (left : List ℕ) (new : Option (List ℕ)) → (sent : List ℕ) × (gathered ≡ sent ++ left) × Grows written new sent →
        Gathers m start before state new left
    sent_more left new more = record {
      in_state = h.in_state;
      sent = h.sent ++ more.0;
      whole = h.whole ∙ ap (λ r. h.sent ++ r) more.1 ∙ sym (append_assoc h.sent more.0 left);
      has_written = more.2 (start.written ++ h.sent) h.has_written ∙ ap Some (append_assoc start.written h.sent more.0);
    }

    part_is : (count : ℕ) → (start.written ++ h.sent) ++ take count gathered ≡ start.written ++ take (length h.sent + count) (replies m start.state before)
    part_is count = append_assoc start.written h.sent (take count gathered)
        ∙ ap (λ r. start.written ++ r) (sym (ap (take (length h.sent + count)) h.whole ∙ take-append-add h.sent gathered count))

    write_stops : (new : Option (List ℕ)) → WritesPart gathered (start.written ++ h.sent) new → StopsAtWrite m start before state new
    write_stops new part = record {
      earlier = before;
      later = [];
      split = sym (append-nil before);
      in_state = h.in_state;
      count = length h.sent + part.0;
      lacks = omega (arith, part.1, ap length h.whole, length-append h.sent gathered);
      proper = omega (arith, part.1, ap length h.whole, length-append h.sent gathered);
      has_written = part.2 ∙ ap Some (part_is part.0);
    }

    memory_stops : (new : Option (List ℕ)) → WritesPart gathered (start.written ++ h.sent) new → StopsForMemory m leaves start before state new
    memory_stops new part = record {
      earlier = before;
      later = [];
      split = sym (append-nil before);
      lacking = h.in_state;
      count = length h.sent + part.0;
      most = omega (arith, part.1, ap length h.whole, length-append h.sent gathered);
      has_written = part.2 ∙ ap Some (part_is part.0);
    }

    -- a failure stopped a send
    pub send_stops : (stop : Stop) (new : Option (List ℕ)) → SendStops stop gathered written new → Stops m leaves start before stop state new
    send_stops Write new part = write_stops new (part (start.written ++ h.sent) h.has_written)
    send_stops NoMemory new part = memory_stops new (part (start.written ++ h.sent) h.has_written)
    send_stops Context new part = absurd part

    pub send_stops_before : (more : List (List ℕ)) (stop : Stop) (new : Option (List ℕ)) → SendStops stop gathered written new →
        Stops m leaves start (before ++ more) stop state new
    send_stops_before more stop new part = Stops-more m leaves start before more stop state new (send_stops stop new part)

    front_is : (more : List (List ℕ)) → take (length h.sent) (replies m start.state (before ++ more)) ≡ h.sent
    front_is more = ap (take (length h.sent)) (replies-append m start.state before more ∙ ap (λ r. r ++ replies m now more) h.whole
        ∙ append_assoc h.sent gathered (replies m now more)) ∙ take-append_seam h.sent (gathered ++ replies m now more)

    stops_for_memory : (more : List (List ℕ)) (new : Option T) → IsLeftForMemory m leaves now more new → StopsForMemory m leaves start (before ++ more) new written
    stops_for_memory more new lacking = record {
      earlier = before;
      later = more;
      split = refl;
      lacking = lacking;
      count = length h.sent;
      most = omega (arith, ap length h.whole, length-append h.sent gathered);
      has_written = h.has_written ∙ ap (λ r. Some (start.written ++ r)) (sym (front_is more));
    }

    -- there was no memory before the next line was answered
    pub memory_before : (more : List (List ℕ)) → StopsForMemory m leaves start (before ++ more) state written
    memory_before more = stops_for_memory more state (lacks_nothing now more state h.in_state)

    pub memory_here : StopsForMemory m leaves start before state written
    memory_here = subst (λ ls. StopsForMemory m leaves start ls state written) (append-nil before) (memory_before [])

    -- a machine that is done takes no line
    pub nothing_more : (line : List ℕ) → m.done now ≡ true → Gathers m start (before ++ line ∷ []) state written gathered
    nothing_more line done = record {
      in_state = h.in_state ∙ ap Some (sym (after-append m start.state before (line ∷ []) ∙ after-done m now (line ∷ []) done));
      sent = h.sent;
      whole = replies-append m start.state before (line ∷ []) ∙ ap (λ r. replies m start.state before ++ r) (replies-done m now (line ∷ []) done)
          ∙ append-nil (replies m start.state before) ∙ h.whole;
      has_written = h.has_written;
    }

    module _ (line kept : List ℕ) (alike : StepsAlike m leaves kept line) (going_on : m.done now ≡ false) where
      after-line : after m now (line ∷ []) ≡ m.next now kept
      after-line = rw going_on (sym (alike.next now))

      replies-line : replies m now (line ∷ []) ≡ m.reply now kept
      replies-line = rw going_on (append-nil (m.reply now line) ∙ sym (alike.reply now))

      pub answered : (new : Option T) (more : List ℕ) → new ≡ Some (m.next now kept) → more ≡ gathered ++ m.reply now kept →
          Gathers m start (before ++ line ∷ []) new written more
      answered new more at_next has_reply = record {
        in_state = at_next ∙ ap Some (sym (after-append m start.state before (line ∷ []) ∙ after-line));
        sent = h.sent;
        whole = replies-append m start.state before (line ∷ []) ∙ ap (λ r. replies m start.state before ++ r) replies-line
            ∙ ap (λ r. r ++ m.reply now kept) h.whole ∙ append_assoc h.sent gathered (m.reply now kept) ∙ ap (λ r. h.sent ++ r) (sym has_reply);
        has_written = h.has_written;
      }

      pub context_failed : (new : Option T) → gathered ≡ [] → leaves Failed now kept new → StopsAtContext m leaves start (before ++ line ∷ []) new written
      context_failed new none left = record {
        earlier = before;
        line = line;
        later = [];
        split = refl;
        going_on = going_on;
        failed = alike.failure Failed now new left;
        has_written = (all_sent none).has_written;
      }

      pub memory_failed : (new : Option T) → leaves MemoryFailed now kept new → StopsForMemory m leaves start (before ++ line ∷ []) new written
      memory_failed new left = stops_for_memory (line ∷ []) new (inr (going_on, alike.failure MemoryFailed now new left))

  -- all that was gathered is sent
  pub sends_all : (start : Point T) (lines : List (List ℕ)) (state : Option T) (written : Option (List ℕ)) (gathered : List ℕ) →
      Gathers m start lines state written gathered → {U : Type 0} (result : Result U Stop) (left : List ℕ) (new : Option (List ℕ)) →
      Sends gathered written result left new → IfOk result (λ _. length left ≤ 0) → Takes m leaves start lines result state new
  sends_all start lines state written gathered h (Ok x) left new sends few =
      all_sent start lines state new left (sent_more start lines state written gathered h left new sends) (no_bytes left few)
  sends_all start lines state written gathered h (Err stop) left new sends few = send_stops start lines state written gathered h stop new sends
