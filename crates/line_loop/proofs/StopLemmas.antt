-- What stops a machine within some lines stops it within these and more.
use Rattle.std.proofs.Common.{◌≡◌, ℕ, ◌≤◌, List, [], ◌∷◌, ◌++◌, ◌∙◌, ◌+◌, inl, subst, ap, sym, append_assoc, Option, Some, length, take, arith}
use Rattle.std.proofs.lemmas.List.{take-append-le, length-append}
use Rattle.std.proofs.Math.Seq.{take-append-add}
use Rattle.line_loop.specs.Machine.{Machine, Failures, after, replies}
use Rattle.line_loop.specs.Stop.{Point, point_after, Stops, StopsAtWrite, StopsAtContext, StopsForMemory, IsLeftForMemory}
use Rattle.outside.specs.declared.fault.OutFail.TheVariants.{Failed}
use Rattle.line_loop.specs.declared.stop.Stop.{Stop}
use Rattle.line_loop.specs.declared.stop.Stop.TheVariants.{Write, Context, NoMemory}
use Rattle.line_loop.proofs.MachineLemmas.{after-append, replies-append}

module _ {T : Type 0} (m : Machine T) where
  length-earlier : (s : T) (lines earlier later : List (List ℕ)) → lines ≡ earlier ++ later → length (replies m s earlier) ≤ length (replies m s lines)
  length-earlier s lines earlier later split = omega (arith, ap (λ ls. length (replies m s ls)) split, ap length (replies-append m s earlier later), length-append (replies m s earlier) (replies m (after m s earlier) later))

  -- the front of the replies to some lines is that of the replies to these and more
  take-replies : (s : T) (lines more : List (List ℕ)) (count : ℕ) → count ≤ length (replies m s lines) → take count (replies m s (lines ++ more)) ≡ take count (replies m s lines)
  take-replies s lines more count le = ap (take count) (replies-append m s lines more) ∙ take-append-le count (replies m s lines) (replies m (after m s lines) more) le

  -- the replies to the lines before, and the front of the replies to the lines after them
  before-replies : (start : Point T) (before lines : List (List ℕ)) (count : ℕ) →
      (point_after m start before).written ++ take count (replies m (after m start.state before) lines)
      ≡ start.written ++ take (length (replies m start.state before) + count) (replies m start.state (before ++ lines))
  before-replies start before lines count =
      append_assoc start.written (replies m start.state before) (take count (replies m (after m start.state before) lines))
      ∙ ap (λ r. start.written ++ r) (sym (ap (take (length (replies m start.state before) + count)) (replies-append m start.state before lines)
      ∙ take-append-add (replies m start.state before) (replies m (after m start.state before) lines) count))

  length-after : (s : T) (before lines : List (List ℕ)) → length (replies m s (before ++ lines)) ≡ length (replies m s before) + length (replies m (after m s before) lines)
  length-after s before lines = ap length (replies-append m s before lines) ∙ length-append (replies m s before) (replies m (after m s before) lines)

  write-more : (start : Point T) (lines more : List (List ℕ)) (state : Option T) (written : Option (List ℕ)) →
      StopsAtWrite m start lines state written → StopsAtWrite m start (lines ++ more) state written
  write-more start lines more state written h = record {
    earlier = h.earlier;
    later = h.later ++ more;
    split = ap (λ ls. ls ++ more) h.split ∙ append_assoc h.earlier h.later more;
    in_state = h.in_state;
    count = h.count;
    lacks = h.lacks;
    proper = omega (arith, h.proper, length-after start.state lines more);
    has_written = h.has_written ∙ ap (λ r. Some (start.written ++ r)) (sym (take-replies start.state lines more h.count (omega (arith, h.proper))));
  }

  write-after : (start : Point T) (before lines : List (List ℕ)) (state : Option T) (written : Option (List ℕ)) →
      StopsAtWrite m (point_after m start before) lines state written → StopsAtWrite m start (before ++ lines) state written
  write-after start before lines state written h = record {
    earlier = before ++ h.earlier;
    later = h.later;
    split = ap (λ ls. before ++ ls) h.split ∙ sym (append_assoc before h.earlier h.later);
    in_state = h.in_state ∙ ap Some (sym (after-append m start.state before h.earlier));
    count = length (replies m start.state before) + h.count;
    lacks = omega (arith, h.lacks, length-after start.state before h.earlier);
    proper = omega (arith, h.proper, length-after start.state before lines);
    has_written = h.has_written ∙ ap Some (before-replies start before lines h.count);
  }

module _ {T : Type 0} (m : Machine T) (leaves : Failures T) where
  context-more : (start : Point T) (lines more : List (List ℕ)) (state : Option T) (written : Option (List ℕ)) →
      StopsAtContext m leaves start lines state written → StopsAtContext m leaves start (lines ++ more) state written
  context-more start lines more state written h = record {
    earlier = h.earlier;
    line = h.line;
    later = h.later ++ more;
    split = ap (λ ls. ls ++ more) h.split ∙ append_assoc h.earlier (h.line ∷ h.later) more;
    going_on = h.going_on;
    failed = h.failed;
    has_written = h.has_written;
  }

  context-after : (start : Point T) (before lines : List (List ℕ)) (state : Option T) (written : Option (List ℕ)) →
      StopsAtContext m leaves (point_after m start before) lines state written → StopsAtContext m leaves start (before ++ lines) state written
  context-after start before lines state written h =
      let there : after m start.state (before ++ h.earlier) ≡ after m (after m start.state before) h.earlier = after-append m start.state before h.earlier in
      record {
        earlier = before ++ h.earlier;
        line = h.line;
        later = h.later;
        split = ap (λ ls. before ++ ls) h.split ∙ sym (append_assoc before h.earlier (h.line ∷ h.later));
        going_on = ap m.done there ∙ h.going_on;
        failed = subst (λ s. leaves Failed s h.line state) (sym there) h.failed;
        has_written = h.has_written ∙ ap Some (append_assoc start.written (replies m start.state before) (replies m (after m start.state before) h.earlier)
            ∙ ap (λ r. start.written ++ r) (sym (replies-append m start.state before h.earlier)));
      }

  LacksMemory-more : (now : T) (later more : List (List ℕ)) (state : Option T) → IsLeftForMemory m leaves now later state → IsLeftForMemory m leaves now (later ++ more) state
  LacksMemory-more now [] [] state h = h
  LacksMemory-more now [] (line ∷ more) state h = inl h
  LacksMemory-more now (line ∷ later) more state h = h

  memory-more : (start : Point T) (lines more : List (List ℕ)) (state : Option T) (written : Option (List ℕ)) →
      StopsForMemory m leaves start lines state written → StopsForMemory m leaves start (lines ++ more) state written
  memory-more start lines more state written h = record {
    earlier = h.earlier;
    later = h.later ++ more;
    split = ap (λ ls. ls ++ more) h.split ∙ append_assoc h.earlier h.later more;
    lacking = LacksMemory-more (after m start.state h.earlier) h.later more state h.lacking;
    count = h.count;
    most = h.most;
    has_written = h.has_written ∙ ap (λ r. Some (start.written ++ r))
        (sym (take-replies m start.state lines more h.count (omega (arith, h.most, length-earlier m start.state lines h.earlier h.later h.split))));
  }

  memory-after : (start : Point T) (before lines : List (List ℕ)) (state : Option T) (written : Option (List ℕ)) →
      StopsForMemory m leaves (point_after m start before) lines state written → StopsForMemory m leaves start (before ++ lines) state written
  memory-after start before lines state written h =
      let there : after m start.state (before ++ h.earlier) ≡ after m (after m start.state before) h.earlier = after-append m start.state before h.earlier in
      record {
        earlier = before ++ h.earlier;
        later = h.later;
        split = ap (λ ls. before ++ ls) h.split ∙ sym (append_assoc before h.earlier h.later);
        lacking = subst (λ s. IsLeftForMemory m leaves s h.later state) (sym there) h.lacking;
        count = length (replies m start.state before) + h.count;
        most = omega (arith, h.most, length-after m start.state before h.earlier);
        has_written = h.has_written ∙ ap Some (before-replies m start before lines h.count);
      }

  pub Stops-more : (start : Point T) (lines more : List (List ℕ)) (stop : Stop) (state : Option T) (written : Option (List ℕ)) →
      Stops m leaves start lines stop state written → Stops m leaves start (lines ++ more) stop state written
  Stops-more start lines more Write state written h = write-more m start lines more state written h
  Stops-more start lines more Context state written h = context-more start lines more state written h
  Stops-more start lines more NoMemory state written h = memory-more start lines more state written h

  pub Stops-after : (start : Point T) (before lines : List (List ℕ)) (stop : Stop) (state : Option T) (written : Option (List ℕ)) →
      Stops m leaves (point_after m start before) lines stop state written → Stops m leaves start (before ++ lines) stop state written
  Stops-after start before lines Write state written h = write-after m start before lines state written h
  Stops-after start before lines Context state written h = context-after start before lines state written h
  Stops-after start before lines NoMemory state written h = memory-after start before lines state written h
