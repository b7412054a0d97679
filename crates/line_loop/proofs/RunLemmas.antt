-- A run of which so many bytes are taken: the next piece, and each ending.
use Rattle.std.proofs.Common.{◌≡◌, ℕ, ◌+◌, ◌<◌, ◌≤◌, ◌-◌, min, max, List, [], ◌++◌, ◌∙◌, ap, sym, subst, refl, length, take, drop, arith, append_assoc, append-nil, Option, Some, true, false, ltb, inl, inr}
use Rattle.std.proofs.lemmas.Grind.{common_steps}
use Rattle.std.proofs.lemmas.List.{take-append-drop, take-append-le, take-take, take_all, drop-drop, length-drop, length-take}
use Rattle.std.proofs.Math.Seq.{take-add}
use Rattle.line_loop.specs.Lines.{ended_from, open_from, ended_lines, open_line, last_line, lines_of_input}
use Rattle.line_loop.specs.Machine.{Machine, Failures, after}
use Rattle.line_loop.specs.Run.{is_cut_off, answered_lines}
use Rattle.line_loop.specs.Stop.{Point, IsAt, point_after, Stops, StopsForMemory}
use Rattle.line_loop.specs.Ending.{HasTaken, StaysWithin, KeepsLimit, IsDone, IsInputLimit, HasEnding, ending_of}
use Rattle.line_loop.specs.declared.stop.Stop.{Stop}
use Rattle.line_loop.specs.declared.stop.Stop.TheVariants.{Write, Context, NoMemory}
use Rattle.line_loop.proofs.LinesLemmas.{ended_from-append, open_from-append}
use Rattle.line_loop.proofs.MachineLemmas.{after-append, after-done, reach-append, reach-done}
use Rattle.line_loop.proofs.StopLemmas.{Stops-more, Stops-after}
use Rattle.line_loop.proofs.GatherLemmas.{lacks_nothing}

-- the lines that end in the first n bytes come first
ended_lines-front : (bytes : List ℕ) (n : ℕ) → ended_lines bytes ≡ ended_lines (take n bytes) ++ ended_from (open_line (take n bytes)) (drop n bytes)
ended_lines-front bytes n = ap ended_lines (sym (take-append-drop n bytes)) ∙ ended_from-append [] (take n bytes) (drop n bytes)

ended_lines-within : (bytes : List ℕ) (n limit : ℕ) → n ≤ limit →
    ended_lines (take limit bytes) ≡ ended_lines (take n bytes) ++ ended_from (open_line (take n bytes)) (drop n (take limit bytes))
ended_lines-within bytes n limit le =
    ended_lines-front (take limit bytes) n
    ∙ ap (λ t. ended_lines t ++ ended_from (open_line t) (drop n (take limit bytes))) (take-take n limit bytes le)

pub ended_lines-more : (bytes piece : List ℕ) (n len : ℕ) → piece ≡ take len (drop n bytes) →
    ended_lines (take (n + len) bytes) ≡ ended_lines (take n bytes) ++ ended_from (open_line (take n bytes)) piece
ended_lines-more bytes piece n len is = ap ended_lines (take-add n len bytes) ∙ ended_from-append [] (take n bytes) (take len (drop n bytes))
    ∙ ap (λ p. ended_lines (take n bytes) ++ ended_from (open_line (take n bytes)) p) (sym is)

pub open_line-more : (bytes piece : List ℕ) (n len : ℕ) → piece ≡ take len (drop n bytes) →
    open_line (take (n + len) bytes) ≡ open_from (open_line (take n bytes)) piece
open_line-more bytes piece n len is = ap open_line (take-add n len bytes) ∙ open_from-append [] (take n bytes) (take len (drop n bytes))
    ∙ ap (open_from (open_line (take n bytes))) (sym is)

module _ {T : Type 0} (m : Machine T) (leaves : Failures T) (limit : ℕ) (start : Point T) (bytes : List ℕ) where
  heard-cut : is_cut_off m limit start.state bytes ≡ true → answered_lines m limit start.state bytes ≡ ended_lines (take limit bytes)
  heard-cut e = rw e

  heard-whole : is_cut_off m limit start.state bytes ≡ false → answered_lines m limit start.state bytes ≡ lines_of_input bytes
  heard-whole e = rw e

  -- the lines of the bytes taken come first among those that are answered
  pub heard-front : (n : ℕ) → n ≤ limit → (more : List (List ℕ)) × (answered_lines m limit start.state bytes ≡ ended_lines (take n bytes) ++ more)
  heard-front n le = elim (is_cut_off m limit start.state bytes) as (λ b. is_cut_off m limit start.state bytes ≡ b → (more : List (List ℕ)) × (answered_lines m limit start.state bytes ≡ ended_lines (take n bytes) ++ more)) [
    | true ↦ λ e. (ended_from (open_line (take n bytes)) (drop n (take limit bytes)), heard-cut e ∙ ended_lines-within bytes n limit le)
    | false ↦ λ e. (
      ended_from (open_line (take n bytes)) (drop n bytes) ++ last_line (open_line bytes),
      heard-whole e ∙ ap (λ ls. ls ++ last_line (open_line bytes)) (ended_lines-front bytes n)
          ∙ append_assoc (ended_lines (take n bytes)) (ended_from (open_line (take n bytes)) (drop n bytes)) (last_line (open_line bytes)),
    )
  ] refl

  -- a failure within the lines of the bytes taken
  pub stops_within : (n : ℕ) → n ≤ limit → (stop : Stop) (state : Option T) (written : Option (List ℕ)) →
      Stops m leaves start (ended_lines (take n bytes)) stop state written → Stops m leaves start (answered_lines m limit start.state bytes) stop state written
  stops_within n le stop state written h =
      let front = heard-front n le in
      subst (λ ls. Stops m leaves start ls stop state written) (sym front.1) (Stops-more m leaves start (ended_lines (take n bytes)) front.0 stop state written h)

  -- the machine is done within the bytes taken
  pub done_within : (n : ℕ) → n ≤ limit → m.done (after m start.state (ended_lines (take n bytes))) ≡ true →
      (state : Option T) (written left : Option (List ℕ)) → HasTaken bytes n left →
      IsAt (point_after m start (ended_lines (take n bytes))) state written → IsDone m limit start bytes state written left
  done_within n le done state written left taken h =
      let front = heard-front n le in
      let same : point_after m start (answered_lines m limit start.state bytes) ≡ point_after m start (ended_lines (take n bytes)) =
      ap (point_after m start) front.1 ∙ reach-append m start (ended_lines (take n bytes)) front.0 ∙ reach-done m (point_after m start (ended_lines (take n bytes))) front.0 done in
      let limit_done : m.done (after m start.state (ended_lines (take limit bytes))) ≡ true =
      ap (λ ls. m.done (after m start.state ls)) (ended_lines-within bytes n limit le)
      ∙ ap m.done (after-append m start.state (ended_lines (take n bytes)) (ended_from (open_line (take n bytes)) (drop n (take limit bytes)))
      ∙ after-done m (after m start.state (ended_lines (take n bytes))) (ended_from (open_line (take n bytes)) (drop n (take limit bytes))) done)
      ∙ done in
      record {
        whole = grind (arith, common_steps, limit_done);
        reached = subst (λ p. IsAt p state written) (sym same) h;
        finished = inr (record { count = n; within = le; taken = taken; done = done });
      }

  module _ (n : ℕ) (le : n ≤ limit) (there : n ≤ length bytes) (none : drop n bytes ≡ []) where
    all : take n bytes ≡ bytes
    all = take_all n bytes (omega (arith, ap length none, length-drop n bytes))

    fits : is_cut_off m limit start.state bytes ≡ false
    fits =
        let short : ltb limit (length bytes) ≡ false = grind (arith, ap length none, length-drop n bytes) in
        rw short

    pub heard_at_end : answered_lines m limit start.state bytes ≡ ended_lines (take n bytes) ++ last_line (open_line (take n bytes))
    heard_at_end = heard-whole fits ∙ ap (λ b. ended_lines b ++ last_line (open_line b)) (sym all)

    -- the input has ended: the last line was answered too
    pub done_at_end : (state : Option T) (written left : Option (List ℕ)) → left ≡ Some (drop n bytes) →
        IsAt (point_after m (point_after m start (ended_lines (take n bytes))) (last_line (open_line (take n bytes)))) state written →
        IsDone m limit start bytes state written left
    done_at_end state written left is h = record {
      whole = fits;
      reached = subst (λ p. IsAt p state written)
          (sym (ap (point_after m start) (heard-whole fits) ∙ reach-append m start (ended_lines bytes) (last_line (open_line bytes))
          ∙ ap (λ b. point_after m (point_after m start (ended_lines b)) (last_line (open_line b))) (sym all))) h;
      finished = inl (is ∙ ap Some none);
    }

    -- the input has ended: a failure on the last line
    pub stops_at_end : (stop : Stop) (state : Option T) (written : Option (List ℕ)) →
        Stops m leaves (point_after m start (ended_lines (take n bytes))) (last_line (open_line (take n bytes))) stop state written →
        Stops m leaves start (answered_lines m limit start.state bytes) stop state written
    stops_at_end stop state written h =
        subst (λ ls. Stops m leaves start ls stop state written) (sym heard_at_end)
        (Stops-after m leaves start (ended_lines (take n bytes)) (last_line (open_line (take n bytes))) stop state written h)

  -- the limit is taken, and there is another byte
  pub ends_at_limit : limit < length bytes → m.done (after m start.state (ended_lines (take limit bytes))) ≡ false →
      (state : Option T) (written left : Option (List ℕ)) → HasTaken bytes (limit + 1) left →
      IsAt (point_after m start (ended_lines (take limit bytes))) state written → IsInputLimit m limit start bytes state written left
  ends_at_limit more going_on state written left taken h =
      let cut : is_cut_off m limit start.state bytes ≡ true = grind (arith, common_steps) in
      record {
        cut = cut;
        reached = subst (λ ls. IsAt (point_after m start ls) state written) (sym (heard-cut cut)) h;
        taken = taken;
      }

  -- how a failure ends the run
  pub ends_stopped : (stop : Stop) (state : Option T) (written left : Option (List ℕ)) →
      Stops m leaves start (answered_lines m limit start.state bytes) stop state written →
      HasEnding m leaves limit start bytes (ending_of stop) state written left
  ends_stopped Write state written left h = h
  ends_stopped Context state written left h = h
  ends_stopped NoMemory state written left h = h

  -- no memory before the first read
  pub memory_at_start : (state : Option T) (written : Option (List ℕ)) → IsAt start state written →
      StopsForMemory m leaves start (answered_lines m limit start.state bytes) state written
  memory_at_start state written at = record {
    earlier = [];
    later = answered_lines m limit start.state bytes;
    split = refl;
    lacking = lacks_nothing m leaves start.state (answered_lines m limit start.state bytes) state at.in_state;
    count = 0;
    most = omega arith;
    has_written = at.has_written ∙ ap Some (sym (append-nil start.written));
  }

pub keeps_stopped : (limit : ℕ) (bytes : List ℕ) (stop : Stop) (left : Option (List ℕ)) → StaysWithin limit bytes left → KeepsLimit limit bytes (ending_of stop) left
keeps_stopped limit bytes Write left h = h
keeps_stopped limit bytes Context left h = h
keeps_stopped limit bytes NoMemory left h = h

pub more_taken : (bytes : List ℕ) (n len : ℕ) (old new : Option (List ℕ)) → HasTaken bytes n old → new ≡ Some (drop len (drop n bytes)) → len ≤ length (drop n bytes) →
    HasTaken bytes (n + len) new
more_taken bytes n len old new h is le = record {
  there = omega (arith, h.there, le, length-drop n bytes);
  rest = is ∙ ap Some (drop-drop len n bytes);
}

-- the piece that was read, in the buffer whose front it filled
pub piece_is : (bytes buf behind : List ℕ) (n len : ℕ) → take len buf ≡ take len (drop n bytes) → len ≤ length buf →
    take len (buf ++ behind) ≡ take len (drop n bytes)
piece_is bytes buf behind n len is le = take-append-le len buf behind le ∙ is

-- a read stays within the limit, but for the one byte that shows that there is another
pub room_keeps : (limit taken room len : ℕ) (buf piece : List ℕ) → taken ≤ limit → (taken ≡ limit → ⊥) → room ≡ max 1 (min 4096 (limit - taken)) →
    length buf ≡ length (take room piece) → len ≤ length buf → taken + len ≤ limit
room_keeps limit taken room len buf piece within other is same le = omega (arith, length-take room piece)

pub room_passes : (limit taken room len : ℕ) (buf piece : List ℕ) → taken ≡ limit → (len ≡ 0 → ⊥) → room ≡ max 1 (min 4096 (limit - taken)) →
    length buf ≡ length (take room piece) → len ≤ length buf → taken + len ≡ limit + 1
room_passes limit taken room len buf piece at some is same le = omega (arith, length-take room piece)
