-- The lines of a journal, when one is added at the end or taken away there.
use Rattle.command_text.proofs.Names.{◌≡◌, ℕ, zero, suc, ◌+◌, ◌<◌, ◌≤◌, List, [], ◌∷◌, ◌++◌, length, map, take, None, Some, option_map, slice_get, refl, sym, ◌∙◌, ap, subst, arith, take-append-drop, take-append-le, drop-append-le, length-drop, length-take, length-take-le, length-append, map-append, length-map, Result, Ok, Err, OnOk, OnErr, sum_by-cons, slice_get-map, text_of}
use Rattle.std.proofs.Common.{drop}
use Rattle.std.specs.declared.alloc.AllocError.{AllocError}
use Rattle.std.proofs.Math.Seq.{take-append_seam, drop-append_seam}
use Rattle.command_text.specs.declared.journal.Kept.{Kept}
use Rattle.command_text.specs.Journal.{Accepted, spelled, line_told, line_bytes, bytes_of}
use Rattle.command_text.specs.declared.journal.TheConstants.{MOST_ENTRIES, MOST_BYTES}
use Rattle.command_text.specs.inner.JournalParts.{line_in, accepted, AreLines, IsJournal}

-- lines end by the end of the text
pub lines_end : (place : ℕ) (ks : List Kept) (text : List ℕ) → AreLines place ks text → place ≤ length text
lines_end place [] text h = omega (arith, h)
lines_end place (k ∷ ks) text h = let later : place + k.size + 1 ≤ length text = lines_end (place + k.size + 1) ks text h.2 in omega (arith, later)

-- what stands after a line doesn't touch it
line_before : (k : Kept) (text more : List ℕ) → k.from + k.size ≤ length text → line_in (text ++ more) k ≡ line_in text k
line_before k text more h =
    ap (take k.size) (drop-append-le k.from text more (omega arith))
    ∙ take-append-le k.size (drop k.from text) more (rw (length-drop k.from text) (omega arith))

-- a line of so many bytes
line_length : (k : Kept) (text : List ℕ) → k.from + k.size ≤ length text → length (line_in text k) ≡ k.size
line_length k text h = rw (length-take k.size (drop k.from text), length-drop k.from text) (omega arith)

pub lines_bytes : (place : ℕ) (ks : List Kept) (text : List ℕ) → AreLines place ks text → place + bytes_of (map (accepted text) ks) ≡ length text
lines_bytes place [] text h = omega (arith, h)
lines_bytes place (k ∷ ks) text h =
    let ends : place + k.size + 1 ≤ length text = lines_end (place + k.size + 1) ks text h.2 in
    let later : (place + k.size + 1) + bytes_of (map (accepted text) ks) ≡ length text = lines_bytes (place + k.size + 1) ks text h.2 in
    let from : k.from ≡ place = h.0 in
    let bytes : line_bytes (accepted text k) ≡ k.size + 1 = ap (λ line. length line + 1) h.1 ∙ ap (λ n. n + 1) (line_length k text (omega arith)) in
    let sum : bytes_of (map (accepted text) (k ∷ ks)) ≡ line_bytes (accepted text k) + bytes_of (map (accepted text) ks) =
    sum_by-cons line_bytes (accepted text k) (map (accepted text) ks) in
    omega (arith, later, bytes, sum)

pub text_bytes : (ks : List Kept) (text : List ℕ) → AreLines 0 ks text → length text ≡ bytes_of (map (accepted text) ks)
text_bytes ks text h = let bytes : 0 + bytes_of (map (accepted text) ks) ≡ length text = lines_bytes 0 ks text h in omega (arith, bytes)

-- an entry stands in the text, and its line is canonical
pub line_inside : (place : ℕ) (ks : List Kept) (text : List ℕ) (i : ℕ) (k : Kept) → AreLines place ks text → slice_get ks i ≡ Some k
    → k.from + k.size ≤ length text
line_inside place [] text zero k h e = absurd (cc e)
line_inside place [] text (suc i) k h e = absurd (cc e)
line_inside place (x ∷ ks) text zero k h e =
    let ends : place + x.size + 1 ≤ length text = lines_end (place + x.size + 1) ks text h.2 in
    let from : x.from ≡ place = h.0 in
    let same : x ≡ k = cc e in
    subst (λ (y : Kept). y.from + y.size ≤ length text) same (omega (arith, ends, from))
line_inside place (x ∷ ks) text (suc i) k h e = line_inside (place + x.size + 1) ks text i k h.2 e

line_stands : (place : ℕ) (ks : List Kept) (text : List ℕ) (i : ℕ) (k : Kept) → AreLines place ks text → slice_get ks i ≡ Some k
    → text_of (spelled (line_in text k)) ≡ line_in text k
line_stands place [] text zero k h e = absurd (cc e)
line_stands place [] text (suc i) k h e = absurd (cc e)
line_stands place (x ∷ ks) text zero k h e =
    let same : x ≡ k = cc e in
    subst (λ (y : Kept). text_of (spelled (line_in text y)) ≡ line_in text y) same h.1
line_stands place (x ∷ ks) text (suc i) k h e = line_stands (place + x.size + 1) ks text i k h.2 e

-- the tick and the line of an entry
pub entry_told : (ks : List Kept) (text : List ℕ) (i : ℕ) (k : Kept) (line : List ℕ) → AreLines 0 ks text → slice_get ks i ≡ Some k → line ≡ line_in text k →
    Some (k.tick, line) ≡ option_map line_told (slice_get (map (accepted text) ks) i)
entry_told ks text i k line h e is =
    sym (ap (option_map line_told) (slice_get-map (accepted text) ks i ∙ ap (option_map (accepted text)) e)
    ∙ ap (λ l. Some (k.tick, l)) (line_stands 0 ks text i k h e ∙ sym is))

pub no_entry : (ks : List Kept) (text : List ℕ) (i : ℕ) → slice_get ks i ≡ None → None ≡ option_map line_told (slice_get (map (accepted text) ks) i)
no_entry ks text i e = sym (ap (option_map line_told) (slice_get-map (accepted text) ks i ∙ ap (option_map (accepted text)) e))

-- a line at the end of the text
pub lines_added : (place : ℕ) (ks : List Kept) (text line : List ℕ) (k : Kept) → AreLines place ks text → k.from ≡ length text → k.size ≡ length line →
    text_of (spelled line) ≡ line → AreLines place (ks ++ k ∷ []) (text ++ (line ++ 10 ∷ []))
lines_added place [] text line k h from size same =
    let is : line_in (text ++ (line ++ 10 ∷ [])) k ≡ line = line_at_end text line (10 ∷ []) k from size in
    let total : length (text ++ (line ++ 10 ∷ [])) ≡ length text + (length line + 1) = simp (length-append) in
    (from ∙ sym h, ap (λ l. text_of (spelled l)) is ∙ same ∙ sym is, omega (arith, total, from, size, h))
  where
    line_at_end : (text line more : List ℕ) (k : Kept) → k.from ≡ length text → k.size ≡ length line → line_in (text ++ (line ++ more)) k ≡ line
    line_at_end text line more k from size =
        ap (λ n. take k.size (drop n (text ++ (line ++ more)))) from
        ∙ ap (λ n. take n (drop (length text) (text ++ (line ++ more)))) size
        ∙ ap (take (length line)) (drop-append_seam text (line ++ more))
        ∙ take-append_seam line more
lines_added place (x ∷ ks) text line k h from size same =
    let ends : place + x.size + 1 ≤ length text = lines_end (place + x.size + 1) ks text h.2 in
    let at : x.from ≡ place = h.0 in
    let is : line_in (text ++ (line ++ 10 ∷ [])) x ≡ line_in text x = line_before x text (line ++ 10 ∷ []) (omega (arith, ends, at)) in
    (h.0, ap (λ l. text_of (spelled l)) is ∙ h.1 ∙ sym is, lines_added (place + x.size + 1) ks text line k h.2 from size same)

pub told_added : (place : ℕ) (ks : List Kept) (text line : List ℕ) (k : Kept) → AreLines place ks text → k.from ≡ length text → k.size ≡ length line →
    map (accepted (text ++ (line ++ 10 ∷ []))) (ks ++ k ∷ []) ≡ map (accepted text) ks ++ (k.tick, spelled line) ∷ []
told_added place [] text line k h from size =
    ap (λ l. (k.tick, spelled l) ∷ [])
    (ap (λ n. take k.size (drop n (text ++ (line ++ 10 ∷ [])))) from
    ∙ ap (λ n. take n (drop (length text) (text ++ (line ++ 10 ∷ [])))) size
    ∙ ap (take (length line)) (drop-append_seam text (line ++ 10 ∷ []))
    ∙ take-append_seam line (10 ∷ []))
told_added place (x ∷ ks) text line k h from size =
    let ends : place + x.size + 1 ≤ length text = lines_end (place + x.size + 1) ks text h.2 in
    let at : x.from ≡ place = h.0 in
    ap (λ l. (x.tick, spelled l) ∷ map (accepted (text ++ (line ++ 10 ∷ []))) (ks ++ k ∷ [])) (line_before x text (line ++ 10 ∷ []) (omega (arith, ends, at)))
    ∙ ap (λ es. accepted text x ∷ es) (told_added (place + x.size + 1) ks text line k h.2 from size)

-- the last line begins after all before it
last_from : (place : ℕ) (ks : List Kept) (text : List ℕ) (k : Kept) → AreLines place (ks ++ k ∷ []) text → place ≤ k.from
last_from place [] text k h = let at : k.from ≡ place = h.0 in omega (arith, at)
last_from place (x ∷ ks) text k h = let later : place + x.size + 1 ≤ k.from = last_from (place + x.size + 1) ks text k h.2 in omega (arith, later)

last_ends : (place : ℕ) (ks : List Kept) (text : List ℕ) (k : Kept) → AreLines place (ks ++ k ∷ []) text → k.from ≤ length text
last_ends place [] text k h =
    let at : k.from ≡ place = h.0 in
    let end : place + k.size + 1 ≡ length text = h.2 in
    omega (arith, at, end)
last_ends place (x ∷ ks) text k h = last_ends (place + x.size + 1) ks text k h.2

-- a line that ends before a place is the same in the text up to there
line_cut : (k : Kept) (n : ℕ) (text : List ℕ) → k.from + k.size ≤ n → n ≤ length text → line_in (take n text) k ≡ line_in text k
line_cut k n text h inside =
    let len : length (take n text) ≡ n = length-take-le n text inside in
    sym (line_before k (take n text) (drop n text) (omega (arith, len, h)))
    ∙ ap (λ t. line_in t k) (take-append-drop n text)

pub lines_removed : (place : ℕ) (ks : List Kept) (text : List ℕ) (k : Kept) → AreLines place (ks ++ k ∷ []) text → AreLines place ks (take k.from text)
lines_removed place [] text k h =
    let at : k.from ≡ place = h.0 in
    let len : length (take k.from text) ≡ k.from = length-take-le k.from text (last_ends place [] text k h) in
    omega (arith, at, len)
lines_removed place (x ∷ ks) text k h =
    let after : place + x.size + 1 ≤ k.from = last_from (place + x.size + 1) ks text k h.2 in
    let at : x.from ≡ place = h.0 in
    let is : line_in (take k.from text) x ≡ line_in text x = line_cut x k.from text (omega (arith, after, at)) (last_ends place (x ∷ ks) text k h) in
    (h.0, ap (λ l. text_of (spelled l)) is ∙ h.1 ∙ sym is, lines_removed (place + x.size + 1) ks text k h.2)

told_before : (place : ℕ) (ks : List Kept) (text : List ℕ) (k : Kept) → AreLines place (ks ++ k ∷ []) text
    → map (accepted (take k.from text)) ks ≡ map (accepted text) ks
told_before place [] text k h = refl
told_before place (x ∷ ks) text k h =
    let after : place + x.size + 1 ≤ k.from = last_from (place + x.size + 1) ks text k h.2 in
    let at : x.from ≡ place = h.0 in
    ap (λ l. (x.tick, spelled l) ∷ map (accepted (take k.from text)) ks) (line_cut x k.from text (omega (arith, after, at)) (last_ends place (x ∷ ks) text k h))
    ∙ ap (λ es. accepted text x ∷ es) (told_before (place + x.size + 1) ks text k h.2)

pub told_removed : (ks : List Kept) (text : List ℕ) (k : Kept) → AreLines 0 (ks ++ k ∷ []) text →
    map (accepted text) (ks ++ k ∷ []) ≡ map (accepted (take k.from text)) ks ++ accepted text k ∷ []
told_removed ks text k h = map-append (accepted text) ks (k ∷ []) ∙ ap (λ es. es ++ accepted text k ∷ []) (sym (told_before 0 ks text k h))

pub last_inside : (ks : List Kept) (text : List ℕ) (k : Kept) → AreLines 0 (ks ++ k ∷ []) text → k.from ≤ length text
last_inside ks text k h = last_ends 0 ks text k h

-- a journal with one more line
pub kept_added : (ks ks2 : List Kept) (text text2 line : List ℕ) (tick : ℕ) (journal : List Accepted) →
    IsJournal ks text → journal ≡ map (accepted text) ks → length journal < MOST_ENTRIES → bytes_of journal + length line + 1 ≤ MOST_BYTES →
    text_of (spelled line) ≡ line →
    ks2 ≡ ks ++ record { tick = tick; from = length text; size = length line } ∷ [] → text2 ≡ text ++ (line ++ 10 ∷ []) →
    IsJournal ks2 text2 × (map (accepted text2) ks2 ≡ journal ++ (tick, spelled line) ∷ [])
kept_added ks ks2 text text2 line tick journal kept view few short same is-kept is-text =
    let k : Kept = record { tick = tick; from = length text; size = length line } in
    let journal-length : length journal ≡ length ks = ap length view ∙ simp (length-map) in
    let kept-length : length ks2 ≡ length ks + 1 = ap length is-kept ∙ simp (length-append) in
    let text-length : length text2 ≡ length text + (length line + 1) = ap length is-text ∙ simp (length-append) in
    let bytes : length text ≡ bytes_of journal = text_bytes ks text kept.lines ∙ ap bytes_of (sym view) in
    let lines : AreLines 0 ks2 text2 =
    subst (λ (x : List Kept). AreLines 0 x text2) (sym is-kept)
    (subst (λ (t : List ℕ). AreLines 0 (ks ++ k ∷ []) t) (sym is-text) (lines_added 0 ks text line k kept.lines refl refl same)) in
    let told : map (accepted text2) ks2 ≡ map (accepted text) ks ++ (tick, spelled line) ∷ [] =
    ap (λ t. map (accepted t) ks2) is-text ∙ ap (map (accepted (text ++ (line ++ 10 ∷ [])))) is-kept ∙ told_added 0 ks text line k kept.lines refl refl in (
      record {
        lines = lines;
        few = omega (arith, journal-length, kept-length, few);
        short = omega (arith, text-length, bytes, short);
      },
      told ∙ ap (λ j. j ++ (tick, spelled line) ∷ []) (sym view),
    )

-- a journal without its last line
pub kept_removed : (ks ks2 : List Kept) (text text2 : List ℕ) (k : Kept) (journal : List Accepted) →
    IsJournal ks text → journal ≡ map (accepted text) ks → ks ≡ ks2 ++ k ∷ [] → text2 ≡ take k.from text →
    IsJournal ks2 text2 × (journal ≡ map (accepted text2) ks2 ++ accepted text k ∷ [])
kept_removed ks ks2 text text2 k journal kept view is-kept is-text =
    let before : AreLines 0 (ks2 ++ k ∷ []) text = subst (λ (x : List Kept). AreLines 0 x text) is-kept kept.lines in
    let kept-length : length ks ≡ length ks2 + 1 = ap length is-kept ∙ simp (length-append) in
    let few : length ks ≤ MOST_ENTRIES = kept.few in
    let short : length text ≤ MOST_BYTES = kept.short in
    let inside : k.from ≤ length text = last_inside ks2 text k before in
    let text-length : length text2 ≡ k.from = ap length is-text ∙ length-take-le k.from text inside in (
      record {
        lines = subst (λ (t : List ℕ). AreLines 0 ks2 t) (sym is-text) (lines_removed 0 ks2 text k before);
        few = omega (arith, kept-length, few);
        short = omega (arith, text-length, inside, short);
      },
      view ∙ ap (map (accepted text)) is-kept ∙ told_removed ks2 text k before ∙ ap (λ t. map (accepted t) ks2 ++ accepted text k ∷ []) (sym is-text),
    )

-- a line that was added, or for which there was no memory
pub kept_either : (r : Result (Unit {0}) AllocError) (ks ks2 : List Kept) (text text2 line : List ℕ) (tick : ℕ) (journal : List Accepted) →
    IsJournal ks text → journal ≡ map (accepted text) ks → length journal < MOST_ENTRIES → bytes_of journal + length line + 1 ≤ MOST_BYTES →
    text_of (spelled line) ≡ line →
    OnOk r (ks2 ≡ ks ++ record { tick = tick; from = length text; size = length line } ∷ []) → OnOk r (text2 ≡ text ++ (line ++ 10 ∷ [])) →
    OnErr r ((ks2 ≡ ks) × (text2 ≡ text)) → IsJournal ks2 text2
kept_either (Ok u) ks ks2 text text2 line tick journal kept view few short same is-kept is-text e =
    (kept_added ks ks2 text text2 line tick journal kept view few short same is-kept is-text).0
kept_either (Err e) ks ks2 text text2 line tick journal kept view few short same is-kept is-text is =
    subst (λ (x : List Kept). IsJournal x text2) (sym is.0) (subst (λ (t : List ℕ). IsJournal ks t) (sym is.1) kept)

pub told_either : (r : Result (Unit {0}) AllocError) (ks ks2 : List Kept) (text text2 line : List ℕ) (tick : ℕ) (journal : List Accepted) →
    IsJournal ks text → journal ≡ map (accepted text) ks → length journal < MOST_ENTRIES → bytes_of journal + length line + 1 ≤ MOST_BYTES →
    text_of (spelled line) ≡ line →
    OnOk r (ks2 ≡ ks ++ record { tick = tick; from = length text; size = length line } ∷ []) → OnOk r (text2 ≡ text ++ (line ++ 10 ∷ [])) →
    OnOk r (map (accepted text2) ks2 ≡ journal ++ (tick, spelled line) ∷ [])
told_either (Ok u) ks ks2 text text2 line tick journal kept view few short same is-kept is-text =
    (kept_added ks ks2 text text2 line tick journal kept view few short same is-kept is-text).1
told_either (Err e) ks ks2 text text2 line tick journal kept view few short same is-kept is-text = tt
