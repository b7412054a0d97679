-- For this crate and for the crates above: the indexes change nothing but what is told of a command on them.
use Rattle.std.proofs.Common.{◌≡◌, ℕ, Bool, true, false, Option, None, Some, List, [], ◌∷◌, ◌++◌, append-nil, refl, sym, ap, ◌∙◌}
use Rattle.std.proofs.lemmas.Bool.{false≢true}
use Rattle.exact.specs.First.{or_else}
use Rattle.command_text.specs.declared.reading.TheConstants.{LINE_LIMIT}
use Rattle.command_text.specs.declared.refusal.Refusal.{Refusal}
use Rattle.command_text.specs.Journal.{spelled}
use Rattle.command_text.specs.Line.{first_refusal}
use Rattle.command_text.specs.Tree
use Rattle.command_text.specs.Tree.{CommandTree}
use Rattle.line_meaning.specs.Looks.{most_looks}
use Rattle.line_meaning.specs.Reached.{after_lines}
use Rattle.line_meaning.specs.Role.{is_on_indexes, role_of}
use Rattle.line_meaning.specs.Step.{Base, Held, all_after, base, base_after, fault_of, file_refusal, held, held_after, line_refusal, refusal_of, reply_by, reply_of, step, step_by}
use Rattle.line_meaning.specs.Alike.{AreAlike}

-- ---- a command that isn't on indexes

pub plain_fault : (h : Held) (c : CommandTree) → is_on_indexes c ≡ false → fault_of h c ≡ fault_of (held h.journal) c
plain_fault h (Tree.Index class attribute width) plain = absurd (false≢true (sym plain))
plain_fault h (Tree.Range span class attribute least greatest) plain = absurd (false≢true (sym plain))
plain_fault h c plain = refl

pub plain_after : (h : Held) (c : CommandTree) → is_on_indexes c ≡ false → all_after h c ≡ held_after h c
plain_after h (Tree.Index class attribute width) plain = absurd (false≢true (sym plain))
plain_after h (Tree.Range span class attribute least greatest) plain = absurd (false≢true (sym plain))
plain_after h c plain = refl

pub plain_looks : (h : Held) (c : CommandTree) → is_on_indexes c ≡ false → most_looks h c ≡ most_looks (held h.journal) c
plain_looks h (Tree.Index class attribute width) plain = absurd (false≢true (sym plain))
plain_looks h (Tree.Range span class attribute least greatest) plain = absurd (false≢true (sym plain))
plain_looks h c plain = refl

pub plain_reply : (h : Held) (c : CommandTree) → is_on_indexes c ≡ false → reply_by (role_of c) h c ≡ reply_by (role_of c) (held h.journal) c
plain_reply h (Tree.Index class attribute width) plain = absurd (false≢true (sym plain))
plain_reply h (Tree.Range span class attribute least greatest) plain = absurd (false≢true (sym plain))
plain_reply h c plain = refl

-- ---- steps from states that differ in their indexes alone

abbrev without : Base → Base
without b = base (held b.held.journal) b.texts

plain_file : (b : Base) (c : CommandTree) → file_refusal b c ≡ file_refusal (without b) c
plain_file b (Tree.Import class file) = refl
plain_file b c = refl

plain_answer : (b : Base) (c : CommandTree) → is_on_indexes c ≡ false → reply_of b c ≡ reply_of (without b) c
plain_answer b (Tree.Index class attribute width) plain = absurd (false≢true (sym plain))
plain_answer b (Tree.Range span class attribute least greatest) plain = absurd (false≢true (sym plain))
plain_answer b c plain = refl

plain_refusal : (b : Base) (line : List ℕ) → is_on_indexes (spelled line) ≡ false → refusal_of b line ≡ refusal_of (without b) line
unfolding line_refusal
plain_refusal b line plain =
    ap (λ fault. or_else (or_else (first_refusal LINE_LIMIT line) fault) (file_refusal b (spelled line))) (plain_fault b.held (spelled line) plain)
    ∙ ap (or_else (or_else (first_refusal LINE_LIMIT line) (fault_of (held b.held.journal) (spelled line)))) (plain_file b (spelled line))

reply_by_refusal : (b d : Base) (c : CommandTree) (r : Option Refusal) → reply_of b c ≡ reply_of d c → (step_by b c r).1 ≡ (step_by d c r).1
reply_by_refusal b d c None same = same
reply_by_refusal b d c (Some r) same = refl

reply_without : (b : Base) (line : List ℕ) → is_on_indexes (spelled line) ≡ false → (step b line).1 ≡ (step (without b) line).1
unfolding step
reply_without b line plain =
    ap (λ r. (step_by b (spelled line) r).1) (plain_refusal b line plain)
    ∙ reply_by_refusal b (without b) (spelled line) (refusal_of (without b) line) (plain_answer b (spelled line) plain)

plain_base : (b : Base) (c : CommandTree) → AreAlike (base_after b c) (base_after (without b) c)
plain_base b (Tree.Import class file) = record { journal = refl; texts = refl }
plain_base b c = record { journal = refl; texts = refl }

alike_by : (b d : Base) (c : CommandTree) (r : Option Refusal) → AreAlike b d → AreAlike (base_after b c) (base_after d c) →
    AreAlike (step_by b c r).0 (step_by d c r).0
alike_by b d c None now after = after
alike_by b d c (Some r) now after = now

-- a command on indexes leaves the journal and the texts, refused or not
stays_by : (b : Base) (c : CommandTree) (r : Option Refusal) → is_on_indexes c ≡ true → AreAlike (step_by b c r).0 b
stays_by b c (Some r) on = record { journal = refl; texts = refl }
stays_by b (Tree.Index class attribute width) None on = record { journal = append-nil b.held.journal; texts = refl }
stays_by b (Tree.Range span class attribute least greatest) None on = record { journal = append-nil b.held.journal; texts = refl }
stays_by b c None on = absurd (false≢true on)

alike_back : (b d : Base) → AreAlike b d → AreAlike d b
alike_back b d is = record { journal = sym is.journal; texts = sym is.texts }

alike_through : (b d e : Base) → AreAlike b d → AreAlike d e → AreAlike b e
alike_through b d e first next = record { journal = first.journal ∙ next.journal; texts = first.texts ∙ next.texts }

state_by : (b : Base) (line : List ℕ) (on : Bool) → is_on_indexes (spelled line) ≡ on → AreAlike (step b line).0 (step (without b) line).0
unfolding step
state_by b line true on =
    let c = spelled line in
    let first = stays_by b c (refusal_of b line) on in
    let next = stays_by (without b) c (refusal_of (without b) line) on in
    record { journal = first.journal ∙ sym next.journal; texts = first.texts ∙ sym next.texts }
state_by b line false plain =
    let c = spelled line in
    let same = plain_refusal b line plain in
    let by = alike_by b (without b) c (refusal_of (without b) line) (record { journal = refl; texts = refl }) (plain_base b c) in
    record {
      journal = ap (λ r. (step_by b c r).0.held.journal) same ∙ by.journal;
      texts = ap (λ r. (step_by b c r).0.texts) same ∙ by.texts;
    }

same_without : (b d : Base) → AreAlike b d → without b ≡ without d
same_without b d is = λ i. base (held (is.journal i)) (is.texts i)

pub replies_are_alike : (b d : Base) (line : List ℕ) → AreAlike b d → is_on_indexes (spelled line) ≡ false → (step b line).1 ≡ (step d line).1
replies_are_alike b d line alike plain =
    reply_without b line plain
    ∙ ap (λ (x : Base). (step x line).1) (same_without b d alike)
    ∙ sym (reply_without d line plain)

pub steps_are_alike : (b d : Base) (line : List ℕ) → AreAlike b d → AreAlike (step b line).0 (step d line).0
steps_are_alike b d line alike =
    let first = state_by b line (is_on_indexes (spelled line)) refl in
    let last = state_by d line (is_on_indexes (spelled line)) refl in
    let same = same_without b d alike in
    record {
      journal = first.journal ∙ ap (λ (x : Base). (step x line).0.held.journal) same ∙ sym last.journal;
      texts = first.texts ∙ ap (λ (x : Base). (step x line).0.texts) same ∙ sym last.texts;
    }

-- so are those after any lines
pub lines_are_alike : (b d : Base) (lines : List (List ℕ)) → AreAlike b d → AreAlike (after_lines b lines) (after_lines d lines)
lines_are_alike b d [] alike = alike
lines_are_alike b d (line ∷ lines) alike = lines_are_alike (step b line).0 (step d line).0 lines (steps_are_alike b d line alike)
