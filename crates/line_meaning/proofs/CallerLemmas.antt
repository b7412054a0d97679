-- The step of a line by its command and its refusal, for the crates above.
use Rattle.std.proofs.Common.{◌≡◌, ℕ, true, false, Option, None, Some, List, ◌++◌, refl, sym, ap, ◌∙◌}
use Rattle.std.specs.Prelude.{unwrap_or}
use Rattle.std.proofs.lemmas.Bool.{false≢true}
use Rattle.command_text.specs.declared.reading.TheConstants.{LINE_LIMIT}
use Rattle.command_text.specs.declared.refusal.Refusal.{Refusal}
use Rattle.command_text.specs.Refusals.{refusal_line}
use Rattle.command_text.specs.Journal.{spelled}
use Rattle.exact.specs.First.{or_else}
use Rattle.command_text.specs.Line.{first_refusal, IsRead}
use Rattle.command_text.specs.Tree
use Rattle.command_text.specs.Tree.{CommandTree}
use Rattle.line_meaning.specs.Files.{texts_after}
use Rattle.line_meaning.specs.Reply.{line_feed}
use Rattle.line_meaning.specs.Role.{asks_shelf, is_import, role_of}
use Rattle.line_meaning.specs.Step.{Base, Held, all_after, base_after, fault_of, file_refusal, line_refusal, refusal_of, reply_by, reply_of, step, step_by}

pub or_none : (r : Option Refusal) → or_else r None ≡ r
or_none None = refl
or_none (Some r) = refl

pub spelled_is : (line : List ℕ) (c : CommandTree) → IsRead LINE_LIMIT line c → spelled line ≡ c
spelled_is line c read = ap (λ o. unwrap_or o Tree.Nothing) read.command

-- ---- The refusal of a line

-- but for the texts, a line that was read is refused as its command is
pub line_refusal_read : (h : Held) (line : List ℕ) (c : CommandTree) → IsRead LINE_LIMIT line c → line_refusal h line ≡ fault_of h c
unfolding line_refusal
line_refusal_read h line c read =
    ap (λ first. or_else first (fault_of h (spelled line))) read.taken
    ∙ ap (fault_of h) (spelled_is line c read)

pub refusal_read_any : (b : Base) (line : List ℕ) (c : CommandTree) → IsRead LINE_LIMIT line c →
    refusal_of b line ≡ or_else (fault_of b.held c) (file_refusal b c)
refusal_read_any b line c read =
    ap (λ first. or_else first (file_refusal b (spelled line))) (line_refusal_read b.held line c read)
    ∙ ap (λ d. or_else (fault_of b.held c) (file_refusal b d)) (spelled_is line c read)

-- a text refuses no command but an import
pub no_file_refusal : (b : Base) (c : CommandTree) → is_import c ≡ false → file_refusal b c ≡ None
no_file_refusal b (Tree.Import class file) other = absurd (false≢true (sym other))
no_file_refusal b c other = refl

pub refusal_read : (b : Base) (line : List ℕ) (c : CommandTree) (fault : Option Refusal) → IsRead LINE_LIMIT line c →
    is_import c ≡ false → fault_of b.held c ≡ fault → refusal_of b line ≡ fault
refusal_read b line c fault read other is =
    refusal_read_any b line c read
    ∙ ap (or_else (fault_of b.held c)) (no_file_refusal b c other)
    ∙ or_none (fault_of b.held c) ∙ is

-- of whatever command: what is refused before the texts are asked
pub refusal_read_before : (b : Base) (line : List ℕ) (c : CommandTree) (r : Refusal) → IsRead LINE_LIMIT line c →
    fault_of b.held c ≡ Some r → refusal_of b line ≡ Some r
refusal_read_before b line c r read is =
    refusal_read_any b line c read ∙ ap (λ first. or_else first (file_refusal b c)) is

-- what nothing else refuses is refused by the texts alone
pub refusal_read_file : (b : Base) (line : List ℕ) (c : CommandTree) → IsRead LINE_LIMIT line c →
    fault_of b.held c ≡ None → refusal_of b line ≡ file_refusal b c
refusal_read_file b line c read is =
    refusal_read_any b line c read ∙ ap (λ first. or_else first (file_refusal b c)) is

-- a line that isn't read is refused by why it isn't
pub refusal_first : (h : Held) (line : List ℕ) (r : Refusal) → first_refusal LINE_LIMIT line ≡ Some r → line_refusal h line ≡ Some r
unfolding line_refusal
refusal_first h line r first = ap (λ o. or_else o (fault_of h (spelled line))) first

pub refused_line : (b : Base) (line : List ℕ) (r : Refusal) → line_refusal b.held line ≡ Some r → refusal_of b line ≡ Some r
refused_line b line r is = ap (λ o. or_else o (file_refusal b (spelled line))) is

-- ---- The step

pub step_accepted : (b : Base) (line : List ℕ) (c : CommandTree) → refusal_of b line ≡ None → spelled line ≡ c →
    step b line ≡ (base_after b c, reply_of b c)
unfolding step
step_accepted b line c fault is = ap (step_by b (spelled line)) fault ∙ ap (λ d. step_by b d None) is

pub step_refused : (b : Base) (line : List ℕ) (r : Refusal) → refusal_of b line ≡ Some r →
    step b line ≡ (b, refusal_line r ++ line_feed)
unfolding step
step_refused b line r fault = ap (step_by b (spelled line)) fault

pub base_after_is : (b : Base) (c : CommandTree) → is_import c ≡ false →
    base_after b c ≡ record { held = all_after b.held c; texts = texts_after b.held b.texts c }
base_after_is b (Tree.Import class file) other = absurd (false≢true (sym other))
base_after_is b c other = refl

pub reply_is : (b : Base) (c : CommandTree) → is_import c ≡ false → reply_of b c ≡ reply_by (role_of c) b.held c
reply_is b (Tree.Import class file) other = absurd (false≢true (sym other))
reply_is b c other = refl

-- ---- The texts

-- only a `save` and an `export` put a text on the shelf
unasked_texts : (b : Base) (c : CommandTree) → asks_shelf c ≡ false → (base_after b c).texts ≡ b.texts
unasked_texts b (Tree.Save file) unasked = absurd (false≢true (sym unasked))
unasked_texts b (Tree.Export class file) unasked = absurd (false≢true (sym unasked))
unasked_texts b c unasked = refl

import_texts : (b : Base) (c : CommandTree) → is_import c ≡ true → (base_after b c).texts ≡ b.texts
import_texts b (Tree.Import class file) import = refl
import_texts b c import = absurd (false≢true import)

-- a refused line puts none there
texts_by : (b : Base) (c : CommandTree) (r : Option Refusal) → (base_after b c).texts ≡ b.texts → (step_by b c r).0.texts ≡ b.texts
texts_by b c None kept = kept
texts_by b c (Some r) kept = refl

pub texts_kept : (b : Base) (line : List ℕ) → asks_shelf (spelled line) ≡ false → (step b line).0.texts ≡ b.texts
unfolding step
texts_kept b line unasked =
    texts_by b (spelled line) (refusal_of b line) (unasked_texts b (spelled line) unasked)

pub import_texts_kept : (b : Base) (line : List ℕ) → is_import (spelled line) ≡ true → (step b line).0.texts ≡ b.texts
unfolding step
import_texts_kept b line import =
    texts_by b (spelled line) (refusal_of b line) (import_texts b (spelled line) import)
