use Rattle.std.proofs.Common.{ℕ, ◌+◌, ◌≤◌, List, length, option_map, slice_get, sym, ap, ◌∙◌, subst}
use Rattle.command_text.specs.Journal.{line_told}
use Rattle.command_text.specs.inner.JournalParts.{line_in}
use Rattle.command_text.proofs.JournalLemmas.{line_inside, entry_told}
use Rattle.command_text.proofs.journal.Journal.entry.Goals as goal

pub line_at-requires : goal.line_at-requires
line_at-requires g c =
    let k = c.in_ok-kept.kept in
    let is = sym (c.in_ok-kept.ensures ∙ ap (λ ks. slice_get ks c.args.i) c.deref.ensures.value) in
    subst (λ (text : List ℕ). k.from + k.size ≤ length text) (sym c.deref-2.ensures.value)
    (line_inside 0 c.self.inside.kept.items c.self.inside.text.items c.args.i k c.self.invariant.lines is)

pub returns-clause-value : goal.returns-clause-value
returns-clause-value g c =
    let k = c.in_ok-kept.kept in
    let is = sym (c.in_ok-kept.ensures ∙ ap (λ ks. slice_get ks c.args.i) c.deref.ensures.value) in
    let line = c.line_at.ensures ∙ ap (λ text. line_in text k) c.deref-2.ensures.value in
    entry_told c.self.inside.kept.items c.self.inside.text.items c.args.i k c.line_at.result.now c.self.invariant.lines is line
    ∙ ap (λ journal. option_map line_told (slice_get journal c.args.i)) c.self.view_is
