use Rattle.std.proofs.Common.{◌≡◌, ◌∙◌, ◌++◌, ℕ, codes, ap, length, rules}
use Rattle.std.specs.List.{flat_map}
use Rattle.session_file.specs.Counts.{counts_line}
use Rattle.session_file.specs.Reading.{header}
use Rattle.session_file.specs.Text.{ended_line, entry_text}
use Rattle.session_file.proofs.TextLemmas.{text_is}
use Rattle.session_file.proofs.save.save_text.Goals as goal

pub returns-clause-text : goal.returns-clause-text
returns-clause-text g c =
    let journal = c.args.journal.now in
    let body = c.push_line.new.text.items in
    let is-body : body ≡ flat_map entry_text journal ++ ended_line (codes "end") =
    c.in_ok-push_line.ensures ∙ ap (λ t. t ++ ended_line (codes "end")) (c.in_ok-ticks.ensures.text ∙ ap (λ t. t ++ flat_map entry_text journal) c.in_ok-text.ensures.items) in
    let is-length : c.len-body.result ≡ length body = search rules in
    let is-text = c.in_ok-push_head.ensures
    ∙ ap (λ (n : ℕ). body ++ (ended_line header ++ ended_line (counts_line (record { commands = n; ticks = c.in_ok-ticks.ticks })))) c.len.ensures.value
    ∙ ap (λ (n : ℕ). body ++ (ended_line header ++ ended_line (counts_line (record { commands = length journal; ticks = n })))) c.in_ok-ticks.ensures.ticks in
    c.rotate_left.ensures.items ∙ text_is journal body c.push_head.new.text.items c.len-body.result is-body is-length is-text
