use Rattle.std.proofs.Common.{◌∙◌, ◌&&◌, rules, sym}
use Rattle.std.specs.Str.{bytes_eq}
use Rattle.std.proofs.lemmas.List.Sorted.{All-permutation, answers_always, list_any-IsPermutation}
use Rattle.relation.specs.declared.entries.Entry.{Entry}
use Rattle.relation.specs.Entries.{IsEntry, entry_has}
use Rattle.relation.proofs.EntryLemmas.{entries_sorted}
use Rattle.relation.proofs.projection.entries_over.Goals as goal

pub returns-clause-entries : goal.returns-clause-entries
returns-clause-entries g c = λ domains lo hi are.
    let is = IsEntry g.S.TickSet.member c.args.rows.now domains c.args.vars.now lo hi in
    entries_sorted g.S.TickSet.member c.args.rows.now domains c.args.vars.now lo hi c.sort_by_key.new.self.items
    (All-permutation is c.in_ok-made.made.items c.sort_by_key.new.self.items c.in_ok-sort_by_key.ensures.permutation (c.in_ok-made.ensures.each domains lo hi are))
    (c.in_ok-sort_by_key.ensures.sorted (λ (e : Entry). e.key) (answers_always _ _ _ (λ f a r h called. search rules)))

pub returns-clause-ticks : goal.returns-clause-ticks
returns-clause-ticks g c = λ key t.
    sym (list_any-IsPermutation (λ (e : Entry). bytes_eq e.key key && entry_has g.S.TickSet.member c.args.rows.now e t) c.in_ok-made.made.items c.sort_by_key.new.self.items
    c.in_ok-sort_by_key.ensures.permutation)
    ∙ c.in_ok-made.ensures.ticks key t
