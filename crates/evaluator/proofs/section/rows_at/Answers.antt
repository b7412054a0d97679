use Rattle.std.proofs.Common.{◌≡◌, ℕ, ◌&&◌, true, List, length, get_or, ap, subst, arith, ◌∙◌, sym, []}
use Rattle.std.specs.Option.{option_copied}
use Rattle.std.proofs.lemmas.List.{length-map, take_all}
use Rattle.tick_set.specs.Ticks.{within}
use Rattle.relation.specs.Key.{key_in}
use Rattle.relation.specs.Rows.{Table, has_at, table}
use Rattle.evaluator.specs.inner.Filled.{IsFilled}
use Rattle.evaluator.proofs.AwayLemmas.{at_above, filled_at, key_here, keys_at}
use Rattle.evaluator.proofs.FillingLemmas.{at_key, filled_put, fits_inside}
use Rattle.evaluator.proofs.SectionLemmas.{head_lies, keys_of_rows, row_ticks, section_all, section_frame, section_lies}
use Rattle.evaluator.proofs.section.rows_at.Goals as goal

pub put-requires-clause-above : goal.put-requires-clause-above
put-requires-clause-above g c =
    let rows = c.args.rows.now in
    let keys = keys_at rows in
    let key = c.unwrap-key.result in
    let are = keys_of_rows rows c.args.d.now c.requires c.rows_stand_in_order.ensures.keys c.len.ensures.ascending in
    let many : length keys ≡ length rows.rows = length-map rows.rows (λ r. r.key) in
    let at : key ≡ get_or keys c.places.place key = key_here (λ r. r.key) rows.rows c.places.place key (sym c.key_at.ensures ∙ c.unwrap-key.ensures) in
    at_above g.S.TickSet.member (λ k t. within c.args.section.span.lo c.args.section.span.hi t && has_at g.S.TickSet.member rows.rows k t)
    keys c.places.place key c.empty-made.result c.places.made (omega (arith, many, c.places-test.true, c.len-place-end.ensures)) at c.places.invariant.rows
    (ap (λ (r : Table g.row.S.Denot). r.rows) c.empty-made.ensures) are.ascend

pub put-requires-clause-inside : goal.put-requires-clause-inside
put-requires-clause-inside g c =
    let rows = c.args.rows.now in
    let keys = keys_at rows in
    let key = c.unwrap-key.result in
    let are = keys_of_rows rows c.args.d.now c.requires c.rows_stand_in_order.ensures.keys c.len.ensures.ascending in
    let many : length keys ≡ length rows.rows = length-map rows.rows (λ r. r.key) in
    let at : key ≡ get_or keys c.places.place key = key_here (λ r. r.key) rows.rows c.places.place key (sym c.key_at.ensures ∙ c.unwrap-key.ensures) in
    let inside = at_key (key_in c.args.d.now rows.vars) keys c.places.place key are.inside (omega (arith, many, c.places-test.true, c.len-place-end.ensures)) in
    fits_inside c.empty-made.result c.places.made c.places.invariant.rows.head rows.vars c.args.d.now c.args.section.window.lo c.args.section.window.hi
    (c.empty-made.ensures ∙ ap (λ (vs : List ℕ). table vs c.args.d.now c.args.section.window.lo c.args.section.window.hi []) c.vars.ensures.value) key
    (subst (λ (k : List ℕ). key_in c.args.d.now rows.vars k ≡ true) (sym at) inside)

pub put-requires-clause-lies : goal.put-requires-clause-lies
put-requires-clause-lies g c =
    head_lies c.empty-made.result c.places.made c.places.invariant.rows.head c.vars.result.now c.args.d.now c.args.section.window.lo c.args.section.window.hi c.empty-made.ensures (g.S.TickSet.member c.in_ok-set.set)
    (section_lies c.args.section.span.lo c.args.section.span.hi c.args.section.window.lo c.args.section.window.hi (g.S.TickSet.member c.in_ok-set.set) (g.S.TickSet.member c.unwrap-whole.result.now)
    c.args.section.begins c.args.section.ends
    (λ u. c.in_ok-set.ensures u ∙ (λ k. within (c.window-part.ensures.0 k) (c.window-part.ensures.1 k) u && g.S.TickSet.member c.unwrap-whole.result.now u)))

pub places-preserved : goal.places-preserved
places-preserved g c =
    let rows = c.args.rows.now in
    let keys = keys_at rows in
    let key = c.unwrap-key.result in
    let truth = λ (k : List ℕ) (t : ℕ). within c.args.section.span.lo c.args.section.span.hi t && has_at g.S.TickSet.member rows.rows k t in
    let many : length keys ≡ length rows.rows = length-map rows.rows (λ r. r.key) in
    let at : key ≡ get_or keys c.places.place key = key_here (λ r. r.key) rows.rows c.places.place key (sym c.key_at.ensures ∙ c.unwrap-key.ensures) in
    record {
      rows = filled_at g.S.TickSet.member truth keys c.places.place key c.empty-made.result c.places.made (omega (arith, many, c.places-test.true, c.len-place-end.ensures)) at c.places.invariant.rows c.put.new.self
          (filled_put g.S.TickSet.member truth key c.in_ok-set.set c.places.made c.put.new.self
          (λ u.
          c.in_ok-set.ensures u
          ∙ (λ k. within (c.window-part.ensures.0 k) (c.window-part.ensures.1 k) u && g.S.TickSet.member c.unwrap-whole.result.now u)
          ∙ ap (λ b. within c.args.section.span.lo c.args.section.span.hi u && b)
          (sym (row_ticks g.S.TickSet.member rows.rows rows.rows c.places.place key c.unwrap-whole.result.now
          (sym c.key_at.ensures ∙ c.unwrap-key.ensures) (sym c.set_at.ensures ∙ ap option_copied c.unwrap-whole.ensures)
          (λ d l s. c.rows_stand_in_order.ensures.ticks c.places.place d l s) u)))
          c.in_ok-put.ensures.head c.in_ok-put.ensures.ticks c.in_ok-put.ensures.keys);
    }

pub returns-clause-ticks : goal.returns-clause-ticks
returns-clause-ticks g c =
    let rows = c.args.rows.now in
    let keys = keys_at rows in
    let truth = λ (k : List ℕ) (t : ℕ). within c.args.section.span.lo c.args.section.span.hi t && has_at g.S.TickSet.member rows.rows k t in
    let many : length keys ≡ length rows.rows = length-map rows.rows (λ r. r.key) in
    section_all g.S.TickSet.member c.args.d.now c.args.section.span.lo c.args.section.span.hi c.args.section.window.lo c.args.section.window.hi rows c.empty-made.result c.places.made
    (subst (λ (ks : List (List ℕ)). IsFilled g.S.TickSet.member truth ks c.empty-made.result c.places.made) (take_all c.places.place keys (omega (arith, many, c.places-test.false, c.len-place-end.ensures))) c.places.invariant.rows)
    (c.empty-made.ensures ∙ ap (λ (vs : List ℕ). table vs c.args.d.now c.args.section.window.lo c.args.section.window.hi []) c.vars.ensures.value)

pub returns-clause-vars : goal.returns-clause-vars
returns-clause-vars g c = c.places.invariant.rows.head.vars ∙ ap (λ (r : Table g.row.S.Denot). r.vars) c.empty-made.ensures ∙ c.vars.ensures.value

pub returns-clause-frame : goal.returns-clause-frame
returns-clause-frame g c = section_frame c.vars.result.now c.args.d.now c.args.section.window.lo c.args.section.window.hi _ g.S.TickSet.member _ c.empty-made.result c.places.made c.places.invariant.rows c.empty-made.ensures
