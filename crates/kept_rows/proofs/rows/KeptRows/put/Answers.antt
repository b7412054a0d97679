use Rattle.std.proofs.Common.{◌≡◌, ℕ, ◌/◌, ◌<◌, eqb, Bool, length, length-set, set, ap, sym, subst, ◌∙◌, arith, if◌then◌else◌}
use Rattle.std.proofs.lemmas.Bool.{not-false}
use Rattle.std.proofs.lemmas.List.{get_or_default}
use Rattle.kept_rows.specs.Rows.{row_has}
use Rattle.kept_rows.specs.Slots.{AreMarked}
use Rattle.kept_rows.proofs.FilledLemmas.{filled-alike}
use Rattle.kept_rows.proofs.FlagLemmas.{flagged_alike}
use Rattle.kept_rows.proofs.NearLemmas.{filed-anew}
use Rattle.kept_rows.proofs.PageLemmas.{other_page, row_has-put}
use Rattle.kept_rows.proofs.SteadyLemmas.{steady-alike}
use Rattle.kept_rows.proofs.rows.KeptRows.put.Goals as goal

pub returns-clause-rows : goal.returns-clause-rows
returns-clause-rows g c = λ n t.
    let there : c.args.number / 16 < length c.self.inside.pages.items = subst (λ xs. c.args.number / 16 < length xs) (sym c.self.view_is) c.requires.there in
    row_has-put g.S.TickSet.member c.self.inside.pages.items c.args.number c.put.new.self c.index_mut-page.result.now c.args.ticks there
    (c.index_mut-page.ensures.value ∙ get_or_default c.self.inside.pages.items (c.args.number / 16) _ _ there) c.put.ensures.has n t
    ∙ ap (λ xs. if eqb n c.args.number then g.S.TickSet.member c.args.ticks t else row_has g.S.TickSet.member xs n t) c.self.view_is

pub invariant_of-self : goal.invariant_of-self
invariant_of-self g c =
    let member = g.S.TickSet.member in
    let rows : ℕ → ℕ → Bool = row_has g.S.TickSet.member c.self.inside.pages.items in
    let after : ℕ → ℕ → Bool = λ n t. if eqb n c.args.number then g.S.TickSet.member c.args.ticks t else rows n t in
    let there : c.args.number / 16 < length c.self.inside.pages.items = subst (λ xs. c.args.number / 16 < length xs) (sym c.self.view_is) c.requires.there in
    let len : length c.lower.new.self.pages.items ≡ length c.self.inside.pages.items = c.lower.ensures.pages ∙ c.self.invariant.1 in
    let written : (n t : ℕ) → row_has g.S.TickSet.member (set c.self.inside.pages.items (c.args.number / 16) c.put.new.self) n t ≡ after n t =
    row_has-put g.S.TickSet.member c.self.inside.pages.items c.args.number c.put.new.self c.index_mut-page.result.now c.args.ticks there
    (c.index_mut-page.ensures.value ∙ get_or_default c.self.inside.pages.items (c.args.number / 16) _ _ there) c.put.ensures.has in (
      c.self.invariant.0,
      len ∙ sym (length-set c.self.inside.pages.items (c.args.number / 16) c.put.new.self),
      steady-alike after _ c.lower.new.self written (c.lower.ensures.steady rows (member c.args.ticks) c.self.invariant.2 c.steady_until-end.ensures),
      filled-alike after _ c.note.new.self written
          (c.note.ensures rows (member c.args.ticks) c.self.invariant.3 (λ e. c.is_empty-has_ticks.ensures.0 (grind (arith, not-false, e)))),
      subst (λ xs. AreMarked (row_has member xs) c.renew.new.self) c.deref.ensures.value
          (c.renew.ensures rows c.self.invariant.4 (λ n t other.
          ap (λ xs. row_has member xs n t) c.deref.ensures.value ∙ written n t
          ∙ ap (λ b. if b then member c.args.ticks t else rows n t) (other_page n c.args.number other))),
      flagged_alike after _ c.note-2.new.self.words.items written
          (c.note-2.ensures rows (member c.args.ticks) c.self.invariant.5 (λ e. c.is_empty-has_ticks.ensures.0 (grind (arith, not-false, e)))),
      filed-anew rows _ c.args.number (member c.args.ticks) c.self.inside.near c.refile.new.self c.ends.result written c.ends.ensures.some c.ends.ensures.none
          c.refile.ensures.others c.refile.ensures.here c.self.invariant.6,
    )
