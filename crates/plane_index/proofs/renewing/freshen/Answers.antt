use Rattle.std.proofs.Common.{◌≡◌, ℕ, ◌+◌, ◌<◌, ◌≤◌, true, false, ◌||◌, not, nat_lt, ⊎_elim, refl, sym, ap, ◌∙◌, inl, inr, arith}
use Rattle.std.specs.Prelude.{◌==◌, slice_index}
use Rattle.std.proofs.lemmas.Bool.{cases_Bool, cases_lt, false≢true}
use Rattle.plane.specs.Boxes.{strips_in}
use Rattle.plane_index.specs.Held.{kept_strips}
use Rattle.plane_index.specs.Index.{fresh_at}
use Rattle.plane_index.specs.States.{strips_at}
use Rattle.plane_index.specs.Told.{recorded_by}
use Rattle.plane_index.proofs.FreshLemmas.{apart_of, none_yet_seen, one_read, own, still_fresh, was_fresh}
use Rattle.plane_index.proofs.PlaceLemmas.{count_grows, count_more}
use Rattle.plane_index.proofs.renewing.freshen.Goals as goal
use Rattle.exact.proofs.Naturals.{below_next, same_from_equal}

pub places-init : goal.places-init
places-init g c =
    let before = c.args.fresh.now in
    let next = c.next_stale-place in
    let skip = next.ensures in
    record {
      up_to = skip.end;
      seen = refl;
      room = refl;
      grid = refl;
      fresh = λ k. still_fresh (fresh_at before k) (fresh_at before k) k 0 next.result (none_yet_seen (fresh_at before k) k) skip.from (skip.fresh k);
      kept = λ k s is. refl;
      right = λ k s below is under. absurd (false≢true (sym is ∙ skip.fresh k (omega arith) below));
      least = omega arith;
      most = omega arith;
    }

pub places-preserved : goal.places-preserved
places-preserved g c =
    let now = c.places.invariant in
    let f = c.freshen_at.ensures in
    let place = c.places.place in
    let before = c.args.fresh.now in
    let here : fresh_at c.places.fresh place ≡ fresh_at before place = now.fresh place ∙ own (fresh_at before place) place in
    let old = c.places.states in
    let new = c.freshen_at.new.states in
    let next = c.next_stale-place-in-places in
    let skip = next.ensures in
    let seen : (k : ℕ) → fresh_at c.freshen_at.new.fresh k ≡ (fresh_at before k || nat_lt k (place + 1)) =
    λ k. f.fresh k ∙ ap (λ b. b || (k == place)) (now.fresh k) ∙ below_next (fresh_at before k) k place in
    record {
      up_to = skip.end;
      seen = f.lengths.0 ∙ now.seen;
      room = f.lengths.1 ∙ now.room;
      grid = f.strips.grid ∙ now.grid;
      fresh = λ k. still_fresh (fresh_at before k) (fresh_at c.freshen_at.new.fresh k) k (place + 1) next.result (seen k) skip.from (skip.fresh k);
      kept = λ k s is.
          elim (cases_Bool (k == place)) [
            | inl same ↦
                let e = same_from_equal k place same in
                let fresh_here : fresh_at c.places.fresh place ≡ true = here ∙ ap (fresh_at before) (sym e) ∙ is in
                ap (λ n. strips_at new.grid new.states n s) e ∙ f.strips.kept fresh_here s ∙ ap (λ n. strips_at old.grid old.states n s) (sym e) ∙ now.kept k s is
            | inr apart ↦ f.strips.others k s apart ∙ now.kept k s is
          ];
      right = λ k s below is under.
          ⊎_elim
          (λ (l : k < place + 1).
          elim (cases_Bool (k == place)) [
            | inl same ↦
                let e = same_from_equal k place same in
                let stale_here : fresh_at c.places.fresh place ≡ false = here ∙ ap (fresh_at before) (sym e) ∙ is in
                ap (λ n. strips_at new.grid new.states n s) e ∙ f.strips.right stale_here s
                ∙ (λ i. kept_strips (strips_in (recorded_by c.args.store.now) (now.grid i) (slice_index c.args.ids.now (sym e i)) s))
            | inr apart ↦ f.strips.others k s apart ∙ now.right k s (apart_of k place apart l) is under
          ])
          (λ (l : place + 1 ≤ k).
          absurd (false≢true (sym is ∙ was_fresh (fresh_at before k) (fresh_at c.freshen_at.new.fresh k) k (place + 1) (seen k) l (skip.fresh k l below))))
          (cases_lt k (place + 1));
      least = (let step = f.step in let least = now.least in omega (arith, step, least));
      most =
          (let step = f.step in
          let most = now.most in
          let counted = count_more (λ k. not (fresh_at before k)) place in
          let read = one_read (fresh_at c.places.fresh place) (fresh_at before place) here in
          let grows = count_grows (λ k. not (fresh_at before k)) (place + 1) next.result skip.from in
          omega (arith, step, most, counted, read, grows));
    }
