use Rattle.std.proofs.Common.{sym, ◌∙◌, subst}
use Rattle.std.specs.Prelude.{All}
use Rattle.std.proofs.lemmas.List.{with_items_is}
use Rattle.live_queries.specs.Kept.{AreKept, IsKeptQuery}
use Rattle.live_queries.specs.Untouched.{spread}
use Rattle.live_queries.proofs.MadeLemmas.{as_many, made_in, prepared_in, still_kept}
use Rattle.live_queries.proofs.live.Live.commit.Goals as goal

pub commit_each-requires : goal.commit_each-requires
commit_each-requires c = record {
  kept = subst (All IsKeptQuery) (sym c.deref_mut.ensures.value) c.self.invariant.each;
  prepared = prepared_in _ c.args.fresh c.fresh.view_is c.deref_mut.result.now c.args.self.now (c.deref_mut.ensures.value ∙ c.self.view_is)
      (spread c.into_parts-touched.result.0.rest.items c.into_parts-touched.result.1) c.into_parts-touched.ensures c.requires;
}

pub invariant_of-self : goal.invariant_of-self
invariant_of-self c =
    subst AreKept
    (sym (with_items_is c.self.inside.queries c.commit_each.new.queries
    (as_many c.fresh.inside.object c.fresh.inside.class (spread c.into_parts-touched.result.0.rest.items c.into_parts-touched.result.1)
    c.deref_mut.result.now c.commit_each.new.queries c.commit_each.ensures.made
    ∙ c.deref_mut.ensures.len)))
    (still_kept c.fresh.inside.object c.fresh.inside.class (spread c.into_parts-touched.result.0.rest.items c.into_parts-touched.result.1)
    c.deref_mut.result.now c.commit_each.new.queries
    c.commit_each.ensures.made c.self.inside.queries.items c.deref_mut.ensures.value c.self.invariant c.commit_each.ensures.kept)

pub returns : goal.returns
returns c =
    made_in _ c.args.fresh c.fresh.view_is c.deref_mut.result.now c.args.self.now (c.deref_mut.ensures.value ∙ c.self.view_is)
    (spread c.into_parts-touched.result.0.rest.items c.into_parts-touched.result.1) c.into_parts-touched.ensures c.commit_each.new.queries _
    (with_items_is c.self.inside.queries c.commit_each.new.queries
    (as_many c.fresh.inside.object c.fresh.inside.class (spread c.into_parts-touched.result.0.rest.items c.into_parts-touched.result.1)
    c.deref_mut.result.now c.commit_each.new.queries c.commit_each.ensures.made
    ∙ c.deref_mut.ensures.len))
    c.commit_each.ensures.made
