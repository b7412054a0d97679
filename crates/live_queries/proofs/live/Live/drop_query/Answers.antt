use Rattle.std.proofs.Common.{List, sym, ap, ◌∙◌, subst, rules}
use Rattle.std.specs.Prelude.{not}
use Rattle.std.specs.List.{filter}
use Rattle.std.specs.Str.{bytes_eq}
use Rattle.std.proofs.lemmas.Fn.{filter_same}
use Rattle.live_queries.specs.Kept.{AreKept, KeptQuery}
use Rattle.live_queries.proofs.MadeLemmas.{fewer_kept}
use Rattle.live_queries.proofs.live.Live.drop_query.Goals as goal

pub invariant_of-self : goal.invariant_of-self
invariant_of-self c =
    subst AreKept (sym (filter_same _ (λ (k : KeptQuery). not (bytes_eq k.name c.args.name.now)) _ (λ x b f' k. search rules) _ _ c.retain.ensures.filtered))
    (fewer_kept (λ (k : KeptQuery). not (bytes_eq k.name c.args.name.now)) c.self.inside.queries.items c.self.invariant)

pub returns-clause-others : goal.returns-clause-others
returns-clause-others c =
    filter_same _ (λ (k : KeptQuery). not (bytes_eq k.name c.args.name.now)) _ (λ x b f' k. search rules) _ _ c.retain.ensures.filtered
    ∙ ap (λ (ks : List KeptQuery). filter (λ k. not (bytes_eq k.name c.args.name.now)) ks) c.self.view_is
