use Rattle.std.proofs.Common.{◌∙◌, ap, unwrap_or}
use Rattle.relation.proofs.SearchLemmas.{get_or-unwrapped}
use Rattle.live_queries.proofs.numbering.object_at.Goals as goal

pub returns : goal.returns
returns c = c.unwrap_or.ensures ∙ ap (λ o. unwrap_or o 0) c.get.ensures ∙ get_or-unwrapped _ c.args.variable
