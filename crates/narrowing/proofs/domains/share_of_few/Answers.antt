use Rattle.std.proofs.Common.{List, ℕ, [], subst}
use Rattle.std.specs.List.Sorted.{IsStrictlyIncreasing}
use Rattle.formula.specs.Tree.{resolved_view}
use Rattle.object_store.specs.Searching.{IsSearched}
use Rattle.narrowing.specs.Holding.{FailsWith}
use Rattle.narrowing.proofs.ShareLemmas as shares
use Rattle.narrowing.proofs.domains.share_of_few.Goals as goal

pub returns-then-len-own : goal.returns-then-len-own
returns-then-len-own c =
    let q = resolved_view c.args.q.now in
    shares.share_of_few c.args.scene.now q c.args.var c.in_ok-ids.ids.items c.requires.within (subst IsStrictlyIncreasing c.of-own.ensures.value c.of-own.ensures.ascending)
    (subst (λ (own : List ℕ). IsSearched (FailsWith c.args.scene.now c.args.var q.formula) own c.in_ok-ids.ids.items []) c.of-own.ensures.value c.in_ok-ids.ensures)
