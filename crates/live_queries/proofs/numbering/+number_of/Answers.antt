use Rattle.std.proofs.Common.{◌≡◌, ℕ, List, length, ap, sym, subst, ◌∙◌, arith, rules}
use Rattle.std.specs.Prelude.{slice_index}
use Rattle.std.specs.List.Sorted.{IsStrictlyIncreasing}
use Rattle.kept_rows.specs.declared.binding.Variable.{Variable}
use Rattle.relation.specs.Key.{has_id}
use Rattle.live_queries.specs.Columns.{Column}
use Rattle.live_queries.specs.Numbered.{AreAmong, DoAscend}
use Rattle.live_queries.proofs.NumberedLemmas.{later_few, numbered_first, numbered_none}
use Rattle.live_queries.proofs.numbering.+number_of.Goals as goal

pub place_in-requires-clause-ascend : goal.place_in-requires-clause-ascend
place_in-requires-clause-ascend t c =
    subst IsStrictlyIncreasing (sym c.ids.ensures) (subst DoAscend c.in-Some.ensures.cases.0 c.requires.ascend).0

pub place_in-requires-clause-count : goal.place_in-requires-clause-count
place_in-requires-clause-count t c =
    let many : length c.ids.result.now ≡ length c.in-Some.first.now.ids = ap length c.ids.ensures in
    let count : c.numbers.result.count ≡ c.in-Some.first.now.numbers.count = ap (λ (v : Variable). v.count) c.numbers.ensures.value in
    omega (arith, many, count, c.numbers.ensures.counted)

pub place_in-requires-clause-there : goal.place_in-requires-clause-there
place_in-requires-clause-there t c =
    (λ i. has_id (c.ids.ensures i) (c.object_at-object.ensures i))
    ∙ ap (λ v. has_id c.in-Some.first.now.ids (slice_index c.args.objects.now v)) c.variable.ensures
    ∙ (subst (λ (xs : List Column). AreAmong xs (slice_index c.args.objects.now)) c.in-Some.ensures.cases.0 c.requires.among).0

pub number_of-requires : goal.number_of-requires
number_of-requires t c = (
  search rules,
  (
    later_few c.args.columns.now c.in-Some.first.now c.in-Some.later.now c.in-Some.ensures.cases.0 c.requires.size,
    (
      (subst DoAscend c.in-Some.ensures.cases.0 c.requires.ascend).1,
      (subst (λ (xs : List Column). AreAmong xs (slice_index c.args.objects.now)) c.in-Some.ensures.cases.0 c.requires.among).1,
    ),
  ),
)

pub returns-in_default : goal.returns-in_default
returns-in_default t c = numbered_none c.args.columns.now (slice_index c.args.objects.now) c.in_default.ensures.cases

pub returns : goal.returns
returns t c =
    let many : length c.ids.result.now ≡ length c.in-Some.first.now.ids = ap length c.ids.ensures in
    numbered_first c.args.columns.now c.in-Some.first.now c.in-Some.later.now (slice_index c.args.objects.now) c.place_in.result c.width.result c.number_of.result
    c.in-Some.ensures.cases.0 c.width.ensures.value (omega (arith, c.place_in.ensures.below, many, c.numbers.ensures.counted))
    (sym (ap (λ (ids : List ℕ). slice_index ids c.place_in.result) c.ids.ensures) ∙ c.place_in.ensures.object
    ∙ c.object_at-object.ensures ∙ ap (slice_index c.args.objects.now) c.variable.ensures)
    c.number_of.ensures
