use Rattle.std.proofs.Common.{refl}
use Rattle.exact.proofs.PaddedLemmas.{padded_over}
use Rattle.fixed_point.proofs.short_text.Word.of.Goals as goal

pub invariant_of-result : goal.invariant_of-result
invariant_of-result c = rw c.copy_from_slice.ensures.after (padded_over _ _ _ _ c.if-len-gt-WORD_LIMIT.false refl)
