use Rattle.std.proofs.Common.{length, arith}
use Rattle.replica.specs.Text.{words}
use Rattle.replica.proofs.WordLemmas.{less_left, one_more}
use Rattle.replica.proofs.text.word_count.Goals as goal

pub words-preserved : goal.words-preserved
words-preserved c =
    let whole = rw c.in-Some.is at c.words.invariant.whole in
    let room = rw c.in-Some.is at c.words.invariant.room in
    let less = less_left c.cut.result.1 (length c.in-Some.left.now) c.cut.ensures.shorter in
    record {
      whole = one_more (length (words c.args.text.now)) c.words.count c.in-Some.left.now _ _ whole c.cut.ensures.value;
      room = omega (arith, room, less);
    }
