use Rattle.std.proofs.Common.{◌<◌, ◌/◌, length, get_or, ap, ◌∙◌, arith}
use Rattle.std.proofs.lemmas.List.{get_or_default, length-set}
use Rattle.places.specs.declared.boxes.TheConstants.{BLOCK}
use Rattle.places.specs.Patches.{empty_patch}
use Rattle.places.proofs.CoverLemmas.{block_there, have_more, zeros}
use Rattle.places.proofs.boxes.cover.Goals as goal

pub numbers-preserved : goal.numbers-preserved
numbers-preserved c =
    let n = c.numbers.number in
    let slot = get_or c.args.slots.now n 0 in
    let there : slot / BLOCK < length c.numbers.covers.items = block_there slot (length c.numbers.covers.items) (omega (arith, c.requires.within n c.numbers-test.true, c.requires.room, c.numbers.invariant.long)) in
    record {
      long = ap length c.widen.ensures ∙ length-set c.numbers.covers.items (slot / BLOCK) _ ∙ c.numbers.invariant.long;
      have = rw (c.widen.ensures, get_or_default c.args.patches.now n zeros empty_patch c.numbers-test.true)
          (have_more n c.numbers.covers.items c.args.patches.now c.args.slots.now there c.numbers.invariant.have);
    }
