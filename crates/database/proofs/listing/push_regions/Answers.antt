use Rattle.line_meaning.specs.Reply.{region_line}
use Rattle.reply_text.proofs.BeginLemmas.{begins_through}
use Rattle.database.proofs.ListLemmas.{more_lines}
use Rattle.database.proofs.listing.push_regions.Goals as goal

pub regions-preserved : goal.regions-preserved
regions-preserved c = record {
  whole = more_lines (region_line) c.args.regions.now c.regions.number _ _ _ c.regions.invariant.whole c.in_ok-push_region_of.ensures.ok;
  begins = begins_through _ _ _ c.regions.invariant.begins c.in_ok-push_region_of.ensures.begins;
}
