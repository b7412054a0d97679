-- An empty store and no region are what the empty journal tells.
use Rattle.std.proofs.Common.{refl, ap, arith}
use Rattle.object_store.specs.Contents.{Contents, history_of}
use Rattle.database.proofs.database.Database.new.Goals as goal

pub returns : goal.returns
returns c = record {
  told_is = λ i. record { history = history_of (c.new.ensures i); regions = c.new-2.ensures i };
  clock_is = refl;
  timely = record {
    in_range = omega arith;
    written = omega (arith, ap (λ (s : Contents). s.last_tick) c.new.ensures);
  };
}
