use Rattle.std.proofs.Common.{ℕ, Bool, true, false, arith}
use Rattle.std.specs.Prelude.{◌==◌, slice_index, if◌then◌else◌}
use Rattle.std.specs.Option.{option_map_or}
use Rattle.atoms.specs.Asked.{world_in}
use Rattle.history.specs.History.{cells_at}
use Rattle.meaning.specs.Atom.{position_in}
use Rattle.object_store.specs.Contents.{history_of}
use Rattle.worlds.specs.Blurred.{distance_holds_by}
use Rattle.blur.specs.Asked.{comparison, is_on_side}
use Rattle.blur.specs.World.{blurred_by}
use Rattle.blur.proofs.AskLemmas.{apart_ticks, distance_looks, in_first, in_inside, in_outside, in_second, inside_looks, inside_ticks, is_stored, outside_looks, outside_ticks, ticks_as}
use Rattle.blur.proofs.world.BlurredWorldInterpreterIntervalSet.atom.Goals as goal

pub region_ticks-requires : goal.region_ticks-requires
region_ticks-requires g c =
    is_stored c.args.self.now.store.now c.args.w.lo c.args.w.hi (slice_index c.args.binding.now) c.args.atom.now c.in-Inside.v c.object_of.result c.requires
    (in_inside c.in-Inside.v c.in-Inside.n c.args.atom.now c.in-Inside.is) c.object_of.ensures

pub region_ticks-requires-in-Outside : goal.region_ticks-requires-in-Outside
region_ticks-requires-in-Outside g c =
    is_stored c.args.self.now.store.now c.args.w.lo c.args.w.hi (slice_index c.args.binding.now) c.args.atom.now c.in-Outside.v c.object_of-in-Outside.result c.requires
    (in_outside c.in-Outside.v c.in-Outside.n c.args.atom.now c.in-Outside.is) c.object_of-in-Outside.ensures

pub distance_ticks-requires-clause-first : goal.distance_ticks-requires-clause-first
distance_ticks-requires-clause-first g c =
    is_stored c.args.self.now.store.now c.args.w.lo c.args.w.hi (slice_index c.args.binding.now) c.args.atom.now c.in-Dist.v c.object_of-first.result c.requires
    (in_first c.in-Dist.v c.in-Dist.u c.in-Dist.op c.in-Dist.c c.args.atom.now c.in-Dist.is) c.object_of-first.ensures

pub distance_ticks-requires-clause-second : goal.distance_ticks-requires-clause-second
distance_ticks-requires-clause-second g c =
    is_stored c.args.self.now.store.now c.args.w.lo c.args.w.hi (slice_index c.args.binding.now) c.args.atom.now c.in-Dist.u c.object_of-second.result c.requires
    (in_second c.in-Dist.v c.in-Dist.u c.in-Dist.op c.in-Dist.c c.args.atom.now c.in-Dist.is) c.object_of-second.ensures

pub returns-in-Inside-clause-ticks : goal.returns-in-Inside-clause-ticks
returns-in-Inside-clause-ticks g c =
    let world = c.args.self.now in
    let b = slice_index c.args.binding.now in
    let seen : ℕ → Bool = λ t. option_map_or (is_on_side true world.blur.sure world.blur.error world.regions.now c.in-Inside.n) (position_in t (cells_at (history_of world.store.now) c.object_of.result t)) false in
    let holds : ℕ → Bool = λ t. (blurred_by world.blur world.store.now world.regions.now b).atom c.args.atom.now c.args.env.now t in
    ticks_as c.region_ticks.result c.args.w.lo c.args.w.hi seen holds
    (inside_ticks world.blur.sure world.blur.error (world_in world.store.now world.regions.now) b c.args.atom.now c.in-Inside.v c.in-Inside.n c.args.env.now c.object_of.result c.in-Inside.is c.object_of.ensures)
    c.region_ticks.ensures.ticks

pub returns-in-Inside-clause-reads : goal.returns-in-Inside-clause-reads
returns-in-Inside-clause-reads g c = record {
  least = omega arith;
  most = (let looks = inside_looks c.args.self.now.store.now c.args.w.lo c.args.w.hi (slice_index c.args.binding.now) c.args.atom.now c.in-Inside.v c.in-Inside.n c.requires c.in-Inside.is in
      omega (arith, looks, c.region_ticks.ensures.step));
}

pub returns-in-Outside-clause-ticks : goal.returns-in-Outside-clause-ticks
returns-in-Outside-clause-ticks g c =
    let world = c.args.self.now in
    let b = slice_index c.args.binding.now in
    let seen : ℕ → Bool = λ t. option_map_or (is_on_side false world.blur.sure world.blur.error world.regions.now c.in-Outside.n) (position_in t (cells_at (history_of world.store.now) c.object_of-in-Outside.result t)) false in
    let holds : ℕ → Bool = λ t. (blurred_by world.blur world.store.now world.regions.now b).atom c.args.atom.now c.args.env.now t in
    ticks_as c.region_ticks-in-Outside.result c.args.w.lo c.args.w.hi seen holds
    (outside_ticks world.blur.sure world.blur.error (world_in world.store.now world.regions.now) b c.args.atom.now c.in-Outside.v c.in-Outside.n c.args.env.now c.object_of-in-Outside.result c.in-Outside.is c.object_of-in-Outside.ensures)
    c.region_ticks-in-Outside.ensures.ticks

pub returns-in-Outside-clause-reads : goal.returns-in-Outside-clause-reads
returns-in-Outside-clause-reads g c = record {
  least = omega arith;
  most = (let looks = outside_looks c.args.self.now.store.now c.args.w.lo c.args.w.hi (slice_index c.args.binding.now) c.args.atom.now c.in-Outside.v c.in-Outside.n c.requires c.in-Outside.is in
      omega (arith, looks, c.region_ticks-in-Outside.ensures.step));
}

pub returns-in-Dist-clause-ticks : goal.returns-in-Dist-clause-ticks
returns-in-Dist-clause-ticks g c =
    let world = c.args.self.now in
    let h = history_of world.store.now in
    let b = slice_index c.args.binding.now in
    let first = c.object_of-first.result in
    let second = c.object_of-second.result in
    let seen : ℕ → Bool = λ t. distance_holds_by (comparison world.blur.sure) (if first == second then 0 else world.blur.error) c.in-Dist.op c.in-Dist.c (position_in t (cells_at h first t)) (position_in t (cells_at h second t)) in
    let holds : ℕ → Bool = λ t. (blurred_by world.blur world.store.now world.regions.now b).atom c.args.atom.now c.args.env.now t in
    ticks_as c.distance_ticks.result c.args.w.lo c.args.w.hi seen holds
    (apart_ticks world.blur.sure world.blur.error (world_in world.store.now world.regions.now) b c.args.atom.now c.in-Dist.v c.in-Dist.u c.in-Dist.op c.in-Dist.c c.args.env.now first second c.in-Dist.is
    c.object_of-first.ensures c.object_of-second.ensures)
    c.distance_ticks.ensures.ticks

pub returns-in-Dist-clause-reads : goal.returns-in-Dist-clause-reads
returns-in-Dist-clause-reads g c = record {
  least = omega arith;
  most = (let looks = distance_looks c.args.self.now.store.now c.args.w.lo c.args.w.hi (slice_index c.args.binding.now) c.args.atom.now c.in-Dist.v c.in-Dist.u c.in-Dist.op c.in-Dist.c
      c.object_of-first.result c.object_of-second.result c.requires c.in-Dist.is c.object_of-first.ensures c.object_of-second.ensures in
      omega (arith, looks, c.distance_ticks.ensures.step));
}
