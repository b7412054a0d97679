use Rattle.std.proofs.Common.{◌≡◌, ℕ, ◌<◌, length, get_or, ap, sym, ◌∙◌, arith, length-set}
use Rattle.std.specs.Prelude.{slice_index}
use Rattle.std.proofs.lemmas.List.Elements.{All-more}
use Rattle.motion.specs.Timeline.{state_at}
use Rattle.history.specs.History.{cells_at}
use Rattle.meaning.specs.Trace.{trace_of}
use Rattle.object_store.specs.Contents.{history_of}
use Rattle.atoms.specs.Parts.{epochs_of}
use Rattle.atoms.proofs.PartLemmas.{epochs_at, timelines_more}
use Rattle.atoms.proofs.parts.timelines_of.Goals as goal

pub loop-k-preserved : goal.loop-k-preserved
loop-k-preserved g c =
    let b = c.args.b.now in
    let s = c.args.store.now in
    let vs = c.args.variables.now in
    let k = c.loop-k.k in
    let x = c.timeline.result in
    let there : k < length vs = omega arith in
    let room : k < length c.loop-k.timelines = omega (arith, c.loop-k.invariant.size, c.requires.few) in
    let id : c.object_of-id.result ≡ slice_index b (get_or vs k 0) = c.object_of-id.ensures in
    let here : epochs_of s (slice_index b (get_or vs k 0)) ≡ x.now
    = ap (epochs_of s) (sym id) ∙ epochs_at s c.object_of-id.result x.now c.timeline.ensures.timeline in
    record {
      size = length-set c.loop-k.timelines k x ∙ c.loop-k.invariant.size;
      epochs = timelines_more (λ v. epochs_of s (slice_index b v)) vs c.loop-k.timelines k x there room c.loop-k.invariant.epochs here;
      states =
          All-more (λ v. (t : ℕ) → trace_of (history_of s) (slice_index b) v t ≡ state_at (epochs_of s (slice_index b v)) t) vs k 0 there c.loop-k.invariant.states
          (λ t. ap (λ i. cells_at (history_of s) i t) (sym id) ∙ c.timeline.ensures.state t ∙ ap (λ epochs. state_at epochs t) (sym here));
      step = omega (arith, c.timeline.ensures.step, c.loop-k.invariant.step);
    }
