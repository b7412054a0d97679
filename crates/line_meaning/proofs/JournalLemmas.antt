-- For this crate and for the crates above: a journal with one more entry.
use Rattle.std.proofs.Common.{◌≡◌, ℕ, ◌+◌, List, [], ◌∷◌, ◌++◌, sym, ap, ◌∙◌, append-nil}
use Rattle.std.proofs.lemmas.Grind.{flat_map-append}
use Rattle.std.proofs.lemmas.List.{append_assoc}
use Rattle.std.proofs.lemmas.List.Sums.{sum_by_push}
use Rattle.history.specs.World.{world_of}
use Rattle.command_text.specs.Journal.{Accepted, clock, ticks_of}
use Rattle.command_text.specs.Tree.{CommandTree}
use Rattle.line_meaning.specs.Journal.{regions, world, writes, writes_of, regions_of}
use Rattle.line_meaning.specs.Registry.{Registration, live_after, registered, registered_from}

pub writes_more : (journal : List Accepted) (tick : ℕ) (c : CommandTree) →
    writes (journal ++ (tick, c) ∷ []) ≡ writes journal ++ writes_of tick c
writes_more journal tick c =
    flat_map-append (λ (e : Accepted). writes_of e.0 e.1) journal ((tick, c) ∷ [])
    ∙ ap (λ ws. writes journal ++ ws) (append-nil (writes_of tick c))

pub regions_more : (journal : List Accepted) (tick : ℕ) (c : CommandTree) →
    regions (journal ++ (tick, c) ∷ []) ≡ regions journal ++ regions_of c
regions_more journal tick c =
    flat_map-append (λ (e : Accepted). regions_of e.1) journal ((tick, c) ∷ [])
    ∙ ap (λ rs. regions journal ++ rs) (append-nil (regions_of c))

pub clock_more : (journal : List Accepted) (tick : ℕ) (c : CommandTree) →
    clock (journal ++ (tick, c) ∷ []) ≡ clock journal + ticks_of c
clock_more journal tick c = sum_by_push (λ (e : Accepted). ticks_of e.1) journal (tick, c)

pub world_more : (journal : List Accepted) (tick : ℕ) (c : CommandTree) →
    world (journal ++ (tick, c) ∷ []) ≡ world_of (writes journal ++ writes_of tick c) (regions journal ++ regions_of c)
world_more journal tick c = λ i. world_of (writes_more journal tick c i) (regions_more journal tick c i)

-- what is registered with one more entry
registered_from_more : (before : List Accepted) (live : List Registration) (later : List Accepted) (e : Accepted) →
    registered_from before live (later ++ e ∷ []) ≡ live_after (world (before ++ later)) e.0 (registered_from before live later) e.1
registered_from_more before live [] e = ap (λ (j : List Accepted). live_after (world j) e.0 live e.1) (sym (append-nil before))
registered_from_more before live (d ∷ later) e =
    let more = registered_from (before ++ d ∷ []) (live_after (world before) d.0 live d.1) later in
    registered_from_more (before ++ d ∷ []) (live_after (world before) d.0 live d.1) later e
    ∙ ap (λ (j : List Accepted). live_after (world j) e.0 more e.1) (append_assoc before (d ∷ []) later)

pub registered_more : (journal : List Accepted) (tick : ℕ) (c : CommandTree) →
    registered (journal ++ (tick, c) ∷ []) ≡ live_after (world journal) tick (registered journal) c
registered_more journal tick c = registered_from_more [] [] journal (tick, c)
